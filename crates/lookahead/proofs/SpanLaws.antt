-- Laws of the strings whose numbers lie in a span.
-- Assumes nothing.
use Prim.Native.Nat.{ℕ, ◌+◌, ◌-◌, ◌*◌, ◌/◌, ◌%◌, ◌^◌, ◌≤◌, ◌<◌, min}
use mathlib.Core.Path.{◌≡◌, ap, ◌∙◌}
use mathlib.Core.Logic.{◌↔◌}
use mathlib.Core.List.{List}
use native.Mathlib.Nat.{mod-eq_of_lt}
use native.Mathlib.Decide.{dec_lt}
use native.Mathlib.Omega.{arith}
use lib.ListN.{length}
use lib.Pow.{ones_lt, pow_mono, shl_lt}
use Rattle.basis.specs.Bits.{Bits}
use Rattle.basis.specs.Lookahead.{number}
use Rattle.basis.proofs.Numbers.{number_pos, number_small}
use Rattle.lookahead.specs.Sets.{bit, member, Has, Is}
use Rattle.lookahead.specs.Inner.{Stripe, Filled}
use Rattle.lookahead.proofs.BitLaws.{bit_none, bit_above, bit_ones, bit_shl, bit_shl_low}
use Rattle.lookahead.proofs.SetLaws.{member_lt, absent}

not_one : {v : ℕ} → v ≡ 0 → v ≡ 1 → ⊥
not_one z e = omega arith

pub stripe_is : (l h w m : ℕ) → l < h → h ≤ 64 → m ≡ 2 ^ (h - l) - 1 → w ≡ m * 2 ^ l % 2 ^ 64 → Stripe l h w
stripe_is l h w m a b e q k c = (to, back)
  where
    small : (2 ^ (h - l) - 1) * 2 ^ l < 2 ^ 64
    small =
        let s : (2 ^ (h - l) - 1) * 2 ^ l < 2 ^ (h - l + l) = shl_lt (h - l) l (ones_lt (h - l)) in
        let p : 2 ^ (h - l + l) ≤ 2 ^ 64 = pow_mono {j = 64} (omega arith) in
        omega arith

    eq : w ≡ (2 ^ (h - l) - 1) * 2 ^ l
    eq = q ∙ ap (λ (y : ℕ). y * 2 ^ l % 2 ^ 64) e ∙ mod-eq_of_lt small

    high : l ≤ k → bit w k ≡ bit (2 ^ (h - l) - 1) (k - l)
    high d =
        ap (λ (y : ℕ). bit y k) eq ∙ ap (bit ((2 ^ (h - l) - 1) * 2 ^ l)) (let z : k ≡ l + (k - l) = omega arith in z) ∙ bit_shl (2 ^ (h - l) - 1) l (k - l)

    back : (l ≤ k) × (k < h) → bit w k ≡ 1
    back d = high d.0 ∙ bit_ones (h - l) (k - l) (omega (arith, d.0, d.1))

    to : bit w k ≡ 1 → (l ≤ k) × (k < h)
    to o = elim (dec_lt k l) [
      | yes d ↦ absurd (not_one (ap (λ (y : ℕ). bit y k) eq ∙ bit_shl_low (2 ^ (h - l) - 1) l k d) o)
      | no d ↦
          (let r : l ≤ k = omega arith in
          elim (dec_lt k h) [
            | yes f ↦ (r, f)
            | no f ↦ absurd (not_one (high r ∙ bit_above (2 ^ (h - l) - 1) (h - l) (k - l) (ones_lt (h - l)) (omega arith)) o)
          ])
    ]

pub stripe_none : (l h : ℕ) → h ≤ l → Stripe l h 0
stripe_none l h a k c = ((λ e. absurd (not_one (bit_none k) e)), (λ d. absurd (omega (arith, d.0, d.1))))

-- the words of a span, as they are computed
abbrev pub Spanned : ℕ → ℕ → ℕ → ℕ → Type 0
Spanned low past i w = Stripe (min (low - 64 * i) 64) (min (past - 64 * i) 64) w

module _ (low past : ℕ) (out : List ℕ) (f : Filled (Spanned low past) 8 out) where
  number_spanned : (n : ℕ) → n < 512 → (member out n ≡ 1) ↔ ((low ≤ n) × (n < past))
  unfolding member
  number_spanned n h =
      let s = f.at (n / 64) (omega arith) (n % 64) (omega arith) in (
        (λ e. let d = s.0 e in (omega (arith, d.0, d.1), omega (arith, d.0, d.1))),
        (λ d. s.1 (omega (arith, d.0, d.1), omega (arith, d.0, d.1))),
      )

  pub span_is : (a b : ℕ) → ((n : ℕ) → 0 < n → n < 512 → ((low ≤ n) × (n < past)) ↔ ((a ≤ n) × (n ≤ b))) → 0 < low
      → Is out (λ (s : Bits). (length s ≤ 8) × (a ≤ number s) × (number s ≤ b))
  span_is a b same z = record { strings = λ s. (to s, back s); proper = record { eight = f.eight; fit = f.fit; unused = unused } }
    where
      to : (s : Bits) → Has out s → (length s ≤ 8) × (a ≤ number s) × (number s ≤ b)
      to s h =
          let l = number_small s h.0 in
          let d = (same (number s) (number_pos s) l).0 ((number_spanned (number s) l).0 h.1) in
          (h.0, d.0, d.1)

      back : (s : Bits) → (length s ≤ 8) × (a ≤ number s) × (number s ≤ b) → Has out s
      back s h =
          let l = number_small s h.0 in
          (h.0, (number_spanned (number s) l).1 ((same (number s) (number_pos s) l).1 (h.1, h.2)))

      unused : member out 0 ≡ 0
      unused = absent (member out 0) (member_lt out 0) (λ e. let d = (number_spanned 0 (omega arith)).0 e in omega (arith, d.0))
