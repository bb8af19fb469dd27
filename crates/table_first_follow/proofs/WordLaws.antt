-- Words whose bits say which numbers a set names.
-- Assumes nothing.
use Prim.Native.Nat.{ℕ, zero, suc, ◌+◌, ◌-◌, ◌*◌, ◌/◌, ◌%◌, ◌^◌, ◌≤◌, ◌<◌}
use mathlib.Core.Path.{◌≡◌, sym, ap, ◌∙◌, subst}
use mathlib.Core.Bool.{Bool, false≢true}
use mathlib.Core.Logic.{◌↔◌}
use mathlib.Core.List.{List}
use native.Mathlib.Omega.{arith}
use native.Mathlib.Nat.{pow-suc}
use lib.Pow.{pow_mono}
use Rattle.basis.specs.Bits.{Bits, bits_of}
use Rattle.basis.specs.Lookahead.{lookahead, number}
use Rattle.basis.proofs.Numbers.{number_pos, number_small}
use Rattle.lookahead.specs.Inner.{Filled}
use Rattle.lookahead.specs.Sets.{bit, member, Has, Is}
use Rattle.lookahead.proofs.BitLaws.{bit_first, bit_half, bit_none}
use Rattle.lookahead.proofs.SetLaws.{member_lt, absent}
use Rattle.term_prefixes.proofs.Windows.{tells_below, tells_above}
use Rattle.term_words.specs.declared.Term.{Term}
use Rattle.table_first_follow.specs.Fields.{Window, Named, Names}

module _ (P : ℕ → Type 0) where
  -- no number is named
  pub names_none : (n past : ℕ) → ((k : ℕ) → n + k < past → P (n + k) → ⊥) → Names P n past 0
  names_none n past f k h = ((λ b. let z : bit 0 k ≡ 0 = bit_none k in absurd (omega (arith, b))), (λ p. absurd (f k h p)))

  -- one number more, before the others
  pub names_more : (n past out r d : ℕ) → 0 < n → d < 2 → r ≡ out * 2 + d → (d ≡ 1) ↔ P (n - 1) → Names P n past out → Names P (n - 1) past r
  names_more n past out r d g l e p t zero h =
      let b : bit r 0 ≡ d = ap (λ (x : ℕ). bit x 0) e ∙ bit_first (out * 2 + d) ∙ (let z : (out * 2 + d) % 2 ≡ d = omega (arith, l) in z) in
      let z : n - 1 ≡ n - 1 + 0 = omega arith in
      ((λ q. subst P z (p.0 (sym b ∙ q))), (λ q. b ∙ p.1 (subst P (sym z) q)))
  names_more n past out r d g l e p t (suc k) h =
      let b : bit r (suc k) ≡ bit out k = ap (λ (x : ℕ). bit x (suc k)) e ∙ sym (bit_half (out * 2 + d) k) ∙ ap (λ (x : ℕ). bit x k) (let z : (out * 2 + d) / 2 ≡ out = omega (arith, l) in z) in
      let z : n + k ≡ n - 1 + suc k = omega arith in
      let y : n + k < past = omega arith in
      ((λ q. subst P z ((t k y).0 (sym b ∙ q))), (λ q. b ∙ (t k y).1 (subst P (sym z) q)))

  -- eight words are a set
  pub names_all : (out : List ℕ) → (P 0 → ⊥) → Filled (λ i w. Names P (64 * i) (64 * i + 64) w) 8 out → Is out (Named P)
  unfolding member
  names_all out f t = record { strings = λ x. (to x, back x); proper = record { eight = t.eight; fit = t.fit; unused = absent (member out 0) (member_lt out 0) (λ e. f ((at 0 (omega arith)).0 e)) } }
    where
      at : (n : ℕ) → n < 512 → (member out n ≡ 1) ↔ P n
      at n h =
          let z : 64 * (n / 64) + n % 64 ≡ n = omega arith in
          subst (λ (m : ℕ). (member out n ≡ 1) ↔ P m) z (t.at (n / 64) (omega arith) (n % 64) (omega arith))

      to : (x : Bits) → Has out x → Named P x
      to x h = (h.0, (at (number x) (number_small x h.0)).0 h.1)

      back : (x : Bits) → Named P x → Has out x
      back x h = (h.0, (at (number x) (number_small x h.0)).1 h.1)

-- a word with one bit more has room
pub room_more : (m n out r d : ℕ) → m ≡ suc n → d < 2 → r ≡ out * 2 + d → out < 2 ^ n → r < 2 ^ m
room_more m n out r d e l p h = subst (λ (x : ℕ). r < 2 ^ x) (sym e) (let z : 2 ^ suc n ≡ 2 ^ n * 2 = pow-suc 2 n in omega (arith, h, p, l))

pub room_left : (m out : ℕ) → m ≤ 63 → out < 2 ^ m → out < 2 ^ 63
room_left m out h l = let p : 2 ^ m ≤ 2 ^ 63 = pow_mono {i = m} {j = 63} h in omega arith

module _ (w : ℕ) (signed : Bool) (i : ℕ) (xs : List Term) where
  pub window_pos : Window w signed i xs 0 → ⊥
  window_pos (v, l) = let p : 0 < number (lookahead (bits_of w v)) = number_pos (lookahead (bits_of w v)) in omega (arith, l.leading)

  pub none_below : (q first : ℕ) → q ≡ 2 ^ (w - (w - 8)) → first + 64 ≤ q → Names (Window w signed i xs) first (first + 64) 0
  none_below q first e h = names_none (Window w signed i xs) first (first + 64) (λ k l (v, p). false≢true ((tells_below w signed i xs (first + k) q e (omega arith)).all v p))

  pub none_above : (q first : ℕ) → q ≡ 2 ^ (w - (w - 8)) → q + q ≤ first → Names (Window w signed i xs) first (first + 64) 0
  none_above q first e h = names_none (Window w signed i xs) first (first + 64) (λ k l (v, p). false≢true ((tells_above w signed i xs (first + k) q e (omega arith) (omega arith)).all v p))
