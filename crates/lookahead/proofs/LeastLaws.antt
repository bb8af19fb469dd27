-- Laws of the least string that two sets share.
-- Assumes nothing.
use Prim.Native.Nat.{ℕ, zero, suc, ◌+◌, ◌-◌, ◌*◌, ◌≤◌, ◌<◌, min}
use mathlib.Core.Path.{◌≡◌, sym, ap, ap₂, ◌∙◌}
use mathlib.Core.List.{List}
use native.Mathlib.Decide.{dec_le, dec_lt}
use native.Mathlib.Omega.{arith}
use lib.ListN.{get_or}
use lib.Bits.{bit_and}
use Rattle.basis.specs.Bits.{Bits}
use Rattle.basis.specs.Lookahead.{number}
use Rattle.basis.proofs.Numbers.{number_pos, number_small, named}
use Rattle.lookahead.specs.Sets.{bit, member, Has}
use Rattle.lookahead.specs.Least.{LeastCommon}
use Rattle.lookahead.specs.Inner.{Lowest, Cleared}
use Rattle.std.specs.Prelude.{Some, None}
use Rattle.lookahead.proofs.BitLaws.{bit-and, bit_none}
use Rattle.lookahead.proofs.SetLaws.{member_at, member_lt}

-- no number below m is in both
abbrev pub Apart : List ℕ → List ℕ → ℕ → Type 0
Apart x y m = (n : ℕ) → n < m → min (member x n) (member y n) ≡ 0

shared : (x y : List ℕ) (i k w : ℕ) → k < 64 → w ≡ bit_and (get_or x i 0) (get_or y i 0) → min (member x (64 * i + k)) (member y (64 * i + k)) ≡ bit w k
shared x y i k w h e =
    ap₂ min (member_at x i k h) (member_at y i k h) ∙ sym (bit-and (get_or x i 0) (get_or y i 0) k) ∙ ap (λ (v : ℕ). bit v k) (sym e)

-- the numbers of word i up to bit t, with those of the words before it
apart_up : (x y : List ℕ) (i t w : ℕ) → t ≤ 64 → w ≡ bit_and (get_or x i 0) (get_or y i 0) → ((k : ℕ) → k < t → bit w k ≡ 0) → Apart x y (64 * i) → Apart x y (64 * i + t)
apart_up x y i t w l e z f n h = elim (dec_lt n (64 * i)) [
  | yes b ↦ f n b
  | no b ↦
      let q : 64 * i + (n - 64 * i) ≡ n = omega arith in
      ap (λ (m : ℕ). min (member x m) (member y m)) (sym q) ∙ shared x y i (n - 64 * i) w (omega arith) e ∙ z (n - 64 * i) (omega arith)
]

pub apart_more : (x y : List ℕ) (i w : ℕ) → w ≡ bit_and (get_or x i 0) (get_or y i 0) → w ≡ 0 → Apart x y (64 * i) → Apart x y (64 * (i + 1))
apart_more x y i w e z f n h = apart_up x y i 64 w (omega arith) e (λ k l. ap (λ (v : ℕ). bit v k) z ∙ bit_none k) f n (omega arith)

module _ (a x y : List ℕ) (c : Cleared a x) where
  apart_string : (m : ℕ) (s : Bits) → Apart x y m → Has a s → Has y s → m ≤ number s
  apart_string m s f p q = elim (dec_le m (number s)) [
    | yes h ↦ h
    | no h ↦
        let e : member x (number s) ≡ member a (number s) = c.same (number s) (number_pos s) in
        absurd (omega (arith, f (number s) (omega arith), e, p.1, q.1))
  ]

  pub least_none : Apart x y 512 → LeastCommon a y None
  least_none f s p q = omega (arith, apart_string 512 s f p q, number_small s p.0)

  pub least_found : (i t w : ℕ) → i < 8 → w ≡ bit_and (get_or x i 0) (get_or y i 0) → Lowest w t → Apart x y (64 * i) → LeastCommon a y (Some (64 * i + t))
  least_found i t w h e l f = (found, λ s p q. apart_string (64 * i + t) s (apart_up x y i t w (omega (arith, l.within)) e l.below f) p q)
    where
      n : ℕ
      n = 64 * i + t

      both : min (member x n) (member y n) ≡ 1
      both = shared x y i t w l.within e ∙ l.here

      left : member x n ≡ 1
      left = omega (arith, both, member_lt x n, member_lt y n)

      right : member y n ≡ 1
      right = omega (arith, both, member_lt x n, member_lt y n)

      pos : (m : ℕ) → member x m ≡ 1 → 0 < m
      pos zero z = absurd (omega (arith, z, c.unused))
      pos (suc m) z = omega arith

      found : (s : Bits) × (number s ≡ n) × Has a s × Has y s
      found =
          let r = named 8 n (pos n left) (omega (arith, l.within)) in
          (r.0, r.2, (r.1, ap (member a) r.2 ∙ sym (c.same n (pos n left)) ∙ left), (r.1, ap (member y) r.2 ∙ right))
