-- Sets without strings shorter than 8 bits: joined with what follows, they stay as they are.
-- Assumes nothing.
use Prim.Native.Nat.{ℕ, zero, suc, ◌/◌, ◌%◌, ◌^◌, ◌≤◌, ◌<◌}
use mathlib.Core.Path.{◌≡◌, sym, ap, subst, ◌∙◌}
use mathlib.Core.Logic.{inl, inr}
use mathlib.Core.List.{List}
use native.Mathlib.Omega.{arith}
use borrow.Author.Tests.{ltb-true, ltb-false}
use lib.Dec.{ltb}
use lib.ListN.{length, get_or}
use lib.Pow.{pow_mono}
use Rattle.basis.specs.Bits.{Bits}
use Rattle.basis.specs.Lookahead.{join, number}
use Rattle.basis.proofs.Numbers.{number_lt}
use Rattle.basis.proofs.Joins.{join_full}
use Rattle.basis.proofs.Booleans.{which}
use Rattle.lookahead.specs.Sets.{bit, member, Has, Union, Joined}
use Rattle.lookahead.specs.Inner.{OnlyLong}
use Rattle.lookahead.proofs.BitLaws.{bit_none}

pub only_four : (x : List ℕ) → get_or x 0 0 ≡ 0 → get_or x 1 0 ≡ 0 → get_or x 2 0 ≡ 0 → get_or x 3 0 ≡ 0 → OnlyLong x
only_four x a b c d zero h = a
only_four x a b c d (suc zero) h = b
only_four x a b c d (suc (suc zero)) h = c
only_four x a b c d (suc (suc (suc zero))) h = d
only_four x a b c d (suc (suc (suc (suc i)))) h = absurd (omega arith)

-- a shorter string has a number below 256
short_absent : (x : List ℕ) → OnlyLong x → (n : ℕ) → n < 256 → member x n ≡ 0
unfolding member
short_absent x z n h = ap (λ (w : ℕ). bit w (n % 64)) (z (n / 64) (omega arith)) ∙ bit_none (n % 64)

pub long : (x : List ℕ) → OnlyLong x → (s : Bits) → Has x s → 8 ≤ length s
long x z s h =
    elim (which (ltb (length s) 8)) [
      | inl t ↦
          let k : length s < 8 = ltb-true (length s) 8 t in
          let p : 2 ^ suc (length s) ≤ 2 ^ 8 = pow_mono {j = 8} (omega arith) in
          let m = short_absent x z (number s) (omega (arith, number_lt s)) in
          absurd (omega (arith, h.1))
      | inr t ↦ ltb-false (length s) 8 t
    ]

-- nothing of what follows is seen
unseen : (s t : Bits) → length s ≤ 8 → 8 ≤ length s → s ≡ join s t
unseen s t l h = sym (join_full s t (omega arith))

pub joined_long : (x y : List ℕ) → OnlyLong x → (t : Bits) → Has y t → (s : Bits) → Union (Has x) (Has x) s → Joined (Has x) (Has y) s
joined_long x y z t h s (inl u) = record { left = s; right = t; in_left = u; in_right = h; whole = unseen s t u.0 (long x z s u) }
joined_long x y z t h s (inr u) = record { left = s; right = t; in_left = u; in_right = h; whole = unseen s t u.0 (long x z s u) }

pub long_joined : (x y : List ℕ) → OnlyLong x → (s : Bits) → Joined (Has x) (Has y) s → Union (Has x) (Has x) s
long_joined x y z s j = inl (subst (Has x) (unseen j.left j.right j.in_left.0 (long x z j.left j.in_left) ∙ sym j.whole) j.in_left)
