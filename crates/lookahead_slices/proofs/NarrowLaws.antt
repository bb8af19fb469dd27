-- Laws of a set in sixteen u32 words.
-- Assumes nothing.
use Prim.Native.Nat.{ℕ, ◌+◌, ◌*◌, ◌/◌, ◌%◌, ◌^◌, ◌≤◌, ◌<◌}
use mathlib.Core.Path.{◌≡◌, sym, ap, ap₂, ◌∙◌}
use mathlib.Core.Logic.{◌⊎◌, inl, inr, ◌↔◌}
use mathlib.Core.List.{List}
use native.Mathlib.Omega.{arith}
use lib.ListN.{get_or}
use Rattle.basis.specs.Bits.{Bits}
use Rattle.basis.specs.Lookahead.{number}
use Rattle.basis.proofs.Numbers.{number_small}
use Rattle.lookahead.specs.Sets.{bit, member, Has}
use Rattle.lookahead_slices.specs.Narrow.{member_at, HasAt, half, StandsAt, Put}
use Rattle.lookahead.proofs.BitLaws.{bit_mod, bit_shr}
use Rattle.lookahead_slices.proofs.WriteLaws.{Written}

pub put_at : (set old new : List ℕ) (at k : ℕ) → 16 ≤ k → k ≤ 16 → Written (half set) old at k new → Put old new at set
put_at set old new at k g h w = record {
  same_length = w.same_length;
  stands = λ m l. w.done m (omega arith);
  others = others;
}
  where
    others : (n : ℕ) → (n < at) ⊎ (at + 16 ≤ n) → get_or new n 0 ≡ get_or old n 0
    others n (inl a) = w.rest n (inl a)
    others n (inr a) = w.rest n (inr (omega arith))

-- a set that stands at a place has the same strings there
member_stands : (words : List ℕ) (at : ℕ) (set : List ℕ) → StandsAt words at set → (n : ℕ) → n < 512 → member_at words at n ≡ member set n
unfolding member member_at half
member_stands words at set f n h =
    let i : n / 32 / 2 ≡ n / 64 = omega arith in
    let j : 32 * (n / 32 % 2) + n % 32 ≡ n % 64 = omega arith in
    ap (λ (w : ℕ). bit w (n % 32)) (f (n / 32) (omega arith))
    ∙ bit_mod (get_or set (n / 32 / 2) 0 / 2 ^ (32 * (n / 32 % 2))) 32 (n % 32) (omega arith)
    ∙ bit_shr (get_or set (n / 32 / 2) 0) (32 * (n / 32 % 2)) (n % 32)
    ∙ ap₂ (λ (x y : ℕ). bit (get_or set x 0) y) i j

pub has_stands : (words : List ℕ) (at : ℕ) (set : List ℕ) → StandsAt words at set → (s : Bits) → HasAt words at s ↔ Has set s
has_stands words at set f s = (
  (λ h. (h.0, sym (member_stands words at set f (number s) (number_small s h.0)) ∙ h.1)),
  (λ h. (h.0, member_stands words at set f (number s) (number_small s h.0) ∙ h.1)),
)
