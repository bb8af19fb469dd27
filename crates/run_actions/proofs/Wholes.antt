-- The number that a field's bits are, and what is bound of it.
-- Assumes nothing.
use Prim.Native.Nat.{ℕ, zero, suc, ◌+◌, ◌*◌, ◌-◌, ◌≤◌, ◌<◌}
use mathlib.Core.Path.{◌≡◌, refl, sym, ap, subst, ◌∙◌}
use mathlib.Core.Bool.{Bool}
use mathlib.Core.List.{List}
use native.Mathlib.Omega.{arith}
use lib.IntN.{ℤ, pos}
use lib.ListN.{length, take, drop, length-drop}
use lib.Seq.{length-take-le}
use Rattle.basis.specs.Limits.{max_bound_width}
use Rattle.basis.specs.Bits.{Bits, bits_of, value, frame_bits}
use Rattle.basis.proofs.Frames.{frame_length}
use Rattle.basis.proofs.Values.{bits_of_value}
use Rattle.term_evaluation.specs.Patterns.{clamped}
use Rattle.term_evaluation.proofs.Clamping.{clamped_narrow}
use Rattle.run_actions.specs.Acts.{kept, number_at}

-- what is bound, by whether there is a binder
pub kept_some : (binder : ℕ) (n : ℤ) → 0 < binder → kept binder n ≡ n
kept_some zero n h = absurd (omega arith)
kept_some (suc x) n h = refl

pub kept_none : (binder : ℕ) (n : ℤ) → binder ≤ 0 → kept binder n ≡ pos 0
kept_none zero n h = refl
kept_none (suc x) n h = absurd (omega arith)

module _ (fs : List ℕ) (p width : ℕ) (h : p + width ≤ 8 * length fs) where
  abbrev read : Bits
  read = take width (drop p (frame_bits fs))

  pub read_long : length read ≡ width
  read_long =
      let d : length (drop p (frame_bits fs)) ≡ 8 * length fs - p = length-drop p (frame_bits fs) ∙ ap (◌- p) (frame_length fs) in
      length-take-le width (drop p (frame_bits fs)) (omega arith)

  -- the bits of the number that they are
  pub read_pattern : bits_of width (value read) ≡ read
  read_pattern = ap (λ (w : ℕ). bits_of w (value read)) (sym read_long) ∙ bits_of_value read

  -- a binder is narrow: what stands for its number is the number
  pub kept_number : (signed : Bool) (binder : ℕ) → (0 < binder → width ≤ max_bound_width) → kept binder (clamped (number_at fs p signed width)) ≡ kept binder (number_at fs p signed width)
  kept_number signed zero narrow = refl
  kept_number signed (suc x) narrow = clamped_narrow signed read (subst (λ (w : ℕ). w ≤ max_bound_width) (sym read_long) (narrow (omega arith)))
