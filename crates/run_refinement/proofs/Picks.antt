-- One of two by a test.
-- Assumes nothing.
use mathlib.Core.Path.{◌≡◌, refl}
use mathlib.Core.Bool.{Bool, true, false, cond}
use Rattle.run_steps.specs.Steps.{Whole, broken}
use Rattle.run_refinement.specs.Runs.{head_of}

-- the run is not broken
abbrev pub Unbroken : Whole → Type 0
Unbroken w = (head_of w).verdict ≡ broken → ⊥

-- it is the first where the second is broken, and the second where the first is
pub first_kept : (t : Bool) (a b : Whole) → (head_of b).verdict ≡ broken → Unbroken (cond t a b) → t ≡ true
first_kept true a b e u = refl
first_kept false a b e u = absurd (u e)

pub second_kept : (t : Bool) (a b : Whole) → (head_of a).verdict ≡ broken → Unbroken (cond t a b) → t ≡ false
second_kept true a b e u = absurd (u e)
second_kept false a b e u = refl
