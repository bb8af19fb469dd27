-- A grant of steps over any words that does not end broken is the theory's grant on the grammar that the words hold.
-- Assumes nothing.
use Prim.Native.Nat.{ℕ, zero, suc, ◌+◌, ◌-◌}
use native.Mathlib.Omega.{arith}
use mathlib.Core.Path.{◌≡◌, refl, ◌∙◌, ap}
use mathlib.Core.List.{List}
use Rattle.theory.specs.Machine.{taken_of, granted, taken}
use Rattle.table_layout.specs.Held.{held}
use Rattle.run_actions.specs.Stored.{tests_of}
use Rattle.run_steps.specs.Steps.{Whole, whole, step_of, steps_of, Fits}
use Rattle.run_steps.proofs.Running.{step_fits, steps_stay}
use Rattle.run_refinement.specs.Runs.{head_of, run_of}
use Rattle.run_refinement.proofs.Picks.{Unbroken}
use Rattle.run_refinement.proofs.Step.{step_agrees}

module _ (ws fs : List ℕ) where
  -- a broken run stays broken
  pub steps_unbroken : (n : ℕ) (w : Whole) → Unbroken (steps_of ws fs n w) → Unbroken w
  steps_unbroken n (whole cs ps vs rs h) u e = u (ap (λ (x : Whole). (head_of x).verdict) (steps_stay ws fs n cs ps vs rs h (λ z. omega arith)) ∙ e)

  pub steps_agree : (n : ℕ) (w : Whole) → Fits fs w → Unbroken (steps_of ws fs n w) → run_of fs (steps_of ws fs n w) ≡ granted (held ws) (tests_of ws) n (run_of fs w)
  unfolding steps_of granted
  steps_agree zero w f u = refl
  steps_agree (suc n) w f u =
      steps_agree n (step_of ws fs w) (step_fits ws fs w f) u
      ∙ ap (granted (held ws) (tests_of ws) n) (step_agrees ws fs w f (steps_unbroken n (step_of ws fs w) u))

  -- "the answer says how many were taken"
  pub taken_agree : (n : ℕ) (w : Whole) → Fits fs w → Unbroken (steps_of ws fs n w) → (head_of (steps_of ws fs n w)).steps - (head_of w).steps ≡ taken (held ws) (tests_of ws) n (run_of fs w)
  unfolding taken
  taken_agree n w f u = ap (◌- (head_of w).steps) (ap taken_of (steps_agree n w f u))
