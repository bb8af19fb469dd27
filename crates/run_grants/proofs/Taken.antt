-- Steps are only added to, so what a grant took is a difference; grants add up.
-- Assumes nothing.
use Prim.Native.Nat.{ℕ, zero, suc, ◌+◌, ◌≤◌}
use native.Mathlib.Omega.{arith}
use mathlib.Core.Path.{◌≡◌, ap, ◌∙◌}
use mathlib.Core.List.{List}
use Rattle.run_steps.specs.Steps.{Whole, whole, step_of, steps_of}
use Rattle.run_grants.proofs.Ways.{stepped}
use Rattle.run_grants.specs.Runs.{after}
use Rattle.run_grants.specs.declared.Run.{Run}
use Rattle.run_grants.specs.declared.Answer.{Answer}

abbrev pub steps_in : Whole → ℕ
steps_in (whole cs ps vs rs h) = h.steps

-- at least so many steps, and at most one more
abbrev Near : ℕ → Whole → Type 0
Near n w = (n ≤ steps_in w) × (steps_in w ≤ n + 1)

module _ (ws fs : List ℕ) where
  -- a step adds at most one
  step_near : (w : Whole) → Near (steps_in w) (step_of ws fs w)
  step_near (whole cs ps vs rs h) =
      let none : (h.steps ≤ h.steps) × (h.steps ≤ h.steps + 1) = (omega arith, omega arith) in
      let one : (h.steps ≤ h.steps + 1) × (h.steps + 1 ≤ h.steps + 1) = (omega arith, omega arith) in
      stepped fs (Near h.steps) cs ps vs rs h (record { same = none; broke = none; failed = one; moved = λ cs' ps' n. one; took = λ i width binder n a b. one }) ws

  -- a grant of n takes at most n
  pub steps_near : (n : ℕ) (w : Whole) → (steps_in w ≤ steps_in (steps_of ws fs n w)) × (steps_in (steps_of ws fs n w) ≤ steps_in w + n)
  unfolding steps_of
  steps_near zero w = (omega arith, omega arith)
  steps_near (suc n) w =
      let a = step_near w in
      let b = steps_near n (step_of ws fs w) in
      (omega (arith, a.0, b.0), omega (arith, a.1, b.1))

  -- m steps and then n are m + n
  pub steps_add : (m n : ℕ) (w : Whole) → steps_of ws fs n (steps_of ws fs m w) ≡ steps_of ws fs (m + n) w
  unfolding steps_of
  steps_add zero n w = ap (λ (k : ℕ). steps_of ws fs k w) (let z : n ≡ 0 + n = omega arith in z)
  steps_add (suc m) n w = steps_add m n (step_of ws fs w) ∙ ap (λ (k : ℕ). steps_of ws fs k w) (let z : suc (m + n) ≡ suc m + n = omega arith in z)

-- what a grant leaves is the same where its parts are
pub same_parts : (rs : List ℕ) {run run' : Run} {answer answer' : Answer} → run ≡ run' → answer ≡ answer' → after run rs answer ≡ after run' rs answer'
same_parts rs e d = λ i. after (e i) rs (d i)
