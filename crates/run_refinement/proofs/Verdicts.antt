-- The verdicts of a run: a step that is not broken leaves one of the theory's three.
-- Assumes nothing.
use Prim.Native.Nat.{ℕ, zero, suc, ◌+◌, ◌*◌, ◌-◌, ◌≤◌}
use native.Mathlib.Omega.{arith}
use mathlib.Core.Path.{◌≡◌, refl, sym, subst}
use mathlib.Core.Logic.{◌↔◌, ◌⊎◌, inl, inr}
use mathlib.Core.Bool.{◌&&◌}
use mathlib.Core.List.{List}
use lib.Dec.{leb, ltb, eqb}
use lib.IntN.{ℤ}
use lib.ListN.{length, get_or}
use Rattle.basis.specs.Limits.{max_entries}
use Rattle.basis.proofs.Booleans.{either_way}
use Rattle.theory.specs.Machine.{undecided, matched, unmatched}
use Rattle.run_actions.specs.Acts.{bits_of, act_of}
use Rattle.run_actions.specs.declared.Act.{Act}
use Rattle.run_steps.specs.Steps.{Whole, whole, verdict_after, effect, step_of}
use Rattle.run_steps.specs.declared.Head.{Head}
use Rattle.run_steps.proofs.Running.{step_stays}
use Rattle.run_refinement.specs.Runs.{verdict_as, head_of}
use Rattle.run_refinement.proofs.Picks.{Unbroken}
use Rattle.run_refinement.proofs.Step.{step_taken}

-- after an act the run is broken, undecided or decided
abbrev Few : Whole → Type 0
Few w = ((head_of w).verdict ≡ 4) ⊎ ((head_of w).verdict ≤ 2)

pub after_few : (fs : List ℕ) (n p : ℕ) → verdict_after fs n p ≤ 2
after_few fs n p =
    either_way (λ v. v ≤ 2) (eqb n 0) (either_way (λ v. v ≤ 2) (eqb p (bits_of fs)) (let z : 1 ≤ 2 = omega arith in z) (let z : 2 ≤ 2 = omega arith in z)) (let z : 0 ≤ 2 = omega arith in z)

effect_few : (ws fs : List ℕ) (i k : ℕ) (cs ps : List ℕ) (vs : List ℤ) (rs : List ℕ) (h : Head) (a : Act) → Few (effect ws fs i k cs ps vs rs h a)
effect_few ws fs i k cs ps vs rs h Act.Broken = inl refl
effect_few ws fs i k cs ps vs rs h Act.Fail = inr (omega arith)
effect_few ws fs i k cs ps vs rs h (Act.Enter b) = inr (after_few fs h.count h.position)
effect_few ws fs i k cs ps vs rs h (Act.Members start end n) = either_way Few (leb (h.count + n) (max_entries + 1)) (inr (after_few fs (h.count - 1 + n) h.position)) (inl refl)
effect_few ws fs i k cs ps vs rs h (Act.Again b) = either_way Few (ltb h.count max_entries && ltb k (bits_of fs + 1)) (inr (after_few fs (h.count + 1) h.position)) (inl refl)
effect_few ws fs i k cs ps vs rs h Act.Leave = inr (after_few fs (h.count - 1) h.position)
effect_few ws fs i k cs ps vs rs h (Act.Take width binder n) = either_way Few (leb (2 * h.captures + 2) (length rs)) (inr (after_few fs (h.count - 1) (h.position + width))) (inl refl)

decided_few : (w : Whole) → Few w → Unbroken w → (head_of w).verdict ≤ 2
decided_few w (inl e) u = absurd (u e)
decided_few w (inr l) u = l

pub step_few : (ws fs : List ℕ) (w : Whole) → (head_of w).verdict ≤ 2 → Unbroken (step_of ws fs w) → (head_of (step_of ws fs w)).verdict ≤ 2
step_few ws fs (whole cs ps vs rs h) l u = by h.verdict refl
  where
    by : (d : ℕ) → h.verdict ≡ d → (head_of (step_of ws fs (whole cs ps vs rs h))).verdict ≤ 2
    by zero e =
        let t = step_taken ws fs cs ps vs rs h e u in
        decided_few (step_of ws fs (whole cs ps vs rs h))
        (subst Few (sym t.is) (effect_few ws fs (get_or cs (h.count - 1) 0) (get_or ps (h.count - 1) 0) cs ps vs rs h (act_of ws fs vs h.position (get_or cs (h.count - 1) 0) (get_or ps (h.count - 1) 0))))
        u
    by (suc d) e = rw (step_stays ws fs cs ps vs rs h (λ z. omega arith)) l

pub undecided_as : (d : ℕ) → (d ≡ 0) ↔ (verdict_as d ≡ undecided)
undecided_as zero = (λ e. refl, λ e. refl)
undecided_as (suc zero) = (λ e. absurd (omega arith), λ e. (let z : ◌≡◌ {A = ℕ} 0 1 = cc in absurd (omega arith)))
undecided_as (suc (suc d)) = (λ e. absurd (omega arith), λ e. (let z : ◌≡◌ {A = ℕ} 0 1 = cc in absurd (omega arith)))

pub matched_as : (d : ℕ) → (d ≡ 1) ↔ (verdict_as d ≡ matched)
matched_as zero = (λ e. absurd (omega arith), λ e. (let z : ◌≡◌ {A = ℕ} 0 1 = cc in absurd (omega arith)))
matched_as (suc zero) = (λ e. refl, λ e. refl)
matched_as (suc (suc d)) = (λ e. absurd (omega arith), λ e. (let z : ◌≡◌ {A = ℕ} 0 1 = cc in absurd (omega arith)))

pub unmatched_as : (d : ℕ) → d ≤ 2 → (d ≡ 2) ↔ (verdict_as d ≡ unmatched)
unmatched_as zero l = (λ e. absurd (omega arith), λ e. (let z : ◌≡◌ {A = ℕ} 0 1 = cc in absurd (omega arith)))
unmatched_as (suc zero) l = (λ e. absurd (omega arith), λ e. (let z : ◌≡◌ {A = ℕ} 0 1 = cc in absurd (omega arith)))
unmatched_as (suc (suc d)) l = (λ e. refl, λ e. omega arith)
