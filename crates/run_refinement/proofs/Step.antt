-- A step over any words that is not broken is the theory's step on the grammar that the words hold.
-- Assumes nothing.
use Prim.Native.Nat.{ℕ, zero, suc, ◌-◌, ◌≤◌, ◌<◌}
use native.Mathlib.Omega.{arith}
use borrow.Author.Tests.{eqb-false, eq-eqb, leb-true}
use mathlib.Core.Path.{◌≡◌, refl, sym, ◌∙◌, ap, subst}
use mathlib.Core.Bool.{true, false, cond}
use mathlib.Core.List.{List, ◌∷◌}
use mathlib.Core.Option.{Option, none, some}
use lib.Dec.{leb, eqb}
use lib.IntN.{ℤ}
use lib.ListN.{get_or, drop}
use Rattle.basis.specs.Bits.{frame_bits}
use Rattle.theory.specs.Derivation.{Capture}
use Rattle.theory.specs.Machine.{entry, state, undecided, run, step, stepped}
use Rattle.table_layout.specs.Held.{first_context, held, opening}
use Rattle.run_actions.specs.Stored.{tests_of}
use Rattle.run_actions.specs.Acts.{bits_of, act_of}
use Rattle.run_actions.specs.declared.Act.{Act}
use Rattle.run_actions.proofs.Doing.{doable}
use Rattle.run_actions.proofs.Walks.{positive}
use Rattle.run_steps.specs.Steps.{Whole, whole, break, effect, in_bound, step_of, Fits}
use Rattle.run_steps.specs.declared.Head.{Head}
use Rattle.run_steps.proofs.Running.{step_stays}
use Rattle.run_refinement.specs.Runs.{HeldEntry, HeldState, pending, recorded, verdict_as, state_held, head_of, run_of}
use Rattle.run_refinement.proofs.Picks.{Unbroken, first_kept, second_kept}
use Rattle.run_refinement.proofs.Pending.{pending_first}
use Rattle.run_refinement.proofs.Walks.{Definite}
use Rattle.run_refinement.proofs.Deciding.{done, does}
use Rattle.run_refinement.proofs.Effects.{after, does_effect}

-- the theory's step, by the state that it leads to
stepped_after : (ws : List ℕ) (σ : HeldState) (n : ℕ) (o : Option HeldState) → step (held ws) (tests_of ws) σ ≡ o → stepped (held ws) (tests_of ws) (run σ n undecided) ≡ after σ n o
unfolding stepped
stepped_after ws σ n none e = rw (e, stepped)
stepped_after ws σ n (some τ) e = rw (e, stepped)

-- what a step that is not broken has passed
pub record Taken (ws fs cs ps : List ℕ) (vs : List ℤ) (rs : List ℕ) (h : Head) : Type 0 where
  pub bound : in_bound ws fs h.steps ≡ true
  pub entries : 0 < h.count
  pub number : get_or cs (h.count - 1) 0 ≤ opening
  pub is : step_of ws fs (whole cs ps vs rs h)
      ≡ effect ws fs (get_or cs (h.count - 1) 0) (get_or ps (h.count - 1) 0) cs ps vs rs h (act_of ws fs vs h.position (get_or cs (h.count - 1) 0) (get_or ps (h.count - 1) 0))

module _ (ws fs cs ps : List ℕ) (vs : List ℤ) (rs : List ℕ) (h : Head) where
  abbrev w : Whole
  w = whole cs ps vs rs h

  abbrev i : ℕ
  i = get_or cs (h.count - 1) 0

  abbrev k : ℕ
  k = get_or ps (h.count - 1) 0

  abbrev others : List HeldEntry
  others = pending cs ps (h.count - 1)

  abbrev rc : List Capture
  rc = recorded rs h.captures

  abbrev a : Act
  a = act_of ws fs vs h.position i k

  -- the tests of a step, one after the other
  pub step_taken : h.verdict ≡ 0 → Unbroken (step_of ws fs w) → Taken ws fs cs ps vs rs h
  unfolding step_of
  step_taken e u =
      let bad : Whole = whole cs ps vs rs (break h) in
      let did : Whole = effect ws fs i k cs ps vs rs h a in
      let first : Whole = cond (leb i opening) did bad in
      let here : Whole = cond (eqb h.count 0) bad first in
      let v : eqb h.verdict 0 ≡ true = eq-eqb h.verdict 0 e in
      let u₁ : Unbroken (cond (in_bound ws fs h.steps) here bad) = rw v at u in
      let b : in_bound ws fs h.steps ≡ true = first_kept (in_bound ws fs h.steps) here bad refl u₁ in
      let u₂ : Unbroken here = rw b at u₁ in
      let c : eqb h.count 0 ≡ false = second_kept (eqb h.count 0) bad first refl u₂ in
      let u₃ : Unbroken first = rw c at u₂ in
      let m : leb i opening ≡ true = first_kept (leb i opening) did bad refl u₃ in
      record {
        bound = b;
        entries = (let z : h.count ≡ 0 → ⊥ = eqb-false h.count 0 c in positive h.count z);
        number = leb-true i opening m;
        is = rw (v, b, c, m);
      }

  -- an act that is broken breaks the run
  effect_definite : (b : Act) → Unbroken (effect ws fs i k cs ps vs rs h b) → Definite b
  effect_definite b u e = u (ap (λ (x : Act). (head_of (effect ws fs i k cs ps vs rs h x)).verdict) e)

  -- the theory's step, by the act that is decided
  pub stepped_does : h.position ≤ bits_of fs → h.verdict ≡ 0 → 0 < h.count → Definite a
      → stepped (held ws) (tests_of ws) (run_of fs w) ≡ after (state_held fs w) h.steps (done ws fs vs h.position i k others rc a)
  unfolding step
  stepped_does l e m s =
      let d = does ws fs vs h.position i k others rc l s in
      let q : pending cs ps h.count ≡ entry i first_context k ∷ others = pending_first cs ps h.count m in
      let x : step (held ws) (tests_of ws) (state_held fs w) ≡ done ws fs vs h.position i k others rc a =
      ap (λ (es : List HeldEntry). step (held ws) (tests_of ws) (state es (drop h.position (frame_bits fs)) h.position vs rc)) q ∙ d.agrees in
      ap (λ (y : ℕ). stepped (held ws) (tests_of ws) (run (state_held fs w) h.steps (verdict_as y))) e
      ∙ stepped_after ws (state_held fs w) h.steps (done ws fs vs h.position i k others rc a) x

  taken_agrees : Fits fs w → h.verdict ≡ 0 → Unbroken (step_of ws fs w) → run_of fs (step_of ws fs w) ≡ stepped (held ws) (tests_of ws) (run_of fs w)
  taken_agrees f e u =
      let t = step_taken e u in
      let u₁ : Unbroken (effect ws fs i k cs ps vs rs h a) = subst Unbroken t.is u in
      let s : Definite a = effect_definite a u₁ in
      let d = does ws fs vs h.position i k others rc f.0 s in
      ap (run_of fs) t.is
      ∙ (does_effect ws fs cs ps vs rs h f t.entries a (doable ws fs vs h.position i k) d.members u₁ ∙ sym (stepped_does f.0 e t.entries s))

  -- a run that is not undecided takes no step, and its run in the theory takes none
  decided_agrees : (d : ℕ) → h.verdict ≡ d → (d ≡ 0 → ⊥) → run_of fs (step_of ws fs w) ≡ stepped (held ws) (tests_of ws) (run_of fs w)
  unfolding stepped
  decided_agrees zero e n = absurd (n refl)
  decided_agrees (suc zero) e n = ap (run_of fs) (step_stays ws fs cs ps vs rs h (λ z. omega arith)) ∙ rw e
  decided_agrees (suc (suc d)) e n = ap (run_of fs) (step_stays ws fs cs ps vs rs h (λ z. omega arith)) ∙ rw e

  step_by : (d : ℕ) → h.verdict ≡ d → Fits fs w → Unbroken (step_of ws fs w) → run_of fs (step_of ws fs w) ≡ stepped (held ws) (tests_of ws) (run_of fs w)
  step_by zero e f u = taken_agrees f e u
  step_by (suc d) e f u = decided_agrees (suc d) e (λ z. omega arith)

pub step_agrees : (ws fs : List ℕ) (w : Whole) → Fits fs w → Unbroken (step_of ws fs w) → run_of fs (step_of ws fs w) ≡ stepped (held ws) (tests_of ws) (run_of fs w)
step_agrees ws fs (whole cs ps vs rs h) f u = step_by ws fs cs ps vs rs h h.verdict refl f u
