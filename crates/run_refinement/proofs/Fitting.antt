-- A run from an opening fits at every moment: no grant over its own table, frame and reading is refused.
-- Assumes nothing.
use Prim.Native.Nat.{ℕ, zero, suc, ◌+◌, ◌*◌, ◌-◌, ◌≤◌, ◌<◌}
use native.Mathlib.Omega.{arith}
use borrow.Author.Tests.{eqb-true, eqb-false}
use mathlib.Core.Path.{◌≡◌, refl, sym, ◌∙◌, ap, subst}
use mathlib.Core.Logic.{inl, inr}
use mathlib.Core.List.{List}
use lib.Dec.{eqb}
use lib.IntN.{ℤ}
use lib.ListN.{length, get_or, length-drop}
use Rattle.basis.specs.Bits.{Bits, frame_bits}
use Rattle.basis.proofs.Frames.{frame_length}
use Rattle.basis.proofs.Booleans.{which}
use Rattle.theory.specs.Derivation.{captures}
use Rattle.theory.specs.Machine.{entry, pending_of, rest_of, position_of, captures_of, Passes, state_of, opened, granted}
use Rattle.theory.specs.Theorems.{Moment}
use Rattle.theory.proofs.Theorems as Theory
use Rattle.table_structure.proofs.Facts.{lt_of_ne}
use Rattle.table_layout.specs.Held.{Context, held}
use Rattle.run_actions.specs.Stored.{tests_of}
use Rattle.run_actions.specs.Acts.{bits_of}
use Rattle.run_steps.specs.Steps.{Whole, whole, steps_of, Fits}
use Rattle.run_refinement.specs.Runs.{HeldRun, pending, recorded, state_held, head_of, constructs_of, passes_of, values_of, reading_of, run_of}
use Rattle.run_refinement.proofs.Pending.{recorded_length}
use Rattle.run_refinement.proofs.Picks.{Unbroken}
use Rattle.run_refinement.proofs.Verdicts.{step_few}
use Rattle.run_steps.proofs.Running.{steps_fit, steps_last}
use Rattle.run_refinement.proofs.Readings.{steps_record}
use Rattle.run_refinement.proofs.Reliable.{Reliable}
use Rattle.run_refinement.proofs.Safety.{InTable}
use Rattle.run_refinement.proofs.Steady.{There, state_values}
use Rattle.run_refinement.proofs.Openings.{Opening, opening_of, opening_fits, going, never_broken, opened_agrees}

-- what holds of each entry
entry_at : (ws cs ps : List ℕ) (m n j : ℕ) → There ws (pending cs ps n) → Passes (pending cs ps n) m → j < n → InTable ws (get_or cs j 0) × (get_or ps j 0 ≤ m)
unfolding pending
entry_at ws cs ps m zero j t p l = absurd (omega arith)
entry_at ws cs ps m (suc n) j t p l =
    elim (which (eqb j n)) [
      | inl e ↦ (let z : j ≡ n = eqb-true j n e in rw z (t.0, p.0))
      | inr e ↦ (let z : j ≡ n → ⊥ = eqb-false j n e in entry_at ws cs ps m n j t.1 p.1 (let y : j + 1 ≤ n = lt_of_ne j n (omega arith) z in omega arith))
    ]

-- a run that no grant refuses ("24 … given exactly when"), and that is not closed or broken
pub record Fitting (ws fs : List ℕ) (w : Whole) : Type 0 where
  pub fits : Fits fs w
  pub verdict : (head_of w).verdict ≤ 2
  pub entry : (j : ℕ) → j < (head_of w).count → InTable ws (get_or (constructs_of w) j 0) × (get_or (passes_of w) j 0 ≤ bits_of fs + 1)
  pub room : 2 * ((head_of w).captures + (bits_of fs - (head_of w).position)) ≤ length (reading_of w)

fitting_of : (ws fs : List ℕ) (w : Whole) → Fits fs w → (head_of w).verdict ≤ 2 → There ws (pending_of (state_held fs w)) → Passes (pending_of (state_held fs w)) (bits_of fs + 1)
    → 2 * ((head_of w).captures + (bits_of fs - (head_of w).position)) ≤ length (reading_of w) → Fitting ws fs w
fitting_of ws fs (whole cs ps vs rs h) f d t p room = record { fits = f; verdict = d; entry = λ j l. entry_at ws cs ps (bits_of fs + 1) h.count j t p l; room = room }

-- what the theory's state holds of a run
pub captures_held : (fs : List ℕ) (w : Whole) → captures_of (state_held fs w) ≡ recorded (reading_of w) (head_of w).captures
captures_held fs (whole cs ps vs rs h) = refl

pub position_held : (fs : List ℕ) (w : Whole) → position_of (state_held fs w) ≡ (head_of w).position
position_held fs (whole cs ps vs rs h) = refl

pub values_held : (fs : List ℕ) (w : Whole) → state_values (state_held fs w) ≡ values_of w
values_held fs (whole cs ps vs rs h) = refl

captures_count : (fs : List ℕ) (w : Whole) → length (captures_of (state_held fs w)) ≡ (head_of w).captures
captures_count fs w = ap length (captures_held fs w) ∙ recorded_length (reading_of w) (head_of w).captures

rest_count : (fs : List ℕ) (w : Whole) → length (rest_of (state_held fs w)) ≡ bits_of fs - (head_of w).position
rest_count fs (whole cs ps vs rs h) = length-drop h.position (frame_bits fs) ∙ ap (◌- h.position) (frame_length fs)

module _ (ws : List ℕ) (widest : List ℤ) (weight rooms : Context → ℕ → ℕ) (r : Reliable ws widest weight rooms) (fs cs ps rs : List ℕ) (o : Opening fs cs ps rs) where
  abbrev w₀ : Whole
  w₀ = opening_of ws cs ps rs

  abbrev s : Bits
  s = frame_bits fs

  abbrev after : ℕ → Whole
  after n = steps_of ws fs n w₀

  abbrev at : ℕ → HeldRun
  at n = granted (held ws) (tests_of ws) n (opened (held ws) (tests_of ws) s)

  pub agrees : (n : ℕ) → run_of fs (after n) ≡ at n
  agrees n = opened_agrees ws widest weight rooms r fs cs ps rs o n

  unbroken : (n : ℕ) → Unbroken (after n)
  unbroken n = never_broken ws widest weight rooms r fs cs ps rs o n

  pub few : (n : ℕ) → (head_of (after n)).verdict ≤ 2
  unfolding steps_of
  few zero = omega arith
  few (suc n) =
      rw (steps_last ws fs n w₀) (step_few ws fs (after n) (few n) (subst Unbroken (steps_last ws fs n w₀) (unbroken (suc n))))

  moment : (n : ℕ) → Moment (held ws) (tests_of ws) weight s (state_held fs (after n))
  moment n = subst (λ (x : HeldRun). Moment (held ws) (tests_of ws) weight s (state_of x)) (sym (agrees n)) (Theory.moments (held ws) (tests_of ws) weight r.hypotheses r.weighs s n)

  -- at every moment
  pub fitting : (n : ℕ) → Fitting ws fs (after n)
  fitting n =
      let g = going ws widest weight rooms r fs cs ps rs o n in
      let m = moment n in
      fitting_of ws fs (after n) (steps_fit ws fs n w₀ (opening_fits ws fs cs ps rs o)) (few n) g.steady.there
      (subst (λ (k : ℕ). Passes (pending_of (state_held fs (after n))) (k + 1)) (frame_length fs) m.passes_few)
      (omega (arith, m.captures_few, captures_count fs (after n), rest_count fs (after n), frame_length fs, o.room, (steps_record ws fs n w₀).lengths))
