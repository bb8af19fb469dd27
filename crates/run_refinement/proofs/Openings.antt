-- A run that is opened over reliable words never breaks, however many steps it is granted; so it is the theory's run.
-- Assumes nothing.
use Prim.Native.Nat.{ℕ, zero, suc, ◌+◌, ◌*◌, ◌-◌, ◌≤◌, ◌<◌, min}
use native.Mathlib.Omega.{arith}
use native.Mathlib.Nat.{mul-le-mul}
use native.Mathlib.Numerals.{add-one}
use borrow.Author.Tests.{le-leb, lt-ltb}
use mathlib.Core.Path.{◌≡◌, refl, sym, ◌∙◌, ap, ap₂, subst}
use mathlib.Core.Bool.{true}
use mathlib.Core.List.{List, [], ◌∷◌}
use lib.IntN.{ℤ}
use lib.ListN.{length, get_or}
use Rattle.basis.specs.Limits.{max_weight, max_frame_bytes, max_entries}
use Rattle.basis.specs.Bits.{Bits, frame_bits}
use Rattle.basis.proofs.Frames.{frame_length}
use Rattle.theory.specs.Machine.{entry, state, pending_of, captures_of, Passes, undecided, run, verdict_of, state_of, taken_of, stepped, open_state, opened, granted, taken}
use Rattle.theory.specs.Theorems.{Decision, Moment}
use Rattle.theory.proofs.Theorems as Theory
use Rattle.theory.proofs.Runs.{granted_sum}
use Rattle.table_layout.specs.Places.{weight_of}
use Rattle.table_layout.specs.Held.{Context, first_context, opening, held}
use Rattle.run_actions.specs.Stored.{tests_of}
use Rattle.run_actions.specs.Acts.{bits_of}
use Rattle.run_steps.specs.Steps.{Whole, whole, in_bound, step_of, steps_of, Fits}
use Rattle.run_steps.specs.declared.Head.{Head}
use Rattle.run_steps.proofs.Running.{step_stays}
use Rattle.run_refinement.specs.Runs.{HeldRun, pending, recorded, verdict_as, reading_of, run_of}
use Rattle.run_refinement.proofs.Picks.{Unbroken}
use Rattle.run_steps.proofs.Running.{steps_fit, steps_last}
use Rattle.run_refinement.proofs.Grants.{steps_agree}
use Rattle.run_refinement.proofs.Readings.{steps_record}
use Rattle.run_refinement.proofs.Step.{step_agrees}
use Rattle.run_refinement.proofs.Reliable.{Reliable}
use Rattle.run_refinement.proofs.Steady.{Steady, steady_opened}
use Rattle.run_refinement.proofs.Never.{step_steady, step_unbroken}

-- "It opens undecided, with a use of the start rule on its list and the rest 0."
abbrev pub opening_head : Head
opening_head = record { position = 0; count = 1; captures = 0; steps = 0; verdict = 0 }

-- what an opening gives: the arrays' first words, a frame of at most 1,024 bytes, and two words for each of its bits in the reading, which may
-- be any words
pub record Opening (fs cs ps rs : List ℕ) : Type 0 where
  pub short : length fs ≤ max_frame_bytes
  pub constructs : length cs ≡ max_entries
  pub passes : length ps ≡ max_entries
  pub first : get_or cs 0 0 ≡ opening
  pub none_begun : get_or ps 0 0 ≡ 0
  pub room : 2 * bits_of fs ≤ length rs

abbrev pub opening_of : List ℕ → List ℕ → List ℕ → List ℕ → Whole
opening_of ws cs ps rs = whole cs ps (held ws).values rs opening_head

pub opening_fits : (ws fs cs ps rs : List ℕ) → Opening fs cs ps rs → Fits fs (opening_of ws cs ps rs)
opening_fits ws fs cs ps rs o = (omega arith, omega arith, omega arith, o.constructs, o.passes)

module _ (ws : List ℕ) (widest : List ℤ) (weight rooms : Context → ℕ → ℕ) (r : Reliable ws widest weight rooms) (fs cs ps rs : List ℕ) (o : Opening fs cs ps rs) where
  abbrev w₀ : Whole
  w₀ = opening_of ws cs ps rs

  abbrev s : Bits
  s = frame_bits fs

  -- the theory's run, granted n steps
  abbrev at : ℕ → HeldRun
  at n = granted (held ws) (tests_of ws) n (opened (held ws) (tests_of ws) s)

  opened_run : run_of fs w₀ ≡ opened (held ws) (tests_of ws) s
  unfolding pending recorded opened open_state held
  opened_run = ap₂ (λ (i k : ℕ). run (state (entry i first_context k ∷ []) s 0 (held ws).values []) 0 undecided) o.first o.none_begun

  abbrev fits : Fits fs w₀
  fits = opening_fits ws fs cs ps rs o

  at_next : (n : ℕ) → at (suc n) ≡ stepped (held ws) (tests_of ws) (at n)
  unfolding granted
  at_next n = ap at (sym (add-one n)) ∙ granted_sum (held ws) (tests_of ws) n 1 (opened (held ws) (tests_of ws) s)

  -- while it is undecided, n steps are taken, and they are below the bound
  in_time : (n : ℕ) → verdict_of (at n) ≡ undecided → in_bound ws fs (taken_of (at n)) ≡ true
  unfolding taken opened held
  in_time n e =
      let d : Decision (held ws) (tests_of ws) weight s = Theory.bound (held ws) (tests_of ws) weight r.hypotheses r.weighs s in
      let l : n < d.needed = (d.undecided_iff n).0 e in
      let t : taken_of (at n) - 0 ≡ min n d.needed = d.taken_min n in
      let b : d.needed ≤ weight first_context opening * (length s + 1) = d.within_bound in
      let m : weight first_context opening * (length s + 1) ≤ weight_of ws * (bits_of fs + 1) = mul-le-mul r.weight_stored (omega (arith, frame_length fs)) in
      rw (le-leb (weight_of ws) max_weight r.laid.counts.weight) (lt-ltb (taken_of (at n)) (weight_of ws * (bits_of fs + 1)) (omega arith))

  moment : (n : ℕ) → Moment (held ws) (tests_of ws) weight s (state_of (at n))
  moment n = Theory.moments (held ws) (tests_of ws) weight r.hypotheses r.weighs s n

  few_entries : (n : ℕ) → length (pending_of (state_of (at n))) ≤ max_entries
  unfolding held
  few_entries n = omega (arith, Theory.room (held ws) (tests_of ws) rooms r.hypotheses r.has_room s n, r.room_most)

  few_captures : (n : ℕ) → 2 * length (captures_of (state_of (at n))) ≤ length rs
  few_captures n = omega (arith, (moment n).captures_few, frame_length fs, o.room)

  few_passes : (n : ℕ) → Passes (pending_of (state_of (at n))) (bits_of fs + 1)
  few_passes n = subst (λ (k : ℕ). Passes (pending_of (state_of (at n))) (k + 1)) (frame_length fs) (moment n).passes_few

  -- after n steps
  pub record Going (n : ℕ) : Type 0 where
    pub unbroken : Unbroken (steps_of ws fs n w₀)
    pub steady : Steady ws widest (run_of fs (steps_of ws fs n w₀))

  agrees : (n : ℕ) → Unbroken (steps_of ws fs n w₀) → run_of fs (steps_of ws fs n w₀) ≡ at n
  agrees n u = steps_agree ws fs n w₀ fits u ∙ ap (granted (held ws) (tests_of ws) n) opened_run

  -- one step more
  module _ (n : ℕ) (cs' ps' : List ℕ) (vs' : List ℤ) (rs' : List ℕ) (h : Head) where
    abbrev w : Whole
    w = whole cs' ps' vs' rs' h

    abbrev Further : Type 0
    Further = Unbroken (step_of ws fs w) × Steady ws widest (run_of fs (step_of ws fs w))

    taken_further : Fits fs w → length rs' ≡ length rs → run_of fs w ≡ at n → Steady ws widest (run_of fs w) → h.verdict ≡ 0 → Further
    taken_further f long e st q =
        let b : in_bound ws fs h.steps ≡ true = subst (λ (m : ℕ). in_bound ws fs m ≡ true) (sym (ap taken_of e)) (in_time n (sym (ap verdict_of e) ∙ ap verdict_as q)) in
        let x : at (suc n) ≡ stepped (held ws) (tests_of ws) (run_of fs w) = at_next n ∙ ap (stepped (held ws) (tests_of ws)) (sym e) in
        let u : Unbroken (step_of ws fs w) =
        step_unbroken ws fs cs' ps' vs' rs' h widest r f q st b
        (subst (λ (y : HeldRun). Passes (pending_of (state_of y)) (bits_of fs + 1)) x (few_passes (suc n)))
        (subst (λ (y : HeldRun). length (pending_of (state_of y)) ≤ max_entries) x (few_entries (suc n)))
        (rw long (subst (λ (y : HeldRun). 2 * length (captures_of (state_of y)) ≤ length rs) x (few_captures (suc n)))) in
        (u, subst (Steady ws widest) (sym (step_agrees ws fs w f u)) (step_steady ws fs cs' ps' vs' rs' h widest r f q st))

    further_by : (d : ℕ) → h.verdict ≡ d → Fits fs w → length rs' ≡ length rs → run_of fs w ≡ at n → Steady ws widest (run_of fs w) → Unbroken w → Further
    further_by zero q f long e st u = taken_further f long e st q
    further_by (suc d) q f long e st u =
        let x : step_of ws fs w ≡ w = step_stays ws fs cs' ps' vs' rs' h (λ z. omega arith) in
        (subst Unbroken (sym x) u, subst (λ (y : Whole). Steady ws widest (run_of fs y)) (sym x) st)

  further : (n : ℕ) (w : Whole) → Fits fs w → length (reading_of w) ≡ length rs → run_of fs w ≡ at n → Steady ws widest (run_of fs w) → Unbroken w
      → Unbroken (step_of ws fs w) × Steady ws widest (run_of fs (step_of ws fs w))
  further n (whole cs' ps' vs' rs' h) f long e st u = further_by n cs' ps' vs' rs' h h.verdict refl f long e st u

  pub going : (n : ℕ) → Going n
  unfolding steps_of
  going zero = record { unbroken = λ e. omega arith; steady = rw opened_run (steady_opened ws widest r s) }
  going (suc n) =
      let g = going n in
      let x = further n (steps_of ws fs n w₀) (steps_fit ws fs n w₀ fits) (steps_record ws fs n w₀).lengths (agrees n g.unbroken) g.steady g.unbroken in
      record {
        unbroken = subst Unbroken (sym (steps_last ws fs n w₀)) x.0;
        steady = subst (λ (y : Whole). Steady ws widest (run_of fs y)) (sym (steps_last ws fs n w₀)) x.1;
      }

  -- never broken
  pub never_broken : (n : ℕ) → Unbroken (steps_of ws fs n w₀)
  never_broken n = (going n).unbroken

  -- and so the theory's run from its opening
  pub opened_agrees : (n : ℕ) → run_of fs (steps_of ws fs n w₀) ≡ granted (held ws) (tests_of ws) n (opened (held ws) (tests_of ws) (frame_bits fs))
  opened_agrees n = agrees n (never_broken n)
