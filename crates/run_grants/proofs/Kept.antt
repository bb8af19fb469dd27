-- Steps keep all that 24 asks, for any words: a run that fits has a position within the frame, a known verdict, at most 256 entries that are all
-- in the table, and room for what is recorded and unread, after every step too.
-- Assumes nothing.
use Prim.Native.Nat.{ℕ, zero, suc, ◌+◌, ◌*◌, ◌-◌, ◌≤◌}
use native.Mathlib.Omega.{arith}
use mathlib.Core.Path.{◌≡◌, refl, sym, ◌∙◌}
use mathlib.Core.Bool.{Bool, true, false, cond}
use mathlib.Core.List.{List}
use lib.Dec.{eqb}
use lib.IntN.{ℤ}
use lib.ListN.{length, set, length-set}
use Rattle.basis.specs.Limits.{table_words}
use Rattle.run_actions.specs.Acts.{bits_of}
use Rattle.run_steps.specs.Steps.{Whole, whole, verdict_after, step_of, steps_of, Fits}
use Rattle.run_steps.proofs.Running.{steps_fit}
use Rattle.run_steps.specs.declared.Head.{Head}
use Rattle.run_grants.specs.Runs.{head_of, whole_of, entries_fit}
use Rattle.run_grants.specs.Composing.{fits, FittingKept}
use Rattle.run_grants.proofs.Fitting.{fitting_rest, rest_fitting, fitting_fits}
use Rattle.run_grants.proofs.Ways.{stepped}
use Rattle.run_grants.proofs.Entries.{Entries, entries_all, entries_each, steps_entries}

module _ (ws fs : List ℕ) (most : ℕ) where
  -- a known verdict, and room for what is recorded and unread in a reading of so many words
  abbrev pub Roomy : Whole → Type 0
  Roomy (whole cs ps vs rs h) = (h.verdict ≤ 4) × (length rs ≡ most) × (2 * (h.captures + (bits_of fs - h.position)) ≤ most)

  known : (count position : ℕ) → verdict_after fs count position ≤ 4
  known count position = by (eqb count 0) (eqb position (bits_of fs))
    where
      by : (s t : Bool) → cond s (cond t 1 2) 0 ≤ 4
      by true true = omega arith
      by true false = omega arith
      by false t = omega arith

  step_roomy : (w : Whole) → Roomy w → Roomy (step_of ws fs w)
  step_roomy (whole cs ps vs rs h) f =
      let r : 2 * (h.captures + (bits_of fs - h.position)) ≤ most = f.2 in
      stepped fs Roomy cs ps vs rs h (record {
        same = f;
        broke = ((let z : 4 ≤ 4 = omega arith in z), f.1, f.2);
        failed = ((let z : 2 ≤ 4 = omega arith in z), f.1, f.2);
        moved = λ cs' ps' n. (known n h.position, f.1, f.2);
        took = λ i width binder n a b. (
          known (h.count - 1) (h.position + width),
          length-set (set rs (2 * h.captures) i) (2 * h.captures + 1) h.position ∙ (length-set rs (2 * h.captures) i ∙ f.1),
          (let z : 2 * (h.captures + 1 + (bits_of fs - (h.position + width))) ≤ most = omega (arith, a, b) in z),
        );
      }) ws

  pub steps_roomy : (n : ℕ) (w : Whole) → Roomy w → Roomy (steps_of ws fs n w)
  unfolding steps_of
  steps_roomy zero w f = f
  steps_roomy (suc n) w f = steps_roomy n (step_of ws fs w) (step_roomy w f)

-- what fits, taken apart and put together
module _ (ws fs : List ℕ) where
  fitting_known : (cs ps : List ℕ) (vs : List ℤ) (rs : List ℕ) (h : Head) → fits ws fs (whole cs ps vs rs h) ≡ true → entries_fit ws (bits_of fs) cs ps h.count ≡ true
  fitting_known cs ps vs rs h e = sym (rest_fitting ws fs (length rs) cs ps h (fitting_rest ws fs (length rs) cs ps h e)) ∙ e

  put_together : (most : ℕ) (w : Whole) → table_words ≤ length ws → Fits fs w → Roomy ws fs most w → Entries ws fs w → fits ws fs w ≡ true
  put_together most (whole cs ps vs rs h) t f g e =
      let m : 2 * (h.captures + (bits_of fs - h.position)) ≤ most = g.2 in
      rest_fitting ws fs (length rs) cs ps h (record { table = t; position = f.0; verdict = g.0; count = f.1; roomy = omega (arith, g.1) }) ∙ entries_all ws fs cs ps h.count e.0 e.1

-- "a run that 24 lets pass passes it after any number of steps"
pub fitting_kept : FittingKept
fitting_kept ws fs rs run n lengths e =
    let cs : List ℕ = run.constructs in
    let ps : List ℕ = run.passes in
    let h : Head = head_of run in
    let w : Whole = whole_of rs run in
    let r = fitting_rest ws fs (length rs) cs ps h e in
    let f = fitting_fits ws fs cs ps run.values rs h lengths.0 lengths.1 e in
    put_together ws fs (length rs) (steps_of ws fs n w) f.0 (steps_fit ws fs n w f.1) (steps_roomy ws fs (length rs) n w (r.verdict, refl, r.roomy))
    (steps_entries ws fs n w f.1 (entries_each ws fs cs ps run.count (fitting_known ws fs cs ps run.values rs h e)))
