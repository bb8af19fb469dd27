use Rattle.std.proofs.Common.{rules}
use Rattle.run_grants.proofs.Taken.{steps_in, steps_near, same_parts}
use Rattle.run_grants.proofs.Fitting.{fitting_fits}
use Rattle.run_grants.specs.Runs.{head_of, whole_of, after_steps, grant_of}
use Rattle.run_steps.specs.Steps.{Whole}
use mathlib.Core.Path.{sym, ap, subst, ◌∙◌}
use borrow.Author.Tests.{le-leb, lt-leb}
use native.Mathlib.Omega.{arith}
use Prim.Native.Nat.{ℕ, ◌≤◌}
use lib.ListN.{length-map}
use Rattle.run_grants.proofs.advance_words.Goals as goal

-- src/lib.rt:191:9
pub returns-then-frame-gt-MAX_FRAME_BYTES : goal.returns-then-frame-gt-MAX_FRAME_BYTES
unfolding grant_of
returns-then-frame-gt-MAX_FRAME_BYTES c = simp (lt-leb _ _ c.if-frame-gt-MAX_FRAME_BYTES.true)

-- src/lib.rt:209:13
pub advance-head-requires : goal.advance-head-requires
advance-head-requires c = let x = fitting_fits c.args.table.now c.args.frame.now c.args.run.constructs c.args.run.passes c.args.run.values c.args.reading.now (head_of c.args.run) (sym (length-map c.args.run.constructs (λ (x : ℕ). x)) ∙ search rules) (sym (length-map c.args.run.passes (λ (x : ℕ). x)) ∙ search rules) (sym c.fits.ensures ∙ c.if-fits.true) in (x.0, c.if-frame-gt-MAX_FRAME_BYTES.false, x.1)

-- src/lib.rt:219:21
pub overflow_sub-taken : goal.overflow_sub-taken
overflow_sub-taken c = let x : c.args.run.steps ≤ c.advance-head.result.steps = subst (λ (w : Whole). c.args.run.steps ≤ steps_in w) (sym c.advance-head.ensures) (steps_near c.args.table.now c.args.frame.now _ (whole_of c.args.reading.now c.args.run)).0 in omega arith

-- src/lib.rt:220:9
pub returns-then-fits : goal.returns-then-fits
unfolding grant_of
returns-then-fits c = simp (le-leb _ _ c.if-frame-gt-MAX_FRAME_BYTES.false, ← c.fits.ensures, c.if-fits.true) (same_parts _ c.put_together.ensures.0 c.put_together.ensures.1 ∙ ap (after_steps c.args.run.steps) c.advance-head.ensures)

-- src/lib.rt:187:1
pub returns : goal.returns
unfolding grant_of
returns c = simp (le-leb _ _ c.if-frame-gt-MAX_FRAME_BYTES.false, ← c.fits.ensures, c.if-fits.false)
