use borrow.Author.Tests.{lt-ltb, le-ltb}
use Rattle.term_evaluation.specs.Counts.{tallied}
use Rattle.term_evaluation.proofs.counts.tally.Goals as goal

pub returns-then-end-start : goal.returns-then-end-start
unfolding tallied
returns-then-end-start c = simp (le-ltb _ _ c.if-end-start.true)

pub returns : goal.returns
unfolding tallied
returns c = simp (c.of_trial-counted.ensures, c.work_out-ended.ensures, c.calculations-stop.ensures, c.form-shape.ensures, c.term_at.ensures, lt-ltb _ _ c.if-end-start.false)
