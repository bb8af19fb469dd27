use mathlib.Core.Path.{ap, ◌∙◌}
use lib.IntN.{ℤ}
use borrow.Author.Tests.{le-leb, lt-leb}
use Rattle.term_integers.proofs.Laws.{back}
use Rattle.run_steps.specs.Steps.{bind}
use Rattle.run_steps.proofs.do_take.Goals as goal

-- src/lib.rt:184:9
pub returns-then-captures-reading : goal.returns-then-captures-reading
returns-then-captures-reading c =
    λ cs ps.
    let b = c in
    let bound = c.bind.ensures ∙ ap (λ (z : ℤ). bind b.args.binder z b.args.values.now) (back b.args.value b.ranges.value.sfits) in
    simp (le-leb _ _ c.if-captures-reading.true, bound, c.«record».ensures, c.taken.ensures)

-- src/lib.rt:174:1
pub returns : goal.returns
returns c = λ cs ps. simp (lt-leb _ _ c.if-captures-reading.false, c.broken.ensures)
