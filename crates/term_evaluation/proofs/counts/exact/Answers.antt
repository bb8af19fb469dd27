use Prim.Native.Nat.{ℕ}
use mathlib.Core.Bool.{true, false}
use mathlib.Core.Path.{ap, ◌∙◌}
use Rattle.basis.specs.Counts.{least}
use Rattle.term_integers.proofs.Laws.{read₁}
use Rattle.term_evaluation.proofs.Counting.{sign, exactly_negative, exactly_positive}
use Rattle.term_evaluation.proofs.counts.exact.Goals as goal
use Rattle.std.specs.Prelude.{Ok}
use Rattle.term_evaluation.specs.declared.Allowed.{Allowed}

pub returns-then-negative : goal.returns-then-negative
returns-then-negative c = exactly_negative c.args.n (sign c.args.n true c.ranges.n.sfits c.negative.ensures c.if-negative.true)

pub returns : goal.returns
returns c =
    ap (λ (m : ℕ). (Ok (Allowed.Within m 0))) (read₁ least c.args.n c.ranges.n.sfits c.from_zero.ensures) ∙ exactly_positive c.args.n (sign c.args.n false c.ranges.n.sfits c.negative.ensures c.if-negative.false)
