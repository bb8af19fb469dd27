use mathlib.Core.Path.{sym, ◌∙◌}
use native.Mathlib.Omega.{arith}
use borrow.Author.Count.{below_more}
use borrow.Author.Tests.{eqb-true}
use Rattle.table_reach.proofs.Rows.{not_one}
use borrow.Author.Rules.{rules}
use Rattle.table_reach.proofs.reaching.first_on_diagonal.Goals as goal

pub loop-r-init : goal.loop-r-init
loop-r-init c = ((λ q h. absurd (omega arith)), search rules)

pub returns-then-has : goal.returns-then-has
returns-then-has c = (c.loop-r-test.true, eqb-true _ _ (sym c.has.ensures ∙ c.if-has.true), c.loop-r.invariant.0)

pub loop-r-preserved : goal.loop-r-preserved
loop-r-preserved c = (below_more _ _ c.loop-r.invariant.0 (not_one _ _ (sym c.has.ensures ∙ c.if-has.false)), search rules)

pub returns : goal.returns
returns c = λ q h. c.loop-r.invariant.0 q (omega arith)
