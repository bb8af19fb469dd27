use mathlib.Core.Path.{sym, ◌∙◌}
use native.Mathlib.Omega.{arith}
use borrow.Author.Count.{below_more}
use Rattle.table_reach.proofs.reaching.first_not_reached.Goals as goal

pub loop-r-init : goal.loop-r-init
loop-r-init c = ((λ q h l. absurd (omega arith)), omega arith)

pub loop-r-preserved : goal.loop-r-preserved
loop-r-preserved c = (below_more _ _ c.loop-r.invariant.0 (λ l. sym c.reached.ensures ∙ c.if-not-reached.false), omega arith)

pub returns-then-not-reached : goal.returns-then-not-reached
returns-then-not-reached c = let l = c.loop-r in (l.invariant.1, c.loop-r-test.true, sym c.reached.ensures ∙ c.if-not-reached.true, λ q h k. l.invariant.0 q k h)

pub returns : goal.returns
returns c = λ q h k. c.loop-r.invariant.0 q (omega (arith, c.loop-r-test.false)) h
