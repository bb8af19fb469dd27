use borrow.Author.Rules.{rules}
use borrow.Author.Count.{below_more}
use native.Mathlib.Omega.{arith}
use Rattle.lookahead.proofs.SetLaws.{decides_true, decides_false}
use Rattle.lookahead.proofs.equal.Goals as goal

pub loop-i-init : goal.loop-i-init
loop-i-init c = λ k h. absurd (omega arith)

pub returns-then-x-i : goal.returns-then-x-i
returns-then-x-i c = decides_false _ (λ f. c.if-x-i.true (f c.loop-i.i (search rules)))

pub loop-i-preserved : goal.loop-i-preserved
loop-i-preserved c = below_more _ _ c.loop-i.invariant c.if-x-i.false

pub returns : goal.returns
returns c = decides_true _ (λ k h. c.loop-i.invariant k (omega arith))
