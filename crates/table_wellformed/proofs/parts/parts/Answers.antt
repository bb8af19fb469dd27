use Rattle.basis.proofs.Booleans.{both_first}
use Rattle.table_wellformed.specs.Checks.{size_at}
use Prim.Native.Nat.{◌<◌}
use mathlib.Core.Path.{sym, ◌∙◌}
use native.Mathlib.Omega.{arith}
use borrow.Author.Tests.{ltb-true}
use lib.Dec.{eqb}
use Rattle.table_wellformed.specs.Parts.{part_laid}
use Rattle.table_wellformed.proofs.Walks.{walk_start, walk_turn, walk_stop, walk_end}
use Rattle.table_wellformed.proofs.parts.parts.Goals as goal

pub loop-j-init : goal.loop-j-init
loop-j-init c = walk_start c.args.table.now (λ k x. part_laid c.args.table.now c.args.switch c.args.first k c.args.end) (λ k x. x) (λ k x. eqb k c.args.end) c.args.end c.args.first 0

pub overflow_add-j : goal.overflow_add-j
overflow_add-j c = omega (arith, c.size_at-j.ensures.1)

pub loop-j-smaller : goal.loop-j-smaller
loop-j-smaller c = let grows : 0 < size_at c.args.table.now c.loop-j.j = ltb-true _ _ (both_first _ _ (sym c.part.ensures ∙ c.if-not-part.false)) in omega (arith, c.size_at-j.ensures.0)

pub loop-j-preserved : goal.loop-j-preserved
loop-j-preserved c = rw c.size_at-j.ensures.0 (walk_turn _ _ _ _ _ _ _ c.loop-j.invariant c.loop-j-test.true (sym c.part.ensures ∙ c.if-not-part.false))

pub returns-then-not-part : goal.returns-then-not-part
returns-then-not-part c = sym (walk_stop _ _ _ _ _ _ _ c.loop-j.invariant c.loop-j-test.true (sym c.part.ensures ∙ c.if-not-part.true))

pub returns : goal.returns
returns c = sym (walk_end _ _ _ _ _ _ _ c.loop-j.invariant c.loop-j-test.false)
