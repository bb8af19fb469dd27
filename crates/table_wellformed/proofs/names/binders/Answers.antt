use Prim.Native.Nat.{◌<◌}
use mathlib.Core.Path.{sym, ◌∙◌}
use native.Mathlib.Omega.{arith}
use borrow.Author.Tests.{ltb-true}
use lib.Dec.{eqb}
use Rattle.basis.proofs.Booleans.{both_first}
use Rattle.table_wellformed.specs.Checks.{size_at}
use Rattle.table_wellformed.proofs.Walks.{walk_start, walk_turn, walk_stop, walk_end}
use Rattle.table_wellformed.specs.Rules.{member_laid, next_variable}
use Rattle.table_wellformed.proofs.names.binders.Goals as goal

pub loop-j-init : goal.loop-j-init
loop-j-init c = (walk_start c.args.table.now (member_laid c.args.table.now) (next_variable c.args.table.now) (λ k y. eqb y c.args.last) c.args.end c.args.start c.args.first, omega arith)

pub overflow_add-j : goal.overflow_add-j
overflow_add-j c = omega (arith, c.size_at-j.ensures.1)

pub loop-j-smaller : goal.loop-j-smaller
loop-j-smaller c = let grows : 0 < size_at c.args.table.now c.loop-j.j = ltb-true _ _ (both_first _ _ (sym c.member.ensures ∙ c.if-not-member.false)) in omega (arith, c.size_at-j.ensures.0)

pub loop-j-preserved : goal.loop-j-preserved
loop-j-preserved c = let grows : 0 < size_at c.args.table.now c.loop-j.j = ltb-true _ _ (both_first _ _ (sym c.member.ensures ∙ c.if-not-member.false)) in (rw (c.size_at-j.ensures.0, c.next_variable-x.ensures.0) (walk_turn _ _ _ _ _ _ _ c.loop-j.invariant.0 c.loop-j-test.true (sym c.member.ensures ∙ c.if-not-member.false)), omega (arith, c.size_at-j.ensures.0, c.next_variable-x.ensures.1))

pub returns-then-not-member : goal.returns-then-not-member
returns-then-not-member c = sym (walk_stop _ _ _ _ _ _ _ c.loop-j.invariant.0 c.loop-j-test.true (sym c.member.ensures ∙ c.if-not-member.true))

pub returns : goal.returns
returns c = sym (walk_end _ _ _ _ _ _ _ c.loop-j.invariant.0 c.loop-j-test.false)
