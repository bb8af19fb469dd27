use lib.ListN.{length-set}
use Prim.Native.Nat.{ℕ, ◌-◌}
use mathlib.Core.Path.{◌≡◌, refl, sym, ◌∙◌}
use native.Mathlib.Omega.{arith}
use mathlib.Core.Bool.{false}
use Rattle.table_weights.proofs.SweepLaws.{swept_next, swept_kept, swept_done}
use borrow.Author.Rules.{rules}
use Rattle.table_weights.proofs.sweep.Goals as goal

pub loop-i-init : goal.loop-i-init
loop-i-init c = (refl, c.requires.1, c.requires.0, λ e. refl)

pub overflow_cast-weights : goal.overflow_cast-weights
overflow_cast-weights c = omega (arith, c.weigh_at-weight.ensures)

pub loop-i-preserved-then-word-weight : goal.loop-i-preserved-then-word-weight
loop-i-preserved-then-word-weight c = let l = c.loop-i in (swept_next c.args.table.now l.weights l.i c.weigh_at-weight.result c.loop-i-test.true c.weigh_at-weight.ensures ∙ l.invariant.0, length-set l.weights (l.i - 1) c.weigh_at-weight.result ∙ l.invariant.1, search rules, λ e. let z : ◌≡◌ {A = ℕ} 0 1 = cc in absurd (omega arith))

pub loop-i-preserved : goal.loop-i-preserved
loop-i-preserved c = let l = c.loop-i in (swept_kept c.args.table.now l.weights l.i c.weigh_at-weight.result c.loop-i-test.true c.weigh_at-weight.ensures (sym c.word.ensures.0 ∙ c.if-word-weight.false) ∙ l.invariant.0, l.invariant.1, search rules, l.invariant.3)

pub shape_of-weights : goal.shape_of-weights
shape_of-weights c = c.loop-i.invariant.1 ∙ sym c.requires.1

pub returns : goal.returns
returns c = (sym (swept_done _ _ _ c.loop-i-test.false) ∙ c.loop-i.invariant.0, c.loop-i.invariant.3)
