use lib.ListN.{length}
use Prim.Native.Nat.{◌-◌}
use mathlib.Core.Path.{◌≡◌, refl, sym, ap, ◌∙◌}
use native.Mathlib.Omega.{arith}
use Rattle.table_weights.specs.Sweeps.{settled}
use Rattle.table_weights.proofs.SweepLaws.{settled_next, settled_kept, settled_done, swept_length}
use Rattle.table_weights.proofs.settle.Goals as goal

pub loop-k-init : goal.loop-k-init
loop-k-init c = (refl, c.requires.1)

pub loop-k-preserved-then-changed : goal.loop-k-preserved-then-changed
loop-k-preserved-then-changed c = let l = c.loop-k in let a = c.args in let e = c.sweep-changed.ensures.0 in (ap (settled a.table.now a.n (l.k - 1)) e ∙ settled_next a.table.now l.weights a.n l.k c.loop-k-test.true ∙ l.invariant.0, ap length e ∙ swept_length a.table.now a.n l.weights ∙ l.invariant.1)

pub loop-k-preserved : goal.loop-k-preserved
loop-k-preserved c = let l = c.loop-k in let a = c.args in let e = c.sweep-changed.ensures.1 c.if-changed.false in (settled_done _ _ _ 0 (omega arith) ∙ e ∙ sym (settled_kept a.table.now l.weights a.n l.k (sym c.sweep-changed.ensures.0 ∙ e)) ∙ l.invariant.0, ap length e ∙ l.invariant.1)

pub shape_of-weights : goal.shape_of-weights
shape_of-weights c = c.loop-k.invariant.1 ∙ sym c.requires.1

pub returns : goal.returns
returns c = sym (settled_done _ _ _ _ c.loop-k-test.false) ∙ c.loop-k.invariant.0
