use mathlib.Core.Path.{refl, subst}
use native.Mathlib.Omega.{arith}
use Rattle.table_structure.proofs.Facts.{facts}
use Rattle.table_fill.specs.Completed.{SetsWritten}
use Rattle.table_fill.proofs.Completing.{completed}
use Rattle.table_fill.proofs.complete.Goals as goal

pub write_sets-requires : goal.write_sets-requires
write_sets-requires c = let s = c in let f = facts s.args.table.now s.requires.0.passed.laid_out in let j = c.judge in (f.long, j.auto.follow, j.auto.prediction, omega (arith, c.word-count.ensures.0, f.counts.constructs))

pub write_weight-requires : goal.write_weight-requires
write_weight-requires c = let s = c in (omega (arith, c.write_sets.auto.table, (facts s.args.table.now s.requires.0.passed.laid_out).long), c.in_ok-weight.ensures.judged.2)

pub returns : goal.returns
returns c = let ws = c.args.table.now in let j = c.judge in let e = c.in_ok-weight.ensures in let p = c.write_sets in record { judged = (e.judged, e.first_sets); completed = completed ws p.new.table c.write_weight.new.table j.new.follow j.new.prediction _ e.judged e.follow_sets.0 e.follow_sets.1 (subst (SetsWritten ws p.new.table j.new.follow j.new.prediction) c.word-count.ensures.0 p.ensures) c.write_weight.ensures }
