use Prim.Native.Nat.{◌-◌}
use Rattle.report_wording.specs.Lines.{Walked}
use Rattle.report_wording.proofs.lines.line_of.Given as goal

abbrev pub invariant-loop-i : goal.invariant-loop-i
invariant-loop-i l = Walked l.grammar l.at l.i l.before l.start
