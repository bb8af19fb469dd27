use Prim.Native.Nat.{◌-◌}
use Rattle.basis.specs.Limits.{max_text_bytes}
use Rattle.report_quoting.specs.Parts.{part_end}
use Rattle.report_quoting.proofs.PartLaws.{Passing}
use Rattle.report_quoting.proofs.quoting.end_of.Given as goal

abbrev pub invariant-loop-tokens : goal.invariant-loop-tokens
invariant-loop-tokens l = Passing l.grammar l.part (part_end max_text_bytes l.grammar l.part l.at 0) l.here l.depth l._tokens
