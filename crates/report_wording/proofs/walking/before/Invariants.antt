use Prim.Native.Nat.{◌-◌}
use Rattle.basis.specs.Limits.{max_text_bytes}
use Rattle.report_wording.specs.Walking.{started, before_from}
use Rattle.report_wording.proofs.WalkLaws.{Going}
use Rattle.report_wording.proofs.walking.before.Given as goal

abbrev pub invariant-loop-tokens : goal.invariant-loop-tokens
invariant-loop-tokens l = Going l.grammar l.at (before_from max_text_bytes l.grammar l.at l.base started) l.here l.seen l._tokens
