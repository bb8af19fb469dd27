use Prim.Native.Nat.{◌≤◌, ◌-◌}
use Rattle.case_run.proofs.granting.grant.Reads as grant-reads
use Rattle.case_run.proofs.granting.in_turn.Reads as in-turn-reads
use Rattle.case_run.proofs.granting.show_run.Reads as show-run-reads
use Rattle.case_run.proofs.granting.play.Given as goal

abbrev pub invariant-loop-grants : goal.invariant-loop-grants
invariant-loop-grants l = l.grants ≤ 1000

abbrev pub decreases-loop-grants : goal.decreases-loop-grants
decreases-loop-grants l = 1000 - l.grants
