use Rattle.report_faults.specs.Faults.{rule_number}
use native.Mathlib.Omega.{arith}
use Rattle.report_faults.proofs.faults.rule_number.Goals as goal

pub returns : goal.returns
unfolding rule_number
returns c = (simp (c.saturating_sub.ensures, c.min.ensures, c.rule_after.ensures, c.min-kept.ensures), omega arith)
