use lib.ListN.{length-set}
use native.Mathlib.Omega.{arith}
use Rattle.run_steps.proofs.record.Goals as goal

-- src/lib.rt:106:5
pub bounds-reading-captures-2 : goal.bounds-reading-captures-2
bounds-reading-captures-2 c = rw length-set (omega arith)
