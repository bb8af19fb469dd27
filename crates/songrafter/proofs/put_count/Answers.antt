use mathlib.Core.Path.{sym}
use lib.Seq.{set_out}
use Rattle.songrafter.proofs.put_count.Goals as goal

-- src/lib.rt:145:1
pub returns-else-taken-gt0 : goal.returns-else-taken-gt0
returns-else-taken-gt0 c = sym (set_out c.args.taken.now 0 c.args.n c.if-taken-gt0.false)
