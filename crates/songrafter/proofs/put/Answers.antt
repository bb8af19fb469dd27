use mathlib.Core.Path.{sym}
use lib.Seq.{set_out}
use Rattle.songrafter.proofs.put.Goals as goal

-- src/lib.rt:21:1
pub returns-else-k-answer : goal.returns-else-k-answer
returns-else-k-answer c = sym (set_out c.args.answer.now c.args.k c.args.n c.if-k-answer.false)
