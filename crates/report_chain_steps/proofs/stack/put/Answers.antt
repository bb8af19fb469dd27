use native.Mathlib.Omega.{arith}
use Rattle.report_chain_steps.proofs.Stacks.{put_on}
use Rattle.report_chain_steps.proofs.stack.put.Goals as goal

pub returns-then-depth-items : goal.returns-then-depth-items
returns-then-depth-items c = λ h. (omega (arith, c.if-depth-lt1000.true), c.if-i-lt256.true, λ ws. put_on ws c.args.items.now c.args.depth c.args.i c.if-i-lt256.true c.if-depth-items.true)
