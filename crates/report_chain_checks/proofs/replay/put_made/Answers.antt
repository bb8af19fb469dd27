use mathlib.Core.Path.{refl}
use Rattle.report_chain_steps.specs.Replayed.{stack}
use Rattle.report_chain_steps.proofs.Tails.{tail_made}
use Rattle.report_chain_checks.proofs.replay.put_made.Goals as goal

pub returns : goal.returns
returns c =
    let a = c.args in
    λ h shown t. let q = c.put.ensures h in tail_made a.table.now a.items.now a.at shown t _ _ (stack a.table.now a.items.now c.made-below.result) a.i _ refl refl refl (c.made-below.ensures q.0) (q.2 a.table.now)
