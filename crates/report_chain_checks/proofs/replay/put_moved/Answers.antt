use mathlib.Core.Path.{refl}
use Rattle.report_chain_steps.proofs.Tails.{tail_moved}
use Rattle.report_chain_checks.proofs.replay.put_moved.Goals as goal

pub returns : goal.returns
returns c =
    let a = c.args in
    λ h shown t. let q = c.put_behind.ensures h in tail_moved a.table.now a.items.now a.at shown t _ _ q.0 refl refl (c.moved-rest.ensures q.1)
