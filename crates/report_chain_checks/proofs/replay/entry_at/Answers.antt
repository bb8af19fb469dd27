use native.Mathlib.Omega.{arith}
use Rattle.report_chain_steps.proofs.Tails.{read_as}
use Rattle.report_chain_checks.proofs.replay.entry_at.Goals as goal

pub overflow_mul-k : goal.overflow_mul-k
overflow_mul-k c = omega (arith, c.requires.0)

pub overflow_mul-k-2 : goal.overflow_mul-k-2
overflow_mul-k-2 c = omega (arith, c.requires.0)

pub overflow_add-k : goal.overflow_add-k
overflow_add-k c = omega (arith, c.requires.0)

pub overflow_mul-k-3 : goal.overflow_mul-k-3
overflow_mul-k-3 c = omega (arith, c.requires.0)

pub overflow_add-k-2 : goal.overflow_add-k-2
overflow_add-k-2 c = omega (arith, c.requires.0)

pub entry-requires : goal.entry-requires
entry-requires c = (c.requires.1, c.requires.2)

pub returns : goal.returns
returns c =
    let a = c.args in
    read_as a.table.now a.items.now _ a.at _ c.number_at-tag.result c.number_at-i.result c.number_at-v.result _ _ _ c.number_at-tag.ensures c.number_at-i.ensures c.number_at-v.ensures c.entry.ensures
