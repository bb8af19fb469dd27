use native.Mathlib.Omega.{arith}
use mathlib.Core.Bool.{false≢true}
use mathlib.Core.Path.{ap}
use mathlib.Core.List.{[], ◌∷◌}
use Rattle.report_chain_steps.specs.Replayed.{rest_of}
use Rattle.report_chain_steps.proofs.Tails.{tail_lists, tail_is, one_left, told_none, all_told}
use Rattle.report_chain_meaning.specs.Chains.{nothing}
use Rattle.basis.specs.Bits.{bits_of}
use Rattle.report_chains.specs.Strings.{width_of}
use Rattle.report_chain_checks.proofs.chains.yields_alone.Goals as goal

pub returns-then-count-gt1024 : goal.returns-then-count-gt1024
returns-then-count-gt1024 c = λ e. absurd (false≢true e)

pub replayed-at-requires : goal.replayed-at-requires
replayed-at-requires c = (c.if-count-gt1024.false, c.requires.0, c.requires.1)

pub returns-then-is_one : goal.returns-then-is_one
unfolding bits_of width_of
returns-then-is_one c =
    let a = c.args in
    let o = c.is_one.ensures c.if-is_one.true in
    let t = c.replayed-at.ensures (omega (arith, o.0)) 0 (tail_is a.table.now a.items.now _ _ _ (told_none a.steps.now a.count) (c.at_nothing.ensures a.table.now a.items.now)) in
    λ e.
    let w = c.is_whole.ensures e in
    tail_lists a.table.now _ c.replayed-at.result _ (a.i ∷ []) nothing 1 (tail_is a.table.now _ _ _ _ (all_told a.steps.now a.count) t) w.1 w.2 (one_left a.table.now _ c.replayed-at.result.depth a.i o.0 o.1 o.2) (ap rest_of w.0)

pub returns : goal.returns
returns c = λ e. absurd (false≢true e)
