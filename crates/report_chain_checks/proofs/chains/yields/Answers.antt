use native.Mathlib.Omega.{arith}
use mathlib.Core.Bool.{false≢true}
use mathlib.Core.Path.{ap, ◌∙◌}
use mathlib.Core.List.{[], ◌∷◌}
use Rattle.report_chain_steps.specs.Replayed.{rest_of}
use Rattle.report_chain_steps.proofs.Tails.{tail_lists, one_left}
use native.Mathlib.Numerals.{add-one}
use Rattle.report_chain_meaning.specs.Chains.{after}
use Rattle.report_chain_checks.proofs.chains.yields.Goals as goal

pub all-at-requires : goal.all-at-requires
all-at-requires c = c.requires

pub overflow_add-i : goal.overflow_add-i
overflow_add-i c = omega (arith, (c.is_one.ensures c.if-is_one.true).1)

pub returns-then-is_one : goal.returns-then-is_one
returns-then-is_one c =
    let a = c.args in
    let o = c.is_one.ensures c.if-is_one.true in
    λ e.
    let w = c.is_whole.ensures e in
    tail_lists a.table.now _ c.all-at.result _ (a.i ∷ []) (after a.i) a.window (c.all-at.ensures (omega (arith, o.0))) w.1 w.2 (one_left a.table.now _ c.all-at.result.depth a.i o.0 o.1 o.2)
    (ap rest_of (w.0 ∙ add-one a.i))

pub returns : goal.returns
returns c = λ e. absurd (false≢true e)
