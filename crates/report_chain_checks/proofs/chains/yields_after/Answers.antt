use native.Mathlib.Omega.{arith}
use mathlib.Core.Path.{ap, ◌∙◌}
use mathlib.Core.List.{[]}
use Rattle.report_chain_steps.specs.Replayed.{rest_of}
use Rattle.report_chain_steps.proofs.Tails.{tail_lists}
use Rattle.report_chain_steps.proofs.Rules.{bottom}
use native.Mathlib.Numerals.{add-one}
use Rattle.report_chain_meaning.specs.Chains.{after}
use Rattle.report_chain_checks.proofs.chains.yields_after.Goals as goal

pub all-at-requires : goal.all-at-requires
all-at-requires c = c.requires

pub overflow_add-i : goal.overflow_add-i
overflow_add-i c = omega (arith, c.if-i-lt256.true)

pub returns-then-at-eq0 : goal.returns-then-at-eq0
returns-then-at-eq0 c =
    let a = c.args in
    λ e.
    let w = c.is_whole.ensures e in
    tail_lists a.table.now _ c.all-at.result _ [] (after a.i) a.window (c.all-at.ensures (omega (arith, c.if-at-eq0.true))) w.1 w.2 (bottom a.table.now _ c.all-at.result.depth c.if-at-eq0.true)
    (ap rest_of (w.0 ∙ add-one a.i))
