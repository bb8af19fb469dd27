use native.Mathlib.Omega.{arith}
use mathlib.Core.Path.{sym, ap, ◌∙◌}
use Rattle.report_chain_steps.specs.Replayed.{stack}
use Rattle.report_chain_steps.specs.Replayed.{counts_at}
use Rattle.report_chain_steps.proofs.Rules.{made_passes}
use Rattle.report_chain_steps.proofs.constructs.of_repetition.Goals as goal

pub below_passes-requires : goal.below_passes-requires
below_passes-requires c = (c.requires, ap (counts_at c.args.table.now) (sym c.construct_at.ensures ∙ c.in-Repetition.is))

pub returns-in-Repetition : goal.returns-in-Repetition
returns-in-Repetition c =
    let a = c.args in
    let is = stack a.table.now a.items.now a.depth in
    let q = c.below_passes in
    λ h. let p = q.ensures h in made_passes a.table.now a.i c.requires is (stack a.table.now a.items.now q.result) _ _ p.0 a.n (sym c.construct_at.ensures ∙ c.in-Repetition.is) p.1 p.2 p.3

pub returns-in_default : goal.returns-in_default
returns-in_default c = λ h. absurd (omega (arith, h))
