use native.Mathlib.Omega.{arith}
use Rattle.report_chain_checks.proofs.chains.stops.Goals as goal

pub yields_after-requires : goal.yields_after-requires
yields_after-requires c = c.requires

pub returns-then-yields_after : goal.returns-then-yields_after
returns-then-yields_after c = λ h. c.yields_after.ensures c.if-yields_after.true

pub returns : goal.returns
returns c = λ h. absurd (omega (arith, h))
