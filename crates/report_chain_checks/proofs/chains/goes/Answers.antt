use native.Mathlib.Omega.{arith}
use Rattle.report_chain_checks.proofs.chains.goes.Goals as goal

pub yields-requires : goal.yields-requires
yields-requires c = c.requires

pub returns-then-yields : goal.returns-then-yields
returns-then-yields c = λ h. c.yields.ensures c.if-yields.true

pub returns : goal.returns
returns c = λ h. absurd (omega (arith, h))
