use native.Mathlib.Omega.{arith}
use Rattle.report_chain_checks.proofs.chains.takes_nothing.Goals as goal

pub yields_alone-requires : goal.yields_alone-requires
yields_alone-requires c = c.requires

pub returns-then-yields_alone : goal.returns-then-yields_alone
returns-then-yields_alone c = λ h. c.yields_alone.ensures c.if-yields_alone.true

pub returns : goal.returns
returns c = λ h. absurd (omega (arith, h))
