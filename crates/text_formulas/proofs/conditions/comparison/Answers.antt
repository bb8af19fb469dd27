use native.Mathlib.Omega.{arith}
use mathlib.Core.Path.{refl, sym}
use Rattle.text_formulas.proofs.Testing.{comparison_reads, comparison_fault}
use Rattle.text_formulas.proofs.conditions.comparison.Goals as goal

pub returns-in_default : goal.returns-in_default
returns-in_default c = comparison_fault 0 (sym c.in_default.ensures) refl c.failed.ensures

pub returns : goal.returns
returns c = comparison_reads c.in-Some.tag c.in-Some.ensures.1 (λ z. omega (arith, z, c.in-Some.ensures.0)) c.passed.ensures c.calculation-r.ensures (c.add_sign.ensures c.args.text.now)
