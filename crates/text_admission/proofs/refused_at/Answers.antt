use Prim.Native.Nat.{ℕ, ◌+◌}
use mathlib.Core.Path.{ap, ◌∙◌}
use native.Mathlib.Omega.{arith}
use Rattle.text_admission.specs.declared.Admission.{Admission}
use Rattle.text_admission.proofs.refused_at.Goals as goal

-- src/lib.rt:67:5
pub refused-requires : goal.refused-requires
refused-requires c = (c.requires.1, omega (arith, c.rule_word.ensures, c.requires.2 c.args.rule))

-- src/lib.rt:63:1
pub returns : goal.returns
returns c = c.refused.ensures ∙ ap (λ (w : ℕ). Admission.Refused c.args.number (c.args.base + w)) c.rule_word.ensures
