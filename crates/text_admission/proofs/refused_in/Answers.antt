use Prim.Native.Nat.{ℕ, ◌+◌}
use mathlib.Core.Path.{ap, ◌∙◌}
use native.Mathlib.Omega.{arith}
use Rattle.text_admission.specs.declared.Admission.{Admission}
use Rattle.text_admission.proofs.refused_in.Goals as goal

pub refused-requires : goal.refused-requires
refused-requires c = (c.requires.1, omega (arith, c.node_word.ensures, (c.requires.2 c.args.construct).0))

pub returns : goal.returns
returns c = c.refused.ensures ∙ ap (λ (w : ℕ). Admission.Refused c.args.number (c.args.base + w)) c.node_word.ensures
