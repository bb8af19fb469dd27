use Prim.Native.Nat.{ℕ, ◌+◌}
use mathlib.Core.Path.{ap, ◌∙◌}
use native.Mathlib.Omega.{arith}
use Rattle.text_admission.specs.declared.Admission.{Admission}
use Rattle.text_admission.proofs.conflict.Goals as goal

-- src/lib.rt:67:16
pub placed-requires : goal.placed-requires
placed-requires c = (c.requires.1, omega (arith, c.node_word.ensures, (c.requires.2 c.args.construct).0))

-- src/lib.rt:62:1
pub returns : goal.returns
returns c = ap (λ (q : ℕ). Admission.Conflict q c.args.construct c.args.clash) (c.placed.ensures ∙ ap (λ (w : ℕ). c.args.base + w) c.node_word.ensures)
