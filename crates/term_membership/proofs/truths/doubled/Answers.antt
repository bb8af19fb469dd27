use Prim.Native.Nat.{◌+◌, ◌*◌}
use mathlib.Core.Path.{◌≡◌, sym, ap, ◌∙◌}
use mathlib.Core.Bool.{Bool}
use native.Mathlib.Omega.{arith}
use Rattle.basis.specs.Bits.{digit}
use Rattle.term_membership.proofs.truths.doubled.Goals as goal

pub returns-then-one : goal.returns-then-one
returns-then-one c = ap (λ (b : Bool). c.args.word * 2 + digit b) (sym c.if-one.true)

pub returns-else-one : goal.returns-else-one
returns-else-one c = (let z : c.args.word * 2 ≡ c.args.word * 2 + 0 = omega arith in z) ∙ ap (λ (b : Bool). c.args.word * 2 + digit b) (sym c.if-one.false)
