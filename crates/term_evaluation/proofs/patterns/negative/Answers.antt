use Prim.Native.Nat.{◌^◌, ◌<◌}
use mathlib.Core.Path.{ap, ◌∙◌}
use native.Mathlib.Omega.{arith}
use lib.IntN.{ℤ, negsuc}
use mir.Syntax.{w64}
use mir.Val.{to_z, of_z}
use Rattle.term_integers.proofs.Laws.{back}
use Rattle.term_evaluation.proofs.Clamping.{one_less}
use Rattle.term_evaluation.proofs.patterns.negative.Goals as goal

pub overflow_sub-result : goal.overflow_sub-result
overflow_sub-result c = rw (back c.signed-m.result c.signed-m.type_inv, c.signed-m.ensures, one_less) (record { sfits = omega arith })

pub returns : goal.returns
returns c =
    let n = c.args.n in
    let h : n < 2 ^ 63 = omega arith in
    rw (back c.signed-m.result c.signed-m.type_inv, c.signed-m.ensures) (ap (λ (z : ℤ). to_z w64 (of_z w64 z)) (one_less n) ∙ back (negsuc n) h)
