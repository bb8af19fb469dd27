use lib.IntN.{ℤ, pos}
use mir.Syntax.{w64}
use mir.Val.{to_z, of_z}
use Rattle.basis.specs.Limits.{max_variables}
use Rattle.run_saved.proofs.Patterns.{read_back}
use Prim.Native.Nat.{◌+◌, ◌*◌, ◌-◌}
use native.Mathlib.Omega.{arith}
use mathlib.Core.Path.{refl, sym, ap, ◌∙◌}
use lib.ListN.{drop, set, replicate, length-set, length-replicate}
use lib.Seq.{sets}
use Rattle.run_saved.specs.Saved.{numbers, whole}
use Rattle.run_saved.proofs.Bytes.{numbers_start, numbers_turn, numbers_end}
use Rattle.run_saved.proofs.read_values.Goals as goal

-- src/lib.rt:109:5
pub loop-i-init : goal.loop-i-init
loop-i-init c = (omega arith, refl, numbers_start whole 8 c.args.bytes.now (replicate max_variables (pos 0)) c.args.at max_variables (length-replicate max_variables (pos 0)))

-- src/lib.rt:109:5
pub loop-i-preserved : goal.loop-i-preserved
loop-i-preserved c = (omega arith, length-set c.loop-i.values c.loop-i.i (to_z w64 (of_z w64 c.signed-value.result)) ∙ c.loop-i.invariant.1, c.loop-i.invariant.2 ∙ numbers_turn whole 8 c.args.bytes.now c.loop-i.values c.args.at c.loop-i.i max_variables c.loop-i-test.true ∙ ap (λ (x : ℤ). sets (set c.loop-i.values c.loop-i.i x) (c.loop-i.i + 1) (numbers whole 8 (max_variables - (c.loop-i.i + 1)) (drop (c.args.at + 8 * (c.loop-i.i + 1)) c.args.bytes.now))) (sym (read_back c.signed-value.result _ c.signed-value.type_inv (c.signed-value.ensures ∙ ap whole c.read.ensures.0))))

-- src/lib.rt:103:1
pub returns : goal.returns
returns c = sym (c.loop-i.invariant.2 ∙ numbers_end whole 8 (drop (c.args.at + 8 * c.loop-i.i) c.args.bytes.now) c.loop-i.values c.loop-i.i (max_variables - c.loop-i.i) (omega arith))
