use Prim.Native.Nat.{ℕ, ◌+◌, ◌≤◌}
use mathlib.Core.Path.{refl, ap, ◌∙◌}
use mathlib.Core.List.{[], ◌∷◌}
use native.Mathlib.Omega.{arith}
use Rattle.text_encoding.specs.Lists.{written}
use Rattle.text_encoding.proofs.Writing.{writing_start, writing_turn, writing_end, one_less}
use Rattle.text_encoding.proofs.constructs.put_bytes.Goals as goal

pub loop-j-init : goal.loop-j-init
loop-j-init c = ((let z : 0 ≤ 8 = omega arith in z), writing_start (omega arith) refl refl)

pub packed-requires : goal.packed-requires
packed-requires c = (c.requires.0, omega (arith, c.loop-j-test.true))

pub loop-j-preserved : goal.loop-j-preserved
loop-j-preserved c = (omega arith, writing_turn c.loop-j.invariant.1 (one_less _ _ c.loop-j-test.true) refl (omega arith) (c.put_one.ensures ∙ ap (λ (w : ℕ). written c.loop-j.table (c.args.k + c.loop-j.j) (w ∷ [])) c.packed.ensures))

pub shape_of-table : goal.shape_of-table
shape_of-table c = c.loop-j.invariant.1.same

pub returns : goal.returns
returns c = writing_end c.loop-j.invariant.1 (omega arith)
