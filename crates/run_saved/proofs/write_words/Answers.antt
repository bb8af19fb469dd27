use mathlib.Core.List.{List}
use Prim.Native.Nat.{ℕ, ◌+◌, ◌*◌}
use native.Mathlib.Omega.{arith}
use mathlib.Core.Path.{refl, sym, ap, ◌∙◌}
use lib.ListN.{drop}
use lib.Seq.{sets}
use Rattle.run_saved.specs.Saved.{listed, plain}
use Rattle.run_saved.proofs.Bytes.{list_start, list_turn, list_end}
use Rattle.run_saved.proofs.write_words.Goals as goal

-- src/lib.rt:66:5
pub loop-i-init : goal.loop-i-init
loop-i-init c = (omega arith, refl, list_start plain 4 c.args.words.now c.args.out.now c.args.at)

-- src/lib.rt:67:35
pub overflow_cast-words : goal.overflow_cast-words
overflow_cast-words c = omega (arith, c.shared_slice_known-in-loop-i-1.given c.loop-i.i)

-- src/lib.rt:66:5
pub loop-i-preserved : goal.loop-i-preserved
loop-i-preserved c = (omega arith, c.write.auto.out ∙ c.loop-i.invariant.1, c.loop-i.invariant.2 ∙ list_turn plain 4 c.args.words.now 0 c.loop-i.out c.args.at c.loop-i.i c.loop-i-test.true ∙ ap (λ (x : List ℕ). sets x (c.args.at + 4 * (c.loop-i.i + 1)) (listed plain 4 (drop (c.loop-i.i + 1) c.args.words.now))) (sym c.write.ensures))

-- src/lib.rt:61:1
pub shape_of-out : goal.shape_of-out
shape_of-out c = c.loop-i.invariant.1

-- src/lib.rt:61:1
pub returns : goal.returns
returns c = sym (c.loop-i.invariant.2 ∙ list_end plain 4 c.args.words.now c.loop-i.out (c.args.at + 4 * c.loop-i.i) c.loop-i.i c.loop-i-test.false)
