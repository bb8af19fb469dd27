use lib.IntN.{pos}
use mathlib.Core.List.{List}
use Prim.Native.Nat.{ℕ, ◌+◌, ◌*◌}
use native.Mathlib.Omega.{arith}
use mathlib.Core.Path.{refl, sym, ap, ◌∙◌}
use lib.ListN.{get_or, drop}
use Rattle.term_integers.proofs.Laws.{read₁}
use lib.Seq.{sets}
use Rattle.run_saved.specs.Saved.{bytes, listed, pattern}
use Rattle.run_saved.proofs.Bytes.{list_start, list_turn, list_end}
use Rattle.run_saved.proofs.write_values.Goals as goal

-- src/lib.rt:122:5
pub loop-i-init : goal.loop-i-init
loop-i-init c = (omega arith, refl, list_start pattern 8 c.args.values.now c.args.out.now c.args.at)

-- src/lib.rt:122:5
pub loop-i-preserved : goal.loop-i-preserved
loop-i-preserved c = (omega arith, c.write.auto.out ∙ c.loop-i.invariant.1, c.loop-i.invariant.2 ∙ list_turn pattern 8 c.args.values.now (pos 0) c.loop-i.out c.args.at c.loop-i.i c.loop-i-test.true ∙ ap (λ (x : List ℕ). sets x (c.args.at + 8 * (c.loop-i.i + 1)) (listed pattern 8 (drop (c.loop-i.i + 1) c.args.values.now))) (sym (c.write.ensures ∙ ap (λ (n : ℕ). sets c.loop-i.out (c.args.at + 8 * c.loop-i.i) (bytes 8 n)) (read₁ pattern (get_or c.args.values.now c.loop-i.i (pos 0)) c.value-1.given c.unsigned.ensures))))

-- src/lib.rt:117:1
pub shape_of-out : goal.shape_of-out
shape_of-out c = c.loop-i.invariant.1

-- src/lib.rt:117:1
pub returns : goal.returns
returns c = sym (c.loop-i.invariant.2 ∙ list_end pattern 8 c.args.values.now c.loop-i.out (c.args.at + 8 * c.loop-i.i) c.loop-i.i c.loop-i-test.false)
