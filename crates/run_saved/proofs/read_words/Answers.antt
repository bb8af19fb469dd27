use Prim.Native.Nat.{ℕ, ◌+◌, ◌*◌, ◌-◌}
use native.Mathlib.Omega.{arith}
use mathlib.Core.Path.{refl, sym, ap, ◌∙◌}
use lib.ListN.{drop, set, replicate, length-set, length-replicate}
use lib.Seq.{sets}
use Rattle.basis.specs.Limits.{max_entries}
use Rattle.run_saved.specs.Saved.{numbers, plain}
use Rattle.run_saved.proofs.Bytes.{numbers_start, numbers_turn, numbers_end}
use Rattle.run_saved.proofs.read_words.Goals as goal

-- src/lib.rt:53:5
pub loop-i-init : goal.loop-i-init
loop-i-init c = (omega arith, refl, numbers_start plain 4 c.args.bytes.now (replicate max_entries 0) c.args.at max_entries (length-replicate {A = ℕ} max_entries 0))

-- src/lib.rt:53:5
pub loop-i-preserved : goal.loop-i-preserved
loop-i-preserved c = (omega arith, length-set c.loop-i.words c.loop-i.i c.read_word-word.result ∙ c.loop-i.invariant.1, c.loop-i.invariant.2 ∙ numbers_turn plain 4 c.args.bytes.now c.loop-i.words c.args.at c.loop-i.i max_entries c.loop-i-test.true ∙ ap (λ (x : ℕ). sets (set c.loop-i.words c.loop-i.i x) (c.loop-i.i + 1) (numbers plain 4 (max_entries - (c.loop-i.i + 1)) (drop (c.args.at + 4 * (c.loop-i.i + 1)) c.args.bytes.now))) (sym c.read_word-word.ensures))

-- src/lib.rt:47:1
pub returns : goal.returns
returns c = sym (c.loop-i.invariant.2 ∙ numbers_end plain 4 (drop (c.args.at + 4 * c.loop-i.i) c.args.bytes.now) c.loop-i.words c.loop-i.i (max_entries - c.loop-i.i) (omega arith))
