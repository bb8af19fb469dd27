use Prim.Native.Nat.{suc, ◌+◌, ◌≤◌, ◌<◌}
use mathlib.Core.Path.{◌≡◌, refl, sym, ap, ◌∙◌}
use native.Mathlib.Omega.{arith}
use lib.ListN.{length, get_or, set, take, drop, length-set}
use lib.Seq.{paste, paste-zero, paste-suc, take-paste, drop-paste, take_all}
use Rattle.basis.specs.Limits.{table_words}
use Rattle.text_admission.proofs.copying.copy.Goals as goal

pub loop-k-init : goal.loop-k-init
loop-k-init c = (omega arith, paste-zero c.args.table.now 0 c.args.words.now, refl)

pub loop-k-preserved : goal.loop-k-preserved
loop-k-preserved c = let k = c.loop-k.k in let l : k < length c.args.words.now = omega arith in let m : 0 + k < length c.args.table.now = omega arith in let z : 0 + k ≡ k = omega arith in let y : suc k ≡ k + 1 = omega arith in (omega arith, (λ t. set (c.loop-k.invariant.1 t) (sym z t) (get_or c.args.words.now k 0)) ∙ paste-suc c.args.table.now 0 c.args.words.now k 0 m l ∙ ap (paste c.args.table.now 0 c.args.words.now) y, length-set c.loop-k.table k (get_or c.args.words.now k 0) ∙ c.loop-k.invariant.2)

pub shape_of-table : goal.shape_of-table
shape_of-table c = c.loop-k.invariant.2

pub returns : goal.returns
returns c = let words = c.args.words.now in let table = c.args.table.now in let long : table_words ≤ length words = omega arith in let z : c.loop-k.k ≡ table_words = omega arith in let e = c.loop-k.invariant.1 ∙ ap (paste table 0 words) z in (ap (take table_words) e ∙ take-paste table 0 words table_words (omega arith) long ∙ take_all table_words words (omega arith), ap (drop table_words) e ∙ drop-paste table 0 words table_words (omega arith) long, c.loop-k.invariant.2)
