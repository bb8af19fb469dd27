use lib.ListN.{get_or}
use Prim.Native.Nat.{ℕ}
use mathlib.Core.Path.{ap, ◌∙◌}
use native.Mathlib.Nat.{add-zero}
use Rattle.table_weights.proofs.body_weight.Goals as goal

pub returns : goal.returns
returns c = (c.word-2.ensures.0 ∙ ap (λ (k : ℕ). get_or c.args.weights.now k 0) (simp add-zero c.word.ensures.0), c.word-2.ensures.1)
