use native.Mathlib.Nat.{add-zero}
use Rattle.table_first_follow.proofs.rules.body_of.Goals as goal

pub returns : goal.returns
returns c = simp add-zero c.word.ensures.0
