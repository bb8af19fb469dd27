use Prim.Native.Nat.{min}
use mathlib.Core.Path.{ap, ◌∙◌}
use native.Mathlib.Omega.{arith}
use native.Mathlib.Nat.{add-zero}
use borrow.Author.Tests.{le-ltb}
use Rattle.basis.specs.Limits.{max_constructs}
use Rattle.lookahead.proofs.BitLaws.{bit_none}
use Rattle.table_reach.proofs.ReachLaws.{uses_row}
use Rattle.table_reach.proofs.reaching.row_of.Goals as goal

pub returns-then-word-r : goal.returns-then-word-r
returns-then-word-r c = λ q h. simp (← c.word.ensures.0, le-ltb _ _ c.if-word-r.true) (bit_none q)

pub returns : goal.returns
returns c = λ q h. c.row_between.ensures q h ∙ uses_row c.args.table.now c.args.r q _ _ (omega (arith, c.word.ensures.0)) (simp add-zero c.word-2.ensures.0) (c.at_most.ensures ∙ ap (min max_constructs) c.end_of.ensures)
