use lib.ListN.{get_or}
use Prim.Native.Nat.{ℕ}
use mathlib.Core.Path.{ap, ◌∙◌}
use native.Mathlib.Omega.{arith}
use Rattle.table_weights.specs.Sweeps.{capped, joined}
use Rattle.table_weights.proofs.Parts.{gathering_none, gathering_more, gathering_all}
use borrow.Author.Rules.{rules}
use Rattle.table_weights.proofs.gather.Goals as goal

pub loop-j-init : goal.loop-j-init
loop-j-init c = (gathering_none _ _ _ _ _, search rules)

pub loop-j-preserved : goal.loop-j-preserved
loop-j-preserved c = let l = c.loop-j in let a = c.args in (gathering_more a.table.now (λ k. get_or a.weights.now k 0) a.adds a.first a.end l.j l.sum c.next_part-j.result c.combined-sum.result l.invariant.0 c.next_part-j.ensures.0 (c.next_part-j.ensures.2 a.end) (c.combined-sum.ensures ∙ ap (λ (x : ℕ). capped (joined a.adds l.sum x)) c.word.ensures.0), omega (arith, c.combined-sum.ensures))

pub returns : goal.returns
returns c = let l = c.loop-j in let a = c.args in (gathering_all a.table.now (λ k. get_or a.weights.now k 0) a.adds a.first a.end l.j l.sum l.invariant.0 c.loop-j-test.false l.invariant.1, l.invariant.1)
