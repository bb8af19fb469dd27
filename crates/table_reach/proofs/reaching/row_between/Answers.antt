use Prim.Native.Nat.{ℕ, max}
use mathlib.Core.Path.{ap, ◌∙◌}
use mathlib.Core.Bool.{cond}
use native.Mathlib.Omega.{arith}
use lib.Dec.{eqb}
use Rattle.lookahead.specs.Sets.{bit}
use Rattle.lookahead.proofs.BitLaws.{bit_none}
use Rattle.table_reach.specs.Closure.{used_rule, calls}
use Rattle.table_reach.proofs.Searches.{some_none, turn}
use borrow.Author.Rules.{rules}
use Rattle.table_reach.proofs.reaching.row_between.Goals as goal

pub loop-i-init : goal.loop-i-init
loop-i-init c = ((λ q h. simp bit_none (omega arith)), search rules)

pub loop-i-preserved : goal.loop-i-preserved
loop-i-preserved c = let l = c.loop-i in ((λ q h. turn _ _ _ _ _ _ c.loop-i-test.true (l.invariant.0 q h) (c.with_use-row.ensures q h ∙ ap (λ (x : ℕ). max (bit l.row q) (cond (eqb x q) 1 0)) (c.rule_used.ensures ∙ ap used_rule c.construct_at.ensures))), search rules)

pub returns : goal.returns
returns c = λ q h. let e = c.loop-i.invariant.0 q h in let f = some_none (calls c.args.table.now q) c.loop-i.i c.args.end c.loop-i-test.false in omega arith
