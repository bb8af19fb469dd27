use Rattle.table_sizes.specs.Measures.{LeastOf}
use Prim.Native.Nat.{ℕ}
use mathlib.Core.Path.{◌≡◌, sym, subst, ◌∙◌}
use mathlib.Core.Bool.{true, false≢true}
use native.Mathlib.Omega.{arith}
use borrow.Author.Count.{below_more}
use Rattle.table_sizes.specs.Measures.{oversized}
use Rattle.table_sizes.proofs.LeastLaws.{least_here, least_none}
use Rattle.table_sizes.proofs.search.Goals as goal

pub loop-i-init : goal.loop-i-init
loop-i-init c = ((λ j h. absurd (omega arith)), omega arith)

pub returns-then-oversized : goal.returns-then-oversized
returns-then-oversized c = least_here _ _ _ (omega (arith, c.loop-i-test.true, c.word-count.ensures.0)) (sym c.oversized.ensures ∙ c.if-oversized.true) c.loop-i.invariant.0

pub loop-i-preserved : goal.loop-i-preserved
loop-i-preserved c = (below_more _ _ c.loop-i.invariant.0 (λ e. absurd (false≢true (sym c.if-oversized.false ∙ c.oversized.ensures ∙ e))), omega (arith, c.loop-i-test.true))

pub returns : goal.returns
returns c = subst (λ (n : ℕ). LeastOf (λ (i : ℕ). oversized c.args.table.now i ≡ true) n c.word-count.result) c.word-count.ensures.0 (least_none _ _ (λ j h. c.loop-i.invariant.0 j (omega (arith, c.loop-i-test.false))))
