use Prim.Native.Nat.{ℕ, ◌+◌}
use mathlib.Core.Path.{◌≡◌, refl, subst}
use Rattle.term_prefixes.proofs.MarkLaws.{multiple_fits, filled_none, filled_more}
use borrow.Author.Rules.{rules}
use native.Mathlib.Omega.{arith}
use Rattle.term_prefixes.specs.Marks.{Filled}
use Rattle.term_prefixes.proofs.marks.fill.Goals as goal

pub loop-j-init : goal.loop-j-init
loop-j-init c = (filled_none _ _ _ c.requires.0, search rules)

pub overflow_mul-values : goal.overflow_mul-values
overflow_mul-values c = record { fits = multiple_fits (c.args.first + c.loop-j.j) c.args.block (omega arith) (omega arith) }

pub loop-j-preserved : goal.loop-j-preserved
loop-j-preserved c = (filled_more _ _ _ _ _ c.loop-j-test.true c.loop-j.invariant.0 refl, search rules)

pub returns : goal.returns
returns c = let e : c.loop-j.j ≡ 64 = omega arith in subst (λ (n : ℕ). Filled c.args.first c.args.block n c.loop-j.values) e c.loop-j.invariant.0
