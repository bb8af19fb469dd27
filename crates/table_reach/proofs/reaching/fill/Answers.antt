use lib.ListN.{length-set}
use Prim.Native.Nat.{ℕ, ◌<◌}
use mathlib.Core.Path.{◌≡◌, ◌∙◌}
use native.Mathlib.Omega.{arith}
use Rattle.basis.specs.Limits.{max_rules}
use Rattle.lookahead.specs.Sets.{bit}
use Rattle.table_reach.specs.Closure.{uses}
use Rattle.table_reach.proofs.Rows.{write_next}
use borrow.Author.Rules.{rules}
use Rattle.table_reach.proofs.reaching.fill.Goals as goal

pub loop-r-init : goal.loop-r-init
loop-r-init c = (c.requires, (λ i h. absurd (omega arith)), search rules)

pub loop-r-preserved : goal.loop-r-preserved
loop-r-preserved c = let l = c.loop-r in (length-set l.rows l.r c.row_of.result ∙ l.invariant.0, write_next (λ i w. (q : ℕ) → q < max_rules → bit w q ≡ uses c.args.table.now i q) l.rows l.r c.row_of.result (omega (arith, l.invariant.0)) l.invariant.1 c.row_of.ensures, search rules)

pub returns : goal.returns
returns c = let l = c.loop-r in record { many = l.invariant.0; entry = λ r q h j. l.invariant.1 r (omega arith) q j }
