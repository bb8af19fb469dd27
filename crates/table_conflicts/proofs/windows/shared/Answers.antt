use Rattle.std.specs.Prelude.{ℕ, ◌≡◌, List, Option, Some, None, unwrap_or}
use Rattle.basis.specs.Bits.{Bits}
use Rattle.lookahead.specs.Sets.{Has}
use Rattle.lookahead.specs.Least.{LeastCommon}
use Rattle.table_conflicts.specs.Windows.{Lowest}
use Rattle.table_conflicts.proofs.Lows.{lowest_none, lowest_some}
use Rattle.table_conflicts.proofs.windows.shared.Goals as goal

lowest_or : (x y : List ℕ) (o : Option ℕ) (n : ℕ) → LeastCommon x y o → n ≡ unwrap_or o 0 → Lowest (λ (s : Bits). Has x s × Has y s) n
lowest_or x y None n l e = rw e (lowest_none _ (λ s h. l s h.0 h.1))
lowest_or x y (Some m) n l e = rw e (lowest_some _ _ (l.0.0, l.0.1, (l.0.2, l.0.3)) (λ s h. l.1 s h.0 h.1))

pub returns : goal.returns
returns c = lowest_or c.args.a.words c.args.b.words _ _ c.least_common.ensures c.unwrap_or.ensures
