use mathlib.Core.Path.{sym, ap, ◌∙◌}
use lib.IntN.{pos}
use lib.ListN.{get_or}
use Rattle.term_integers.proofs.Laws.{back}
use Rattle.run_grants.specs.declared.Run.{Run}
use Rattle.songrafter.proofs.CallLaws.{values_end}
use Rattle.songrafter.proofs.songrafter_value.Goals as goal

-- src/lib.rt:236:9
pub returns-then-k-lt-MAX_VARIABLES : goal.returns-then-k-lt-MAX_VARIABLES
returns-then-k-lt-MAX_VARIABLES c = let b = back (get_or c.decode.result.values c.args.k (pos 0)) c.result-1.given in b ∙ ap (λ (r : Run). get_or r.values c.args.k (pos 0)) c.decode.ensures.0

-- src/lib.rt:223:1
pub returns : goal.returns
returns c = sym (values_end c.args.run.now c.args.k c.if-k-lt-MAX_VARIABLES.false)
