use Prim.Native.Nat.{ℕ}
use mathlib.Core.Path.{ap, ◌∙◌}
use Rattle.term_integers.proofs.Laws.{read₁}
use Rattle.term_evaluation.proofs.Counting.{open_is}
use Rattle.basis.specs.Counts.{least}
use Rattle.term_evaluation.proofs.counts.open.Goals as goal
use Rattle.std.specs.Prelude.{Ok}
use Rattle.term_evaluation.specs.declared.Allowed.{Allowed}

pub returns : goal.returns
returns c = ap (λ (m : ℕ). (Ok (Allowed.From m))) (read₁ least c.args.a c.ranges.a.sfits c.from_zero.ensures) ∙ open_is c.args.a
