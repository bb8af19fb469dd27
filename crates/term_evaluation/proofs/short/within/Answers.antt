use Prim.Native.Nat.{ℕ, ◌^◌}
use mathlib.Core.Path.{ap}
use lib.Dec.{leb}
use lib.IntN.{nat_abs}
use Rattle.term_integers.proofs.Laws.{read₁}
use Rattle.term_evaluation.proofs.short.within.Goals as goal

pub returns : goal.returns
returns c = ap (λ (n : ℕ). leb n (2 ^ 62)) (read₁ nat_abs c.args.a c.ranges.a.sfits c.magnitude.ensures)
