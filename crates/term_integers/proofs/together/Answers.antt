use Prim.Native.Nat.{ℕ, ◌+◌, ◌^◌}
use mathlib.Core.Path.{ap, ◌∙◌}
use lib.Dec.{leb}
use lib.IntN.{nat_abs}
use Rattle.term_integers.proofs.Laws.{read₁}
use Rattle.term_integers.proofs.together.Goals as goal

pub returns : goal.returns
returns c =
    c.small.ensures ∙ ap (λ (m : ℕ). leb (m + c.magnitude-2.result) (2 ^ 62)) (read₁ nat_abs c.args.a c.ranges.a.sfits c.magnitude.ensures) ∙ ap (λ (n : ℕ). leb (nat_abs c.args.a + n) (2 ^ 62)) (read₁ nat_abs c.args.b c.ranges.b.sfits c.magnitude-2.ensures)
