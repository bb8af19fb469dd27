use Prim.Native.Nat.{ℕ}
use mathlib.Core.Path.{ap, ◌∙◌}
use lib.IntN.{ℤ, pos, ◌+ℤ◌}
use Rattle.term_integers.proofs.Laws.{read₁}
use Rattle.term_membership.specs.Effects.{end_of, low_of}
use Rattle.term_membership.proofs.effects.item.Goals as goal

pub returns : goal.returns
returns c =
    let a = c.args in
    read₁ (λ (z : ℤ). end_of c.raised.result (z +ℤ pos a.offset)) a.b c.ranges.b.sfits c.up_to.ensures
    ∙ ap (λ (n : ℕ). end_of n (a.b +ℤ pos a.offset)) (read₁ (low_of a.offset) a.a c.ranges.a.sfits c.raised.ensures)
