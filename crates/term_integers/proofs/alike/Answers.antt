use mathlib.Core.Bool.{true, false, not}
use mathlib.Core.Path.{◌≡◌, sym, ◌∙◌}
use lib.IntN.{ℤ, pos}
use lib.Signed.{le_z, non_neg}
use Rattle.term_integers.proofs.Laws.{read₁, sign_alike, positive_alike, zero_at_most}
use Rattle.term_integers.proofs.alike.Goals as goal

pub returns-then-negative : goal.returns-then-negative
returns-then-negative c =
    let h : not (non_neg c.args.a) ≡ true = sym (read₁ (λ (z : ℤ). not (non_neg z)) c.args.a c.ranges.a.sfits c.negative.ensures) ∙ c.if-negative.true in
    read₁ (λ (z : ℤ). not (non_neg z)) c.args.b c.ranges.b.sfits c.negative-then-negative.ensures ∙ sign_alike c.args.a c.args.b h

pub returns-else-negative : goal.returns-else-negative
returns-else-negative c =
    let h : not (non_neg c.args.a) ≡ false = sym (read₁ (λ (z : ℤ). not (non_neg z)) c.args.a c.ranges.a.sfits c.negative.ensures) ∙ c.if-negative.false in
    read₁ (le_z (pos 0)) c.args.b c.ranges.b.sfits c.at_most.ensures ∙ zero_at_most c.args.b ∙ positive_alike c.args.a c.args.b h
