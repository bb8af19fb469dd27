use mathlib.Core.Bool.{true, false}
use mathlib.Core.Path.{◌≡◌, sym, ◌∙◌}
use lib.Signed.{le_z}
use Rattle.term_integers.proofs.Laws.{read₂, equals_if, equals_not}
use Rattle.term_integers.proofs.equal.Goals as goal

pub returns-then-at_most : goal.returns-then-at_most
returns-then-at_most c =
    let h : le_z c.args.a c.args.b ≡ true = sym (read₂ le_z c.args.a c.args.b c.ranges.a.sfits c.ranges.b.sfits c.at_most.ensures) ∙ c.if-at_most.true in
    read₂ le_z c.args.b c.args.a c.ranges.b.sfits c.ranges.a.sfits c.at_most-then-at_most.ensures ∙ equals_if c.args.a c.args.b h

pub returns-else-at_most : goal.returns-else-at_most
returns-else-at_most c =
    let h : le_z c.args.a c.args.b ≡ false = sym (read₂ le_z c.args.a c.args.b c.ranges.a.sfits c.ranges.b.sfits c.at_most.ensures) ∙ c.if-at_most.false in
    c.if-at_most.false ∙ equals_not c.args.a c.args.b h
