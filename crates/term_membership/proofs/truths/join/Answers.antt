use Prim.Native.Nat.{ℕ}
use mathlib.Core.Logic.{⊎_elim}
use mathlib.Core.Path.{ap₂, ◌∙◌}
use lib.Dec.{eqb}
use Rattle.basis.specs.Bits.{digit}
use Rattle.lookahead.specs.Sets.{bit}
use Rattle.term_words.specs.Tests.{joins}
use Rattle.term_membership.proofs.Rounds.{joined_none, joined_over, joined_anew}
use Rattle.term_membership.proofs.truths.join.Goals as goal

pub returns-then-count-lt2 : goal.returns-then-count-lt2
returns-then-count-lt2 c =
    let a = c.args in
    ⊎_elim (λ h. joined_none a.masks.now c.requires a.joint a.count h) (λ h. joined_over a.masks.now c.requires a.joint a.count h.1) c.then-count-lt2.either

pub returns : goal.returns
returns c =
    let s = c in
    joined_anew s.args.masks.now s.requires s.args.joint s.args.count c.both.result c.if-count-lt2.false c.if-count-gt62.false
    (λ j. c.both.ensures j ∙ ap₂ (λ (x y : ℕ). digit (joins s.args.joint (eqb (bit x j) 1) (eqb (bit y j) 1))) c.same.ensures c.same-2.ensures)
