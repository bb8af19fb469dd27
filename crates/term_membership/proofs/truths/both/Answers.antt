use mathlib.Core.Path.{sym, ap, ◌∙◌}
use lib.Bits.{bit_and}
use lib.Dec.{eqb}
use Rattle.basis.specs.Bits.{digit}
use Rattle.lookahead.specs.Sets.{bit}
use Rattle.lookahead.proofs.BitLaws.{bit_lt, bit-or, bit-and}
use Rattle.term_words.specs.Tests.{joins}
use Rattle.term_words.specs.declared.Joint.{Joint}
use Rattle.term_membership.proofs.Rounds.{or_digit, and_digit, except_digit, bit-xor}
use lib.Bits.{differ}
use Rattle.term_membership.proofs.truths.both.Goals as goal

pub returns-in-Or : goal.returns-in-Or
returns-in-Or c =
    let a = c.args in
    λ j. bit-or a.x a.y j ∙ or_digit (bit a.x j) (bit a.y j) (bit_lt a.x j) (bit_lt a.y j) ∙ ap (λ (g : Joint). digit (joins g (eqb (bit a.x j) 1) (eqb (bit a.y j) 1))) (sym c.in-Or.is)

pub returns-in-And : goal.returns-in-And
returns-in-And c =
    let a = c.args in
    λ j. bit-and a.x a.y j ∙ and_digit (bit a.x j) (bit a.y j) (bit_lt a.x j) (bit_lt a.y j) ∙ ap (λ (g : Joint). digit (joins g (eqb (bit a.x j) 1) (eqb (bit a.y j) 1))) (sym c.in-And.is)

pub returns-in-Except : goal.returns-in-Except
returns-in-Except c =
    let a = c.args in
    λ j. bit-xor a.x (bit_and a.x a.y) j ∙ ap (differ (bit a.x j)) (bit-and a.x a.y j) ∙ except_digit (bit a.x j) (bit a.y j) (bit_lt a.x j) (bit_lt a.y j) ∙ ap (λ (g : Joint). digit (joins g (eqb (bit a.x j) 1) (eqb (bit a.y j) 1))) (sym c.in-Except.is)
