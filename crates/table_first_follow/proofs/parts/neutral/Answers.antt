use mathlib.Core.Bool.{Bool}
use mathlib.Core.Path.{sym, subst}
use Rattle.basis.specs.Bits.{Bits}
use Rattle.lookahead.proofs.PassLaws.{no_pass}
use Rattle.lookahead.specs.Sets.{Is}
use Rattle.table_first_follow.specs.Parts.{Neutral}
use Rattle.table_first_follow.proofs.parts.neutral.Goals as goal

pub returns-then-joined : goal.returns-then-joined
returns-then-joined c = subst (λ (j : Bool). Is c.single.result.words (Neutral j)) (sym c.if-joined.true) (no_pass (λ (s : Bits). ⊥) c.single.result.words c.single.ensures)

pub returns : goal.returns
returns c = subst (λ (j : Bool). Is c.empty.result.words (Neutral j)) (sym c.if-joined.false) c.empty.ensures
