use mathlib.Core.List.{List}
use mathlib.Core.Path.{subst}
use Prim.Native.Nat.{ℕ}
use Rattle.lookahead.specs.Sets.{Is}
use Rattle.table_first_follow.specs.Fields.{Led, Named}
use Rattle.table_first_follow.proofs.fields.uint.Goals as goal

pub returns : goal.returns
returns c =
    let a = c.args in
    subst (λ (words : List ℕ). Is c.leading.result.words (Named (Led a.width a.signed words a.start a.end))) c.term_words.ensures c.leading.ensures
