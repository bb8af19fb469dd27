-- What short lists of terms are tested by. Only the crate's own helpers promise this.
-- Assumes nothing.
use Rattle.std.specs.Prelude.{ℕ, ◌≡◌, cond, List, eqb, ℤ}
use Rattle.term_words.specs.Numbers.{pushed}
use Rattle.term_words.specs.Steps.{operate_of}
use Rattle.term_words.specs.declared.Comparison.{Comparison}
use Rattle.term_words.specs.declared.Mode.{Mode}
use Rattle.term_words.specs.declared.Numbers.{Numbers}
use Rattle.term_words.specs.declared.Operation.{Operation}
use Rattle.term_words.specs.declared.Term.{Term}

-- a term that is a part of a calculation and adds the number z to those that wait
abbrev pub Puts : List ℤ → Term → ℤ → Type 0
Puts env x z = (o : Operation) × (x ≡ Term.Part o) × ((s : Numbers) → operate_of Mode.Values env o s ≡ pushed s z)

-- the comparison of a tag from 14 to 19
abbrev pub comparison_of : ℕ → Comparison
comparison_of tag =
    cond (eqb tag 14) Comparison.Equal
    (cond (eqb tag 15) Comparison.Unequal
    (cond (eqb tag 16) Comparison.Less
    (cond (eqb tag 17) Comparison.AtMost
    (cond (eqb tag 18) Comparison.Greater
    Comparison.AtLeast))))
