-- Terms in words, three to a term: tag, low, high (docs/TABLE.md). The tags are those of the comment at the head of `src/lib.rt`.
-- Assumes nothing.
use Rattle.std.specs.Prelude.{ℕ, zero, suc, ◌+◌, ◌*◌, ◌-◌, ◌/◌, List, [], ◌∷◌, cond, ltb, eqb, length, get_or}
use Rattle.term_words.specs.declared.Operation.{Operation}
use Rattle.term_words.specs.declared.Comparison.{Comparison}
use Rattle.term_words.specs.declared.Term.{Term}

-- a number, a variable's use or a sign of a calculation
abbrev pub operation_of : ℕ → ℕ → ℕ → Operation
operation_of tag low high =
    cond (eqb tag 1) (Operation.Number (low + 4294967296 * high))
    (cond (eqb tag 2) (Operation.Variable low)
    (cond (eqb tag 3) Operation.Add
    (cond (eqb tag 4) Operation.Subtract
    (cond (eqb tag 5) Operation.Multiply
    (cond (eqb tag 6) Operation.Negate
    Operation.Unknown)))))

-- a sign of a set or of a condition
abbrev pub sign_of : ℕ → Term
sign_of tag =
    cond (eqb tag 7) Term.All
    (cond (eqb tag 8) Term.Range
    (cond (eqb tag 9) Term.From
    (cond (eqb tag 10) Term.UpTo
    (cond (eqb tag 11) Term.Or
    (cond (eqb tag 12) Term.Except
    (cond (eqb tag 13) Term.And
    (cond (eqb tag 14) (Term.Compare Comparison.Equal)
    (cond (eqb tag 15) (Term.Compare Comparison.Unequal)
    (cond (eqb tag 16) (Term.Compare Comparison.Less)
    (cond (eqb tag 17) (Term.Compare Comparison.AtMost)
    (cond (eqb tag 18) (Term.Compare Comparison.Greater)
    (cond (eqb tag 19) (Term.Compare Comparison.AtLeast)
    Term.Bad))))))))))))

-- a term; 32 more in the tag of a calculation's last term says that it is an item `a` of a set
unfoldable pub term_of : ℕ → ℕ → ℕ → Term
term_of tag low high =
    cond (ltb tag 7) (Term.Part (operation_of tag low high))
    (cond (ltb tag 32) (sign_of tag) (Term.Single (operation_of (tag - 32) low high)))

-- the term of a number
unfoldable pub term_at : List ℕ → ℕ → Term
term_at ws i =
    cond (ltb i (length ws / 3)) (term_of (get_or ws (i * 3) 0) (get_or ws (i * 3 + 1) 0) (get_or ws (i * 3 + 2) 0)) Term.Bad

-- `n` terms from number `i` on
unfoldable pub terms_from : List ℕ → ℕ → ℕ → List Term
terms_from ws i zero = []
terms_from ws i (suc n) = term_at ws i ∷ terms_from ws (i + 1) n

-- the terms from number `start` up to number `end`
abbrev pub terms : List ℕ → ℕ → ℕ → List Term
terms ws start end = terms_from ws start (end - start)
