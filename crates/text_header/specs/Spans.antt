-- Runs of bytes of a class, and words.
-- Assumes nothing.
use Rattle.std.specs.Prelude.{ℕ, ◌+◌, Bool, true, false, cond, ◌&&◌, List, [], ◌∷◌, eqb, length}
use Rattle.text_header.specs.Bytes.{in_class, lower_case}
use Rattle.text_header.specs.declared.Class.{Class}

-- where the longest run of bytes of a class ends; the bytes stand from place i on
unfoldable pub span_end : Class → ℕ → List ℕ → ℕ
span_end class i [] = i
span_end class i (b ∷ bs) = elim (in_class class b) [ true ↦ span_end class (i + 1) bs | false ↦ i ]

-- the bytes begin with a word; `folded` says that the letter case does not matter, and then the word is in lower case
unfoldable pub starts : Bool → List ℕ → List ℕ → Bool
starts folded [] bs = true
starts folded (w ∷ ws) [] = false
starts folded (w ∷ ws) (b ∷ bs) = elim (eqb (cond folded (lower_case b) b) w) [ true ↦ starts folded ws bs | false ↦ false ]

-- the bytes are a word
abbrev pub is_word : Bool → List ℕ → List ℕ → Bool
is_word folded ws bs = eqb (length ws) (length bs) && starts folded ws bs
