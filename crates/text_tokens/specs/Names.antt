-- Names. "Reserved: sized, aligned, reversed, ordered, byte_order, bom_ordered, peek, offset, var, eod, unicode, uint, sint, float, inf, nan,
-- nzero, ordering, unicode_categories, msb, lsb."
-- Assumes nothing.
use Rattle.std.specs.Prelude.{ℕ, ◌+◌, ◌-◌, Bool, false, cond, List, [], ◌∷◌, take, drop}
use Rattle.text_header.specs.Spans.{is_word}

-- the words, each as its bytes
abbrev pub reserved_words : List (List ℕ)
reserved_words =
    -- sized
    (115 ∷ 105 ∷ 122 ∷ 101 ∷ 100 ∷ [])
    ∷  -- aligned
    (97 ∷ 108 ∷ 105 ∷ 103 ∷ 110 ∷ 101 ∷ 100 ∷ [])
    ∷  -- reversed
    (114 ∷ 101 ∷ 118 ∷ 101 ∷ 114 ∷ 115 ∷ 101 ∷ 100 ∷ [])
    ∷  -- ordered
    (111 ∷ 114 ∷ 100 ∷ 101 ∷ 114 ∷ 101 ∷ 100 ∷ [])
    ∷  -- byte_order
    (98 ∷ 121 ∷ 116 ∷ 101 ∷ 95 ∷ 111 ∷ 114 ∷ 100 ∷ 101 ∷ 114 ∷ [])
    ∷  -- bom_ordered
    (98 ∷ 111 ∷ 109 ∷ 95 ∷ 111 ∷ 114 ∷ 100 ∷ 101 ∷ 114 ∷ 101 ∷ 100 ∷ [])
    ∷  -- peek
    (112 ∷ 101 ∷ 101 ∷ 107 ∷ [])
    ∷  -- offset
    (111 ∷ 102 ∷ 102 ∷ 115 ∷ 101 ∷ 116 ∷ [])
    ∷  -- var
    (118 ∷ 97 ∷ 114 ∷ [])
    ∷  -- eod
    (101 ∷ 111 ∷ 100 ∷ [])
    ∷  -- unicode
    (117 ∷ 110 ∷ 105 ∷ 99 ∷ 111 ∷ 100 ∷ 101 ∷ [])
    ∷  -- uint
    (117 ∷ 105 ∷ 110 ∷ 116 ∷ [])
    ∷  -- sint
    (115 ∷ 105 ∷ 110 ∷ 116 ∷ [])
    ∷  -- float
    (102 ∷ 108 ∷ 111 ∷ 97 ∷ 116 ∷ [])
    ∷  -- inf
    (105 ∷ 110 ∷ 102 ∷ [])
    ∷  -- nan
    (110 ∷ 97 ∷ 110 ∷ [])
    ∷  -- nzero
    (110 ∷ 122 ∷ 101 ∷ 114 ∷ 111 ∷ [])
    ∷  -- ordering
    (111 ∷ 114 ∷ 100 ∷ 101 ∷ 114 ∷ 105 ∷ 110 ∷ 103 ∷ [])
    ∷  -- unicode_categories
    (117 ∷ 110 ∷ 105 ∷ 99 ∷ 111 ∷ 100 ∷ 101 ∷ 95 ∷ 99 ∷ 97 ∷ 116 ∷ 101 ∷ 103 ∷ 111 ∷ 114 ∷ 105 ∷ 101 ∷ 115 ∷ [])
    ∷  -- msb
    (109 ∷ 115 ∷ 98 ∷ [])
    ∷  -- lsb
    (108 ∷ 115 ∷ 98 ∷ [])
    ∷ []

-- the number of a word in a list whose first has number k; 0 where it is none of them
unfoldable pub word_number : ℕ → List (List ℕ) → List ℕ → ℕ
word_number k [] name = 0
word_number k (word ∷ more) name = cond (is_word false word name) k (word_number (k + 1) more name)

-- a reserved word by its number, from 1; 0 of any other name
abbrev pub reserved_of : List ℕ → ℕ
reserved_of name = word_number 1 reserved_words name

-- the bytes of a name from `start` up to `end`
abbrev pub name_of : List ℕ → ℕ → ℕ → List ℕ
name_of xs start end = take (end - start) (drop start xs)

-- two names are one
abbrev pub is_same : List ℕ → List ℕ → Bool
is_same a b = is_word false a b
