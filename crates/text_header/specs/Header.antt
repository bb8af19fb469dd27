-- The header: refusal 3.
-- Assumes nothing.
use Rattle.std.specs.Prelude.{ℕ, ◌+◌, ◌-◌, Bool, true, false, cond, ◌&&◌, List, [], ◌∷◌, leb, ltb, eqb, length, get_or, take, drop}
use Rattle.text_header.specs.Bytes.{is_blank}
use Rattle.text_header.specs.Spans.{span_end, starts, is_word}
use Rattle.text_header.specs.declared.Class.{Class}
use Rattle.text_header.specs.declared.Heading.{Heading}

-- ---- lines

-- a byte in front of the first line; a line with no LF is none
abbrev pub in_front : ℕ → List (List ℕ) → List (List ℕ)
in_front b [] = []
in_front b (line ∷ more) = (b ∷ line) ∷ more

-- the bytes before each LF
unfoldable pub lines : List ℕ → List (List ℕ)
lines [] = []
lines (b ∷ bs) = elim (eqb b 10) [ true ↦ [] ∷ lines bs | false ↦ in_front b (lines bs) ]

-- "A line ends with LF, or CR LF"
unfoldable pub content : List ℕ → List ℕ
content line = cond (eqb (get_or line (length line - 1) 0) 13) (take (length line - 1) line) line

-- ---- "First line: `dogma_v1`, one or more spaces or tabs, `utf-8` in any letter case."

-- this letter case only
abbrev pub dogma_v1 : List ℕ
dogma_v1 = 100 ∷ 111 ∷ 103 ∷ 109 ∷ 97 ∷ 95 ∷ 118 ∷ 49 ∷ []

-- in lower case
abbrev pub utf_8 : List ℕ
utf_8 = 117 ∷ 116 ∷ 102 ∷ 45 ∷ 56 ∷ []

-- where the blanks after `dogma_v1` end
abbrev pub blanks_end : List ℕ → ℕ
blanks_end line = span_end Class.Blank 8 (drop 8 line)

-- a first line without its end
unfoldable pub is_first_line : List ℕ → Bool
is_first_line line = starts false dogma_v1 line && (leb 9 (blanks_end line) && is_word true utf_8 (drop (blanks_end line) line))

-- ---- "header lines (`-`, spaces or tabs, a name, `=`, a value; each one or more bytes 20 to 7e or tabs, the name without `=`)"

-- where the first `=` after `-` and a blank stands. What is before it is further blanks and the name, so that a blank may be the name.
abbrev pub equals_at : List ℕ → ℕ
equals_at line = span_end (Class.Except 61) 2 (drop 2 line)

-- a header line without its end; `Split.HeaderLine` has its parts
unfoldable pub is_header_line : List ℕ → Bool
is_header_line line =
    (eqb (get_or line 0 0) 45 && is_blank (get_or line 1 0)) && ((leb 3 (equals_at line) && ltb (equals_at line + 1) (length line)) && eqb (span_end Class.Header 0 line) (length line))

-- ---- "then an empty line"; 3: "header wrong", at the "start of the line, an unended one too (text's end if none)"

-- the header lines from place `at` on
unfoldable pub header_lines_of : ℕ → List (List ℕ) → Heading
header_lines_of at [] = Heading.Wrong at
header_lines_of at (line ∷ more) =
    elim (eqb (length (content line)) 0) [
      | true ↦ Heading.Rules (at + length line + 1)
      | false ↦ elim (is_header_line (content line)) [ true ↦ header_lines_of (at + length line + 1) more | false ↦ Heading.Wrong at ]
    ]

-- the first line, and then the header lines
abbrev pub first_of : List (List ℕ) → Heading
first_of [] = Heading.Wrong 0
first_of (line ∷ more) = elim (is_first_line (content line)) [ true ↦ header_lines_of (length line + 1) more | false ↦ Heading.Wrong 0 ]

-- where the rules begin, or the place of the refusal
abbrev pub header_of : List ℕ → Heading
header_of text = first_of (lines text)
