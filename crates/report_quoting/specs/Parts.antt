-- Where a part of a grammar ends, by the code of the token after it.
-- Assumes nothing.
use Rattle.std.specs.Prelude.{ℕ, zero, suc, Bool, true, false, ◌||◌, ◌&&◌, List, eqb}
use Rattle.text_parsing.specs.Terminals.{terminal_of}
use Rattle.report_wording.specs.Nesting.{nested}
use Rattle.report_quoting.specs.declared.quoting.Part.{Part}

-- the text's end, and a token that can stand nowhere
unfoldable pub is_never : ℕ → Bool
is_never code = eqb code 4 || eqb code 5

-- ; ) ]
unfoldable pub ends_whole : ℕ → Bool
ends_whole code = eqb code 59 || (eqb code 41 || eqb code 93)

-- also |
unfoldable pub ends_branch : ℕ → Bool
ends_branch code = eqb code 124 || ends_whole code

-- also &
unfoldable pub ends_member : ℕ → Bool
ends_member code = eqb code 38 || ends_branch code

-- ? * + {
unfoldable pub is_mark : ℕ → Bool
is_mark code = (eqb code 63 || eqb code 42) || (eqb code 43 || eqb code 123)

abbrev pub ends_at : Part → ℕ → Bool
ends_at Part.Whole code = ends_whole code
ends_at Part.Branch code = ends_branch code
ends_at Part.Member code = ends_member code
ends_at Part.Field code = is_mark code || ends_member code

-- outside of brackets
abbrev pub ends : Part → (code depth : ℕ) → Bool
ends part code depth = is_never code || (eqb depth 0 && ends_at part code)

-- the place after a part's last token, with at most n tokens from `here` on
unfoldable pub part_end : ℕ → List ℕ → Part → (here depth : ℕ) → ℕ
part_end zero text part here depth = here
part_end (suc n) text part here depth =
    elim (ends part (terminal_of text here).code depth) [
      | true ↦ here
      | false ↦ part_end n text part (terminal_of text here).end (nested (terminal_of text here).code depth)
    ]
