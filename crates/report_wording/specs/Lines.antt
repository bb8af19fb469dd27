-- Lines of a text: each ends with its LF.
-- Assumes nothing.
use Rattle.std.specs.Prelude.{ℕ, zero, suc, ◌+◌, ◌-◌, ◌≤◌, ◌≡◌, cond, List, eqb, get_or, drop}
use Rattle.text_header.specs.Spans.{span_end}
use Rattle.text_header.specs.declared.Class.{Class}

-- how many lines end before a place
unfoldable pub lines_before : List ℕ → ℕ → ℕ
lines_before text zero = 0
lines_before text (suc i) = cond (eqb (get_or text i 0) 10) (lines_before text i + 1) (lines_before text i)

-- the first byte of the line that a place is in
unfoldable pub line_start : List ℕ → ℕ → ℕ
line_start text zero = 0
line_start text (suc i) = cond (eqb (get_or text i 0) 10) (i + 1) (line_start text i)

-- where the line ends, without its LF or CR LF; the byte in front of a line's first is no CR
abbrev pub ended : List ℕ → ℕ → ℕ
ended text end = cond (eqb (get_or text (end - 1) 0) 13) (end - 1) end

abbrev pub line_end : List ℕ → ℕ → ℕ
line_end text at = ended text (span_end (Class.Except 10) at (drop at text))

-- what a walk over a text knows at a place, short of the place it is to reach
pub record Walked (text : List ℕ) (at i before start : ℕ) : Type 0 where
  pub count : before ≡ lines_before text i
  pub first : start ≡ line_start text i
  pub few : before ≤ i
  pub short : i ≤ at
