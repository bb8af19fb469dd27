-- Lines of hexadecimal: "frames from standard input, each a line of hexadecimal; over 512 characters is 21, tried before 20";
-- "the bench program's line length (2,048 characters)" (Req 10).
-- Assumes nothing.
use Rattle.std.specs.Prelude.{ℕ, ◌+◌, ◌*◌, ◌/◌, ◌%◌, Bool, cond, ◌&&◌, List, [], ◌∷◌, eqb, ltb, length}
use Rattle.basis.specs.Limits.{max_frame_bytes}
use Rattle.text_header.specs.Bytes.{digit_of}
use Rattle.text_header.specs.Spans.{span_end}
use Rattle.text_header.specs.declared.Class.{Class}
use Rattle.bench_hexadecimal.specs.declared.Line.{Line}

-- over 2,048 characters is 21: two for each byte of a frame
abbrev pub max_line : ℕ
max_line = 2 * max_frame_bytes

-- "an even number of hex digits"
unfoldable pub is_frame : List ℕ → Bool
is_frame line = eqb (length line % 2) 0 && eqb (span_end (Class.Digit 16) 0 line) (length line)

-- what a line without its end is: a frame over 1,024 bytes first, then "a line not an even number of hex digits"; a frame with its number of bytes
unfoldable pub line_of : List ℕ → Line
line_of line = cond (ltb max_line (length line)) Line.TooLong (cond (is_frame line) (Line.Frame (length line / 2)) Line.NoFrame)

-- the number of refusal; 0 for a frame
abbrev pub number_of : Line → ℕ
number_of Line.TooLong = 21
number_of Line.NoFrame = 20
number_of (Line.Frame n) = 0

-- the byte of two digits, the high one first (a character that is none counts as 0)
abbrev pub byte_of : ℕ → ℕ → ℕ
byte_of high low = 16 * (digit_of high % 16) + digit_of low % 16

-- the bytes of a line, two digits to each
unfoldable pub bytes_of : List ℕ → List ℕ
bytes_of [] = []
bytes_of (high ∷ []) = []
bytes_of (high ∷ low ∷ more) = byte_of high low ∷ bytes_of more
