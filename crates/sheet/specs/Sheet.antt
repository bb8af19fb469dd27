-- Document 01's bench sheet, K1 to K11: a table from text to answer, steps, values and reading. `Says` is what is claimed of a row, from the promises of
-- `admission::admit`, `run_matcher::open` and `run_grants::grant`; `sheet` (`proofs/Sheet.antt`) proves it of every row.
-- Assumes nothing.
use Rattle.std.specs.Prelude.{ℕ, ◌*◌, ◌-◌, ◌≤◌, ◌≡◌, List, [], ◌∷◌, ◌++◌, map, pos, length, drop, replicate}
use Prim.Native.Char.{code}
use Prim.Native.String.{String, [] as end, ◌∷◌ as ◌then◌}
use Rattle.std.proofs.Math.Option.{some}
use Rattle.basis.specs.Limits.{max_variables}
use Rattle.table_layout.specs.Places.{table_words}
use Rattle.run_actions.specs.Acts.{bits_of}
use Rattle.text_admission.specs.Answers.{window_in}
use Rattle.text_admission.specs.declared.Admission.{Admission}
use Rattle.admission.specs.Promised.{Promised}
use Rattle.run_matcher.specs.Opening.{Opened}
use Rattle.run_matcher.specs.Conditions.{Grant, granted, Kept, run_kept, reading_kept, OthersRefused, start, here}

-- ---- texts: "Each text is `dogma_v1 utf-8`, LF, LF, then the rules from byte 16."

-- a character below 128 is one byte
unfoldable pub bytes : String → List ℕ
bytes end = []
bytes (c then s) = code c ∷ bytes s

-- the text of some rules
unfoldable pub text_of : String → List ℕ
unfolding bytes
text_of rules = bytes "dogma_v1 utf-8\n\n" ++ bytes rules

-- ---- answers

-- the sheet decides every frame
pub data Verdict : Type 0 where
  match no_match : Verdict

-- the verdict that a run stores
abbrev pub stored : Verdict → ℕ
stored match = 1
stored no_match = 2

-- the column "Answer", with the frame that it is for
pub data Expected : Type 0 where
  -- "7 at 16"
  refused : (number place : ℕ) → Expected
  -- "10 at 24, window 321"
  clash : (place window : ℕ) → Expected
  -- "match, 8 steps, len 2, reading 1 0 3 8 3 16": the variables' values in text order; and the weight
  run : (weight : ℕ) (frame : List ℕ) (verdict : Verdict) (steps : ℕ) (values reading : List ℕ) → Expected

-- a row: rules, and the answer to them
pub data Row : Type 0 where
  row : (rules : String) → Expected → Row

-- ---- what a row says

-- the answer is a clash at this place with this window
abbrev pub Clashes : (place window : ℕ) → Admission → Type 0
Clashes place window (Admission.Admitted weight) = ⊥
Clashes place window (Admission.Refused number p) = ⊥
Clashes place window (Admission.Conflict p construct c) = (p ≡ place) × (window_in c ≡ some window)

-- the run and the reading `k`, of a reading that was `rs`
pub record Ended (k : Kept) (rs : List ℕ) (verdict : Verdict) (steps : ℕ) (values reading : List ℕ) : Type 0 where
  pub verdict_is : (run_kept k).verdict ≡ stored verdict
  pub steps_are : (run_kept k).steps ≡ steps
  -- and 0 is the value of every further variable
  pub values_are : (run_kept k).values ≡ map pos values ++ replicate (max_variables - length values) (pos 0)
  pub fields_are : 2 * (run_kept k).captures ≡ length reading
  -- and the words beyond are as they were
  pub reading_is : reading_kept k ≡ reading ++ drop (length reading) rs

-- the answer, and the table's words that it leaves
abbrev pub Meets : Expected → List ℕ → Admission → Type 0
Meets (refused number place) table answer = answer ≡ Admission.Refused number place
Meets (clash place window) table answer = Clashes place window answer
Meets (run weight frame verdict steps values reading) table answer =
    (answer ≡ Admission.Admitted weight)
    × ((rs : List ℕ) → 2 * bits_of frame ≤ length rs
    → Opened table frame rs
    × ((gs : List Grant) → OthersRefused table frame gs (start rs) → steps ≤ granted gs → Ended (here table frame rs gs) rs verdict steps values reading))

-- whatever the table's words were, of a table that is long enough
abbrev pub Says : Row → Type 0
Says (row rules expected) =
    (old new : List ℕ) (answer : Admission) → table_words ≤ length old → Promised (text_of rules) old new answer → Meets expected new answer

-- every row of a list says so
abbrev pub Each : (Row → Type 0) → List Row → Type 0
Each P [] = Unit {0}
Each P (r ∷ rs) = P r × Each P rs

-- ---- the sheet

-- "G = …, weight 6"
abbrev pub G : String
G = "frame = uint(8, var(len, 1~8)) & uint(8, ~){len};"

-- the rules of the others; K7 has those of K6
abbrev pub K5 : String
K5 = "frame = \"AB\" | \"AC\";"

abbrev pub K6 : String
K6 = "frame = uint(4,1)* & uint(4,2);"

abbrev pub K8 : String
K8 = "frame = (\"A\"?)*;"

abbrev pub K9 : String
K9 = "frame = uint(8, var(n, ~)) & uint(8, ~){n - 1};"

abbrev pub K10 : String
K10 = "frame = uint(8, var(t, ~)) & [t = 1: \"A\"; t = 2: uint(16, ~);];"

abbrev pub K11 : String
K11 = "a = \"x\" & b; b = a;"

-- a row with two frames stands here twice
abbrev pub rows : List Row
rows =
    -- K1 to K4
    row G (run 6 (0x02 ∷ 0x41 ∷ 0x42 ∷ []) match 8 (2 ∷ []) (1 ∷ 0 ∷ 3 ∷ 8 ∷ 3 ∷ 16 ∷ []))
    ∷ row G (run 6 (0x02 ∷ 0x41 ∷ []) no_match 7 (2 ∷ []) (1 ∷ 0 ∷ 3 ∷ 8 ∷ []))
    ∷ row G (run 6 (0x02 ∷ 0x41 ∷ 0x42 ∷ 0x43 ∷ []) no_match 8 (2 ∷ []) (1 ∷ 0 ∷ 3 ∷ 8 ∷ 3 ∷ 16 ∷ []))
    ∷ row G (run 6 [] no_match 3 [] [])
    -- K5
    ∷ row K5 (clash 24 321)
    -- K6, K7
    ∷ row K6 (run 6 (0x12 ∷ []) match 6 [] (2 ∷ 0 ∷ 3 ∷ 4 ∷ []))
    ∷ row K6 (run 6 (0x11 ∷ []) no_match 5 [] (2 ∷ 0 ∷ []))
    -- K8
    ∷ row K8 (refused 9 30)
    -- K9
    ∷ row K9 (run 6 (0x00 ∷ []) no_match 4 (0 ∷ []) (1 ∷ 0 ∷ []))
    ∷ row K9 (run 6 (0x01 ∷ []) match 4 (1 ∷ []) (1 ∷ 0 ∷ []))
    -- K10
    ∷ row K10 (run 5 (0x01 ∷ 0x41 ∷ []) match 5 (1 ∷ []) (1 ∷ 0 ∷ 3 ∷ 8 ∷ []))
    ∷ row K10 (run 5 (0x03 ∷ []) match 4 (3 ∷ []) (1 ∷ 0 ∷ []))
    -- K11
    ∷ row K11 (refused 7 16)
    ∷ []
