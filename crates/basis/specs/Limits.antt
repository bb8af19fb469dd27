-- Every limit of document 01, once; `src/lib.rt` has the same for the code. To change one: docs/PROVING.md, "To change a limit".
-- Assumes nothing.
use Rattle.std.specs.Prelude.{ℕ, ◌*◌}

-- ---- a text

-- "1 to 8,192 bytes" (2)
abbrev pub max_text_bytes : ℕ
max_text_bytes = 8192

-- a name has "at most 32 bytes"
abbrev pub max_name_bytes : ℕ
max_name_bytes = 32

-- "parentheses and switch brackets of every kind go at most 16 deep"
abbrev pub max_nesting : ℕ
max_nesting = 16

-- ---- a grammar

-- "Limits: 64 rules, 256 constructs, 64 variables, 1,024 numbers, variable uses and signs" (5)
abbrev pub max_rules : ℕ
max_rules = 64

abbrev pub max_constructs : ℕ
max_constructs = 256

abbrev pub max_variables : ℕ
max_variables = 64

abbrev pub max_terms : ℕ
max_terms = 1024

-- a literal has "1 to 32 characters"
abbrev pub max_literal_bytes : ℕ
max_literal_bytes = 32

-- "Widths go to 64" (Req 10)
abbrev pub max_width : ℕ
max_width = 64

-- "A binder wider than 62 bits is refusal 8" (Req 10)
abbrev pub max_bound_width : ℕ
max_bound_width = 62

-- "weight over 65,535" (11)
abbrev pub max_weight : ℕ
max_weight = 65535

-- a table "has 16,384 words" (1, 23)
abbrev pub table_words : ℕ
table_words = 16384

-- ---- a run

-- "frame over 1,024 bytes" (21; Req 10)
abbrev pub max_frame_bytes : ℕ
max_frame_bytes = 1024

abbrev pub max_frame_bits : ℕ
max_frame_bits = 8 * max_frame_bytes

-- "the list is longer than 256" (24)
abbrev pub max_entries : ℕ
max_entries = 256
