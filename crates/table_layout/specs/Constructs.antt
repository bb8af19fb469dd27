-- What a construct's words say. Of words that say nothing the construct is missing.
-- Assumes nothing.
use Rattle.std.specs.Prelude.{ℕ, ◌+◌, Bool, true, false, cond, ◌&&◌, List, leb, ltb, eqb}
use Rattle.basis.specs.Limits.{max_rules, max_constructs, max_variables, max_terms, max_literal_bytes, max_width, max_bound_width}
use Rattle.table_layout.specs.Places.{construct_word}
use Rattle.table_layout.specs.declared.Construct.{Construct}
use Rattle.table_layout.specs.declared.Passes.{Passes}

-- a construct with parts: its size leaves it within the limit
abbrev pub branches : ℕ → ℕ → Bool
branches i size = leb 2 size && leb (i + size) max_constructs

-- terms from and up to
abbrev pub listed : ℕ → ℕ → Bool
listed start end = leb start end && leb end max_terms

-- `?`, `*`, `+` or `{…}`
abbrev pub repetition_of : ℕ → ℕ → ℕ → ℕ → Construct
repetition_of size how start end =
    cond (eqb how 1) (Construct.Repetition size Passes.Optional)
    (cond (eqb how 2) (Construct.Repetition size Passes.Any)
    (cond (eqb how 3) (Construct.Repetition size Passes.Some)
    (cond (eqb how 4 && listed start end) (Construct.Repetition size (Passes.Counted start end)) Construct.Missing)))

-- those with parts
abbrev pub inner_of : ℕ → ℕ → ℕ → ℕ → ℕ → Construct
inner_of kind size a b c =
    cond (eqb kind 1) (Construct.Alternative size)
    (cond (eqb kind 2) (Construct.Concatenation size)
    (cond (eqb kind 3) (repetition_of size a b c)
    (Construct.Switch size)))

-- "Widths go to 64", "A binder wider than 62 bits is refusal 8" (Req 10); a binder is 1 + one of 64 variables, 0 binds none
abbrev pub widest_for : ℕ → ℕ
widest_for binder = cond (ltb 0 binder) max_bound_width max_width

-- uint, and signed: sint
abbrev pub uint_of : Bool → ℕ → ℕ → ℕ → ℕ → Construct
uint_of signed width start end binder =
    cond ((leb 1 width && leb width (widest_for binder)) && (listed start end && leb binder max_variables)) (Construct.Uint signed width start end binder) Construct.Missing

-- "1 to 32 characters"
abbrev pub literal_of : ℕ → Construct
literal_of length = cond (leb 1 length && leb length max_literal_bytes) (Construct.Literal length) Construct.Missing

-- its two characters, "up to 7f" each
abbrev pub range_of : ℕ → ℕ → Construct
range_of low high = cond (ltb low 128 && ltb high 128) (Construct.Range low high) Construct.Missing

-- those without
abbrev pub leaf_of : ℕ → ℕ → ℕ → ℕ → ℕ → Construct
leaf_of kind a b c d =
    cond (eqb kind 5) (cond (ltb a max_rules) (Construct.Use a) Construct.Missing)
    (cond (eqb kind 6) (literal_of a)
    (cond (eqb kind 7) (range_of a b)
    (cond (eqb kind 8) (uint_of false a b c d)
    (cond (eqb kind 9) Construct.Eod
    (cond (eqb kind 12) (uint_of true a b c d)
    Construct.Missing)))))

-- it is one construct, itself
abbrev pub without_parts : ℕ → ℕ → ℕ → ℕ → ℕ → ℕ → Construct
without_parts kind size a b c d = cond (eqb size 1) (leaf_of kind a b c d) Construct.Missing

-- construct i of these words; kinds 1 to 4 have parts
unfoldable pub construct_of : ℕ → ℕ → ℕ → ℕ → ℕ → ℕ → ℕ → Construct
construct_of i kind size a b c d =
    cond (leb 1 kind && leb kind 4) (cond (branches i size) (inner_of kind size a b c) Construct.Missing)
    (without_parts kind size a b c d)

-- construct i of a table
unfoldable pub construct_at : List ℕ → ℕ → Construct
unfolding construct_of
construct_at ws i =
    cond (ltb i max_constructs)
    (construct_of i (construct_word ws i 0) (construct_word ws i 1) (construct_word ws i 2) (construct_word ws i 3) (construct_word ws i 4) (construct_word ws i 5))
    Construct.Missing
