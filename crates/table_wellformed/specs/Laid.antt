-- Which words are laid out as docs/TABLE.md says. Any words may be asked about. The stored sets are not looked at, and of the weight only
-- that 11 allows it: they are compared with what they should be elsewhere. All other words are fixed by the grammar, and unused ones are 0.
-- Assumes nothing.
use Rattle.std.specs.Prelude.{ℕ, ◌+◌, ◌*◌, ◌/◌, ◌%◌, ◌^◌, Bool, true, false, cond, ◌&&◌, List, leb, ltb, eqb, length}
use Rattle.basis.specs.Limits.{max_rules, max_constructs, max_variables, max_terms, max_literal_bytes, max_weight}
use Rattle.term_words.specs.declared.Kind.{Kind}
use Rattle.table_layout.specs.Places.{word, table_words, rules_at, variables_at, constructs_at, terms_at, literals_at, sets_at, mark_of, rule_count, construct_count, variable_count, term_count, weight_of}
use Rattle.table_layout.specs.Constructs.{construct_at}
use Rattle.table_layout.specs.Attributes.{attributes_of}
use Rattle.table_layout.specs.declared.Construct.{Construct}
use Rattle.table_layout.specs.declared.Passes.{Passes}
use Rattle.table_wellformed.specs.Checks.{limited, from_to, all_zero, size_at}
use Rattle.table_wellformed.specs.Parts.{parts_laid}
use Rattle.table_wellformed.specs.Lists.{list_formed, counts_formed, condition_formed, lists_laid, term_laid}
use Rattle.table_wellformed.specs.Rules.{rules_laid, named_back, names_laid}

-- ---- the header: "Limits: 64 rules, 256 constructs, 64 variables, 1,024 numbers, variable uses and signs"; "weight over 65,535" (11)

abbrev pub counts_limited : List ℕ → Bool
counts_limited ws =
    (limited 1 (rule_count ws) max_rules && limited 1 (construct_count ws) max_constructs) && (leb (variable_count ws) max_variables && leb (term_count ws) max_terms)

-- the mark, the counts, a weight that 11 allows, and 0 in the rest of the header
unfoldable pub headed : List ℕ → Bool
headed ws = (eqb (mark_of ws) 1399811687 && counts_limited ws) && (limited 1 (weight_of ws) max_weight && all_zero ws 6 rules_at)

-- ---- constructs

-- the operands from word k on are 0
abbrev pub operands_zero : List ℕ → ℕ → ℕ → Bool
operands_zero ws i k = all_zero ws (constructs_at + 8 * i + k) (constructs_at + 8 * i + 6)

-- where the first part ends
abbrev pub second_part : List ℕ → ℕ → ℕ
second_part ws i = i + 1 + size_at ws (i + 1)

-- where construct i ends
abbrev pub construct_end : List ℕ → ℕ → ℕ
construct_end ws i = i + size_at ws i

-- "alternatives and concatenations (each one for a whole chain)": at least two parts
abbrev pub chain_laid : List ℕ → ℕ → Bool
chain_laid ws i = operands_zero ws i 2 && (ltb (second_part ws i) (construct_end ws i) && parts_laid ws false (i + 1) (construct_end ws i))

-- how a repetition is written: only `{…}` has terms
abbrev pub passes_laid : List ℕ → ℕ → Passes → Bool
passes_laid ws i Passes.Optional = operands_zero ws i 3
passes_laid ws i Passes.Any = operands_zero ws i 3
passes_laid ws i Passes.Some = operands_zero ws i 3
passes_laid ws i (Passes.Counted start end) = operands_zero ws i 5 && counts_formed ws start end

-- one part
abbrev pub repetition_laid : List ℕ → ℕ → Passes → Bool
repetition_laid ws i passes = passes_laid ws i passes && (eqb (second_part ws i) (construct_end ws i) && parts_laid ws false (i + 1) (construct_end ws i))

-- "`[condition: expression; ... : expression;]`, the default last and optional"
abbrev pub switch_laid : List ℕ → ℕ → Bool
switch_laid ws i = operands_zero ws i 2 && parts_laid ws true (i + 1) (construct_end ws i)

-- construct i, as its words say
abbrev pub kind_laid : List ℕ → ℕ → Construct → Bool
kind_laid ws i Construct.Missing = false
kind_laid ws i (Construct.Alternative size) = chain_laid ws i
kind_laid ws i (Construct.Concatenation size) = chain_laid ws i
kind_laid ws i (Construct.Repetition size passes) = repetition_laid ws i passes
kind_laid ws i (Construct.Switch size) = switch_laid ws i
kind_laid ws i (Construct.Use rule) = ltb rule (rule_count ws) && operands_zero ws i 3
kind_laid ws i (Construct.Literal length) = operands_zero ws i 3
kind_laid ws i (Construct.Range low high) = operands_zero ws i 4
kind_laid ws i (Construct.Uint signed width start end binder) = named_back ws i binder && list_formed Kind.Set ws start end
kind_laid ws i Construct.Eod = operands_zero ws i 2

-- how many bytes construct i has in the area of literals
abbrev pub literal_length : Construct → ℕ
literal_length c = (attributes_of c).length

-- byte k there
abbrev pub literal_byte : List ℕ → ℕ → ℕ → ℕ
literal_byte ws i k = word ws (literals_at + 8 * i + k / 4) / 256 ^ (k % 4) % 256

-- "printable ASCII ... and `\[hex]` up to 7f"; bytes past the length are 0
abbrev pub byte_laid : List ℕ → ℕ → ℕ → ℕ → Bool
byte_laid ws i n k = ltb (literal_byte ws i k) (cond (ltb k n) 128 1)

-- construct i: its words, the bytes of its literal and its condition
abbrev pub construct_laid : List ℕ → ℕ → Bool
construct_laid ws i = kind_laid ws i (construct_at ws i) && (from_to 0 max_literal_bytes (byte_laid ws i (literal_length (construct_at ws i))) && condition_formed ws i)

-- ---- "Words that this page gives no meaning to are 0": everything past the counts

abbrev pub rest_zero : List ℕ → Bool
rest_zero ws =
    (all_zero ws (rules_at + 4 * rule_count ws) variables_at && all_zero ws (variables_at + 4 * variable_count ws) constructs_at)
    && ((all_zero ws (constructs_at + 8 * construct_count ws) terms_at && all_zero ws (terms_at + 3 * term_count ws) literals_at)
    && (all_zero ws (literals_at + 8 * construct_count ws) sets_at && all_zero ws (sets_at + 32 * construct_count ws) table_words))

-- ---- all of it

-- all but the header and the names, which are asked before and after it
unfoldable pub placed : List ℕ → Bool
placed ws =
    (rest_zero ws && rules_laid ws)
    && (from_to 0 (construct_count ws) (construct_laid ws) && (lists_laid ws && from_to 0 (term_count ws) (term_laid ws)))

-- "laid out as the team's docs/ say"
unfoldable pub laid : List ℕ → Bool
unfolding headed placed
laid ws = leb table_words (length ws) && (headed ws && (placed ws && names_laid ws))
