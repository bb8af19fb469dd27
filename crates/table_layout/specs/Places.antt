-- Where things stand in a table's words (docs/TABLE.md).
-- Assumes nothing.
use Rattle.std.specs.Prelude.{ℕ, ◌+◌, ◌*◌, List, get_or, take}
pub use Rattle.basis.specs.Limits.{table_words}
use Rattle.basis.specs.Limits.{max_rules, max_constructs, max_variables, max_terms}

-- a word; past the end of a list there is nothing, read as 0
abbrev pub word : List ℕ → ℕ → ℕ
word ws k = get_or ws k 0

-- "Words past 16,384 are neither read nor changed."
abbrev pub table_of : List ℕ → List ℕ
table_of ws = take table_words ws

-- where rules, variables, constructs, terms, bytes of literals and sets begin: the header has 64 words, a rule and a variable four, a
-- construct eight and 32 bytes, a term three
abbrev pub rules_at : ℕ
rules_at = 64

abbrev pub variables_at : ℕ
variables_at = rules_at + 4 * max_rules

abbrev pub constructs_at : ℕ
constructs_at = variables_at + 4 * max_variables

abbrev pub terms_at : ℕ
terms_at = constructs_at + 8 * max_constructs

abbrev pub literals_at : ℕ
literals_at = terms_at + 3 * max_terms

abbrev pub sets_at : ℕ
sets_at = literals_at + 8 * max_constructs

-- the header: its mark, how many rules, constructs, variables and terms there are, and the weight
abbrev pub mark_of : List ℕ → ℕ
mark_of ws = word ws 0

abbrev pub rule_count : List ℕ → ℕ
rule_count ws = word ws 1

abbrev pub construct_count : List ℕ → ℕ
construct_count ws = word ws 2

abbrev pub variable_count : List ℕ → ℕ
variable_count ws = word ws 3

abbrev pub term_count : List ℕ → ℕ
term_count ws = word ws 4

abbrev pub weight_of : List ℕ → ℕ
weight_of ws = word ws 5

-- word k of rule r, variable x and construct i
abbrev pub rule_word : List ℕ → ℕ → ℕ → ℕ
rule_word ws r k = word ws (rules_at + 4 * r + k)

abbrev pub variable_word : List ℕ → ℕ → ℕ → ℕ
variable_word ws x k = word ws (variables_at + 4 * x + k)

abbrev pub construct_word : List ℕ → ℕ → ℕ → ℕ
construct_word ws i k = word ws (constructs_at + 8 * i + k)
