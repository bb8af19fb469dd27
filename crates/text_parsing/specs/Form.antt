-- The form of rules (refusal 4), as a grammar whose parts wait on a stack: a terminal is handed to the first part that waits. The part takes it,
-- and its further parts wait; or it has come to its end and the next part is tried; or the terminal cannot stand there.
-- Assumes nothing.
use Rattle.std.specs.Prelude.{ℕ, ◌+◌, Bool, true, false, cond, ◌&&◌, List, [], ◌∷◌, ltb, eqb}
use Rattle.basis.specs.Limits.{max_nesting}
use Rattle.text_parsing.specs.Terminals.{is, is_name, begins}
use Rattle.text_store.specs.Store.{State, nodes_of, terms_of, add, single, insert, leaf, condition_on, bind, close_rule}
use Rattle.text_parsing.specs.Symbols.{Symbol, want, sign, paren, primary, operand, factors, summands, calculation, item, item_tail, bound, exception, excluded, alternative, alternatives, value_set, counts, counts_tail, test, comparison, condition, joined, chain, atom, factor, concatenation, expression, marked, counts_end, members, branches, character_tail, last_character, width, field_set, bound_name, field_end, colon, case_end, cases, switch_end, rules, rule_end}
use Rattle.text_parsing.specs.declared.Terminal.{Terminal}

-- it is taken and these parts wait, or the text ends right, or it "cannot stand there"
pub data Consumed : Type 0 where
  go : State → List Symbol → Consumed
  done : State → Consumed
  fault : Consumed

-- "parentheses and switch brackets of every kind go at most 16 deep"
abbrev pub within_depth : ℕ → Consumed → Consumed
within_depth d next = cond (ltb d max_nesting) next fault

-- ---- how parts begin; `ks` waits after them

-- a number or a variable's use
unfoldable pub primary_begins : ℕ → Terminal → State → List Symbol → Consumed
primary_begins o s st ks =
    elim (is 2 s) [
      | true ↦ go (add 1 s.value s.start o st) ks
      | false ↦ elim (is_name s) [ true ↦ go (add 2 0 s.start o st) ks | false ↦ fault ]
    ]

-- "at most one unary minus"
unfoldable pub operand_begins : ℕ → Terminal → State → List Symbol → Consumed
operand_begins o s st ks = elim (is 45 s) [ true ↦ go st (primary o ∷ sign 6 s.start o ∷ ks) | false ↦ primary_begins o s st ks ]

-- the tag of `+` and `-`; 0 of any other terminal
abbrev pub sum_tag : ℕ → ℕ
sum_tag code = cond (eqb code 43) 3 (cond (eqb code 45) 4 0)

-- "calculations: `+ -` from the left, then `*`"
abbrev pub calculation_begins : Terminal → State → List Symbol → Consumed
calculation_begins s st ks = operand_begins s.start s st (factors s.start ∷ summands s.start ∷ ks)

-- an item of a set: "`~`, `a`, `a~b`, `a~`, `~b`"
unfoldable pub item_begins : Terminal → State → List Symbol → Consumed
item_begins s st ks = elim (is 126 s) [ true ↦ go st (bound 10 7 s.start ∷ ks) | false ↦ calculation_begins s st (item_tail ∷ ks) ]

-- a comparison, or a condition in parentheses
unfoldable pub test_begins : ℕ → Terminal → State → List Symbol → Consumed
test_begins d s st ks =
    elim (is 40 s) [
      | true ↦ within_depth d (go st (condition (d + 1) ∷ want 41 ∷ ks))
      | false ↦ calculation_begins s st (comparison ∷ ks)
    ]

-- the tag of a comparison's term; 0 of any other terminal
abbrev pub comparison_tag : ℕ → ℕ
comparison_tag code =
    cond (eqb code 61) 14 (cond (eqb code 161) 15 (cond (eqb code 60) 16 (cond (eqb code 188) 17 (cond (eqb code 62) 18 (cond (eqb code 190) 19 0)))))

-- an item of an expression, without its repetition mark
unfoldable pub atom_begins : ℕ → Terminal → State → List Symbol → Consumed
atom_begins d s st ks =
    cond (is 3 s) (go (leaf 6 s.start 0 0 0 0 0 st) ks)
    (cond (is 9 s) (go st (character_tail s.start ∷ ks))
    (cond (is 6 s) (go st (paren d ∷ width (d + 1) s.start ∷ ks))
    (cond (is 7 s) (go (leaf 9 s.start 0 0 0 0 0 st) ks)
    (cond (is_name s) (go (leaf 5 s.start 0 0 0 0 0 st) ks)
    (cond (is 40 s) (within_depth d (go st (expression (d + 1) ∷ want 41 ∷ ks)))
    (cond (is 91 s) (within_depth d (go st (condition (d + 1) ∷ colon (d + 1) (terms_of st) ∷ cases (d + 1) s.start (nodes_of st) ∷ ks)))
    fault))))))

-- how a repetition is written: `?`, `*`, `+`; 0 of any other terminal
abbrev pub mark_of : ℕ → ℕ
mark_of code = cond (eqb code 63) 1 (cond (eqb code 42) 2 (cond (eqb code 43) 3 0))

-- a chain of parts is one construct; a single part is none
abbrev pub chained : ℕ → Bool → ℕ → ℕ → State → State
chained kind many p i st = cond many (insert kind p i 0 0 0 0 0 st) st

-- ---- a terminal is handed to the parts that wait

unfoldable pub consume : Terminal → State → List Symbol → Consumed
consume s st [] = fault
consume s st (want k ∷ ks) = elim (is k s) [ true ↦ go st ks | false ↦ fault ]
consume s st (sign tag p o ∷ ks) = consume s (add tag 0 p o st) ks
consume s st (paren d ∷ ks) = elim (ltb d max_nesting) [ true ↦ elim (is 40 s) [ true ↦ go st ks | false ↦ fault ] | false ↦ fault ]
-- calculations
consume s st (primary o ∷ ks) = primary_begins o s st ks
consume s st (operand o ∷ ks) = operand_begins o s st ks
consume s st (factors o ∷ ks) = elim (is 42 s) [ true ↦ go st (operand o ∷ sign 5 s.start o ∷ factors o ∷ ks) | false ↦ consume s st ks ]
consume s st (summands o ∷ ks) =
    elim (eqb (sum_tag s.code) 0) [ true ↦ consume s st ks | false ↦ go st (operand o ∷ factors o ∷ sign (sum_tag s.code) s.start o ∷ summands o ∷ ks) ]
consume s st (calculation ∷ ks) = calculation_begins s st ks
-- sets: "alternatives of …, each with at most one `!` and a second item or a set in parentheses after it"
consume s st (item ∷ ks) = item_begins s st ks
consume s st (item_tail ∷ ks) = elim (is 126 s) [ true ↦ go st (bound 8 9 s.start ∷ ks) | false ↦ consume s (single st) ks ]
consume s st (bound some none p ∷ ks) = elim (begins s) [ true ↦ calculation_begins s st (sign some p 0 ∷ ks) | false ↦ consume s (add none 0 p 0 st) ks ]
consume s st (exception d ∷ ks) = elim (is 33 s) [ true ↦ go st (excluded d ∷ sign 12 s.start 0 ∷ ks) | false ↦ consume s st ks ]
consume s st (excluded d ∷ ks) =
    elim (is 40 s) [ true ↦ within_depth d (go st (value_set (d + 1) ∷ want 41 ∷ ks)) | false ↦ item_begins s st ks ]
consume s st (alternative d ∷ ks) = item_begins s st (exception d ∷ ks)
consume s st (alternatives d ∷ ks) =
    elim (is 124 s) [ true ↦ go st (alternative d ∷ sign 11 s.start 0 ∷ alternatives d ∷ ks) | false ↦ consume s st ks ]
consume s st (value_set d ∷ ks) = item_begins s st (exception d ∷ alternatives d ∷ ks)
-- counts: "`{n}`, `{a~b}`, `{a~}` or `{~b}`"
consume s st (counts ∷ ks) = elim (is 126 s) [ true ↦ go st (calculation ∷ sign 10 s.start 0 ∷ ks) | false ↦ calculation_begins s st (counts_tail ∷ ks) ]
consume s st (counts_tail ∷ ks) = elim (is 126 s) [ true ↦ go st (bound 8 9 s.start ∷ ks) | false ↦ consume s st ks ]
-- conditions: "comparisons (`= != < <= > >=`) joined all by `&` or all by `|`; mixing needs parentheses"
consume s st (test d ∷ ks) = test_begins d s st ks
consume s st (comparison ∷ ks) =
    elim (eqb (comparison_tag s.code) 0) [ true ↦ fault | false ↦ go st (calculation ∷ sign (comparison_tag s.code) s.start 0 ∷ ks) ]
consume s st (condition d ∷ ks) = test_begins d s st (joined d ∷ ks)
consume s st (joined d ∷ ks) =
    elim (is 38 s) [
      | true ↦ go st (test d ∷ sign 13 s.start 0 ∷ chain 38 13 d ∷ ks)
      | false ↦ elim (is 124 s) [ true ↦ go st (test d ∷ sign 11 s.start 0 ∷ chain 124 11 d ∷ ks) | false ↦ consume s st ks ]
    ]
consume s st (chain k tag d ∷ ks) = elim (is k s) [ true ↦ go st (test d ∷ sign tag s.start 0 ∷ chain k tag d ∷ ks) | false ↦ consume s st ks ]
-- "Expressions, loosest first (document 001): alternative `|`, concatenation `&`, repetition."
consume s st (atom d ∷ ks) = atom_begins d s st ks
consume s st (factor d ∷ ks) = atom_begins d s st (marked s.start (nodes_of st) ∷ ks)
consume s st (concatenation d ∷ ks) = atom_begins d s st (marked s.start (nodes_of st) ∷ members d s.start (nodes_of st) false ∷ ks)
consume s st (expression d ∷ ks) =
    atom_begins d s st (marked s.start (nodes_of st) ∷ members d s.start (nodes_of st) false ∷ branches d s.start (nodes_of st) false ∷ ks)
consume s st (marked p i ∷ ks) =
    elim (is 123 s) [
      | true ↦ go st (counts ∷ counts_end p i s.start (terms_of st) ∷ ks)
      | false ↦ elim (eqb (mark_of s.code) 0) [ true ↦ consume s st ks | false ↦ go (insert 3 p i (mark_of s.code) s.start 0 0 0 st) ks ]
    ]
consume s st (counts_end p i mark f ∷ ks) = elim (is 125 s) [ true ↦ go (insert 3 p i 4 mark f (terms_of st) 0 st) ks | false ↦ fault ]
consume s st (members d p i many ∷ ks) =
    elim (is 38 s) [ true ↦ go st (factor d ∷ members d p i true ∷ ks) | false ↦ consume s (chained 2 many p i st) ks ]
consume s st (branches d p i many ∷ ks) =
    elim (is 124 s) [ true ↦ go st (concatenation d ∷ branches d p i true ∷ ks) | false ↦ consume s (chained 1 many p i st) ks ]
-- "`'a'~'z'`, a range of one-character literals"
consume s st (character_tail p ∷ ks) = elim (is 126 s) [ true ↦ go st (last_character p ∷ ks) | false ↦ consume s (leaf 6 p 0 0 0 0 0 st) ks ]
consume s st (last_character p ∷ ks) = elim (is 9 s) [ true ↦ go (leaf 7 p s.start 0 0 0 0 st) ks | false ↦ fault ]
-- "`uint(width, set)`, …; `uint(width, var(name, set))` also binds the value"; `how` is 1 where it stands outside any group, else 2
consume s st (width d p ∷ ks) = elim (is 2 s) [ true ↦ go st (want 44 ∷ field_set d p s.start ∷ ks) | false ↦ fault ]
consume s st (field_set d p w ∷ ks) =
    elim (is 8 s) [
      | true ↦ go st (paren d ∷ bound_name (d + 1) p w ∷ ks)
      | false ↦ item_begins s st (exception d ∷ alternatives d ∷ field_end p w 0 0 (terms_of st) ∷ ks)
    ]
consume s st (bound_name d p w ∷ ks) =
    elim (is_name s) [
      | true ↦ go (bind st) (want 44 ∷ value_set d ∷ want 41 ∷ field_end p w s.start (cond (eqb d 2) 1 2) (terms_of st) ∷ ks)
      | false ↦ fault
    ]
consume s st (field_end p w name how f ∷ ks) = elim (is 41 s) [ true ↦ go (leaf 8 p w name f (terms_of st) how st) ks | false ↦ fault ]
-- "a switch `[condition: expression; ... : expression;]`, the default last and optional"
consume s st (colon d f ∷ ks) = elim (is 58 s) [ true ↦ go st (expression d ∷ case_end (nodes_of st) f (terms_of st) ∷ ks) | false ↦ fault ]
consume s st (case_end i f end ∷ ks) = elim (is 59 s) [ true ↦ go (condition_on i f end st) ks | false ↦ fault ]
consume s st (cases d p i ∷ ks) =
    elim (is 93 s) [
      | true ↦ go (insert 4 p i 0 0 0 0 0 st) ks
      | false ↦ elim (is 58 s) [
        | true ↦ go st (expression d ∷ want 59 ∷ switch_end p i ∷ ks)
        | false ↦ test_begins d s st (joined d ∷ colon d (terms_of st) ∷ cases d p i ∷ ks)
      ]
    ]
consume s st (switch_end p i ∷ ks) = elim (is 93 s) [ true ↦ go (insert 4 p i 0 0 0 0 0 st) ks | false ↦ fault ]
-- "A rule is `name = expression ;`"; a text has at least one
consume s st (rules any ∷ ks) =
    elim (is_name s) [
      | true ↦ go st (want 61 ∷ expression 0 ∷ rule_end s.start (nodes_of st) ∷ rules true ∷ ks)
      | false ↦ elim (any && is 5 s) [ true ↦ done st | false ↦ fault ]
    ]
consume s st (rule_end p i ∷ ks) = elim (is 59 s) [ true ↦ go (close_rule p i st) ks | false ↦ fault ]

-- ---- all terminals

-- 4: "rules not of the form above", at the "first token that cannot stand there (text's end if none)"
pub data Outcome : Type 0 where
  right : State → Outcome
  refused : ℕ → Outcome

-- one terminal after the other; the last is the end, after which nothing is read
unfoldable pub run : List Terminal → State → List Symbol → Outcome
run [] st ks = refused 0
run (s ∷ rest) st ks = elim (consume s st ks) [ go st' ks' ↦ run rest st' ks' | done st' ↦ right st' | fault ↦ refused s.start ]
