-- How a tree is spelled: its tokens in order, and then `w`.
-- Assumes nothing.
use Rattle.std.specs.Prelude.{ℕ, Bool, true, false, List, [], ◌∷◌}
use Rattle.text_tokens.specs.declared.Kind.{Kind}
use Rattle.tree.specs.Lexemes.{Sign, Name, Number, Literal, Lexeme, sign, word, numeral, quoted, finish}
use Rattle.tree.specs.Tree.{Primary, number, variable, Operand, plain, opposite, Factors, no_factor, times, Product, product, Summands, no_summand, plus, minus, Calculation, sum, Item, everything, only, between, from, up_to_bound, SetPart, Choices, item, item_but_item, item_but_set, last_choice, or_choices, Counts, exactly, at_least_count, at_most, span, Comparison, equal, unequal, less, at_most_as, greater, at_least_as, TestPart, Tests, compare, test_group, one_test, all_of, any_of, last_conjunct, and_conjuncts, last_disjunct, or_disjuncts, Mark, optional, any_number, one_or_more, counted, eod_word, Part, Tree, literal, range, field, binder, rule_use, eod, group, switch, last_case, case_default, case_cases, once, repeated, last_member, and_members, last_branch, or_branches, Rule, rule, Rules, last_rule, and_rules}

-- the words `uint` and `sint`, and `var`
abbrev pub field_word : Bool → List ℕ
field_word false = 117 ∷ 105 ∷ 110 ∷ 116 ∷ []
field_word true = 115 ∷ 105 ∷ 110 ∷ 116 ∷ []

abbrev pub var_word : List ℕ
var_word = 118 ∷ 97 ∷ 114 ∷ []

-- a word that stands there
abbrev pub spelled_as : List ℕ → Sign → Lexeme
spelled_as letters s = word (record { start = s.start; end = s.end; letters = letters })

-- ---- calculations

unfoldable pub spell_primary : Primary → List Lexeme → List Lexeme
spell_primary (number n) w = numeral n ∷ w
spell_primary (variable x) w = word x ∷ w

unfoldable pub spell_operand : Operand → List Lexeme → List Lexeme
spell_operand (plain x) w = spell_primary x w
spell_operand (opposite s x) w = sign Kind.Minus s ∷ spell_primary x w

unfoldable pub spell_factors : Factors → List Lexeme → List Lexeme
spell_factors no_factor w = w
spell_factors (times s x more) w = sign Kind.Star s ∷ spell_operand x (spell_factors more w)

unfoldable pub spell_product : Product → List Lexeme → List Lexeme
spell_product (product x more) w = spell_operand x (spell_factors more w)

unfoldable pub spell_summands : Summands → List Lexeme → List Lexeme
spell_summands no_summand w = w
spell_summands (plus s x more) w = sign Kind.Plus s ∷ spell_product x (spell_summands more w)
spell_summands (minus s x more) w = sign Kind.Minus s ∷ spell_product x (spell_summands more w)

unfoldable pub spell_calculation : Calculation → List Lexeme → List Lexeme
spell_calculation (sum x more) w = spell_product x (spell_summands more w)

-- ---- sets

unfoldable pub spell_item : Item → List Lexeme → List Lexeme
spell_item (everything s) w = sign Kind.Tilde s ∷ w
spell_item (only a) w = spell_calculation a w
spell_item (between a s b) w = spell_calculation a (sign Kind.Tilde s ∷ spell_calculation b w)
spell_item (from a s) w = spell_calculation a (sign Kind.Tilde s ∷ w)
spell_item (up_to_bound s b) w = sign Kind.Tilde s ∷ spell_calculation b w

unfoldable pub spell_set : {p : SetPart} {d : ℕ} → Choices p d → List Lexeme → List Lexeme
spell_set (item a) w = spell_item a w
spell_set (item_but_item a s b) w = spell_item a (sign Kind.Bang s ∷ spell_item b w)
spell_set (item_but_set depth a s opens b closes) w =
    spell_item a (sign Kind.Bang s ∷ sign Kind.OpenParen opens ∷ spell_set b (sign Kind.CloseParen closes ∷ w))
spell_set (last_choice a) w = spell_set a w
spell_set (or_choices a s b) w = spell_set a (sign Kind.Bar s ∷ spell_set b w)

-- ---- counts

unfoldable pub spell_counts : Counts → List Lexeme → List Lexeme
spell_counts (exactly n) w = spell_calculation n w
spell_counts (at_least_count a s) w = spell_calculation a (sign Kind.Tilde s ∷ w)
spell_counts (at_most s b) w = sign Kind.Tilde s ∷ spell_calculation b w
spell_counts (span a s b) w = spell_calculation a (sign Kind.Tilde s ∷ spell_calculation b w)

-- ---- conditions

-- `= != < <= > >=`
abbrev pub comparison_sign : Comparison → Kind
comparison_sign equal = Kind.Equal
comparison_sign unequal = Kind.Unequal
comparison_sign less = Kind.Less
comparison_sign at_most_as = Kind.AtMost
comparison_sign greater = Kind.Greater
comparison_sign at_least_as = Kind.AtLeast

unfoldable pub spell_tests : {p : TestPart} {d : ℕ} → Tests p d → List Lexeme → List Lexeme
spell_tests (compare a c s b) w = spell_calculation a (sign (comparison_sign c) s ∷ spell_calculation b w)
spell_tests (test_group depth opens a closes) w = sign Kind.OpenParen opens ∷ spell_tests a (sign Kind.CloseParen closes ∷ w)
spell_tests (one_test a) w = spell_tests a w
spell_tests (all_of a s b) w = spell_tests a (sign Kind.Ampersand s ∷ spell_tests b w)
spell_tests (any_of a s b) w = spell_tests a (sign Kind.Bar s ∷ spell_tests b w)
spell_tests (last_conjunct a) w = spell_tests a w
spell_tests (and_conjuncts a s b) w = spell_tests a (sign Kind.Ampersand s ∷ spell_tests b w)
spell_tests (last_disjunct a) w = spell_tests a w
spell_tests (or_disjuncts a s b) w = spell_tests a (sign Kind.Bar s ∷ spell_tests b w)

-- ---- expressions

unfoldable pub spell_mark : Mark → List Lexeme → List Lexeme
spell_mark (optional s) w = sign Kind.Question s ∷ w
spell_mark (any_number s) w = sign Kind.Star s ∷ w
spell_mark (one_or_more s) w = sign Kind.Plus s ∷ w
spell_mark (counted opens n closes) w = sign Kind.OpenBrace opens ∷ spell_counts n (sign Kind.CloseBrace closes ∷ w)

unfoldable pub spell : {p : Part} {d : ℕ} → Tree p d → List Lexeme → List Lexeme
spell (literal l) w = quoted l ∷ w
spell (range a s b one one') w = quoted a ∷ sign Kind.Tilde s ∷ quoted b ∷ w
spell (field signed depth u opens n comma x closes) w =
    spelled_as (field_word signed) u ∷ sign Kind.OpenParen opens ∷ numeral n ∷ sign Kind.Comma comma ∷ spell_set x (sign Kind.CloseParen closes ∷ w)
spell (binder signed depth u opens n comma v opens' x comma' y closes closes') w =
    spelled_as (field_word signed) u ∷ sign Kind.OpenParen opens ∷ numeral n ∷ sign Kind.Comma comma ∷ spelled_as var_word v ∷ sign Kind.OpenParen opens' ∷ word x ∷ sign Kind.Comma comma' ∷ spell_set y (sign Kind.CloseParen closes ∷ sign Kind.CloseParen closes' ∷ w)
spell (rule_use x other) w = word x ∷ w
spell (eod s) w = spelled_as eod_word s ∷ w
spell (group depth opens x closes) w = sign Kind.OpenParen opens ∷ spell x (sign Kind.CloseParen closes ∷ w)
spell (switch depth opens x closes) w = sign Kind.OpenBracket opens ∷ spell x (sign Kind.CloseBracket closes ∷ w)
spell (last_case c colon x end) w = spell_tests c (sign Kind.Colon colon ∷ spell x (sign Kind.Semicolon end ∷ w))
spell (case_default c colon x end colon' y end') w =
    spell_tests c (sign Kind.Colon colon ∷ spell x (sign Kind.Semicolon end ∷ sign Kind.Colon colon' ∷ spell y (sign Kind.Semicolon end' ∷ w)))
spell (case_cases c colon x end more) w = spell_tests c (sign Kind.Colon colon ∷ spell x (sign Kind.Semicolon end ∷ spell more w))
spell (once x) w = spell x w
spell (repeated x m) w = spell x (spell_mark m w)
spell (last_member x) w = spell x w
spell (and_members x s more) w = spell x (sign Kind.Ampersand s ∷ spell more w)
spell (last_branch x) w = spell x w
spell (or_branches x s more) w = spell x (sign Kind.Bar s ∷ spell more w)

-- ---- rules

abbrev pub spell_rule : Rule → List Lexeme → List Lexeme
spell_rule (rule x is e end) w = word x ∷ sign Kind.Equal is ∷ spell e (sign Kind.Semicolon end ∷ w)

unfoldable pub spell_rules : Rules → List Lexeme → List Lexeme
spell_rules (last_rule r) w = spell_rule r w
spell_rules (and_rules r more) w = spell_rule r (spell_rules more w)

-- the tokens of a text: its rules, and the end
abbrev pub spelled : Rules → (end : ℕ) → List Lexeme
spelled t end = spell_rules t (finish end ∷ [])
