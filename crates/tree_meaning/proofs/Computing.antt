-- What is computed of a text or a tree: unfolding one of these opens all that it stands on.
-- Assumes nothing.
use Prim.Native.Nat.{ℕ}
use Prim.Native.String.{String}
use mathlib.Core.Bool.{Bool, false}
use mathlib.Core.List.{List, [], ◌∷◌, map}
use mathlib.Core.Option.{Option, none}
use lib.ListN.{get_or}
use Rattle.basis.specs.Bits.{Bits, bits_of, append_digits, frame_bits, same}
use Rattle.basis.specs.Patterns.{pattern_value}
use Rattle.basis.specs.Counts.{Counts as Passes, between, exactly, at_least, span}
use Rattle.theory.specs.Grammar.{alternative, concatenation, repetition, switch, use_of, field, eod}
use Rattle.text_header.specs.Spans.{span_end, starts}
use Rattle.text_literals.specs.Literals.{literal_reach, characters}
use Rattle.text_tokens.specs.Numbers.{radix_at, digits_at, number_end_of, digits_value}
use Rattle.text_tokens.specs.Names.{word_number}
use Rattle.text_tokens.specs.Tokens.{gap_end, name_token, number_token, literal_token, sign_token, token_begun, token_of}
use Rattle.tree.specs.Lexemes.{Lexeme, lexemes_from, lexemes}
use Rattle.tree.specs.Tree.{Rule, Rules}
use Rattle.tree.specs.Spelling.{spell_primary, spell_operand, spell_factors, spell_product, spell_summands, spell_calculation, spell_item, spell_set, spell_counts, spell_tests, spell_mark, spell, spell_rules, spelled}
use Rattle.tree_meaning.specs.Values.{times_value, sum_value, in_set, is_true}
use Rattle.tree_meaning.specs.Pieces.{factor_terms, summand_terms, set_parts, tests_parts, terms_of, uses_in, pieces, bound_in, rules_of}
use Rattle.tree_meaning.specs.Places.{least}
use Rattle.tree_meaning.specs.Counted.{constructs, terms, Totals, no_rule, with_rule, limit_faults, refusal_5}
use Rattle.tree_meaning.specs.Names.{is_among, variable_faults, faults_after, name_faults, refusal_6}
use Rattle.tree_meaning.specs.Sizes.{times_size, sum_size, times_largest, sum_largest, widest_in, calculation_faults, faults_in, size_faults, refusal_8}
use Rattle.tree_meaning.specs.Grammar.{Values, TreeNode, first_context, Construct, members, branches, case_bodies, chosen, no_default, constructs_of, body_of, variable_of, rules_constructs, tree_constructs}
use Rattle.tree_meaning.proofs.Building.{bytes}

-- the tokens of a text
unfoldable pub tokens : String → List Lexeme
unfolding bytes lexemes_from token_of gap_end token_begun name_token number_token literal_token sign_token span_end number_end_of digits_at radix_at literal_reach characters digits_value
tokens s = lexemes (bytes s)

-- those of a tree
unfoldable pub written : Rules → ℕ → List Lexeme
unfolding spell_primary spell_operand spell_factors spell_product spell_summands spell_calculation spell_item spell_set spell_counts spell_tests spell_mark spell spell_rules
written t end = spelled t end

-- the totals of all rules
unfoldable pub totals_from : Totals → List Rule → Totals
totals_from n [] = n
totals_from n (r ∷ more) = totals_from (with_rule n r) more

-- with the places of 5, 6 and 8
pub data Judged : Type 0 where
  judged : (rules constructs variables terms : ℕ) (five six eight : Option ℕ) → Judged

unfoldable pub judgement : Rules → Judged
unfolding totals_from bytes starts word_number pieces set_parts tests_parts factor_terms summand_terms terms_of uses_in bound_in rules_of constructs terms limit_faults least is_among variable_faults faults_after name_faults times_size sum_size times_largest sum_largest widest_in calculation_faults faults_in size_faults spell_primary spell_operand spell_factors spell_product spell_summands spell_calculation
judgement t =
    let n = totals_from no_rule (rules_of t) in judged n.rules n.all_constructs n.variables n.all_terms (refusal_5 t) (refusal_6 t) (refusal_8 t)

-- ---- constructs

-- what is seen of one, at values of the variables and bits
pub data Seen : Type 0 where
  one_of : List ℕ → Seen
  in_order : List ℕ → Seen
  repeats : (counts static : Passes) (exact : Bool) (body : ℕ) → Seen
  chooses : Option ℕ → Bool → List ℕ → Seen
  opens : ℕ → Seen
  takes : (width : ℕ) (admits static : Bool) (after : Values) → Seen
  ends : Seen

abbrev pub see : Values → Bits → TreeNode → Seen
see v bits (alternative is) = one_of is
see v bits (concatenation is) = in_order is
see v bits (repetition counts static fixed body) = repeats (counts first_context v) static fixed body
see v bits (switch which optional is) = chooses (which first_context v) optional is
see v bits (use_of enters in-it after body) = opens body
see v bits (field width admits static binds) = takes (width bits) (admits first_context v bits) (static bits) (binds first_context v bits)
see v bits eod = ends

-- all constructs of a text, at values of the variables and w bits that are n
unfoldable pub seen : Rules → Values → (w n : ℕ) → List Seen
unfolding bytes starts pieces set_parts tests_parts factor_terms summand_terms terms_of uses_in bound_in rules_of constructs members branches case_bodies chosen no_default constructs_of body_of variable_of rules_constructs times_value sum_value in_set is_true bits_of append_digits pattern_value frame_bits same between exactly at_least span
seen t v w n = map (λ (c : Construct). see v (bits_of w n) c.node) (tree_constructs t)

-- their places, and their marks
unfoldable pub placed : Rules → List ℕ
unfolding constructs_of rules_constructs rules_of bound_in pieces spell_primary spell_operand spell_factors spell_product spell_summands spell_calculation spell_item spell_set spell_counts spell_tests spell_mark spell
placed t = map (λ (c : Construct). c.place) (tree_constructs t)

unfoldable pub marked : Rules → List ℕ
unfolding constructs_of rules_constructs rules_of bound_in pieces spell_primary spell_operand spell_factors spell_product spell_summands spell_calculation spell_item spell_set spell_counts spell_tests spell_mark spell
marked t = map (λ (c : Construct). c.mark) (tree_constructs t)

-- which of these numbers the first construct of a text admits, in w bits
unfoldable pub admitted : Rules → Values → (w : ℕ) → List ℕ → List Bool
unfolding seen
admitted t v w ns = map (λ n. admits_first (seen t v w n)) ns
  where
    admits_first : List Seen → Bool
    admits_first [] = false
    admits_first (one_of is ∷ more) = false
    admits_first (in_order is ∷ more) = false
    admits_first (repeats counts static exact body ∷ more) = false
    admits_first (chooses is optional js ∷ more) = false
    admits_first (opens body ∷ more) = false
    admits_first (takes width admits static after ∷ more) = admits
    admits_first (ends ∷ more) = false

-- the case that construct i takes
unfoldable pub turns : Rules → Values → ℕ → Option ℕ
unfolding seen
turns t v i = taken (get_or (seen t v 8 0) i ends)
  where
    taken : Seen → Option ℕ
    taken (one_of is) = none
    taken (in_order is) = none
    taken (repeats counts static exact body) = none
    taken (chooses is optional js) = is
    taken (opens body) = none
    taken (takes width admits static after) = none
    taken ends = none

-- the places of 5, 6 and 8 alone
abbrev pub place_five : Judged → Option ℕ
place_five (judged rules constructs variables terms five six eight) = five

abbrev pub place_six : Judged → Option ℕ
place_six (judged rules constructs variables terms five six eight) = six

abbrev pub place_eight : Judged → Option ℕ
place_eight (judged rules constructs variables terms five six eight) = eight
