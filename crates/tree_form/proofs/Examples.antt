-- Worked examples.
-- Assumes nothing.
use Prim.Native.String.{String}
use mathlib.Core.Path.{◌≡◌, refl}
use mathlib.Core.List.{[]}
use Rattle.text_header.specs.Spans.{span_end, starts}
use Rattle.text_literals.specs.Literals.{literal_reach, characters}
use Rattle.text_tokens.specs.Names.{word_number}
use Rattle.text_tokens.specs.Numbers.{radix_at, digits_at, number_end_of, digits_value}
use Rattle.text_tokens.specs.Tokens.{gap_end, name_token, number_token, literal_token, sign_token, token_begun, token_of}
use Rattle.text_parsing.specs.Terminals.{name_code, literal_code, seen, terminal_of, terminals}
use Rattle.text_store.specs.Store.{State, state, put_term, put_single, put_words, over, room, put_node, put_condition, put_rule}
use Rattle.text_parsing.specs.Form.{Outcome, right, refused, primary_begins, operand_begins, item_begins, test_begins, atom_begins, consume, run}
use Rattle.tree.specs.Lexemes.{lexemes}
use Rattle.tree.proofs.Examples.{bytes, tokens, spelling, k1_tree, k1, signed_tree, signed_fields}
use Rattle.tree_form.specs.Spelled.{answer}
use Rattle.tree_form.specs.Form.{FirstFault}
use Rattle.tree_form.specs.Stored.{stored}
use Rattle.tree_form.proofs.Right.{complete}
use Rattle.tree_form.proofs.Places.{refused_first}

-- nothing is stored, and nothing is kept
abbrev nothing : State
nothing = state [] [] [] 0 0 0 0

-- what the reader answers, computed
unfoldable reads : String → Outcome
unfolding bytes span_end starts literal_reach characters word_number radix_at digits_at number_end_of digits_value gap_end name_token number_token literal_token sign_token token_begun token_of name_code literal_code seen terminal_of terminals put_term put_single put_words over room put_node put_condition put_rule primary_begins operand_begins item_begins test_begins atom_begins consume run
reads text = answer (bytes text) nothing

-- K1's rules are right, and stored as their tree is
k1_right : (st : State) → answer (bytes "frame = uint(8, var(len, 1~8)) & uint(8, ~){len};") st ≡ right (stored k1_tree st)
unfolding tokens spelling
k1_right st = complete (bytes "frame = uint(8, var(len, 1~8)) & uint(8, ~){len};") k1_tree 49 st k1

-- signed fields are read as theirs
signed_right : (st : State) → answer (bytes "a = sint(4, -3~2) & sint(8, var(x, ~));") st ≡ right (stored signed_tree st)
unfolding tokens spelling
signed_right st = complete (bytes "a = sint(4, -3~2) & sint(8, var(x, ~));") signed_tree 39 st signed_fields

-- `uint` sixteen deep can stand, and its `(` cannot
deep : reads "a = ((((((((((((((((uint(8, ~)))))))))))))))));" ≡ refused 24
unfolding reads
deep = refl

deep_fault : FirstFault (lexemes (bytes "a = ((((((((((((((((uint(8, ~)))))))))))))))));")) 24
unfolding reads
deep_fault = refused_first (bytes "a = ((((((((((((((((uint(8, ~)))))))))))))))));") nothing 24 deep

-- a default in the middle: after it only `]` can stand
default_between : reads "a = [x = 1: b; : c; y = 2: d;];" ≡ refused 20
unfolding reads
default_between = refl

-- conditions joined by `&` and `|` alike; a second repetition mark; no rule
mixed : reads "a = [x = 1 & y = 2 | z = 3: b;];" ≡ refused 19
unfolding reads
mixed = refl

twice_marked : reads "a = b?*;" ≡ refused 6
unfolding reads
twice_marked = refl

empty : reads "" ≡ refused 0
unfolding reads
empty = refl
