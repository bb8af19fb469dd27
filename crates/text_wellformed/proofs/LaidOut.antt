-- The words that are encoded from a right text are laid out: all parts together.
-- Assumes nothing.
use Prim.Native.Nat.{ℕ, ◌≤◌, ◌<◌}
use mathlib.Core.Path.{◌≡◌}
use mathlib.Core.Logic.{⊎_elim}
use mathlib.Core.Bool.{true}
use mathlib.Core.List.{List}
use native.Mathlib.Omega.{arith}
use lib.ListN.{length, get_or}
use Rattle.basis.specs.Limits.{max_variables, max_terms, max_literal_bytes}
use Rattle.basis.proofs.Booleans.{both_pass}
use Rattle.text_literals.specs.Literals.{characters_at}
use Rattle.text_literals.proofs.Sizes.{character_small}
use Rattle.table_layout.specs.Places.{construct_count}
use Rattle.table_wellformed.specs.Laid.{construct_laid, placed, laid}
use Rattle.text_wellformed.proofs.Tests.{from_to_all}
use Rattle.text_shapes.specs.NodeShapes.{tree, Holds, literal_tree, range_tree, use_tree, eod_tree, uint_tree, marked_tree, counted_tree, chain_tree, switch_tree}
use Rattle.text_shapes.specs.Stored.{Stored}
use Rattle.text_shapes.specs.Placed.{Placed}
use Rattle.text_names.specs.Counting.{nowhere}
use Rattle.text_store.specs.Words.{kind_of, place_of, term_tag, stored_term_at, is_use}
use Rattle.text_encoding.specs.Numbers.{binders_before, condition_start}
use Rattle.text_encoding.specs.Encoded.{encoded}
use Rattle.text_wellformed.specs.Context.{Readable, Words, Quiet}
use Rattle.text_wellformed.specs.Meant.{Known, Formed, NamedBack, BytesLaid}
use Rattle.text_wellformed.proofs.EncodedWords.{encoded_words}
use Rattle.text_wellformed.proofs.HeaderLaid.{long_enough, rest_laid, header_laid}
use Rattle.text_wellformed.proofs.ListsLaid.{lists_stand}
use Rattle.text_wellformed.proofs.TermsLaid.{terms_stand}
use Rattle.text_wellformed.proofs.StoredFacts.{quiet_of, signs_of}
use Rattle.text_wellformed.proofs.NodeFacts.{nodes}
use Rattle.text_wellformed.proofs.Totals.{binders_total, terms_total, some_node}
use Rattle.text_wellformed.proofs.Standing.{Sized, literal_sized}
use Rattle.text_wellformed.proofs.Known.{known}
use Rattle.text_wellformed.proofs.KindsLaid.{kinds_laid}
use Rattle.text_wellformed.proofs.RulesLaid.{rules_are_laid}
use Rattle.text_wellformed.proofs.ListsFormed.{lists_formed}
use Rattle.text_wellformed.proofs.BytesLaid.{bytes_laid}
use Rattle.text_wellformed.proofs.NamedLaid.{named_back_in, names_laid_in}

-- a literal's characters
literal_at : {xs ns ts : List ℕ} {i e f g β : ℕ} → Holds xs ns ts tree i e f g β → kind_of ns i ≡ 6 → Sized xs (place_of ns i)
literal_at (literal_tree x a b c) z = literal_sized c
literal_at (range_tree x a b c d) z = absurd (omega (arith, x.kind_is, z))
literal_at (use_tree x a b c) z = absurd (omega (arith, x.kind_is, z))
literal_at (eod_tree x a b) z = absurd (omega (arith, x.kind_is, z))
literal_at (uint_tree x a c b) z = absurd (omega (arith, x.kind_is, z))
literal_at (marked_tree x a b c d) z = absurd (omega (arith, x.kind_is, z))
literal_at (counted_tree x a b c d) z = absurd (omega (arith, x.kind_is, z))
literal_at (chain_tree x w a b c) z = absurd (⊎_elim (λ k. omega (arith, x.kind_is, z, k)) (λ k. omega (arith, x.kind_is, z, k)) w)
literal_at (switch_tree x a b) z = absurd (omega (arith, x.kind_is, z))

module _ {xs ns ts rs : List ℕ} {n t b r : ℕ} (text : Readable xs ns ts rs n t b r) (stored : Stored xs ns ts) (places : Placed (length xs) ns ts rs) where
  pub few_binders : binders_before ns n ≤ max_variables
  few_binders = omega (arith, binders_total text, text.binders_limit)

  pub quiet : Quiet ns n
  quiet = quiet_of stored text.nodes_limit

  pub few_terms : condition_start ns n ≤ max_terms
  few_terms = omega (arith, terms_total text quiet, text.terms_limit)

  pub words_by_place : Words xs ns ts rs n r (encoded xs ns ts rs n r)
  words_by_place = encoded_words xs ns ts rs n r text.nodes_limit text.rules_limit few_binders few_terms

  pub constructs_known : Known xs ns rs n r (encoded xs ns ts rs n r)
  constructs_known = known text words_by_place quiet

  pub term_placed : (k : ℕ) → k < t → is_use (term_tag ts k) ≡ true → stored_term_at ts k < nowhere
  term_placed k h u = omega (arith, (places.terms k (omega (arith, text.terms_limit))).0, text.short)

  formed : Formed ns n (encoded xs ns ts rs n r)
  formed = lists_formed words_by_place (nodes text) text few_binders few_terms term_placed

  pub literal_small : (i : ℕ) → i < n → kind_of ns i ≡ 6 → (length (characters_at xs (place_of ns i)) ≤ max_literal_bytes) × ((k : ℕ) → get_or (characters_at xs (place_of ns i)) k 0 < 128)
  literal_small i h z = ((literal_at ((nodes text).trees i h).holds z).1, λ k. character_small xs (place_of ns i) k)

  bytes : BytesLaid n (encoded xs ns ts rs n r)
  bytes = bytes_laid words_by_place constructs_known literal_small

  named_back : NamedBack ns n (encoded xs ns ts rs n r)
  named_back = named_back_in words_by_place constructs_known (nodes text) text few_binders

  construct_passes : (i : ℕ) → i < n → construct_laid (encoded xs ns ts rs n r) i ≡ true
  construct_passes i h = both_pass (kinds_laid text words_by_place quiet formed named_back i h) (both_pass (bytes i h) (formed.condition i h))

  all_placed : placed (encoded xs ns ts rs n r) ≡ true
  unfolding placed
  all_placed =
      both_pass (both_pass (rest_laid words_by_place) (rules_are_laid text words_by_place quiet))
      (both_pass
      (from_to_all 0 (construct_count (encoded xs ns ts rs n r)) (construct_laid (encoded xs ns ts rs n r)) (λ i a l. construct_passes i (omega (arith, words_by_place.constructs_are))))
      (both_pass (lists_stand words_by_place constructs_known few_terms quiet) (terms_stand words_by_place (nodes text) quiet (signs_of stored text.terms_limit))))

  pub laid_out : laid (encoded xs ns ts rs n r) ≡ true
  unfolding laid
  laid_out =
      both_pass (long_enough words_by_place)
      (both_pass (header_laid words_by_place text.some text.rules_limit (some_node text) text.nodes_limit few_binders few_terms)
      (both_pass all_placed (names_laid_in words_by_place constructs_known (nodes text) text few_binders few_terms term_placed)))
