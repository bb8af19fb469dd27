-- The words that are encoded of a text hold the grammar of what is stored of it, and so the tree's: at all values that are met the constructs are the same.
-- Assumes nothing.
use Prim.Native.Nat.{ℕ, ◌≤◌, ◌<◌}
use mathlib.Core.Path.{◌≡◌, sym, subst}
use mathlib.Core.List.{List}
use mathlib.Core.Option.{none}
use lib.ListN.{length}
use Rattle.basis.specs.Limits.{max_text_bytes}
use Rattle.basis.specs.Bits.{Bits}
use Rattle.theory.specs.Grammar.{Grammar}
use Rattle.theory.specs.Lookahead.{Conflict, EmptyBody}
use Rattle.table_layout.specs.Held.{Context, Values, held}
use Rattle.text_store.specs.Store.{State, state, node_words, term_words, rule_words, nodes_of, rules_of}
use Rattle.text_store.specs.Words.{place_of, mark_place, named_at}
use Rattle.text_meaning.specs.Meaning.{grammar_of}
use Rattle.text_meaning.proofs.Holding.{holds_text}
use Rattle.text_admission.specs.Admitted.{words_of, Right, Bounded}
use Rattle.text_admission.proofs.Facts.{facts}
use Rattle.text_admission.proofs.Judging.{readable}
use Rattle.tree.specs.Tree.{Rules}
use Rattle.tree_meaning.specs.Pieces.{rule_name}
use Rattle.tree_meaning.specs.Counted.{refusal_5}
use Rattle.tree_meaning.specs.Names.{refusal_6}
use Rattle.tree_meaning.specs.Sizes.{refusal_8}
use Rattle.tree_meaning.specs.Grammar.{construct_numbered, tree_grammar}
use Rattle.tree_meaning.specs.Reaching.{start_rule}
use Rattle.tree_store.proofs.Standing.{SpelledBy}
use Rattle.tree_agreement.proofs.SameSets.{SameSets}
use Rattle.tree_agreement.proofs.Texts.{text_sets}
use Rattle.tree_agreement.proofs.Places.{empty_below, conflict_below, place_stored, mark_stored, start_stored}
use Rattle.admission.proofs.Stages.{tree, by, from_stored, five, six, eight}

-- the grammar of what is stored
abbrev pub meant : List ℕ → State → Grammar Context Values
meant xs st = grammar_of xs (node_words st) (term_words st) (rule_words st) (nodes_of st) (rules_of st)

pub words_hold : (xs : List ℕ) (st : State) → Bounded xs st → length xs ≤ max_text_bytes → held (words_of xs st) ≡ meant xs st
words_hold xs (state ns ts rs n t b r) p h =
    let f = facts xs (state ns ts rs n t b r) p.passed.passed.passed h in
    holds_text (readable xs ns ts rs n t b r p f h) f.shape.stored f.basics.places

module _ (xs : List ℕ) (short : length xs ≤ max_text_bytes) (st : State) (p : Bounded xs st) where
  abbrev pub formed : Right xs st
  formed = p.passed.passed.passed.passed

  -- the tree
  abbrev pub its_tree : Rules
  its_tree = tree xs short st formed

  pub spelled : SpelledBy xs its_tree
  spelled = by xs short st formed

  pub no_5 : refusal_5 its_tree ≡ none
  no_5 = five xs short st formed p.passed.passed.passed.none

  pub no_6 : refusal_6 its_tree ≡ none
  no_6 = six xs short st formed no_5 p.passed.passed.none

  pub no_8 : refusal_8 its_tree ≡ none
  no_8 = eight xs short st formed no_5 no_6 p.none

  -- windows, conflicts, empty bodies and weights of the words' grammar are the tree's
  pub word_sets : SameSets (held (words_of xs st)) (tree_grammar its_tree)
  word_sets =
      subst (λ (g : Grammar Context Values). SameSets g (tree_grammar its_tree)) (sym (words_hold xs st p short))
      (from_stored xs short st formed (λ z. SameSets (meant xs z) (tree_grammar its_tree)) (text_sets spelled no_5 no_6 no_8))

  -- ---- places

  pub empty_there : (i : ℕ) → EmptyBody (tree_grammar its_tree) i → i < nodes_of st
  empty_there i e = from_stored xs short st formed (λ z. i < nodes_of z) (empty_below spelled no_5 no_6 no_8 i e)

  pub mark_is : (i : ℕ) → EmptyBody (tree_grammar its_tree) i → mark_place (node_words st) i ≡ (construct_numbered its_tree i).mark
  mark_is i e = from_stored xs short st formed (λ z. mark_place (node_words z) i ≡ (construct_numbered its_tree i).mark) (mark_stored spelled no_5 no_6 no_8 i e)

  pub place_there : (i : ℕ) → i < nodes_of st → place_of (node_words st) i ≡ (construct_numbered its_tree i).place
  place_there i = from_stored xs short st formed (λ z. i < nodes_of z → place_of (node_words z) i ≡ (construct_numbered its_tree i).place) (place_stored spelled no_5 no_6 no_8 i)

  pub place_is : (i : ℕ) (x : Bits) → Conflict (tree_grammar its_tree) i x → place_of (node_words st) i ≡ (construct_numbered its_tree i).place
  place_is i x e = place_there i (from_stored xs short st formed (λ z. i < nodes_of z) (conflict_below spelled no_5 no_6 no_8 i x e))

  pub start_is : named_at (rule_words st) 0 ≡ (rule_name (start_rule its_tree)).start
  start_is = from_stored xs short st formed (λ z. named_at (rule_words z) 0 ≡ (rule_name (start_rule its_tree)).start) (start_stored spelled no_5 no_6 no_8)
