-- What is known of a text that passes 5: its words are within their lengths, and every place that is stored lies in the text.
-- Assumes nothing.
use Prim.Native.Nat.{ℕ, ◌≤◌, ◌<◌}
use mathlib.Core.Path.{◌≡◌, ◌∙◌}
use mathlib.Core.Logic.{◌⊎◌, ⊎_elim}
use mathlib.Core.Bool.{false}
use mathlib.Core.List.{List, [], ◌∷◌}
use native.Mathlib.Omega.{arith}
use lib.ListN.{length, length-replicate}
use Rattle.basis.specs.Limits.{max_text_bytes, max_rules, max_constructs, max_variables, max_terms}
use Rattle.text_store.proofs.Numbers.{at_place, at_second_place, at_term, at_origin, at_name}
use Rattle.text_store.proofs.StoreLaws.{node_none, term_none, rule_none}
use Rattle.text_parsing.specs.Terminals.{terminals_from}
use Rattle.text_store.specs.Store.{State, state, node_words, term_words, rule_words, nodes_of, terms_of, binders_of, rules_of, blank}
use Rattle.text_parsing.specs.Symbols.{rules}
use Rattle.text_parsing.specs.Form.{right, run}
use Rattle.text_syntax.specs.Rules.{form_of}
use Rattle.text_shapes.specs.Placed.{Placed}
use Rattle.text_shapes.proofs.Shaped.{Shaped, shaped}
use Rattle.text_shapes.proofs.Places.{placed}
use Rattle.text_productions.proofs.Derived.{derived}
use Rattle.text_shapes.proofs.Growth.{Grows, phrases_grow}
use Rattle.text_store.specs.Words.{node_word, term_word, named_at, nodes_room, terms_room, rules_kept, rules_room}
use Rattle.text_encoding.specs.Numbers.{condition_start}
use Rattle.text_wellformed.proofs.LimitLaws.{limits}
use Rattle.text_wellformed.proofs.Sums.{side}
use Rattle.text_wellformed.proofs.StoredFacts.{quiet_of}
use Rattle.text_wellformed.proofs.Totals.{terms_of_rules}
use Rattle.text_admission.specs.Admitted.{Right, Limited}
use Rattle.text_admission.specs.Late.{Within}

-- what is read has the lengths of the arrays, and every place lies in the text, whatever its limits
pub record Basics (xs : List ℕ) (st : State) : Type 0 where
  pub node_length : length (node_words st) ≡ nodes_room
  pub term_length : length (term_words st) ≡ terms_room
  pub rule_length : length (rule_words st) ≡ rules_room
  pub places : Placed (length xs) (node_words st) (term_words st) (rule_words st)

pub record Facts (xs : List ℕ) (st : State) : Type 0 where
  pub nodes_limit : nodes_of st ≤ max_constructs
  pub terms_limit : terms_of st ≤ max_terms
  pub binders_limit : binders_of st ≤ max_variables
  pub rules_limit : rules_of st ≤ max_rules
  pub shape : Shaped xs (node_words st) (term_words st) (rule_words st) (nodes_of st) (terms_of st) (binders_of st) (rules_of st)
  pub basics : Basics xs st
  pub total : condition_start (node_words st) (nodes_of st) ≤ max_terms

ran : (xs : List ℕ) (st : State) → Right xs st → run (terminals_from xs 0) blank (rules false ∷ []) ≡ right st
unfolding form_of
ran xs st p = p.formed

pub basics : (xs : List ℕ) (st : State) → Right xs st → Basics xs st
basics xs (state ns ts rs n t b r) p =
    let e : run (terminals_from xs 0) blank (rules false ∷ []) ≡ right (state ns ts rs n t b r) = ran xs (state ns ts rs n t b r) p
    in let g : Grows blank (state ns ts rs n t b r) = phrases_grow (derived xs blank (state ns ts rs n t b r) e)
    in record {
      node_length = g.node_length ∙ length-replicate {A = ℕ} nodes_room 0;
      term_length = g.term_length ∙ length-replicate {A = ℕ} terms_room 0;
      rule_length = g.rule_length ∙ length-replicate {A = ℕ} rules_room 0;
      places = placed xs ns ts rs n t b r e;
    }

pub facts : (xs : List ℕ) (st : State) → Limited xs st → length xs ≤ max_text_bytes → Facts xs st
facts xs (state ns ts rs n t b r) p h =
    let e : run (terminals_from xs 0) blank (rules false ∷ []) ≡ right (state ns ts rs n t b r) = ran xs (state ns ts rs n t b r) p.passed
    in let l : (n ≤ max_constructs) × (t ≤ max_terms) × (b ≤ max_variables) × (r ≤ max_rules) = limits xs ns ts rs n t b r e h p.none
    in let s : Shaped xs ns ts rs n t b r = shaped xs ns ts rs n t b r e l.0 l.1 l.2 l.3
    in let z : condition_start ns n ≡ t = terms_of_rules (quiet_of s.stored l.0) s.rules
    in record {
      nodes_limit = l.0;
      terms_limit = l.1;
      binders_limit = l.2;
      rules_limit = l.3;
      shape = s;
      basics = basics xs (state ns ts rs n t b r) p.passed;
      total = omega (arith, z, l.1);
    }

-- ---- places, of any number

module _ (xs : List ℕ) (st : State) (b : Basics xs st) (h : length xs ≤ max_text_bytes) where
  node : (i w : ℕ) → (i < max_constructs → node_word (node_words st) i w ≤ length xs) → node_word (node_words st) i w ≤ max_text_bytes
  node i w f =
      ⊎_elim (λ (l : i < max_constructs). omega (arith, f l))
      (λ (l : max_constructs ≤ i). omega (arith, node_none (node_words st) i w b.node_length l))
      (side i max_constructs)

  rule : (k : ℕ) → named_at (rule_words st) k ≤ max_text_bytes
  rule k =
      ⊎_elim (λ (l : k < rules_kept). omega (arith, b.places.rules k l))
      (λ (l : rules_kept ≤ k). omega (arith, rule_none (rule_words st) k at_name b.rule_length l))
      (side k rules_kept)

  pub within : Within (node_words st) (rule_words st)
  within = record { nodes = λ i. (node i at_place (λ l. (b.places.nodes i l).0), node i at_second_place (λ l. (b.places.nodes i l).1)); rules = rule }

  pub term_within : (t w : ℕ) → (w ≡ at_term) ⊎ (w ≡ at_origin) → term_word (term_words st) t w ≤ max_text_bytes
  term_within t w z =
      ⊎_elim (λ (l : t < max_terms). ⊎_elim (λ (q : w ≡ at_term). rw q (omega (arith, (b.places.terms t l).0))) (λ (q : w ≡ at_origin). rw q (omega (arith, (b.places.terms t l).1))) z)
      (λ (l : max_terms ≤ t). omega (arith, term_none (term_words st) t w b.term_length l))
      (side t max_terms)
