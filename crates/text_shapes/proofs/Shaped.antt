-- A right text within the limits has rules made of trees.
-- Assumes nothing.
use Prim.Native.Nat.{ℕ, ◌≤◌}
use mathlib.Core.Path.{◌≡◌, ◌∙◌}
use mathlib.Core.Bool.{false}
use mathlib.Core.List.{List, [], ◌∷◌}
use lib.ListN.{length, length-replicate}
use Rattle.text_store.specs.Words.{nodes_room, terms_room, rules_room}
use Rattle.basis.specs.Limits.{max_rules, max_constructs, max_variables, max_terms}
use Rattle.text_parsing.specs.Terminals.{terminals_from}
use Rattle.text_store.specs.Store.{State, state, term_words, blank}
use Rattle.text_parsing.specs.Symbols.{rules}
use Rattle.text_parsing.specs.Form.{right, run}
use Rattle.text_productions.specs.Phrases.{Phrases}
use Rattle.text_productions.proofs.Derived.{derived}
use Rattle.text_shapes.specs.NodeShapes.{Rules}
use Rattle.text_shapes.specs.Stored.{Stored}
use Rattle.text_shapes.proofs.Adding as adding
use Rattle.text_shapes.proofs.TermLaws.{set_read, condition_read, counts_read, Before}
use Rattle.text_shapes.proofs.ShapeLaws.{set_same, condition_same, counts_same}
use Rattle.text_shapes.proofs.Growth.{Grows, phrases_grow}
use Rattle.text_shapes.proofs.Claims.{TermsOnly, TermFacts}
use Rattle.text_shapes.proofs.NodeLaws.{shape_of}
use Rattle.text_shapes.proofs.StoredLaws as words

only : {a b : State} → length (term_words a) ≡ terms_room → adding.TermsOnly a b → Before a b → TermsOnly a b
only l t k =
    record {
      node_words_same = t.same_nodes;
      rule_words_same = t.same_rules;
      nodes_same = t.nodes_count;
      binders_same = t.binders_count;
      rules_same = t.rules_count;
      length_is = t.same_length ∙ l;
      grow = t.grows;
      kept = k;
    }

facts : (xs : List ℕ) → TermFacts xs
facts xs =
    record {
      same = record { set_same = λ ts us f e s h. set_same s h; condition_same = λ ts us f e s h. condition_same s h; counts_same = λ ts us f e s h. counts_same s h };
      set_read = λ d a b p l m n. let r = set_read p l m n in (r.0, only l r.1 r.2);
      condition_read = λ d a b p l m n. let r = condition_read p l m n in (r.0, only l r.1 r.2);
      counts_read = λ a b p l m. let r = counts_read p l m in (r.0, only l r.1 r.2);
    }

pub record Shaped (xs ns ts rs : List ℕ) (n t b r : ℕ) : Type 0 where
  pub rules : Rules xs ns ts rs r n t b 0 0 0 0
  pub some : 1 ≤ r
  pub node_length : length ns ≡ nodes_room
  pub term_length : length ts ≡ terms_room
  pub rule_length : length rs ≡ rules_room
  pub stored : Stored xs ns ts

pub shaped : (xs ns ts rs : List ℕ) (n t b r : ℕ) → run (terminals_from xs 0) blank (rules false ∷ []) ≡ right (state ns ts rs n t b r) → n ≤ max_constructs → t ≤ max_terms → b ≤ max_variables → r ≤ max_rules → Shaped xs ns ts rs n t b r
shaped xs ns ts rs n t b r e h i j k =
    let p : Phrases xs (rules false ∷ []) blank (state ns ts rs n t b r) = derived xs blank (state ns ts rs n t b r) e
    in let g : Grows blank (state ns ts rs n t b r) = phrases_grow p
    in let q : Rules xs ns ts rs r n t b 0 0 0 0 × (1 ≤ r) = shape_of xs (facts xs) ns ts rs n t b r p h i j k
    in record {
      rules = q.0;
      some = q.1;
      node_length = g.node_length ∙ length-replicate {A = ℕ} nodes_room 0;
      term_length = g.term_length ∙ length-replicate {A = ℕ} terms_room 0;
      rule_length = g.rule_length ∙ length-replicate {A = ℕ} rules_room 0;
      stored = words.stored xs ns ts rs n t b r p;
    }
