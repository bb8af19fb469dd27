-- Along what is read the counts never fall, and the lists keep their lengths: so what is within the limits at the end was so throughout.
-- Assumes nothing.
use Prim.Native.Nat.{ℕ, ◌≤◌}
use mathlib.Core.Path.{◌≡◌, refl, sym, subst, ◌∙◌}
use mathlib.Core.List.{List}
use native.Mathlib.Omega.{arith}
use lib.Dec.{leb}
use lib.ListN.{length}
use Rattle.text_store.specs.Words.{nodes_room, terms_room, rules_room}
use Rattle.basis.specs.Limits.{max_rules, max_constructs, max_variables, max_terms}
use Rattle.basis.proofs.Booleans.{picked}
use Rattle.text_parsing.specs.Symbols.{Symbol}
use Rattle.text_store.specs.Store.{State, state, nodes_of, terms_of, counted, add, single, insert, condition_on, bind, close_rule, node_words, term_words, rule_words, binders_of, rules_of}
use Rattle.text_productions.specs.Phrases.{Production, Phrases, nothing, then}
use Rattle.text_store.proofs.StoreLaws.{length_put_node, length_put_condition, length_put_term, length_put_single, length_put_rule}
use Rattle.text_shapes.proofs.Changes.{Change, same, term, last_term, node, condition_of, binder_more, rule_more, changed}

-- ---- growth

pub record Grows (a b : State) : Type 0 where
  pub nodes : nodes_of a ≤ nodes_of b
  pub terms : terms_of a ≤ terms_of b
  pub binders : binders_of a ≤ binders_of b
  pub rules : rules_of a ≤ rules_of b
  pub node_length : length (node_words b) ≡ length (node_words a)
  pub term_length : length (term_words b) ≡ length (term_words a)
  pub rule_length : length (rule_words b) ≡ length (rule_words a)

grows_refl : {a : State} → Grows a a
grows_refl = record { nodes = omega arith; terms = omega arith; binders = omega arith; rules = omega arith; node_length = refl; term_length = refl; rule_length = refl }

grows_trans : {a b c : State} → Grows a b → Grows b c → Grows a c
grows_trans g h =
    record {
      nodes = omega (arith, g.nodes, h.nodes);
      terms = omega (arith, g.terms, h.terms);
      binders = omega (arith, g.binders, h.binders);
      rules = omega (arith, g.rules, h.rules);
      node_length = h.node_length ∙ g.node_length;
      term_length = h.term_length ∙ g.term_length;
      rule_length = h.rule_length ∙ g.rule_length;
    }

along : {a b c : State} → b ≡ c → Grows a c → Grows a b
along {a} {b} {c} e g = subst (Grows a) (sym e) g

-- a count never falls
counted_grows : (limit n : ℕ) → n ≤ counted limit n
counted_grows limit n = picked (λ (k : ℕ). n ≤ k) (leb n limit) (λ z. omega arith) (λ z. omega arith)

add_grows : (tag value place origin : ℕ) (a : State) → Grows a (add tag value place origin a)
add_grows tag value place origin (state ns ts rs n t b r) =
    record { nodes = omega arith; terms = counted_grows max_terms t; binders = omega arith; rules = omega arith; node_length = refl; term_length = length_put_term ts t tag value place origin; rule_length = refl }

single_grows : (a : State) → Grows a (single a)
single_grows (state ns ts rs n t b r) =
    record { nodes = omega arith; terms = omega arith; binders = omega arith; rules = omega arith; node_length = refl; term_length = length_put_single ts t; rule_length = refl }

insert_grows : (kind place i a b c d e : ℕ) (st : State) → Grows st (insert kind place i a b c d e st)
insert_grows kind place i a b c d e (state ns ts rs n t u r) =
    record { nodes = counted_grows max_constructs n; terms = omega arith; binders = omega arith; rules = omega arith; node_length = length_put_node ns i kind _ place a b c d e; term_length = refl; rule_length = refl }

condition_grows : (i from end : ℕ) (st : State) → Grows st (condition_on i from end st)
condition_grows i from end (state ns ts rs n t b r) =
    record { nodes = omega arith; terms = omega arith; binders = omega arith; rules = omega arith; node_length = length_put_condition ns i from end; term_length = refl; rule_length = refl }

bind_grows : (st : State) → Grows st (bind st)
bind_grows (state ns ts rs n t b r) =
    record { nodes = omega arith; terms = omega arith; binders = counted_grows max_variables b; rules = omega arith; node_length = refl; term_length = refl; rule_length = refl }

rule_grows : (place first : ℕ) (st : State) → Grows st (close_rule place first st)
rule_grows place first (state ns ts rs n t b r) =
    record { nodes = omega arith; terms = omega arith; binders = omega arith; rules = counted_grows max_rules r; node_length = refl; term_length = refl; rule_length = length_put_rule rs r place first n t b }

change_grows : {xs : List ℕ} {k : Symbol} {a b : State} → Change xs k a b → Grows a b
change_grows (same e) = along e grows_refl
change_grows {a = a} (term tag value place origin f e) = along e (add_grows tag value place origin a)
change_grows {a = a} (last_term e) = along e (single_grows a)
change_grows {a = a} (node kind place i u v w x y f e) = along e (insert_grows kind place i u v w x y a)
change_grows {a = a} (condition_of i from end e) = along e (condition_grows i from end a)
change_grows {a = a} (binder_more e) = along e (bind_grows a)
change_grows {a = a} (rule_more place first e) = along e (rule_grows place first a)

pub production_grows : {xs : List ℕ} {k : Symbol} {a b : State} {qs : List Symbol} → Production xs k a b qs → Grows a b
production_grows p = change_grows (changed p).0

pub phrases_grow : {xs : List ℕ} {ks : List Symbol} {a b : State} → Phrases xs ks a b → Grows a b
phrases_grow nothing = grows_refl
phrases_grow (then p u v) = grows_trans (production_grows p) (grows_trans (phrases_grow u) (phrases_grow v))

-- ---- what is within the limits

pub record Fine (st : State) : Type 0 where
  pub nodes : nodes_of st ≤ max_constructs
  pub terms : terms_of st ≤ max_terms
  pub binders : binders_of st ≤ max_variables
  pub rules : rules_of st ≤ max_rules
  pub node_length : length (node_words st) ≡ nodes_room
  pub term_length : length (term_words st) ≡ terms_room
  pub rule_length : length (rule_words st) ≡ rules_room

-- between two that are, what grew from the one and grows to the other is
pub fine_between : {a b c : State} → Fine a → Grows a b → Grows b c → Fine c → Fine b
fine_between f g h k =
    record {
      nodes = omega (arith, h.nodes, k.nodes);
      terms = omega (arith, h.terms, k.terms);
      binders = omega (arith, h.binders, k.binders);
      rules = omega (arith, h.rules, k.rules);
      node_length = g.node_length ∙ f.node_length;
      term_length = g.term_length ∙ f.term_length;
      rule_length = g.rule_length ∙ f.rule_length;
    }
