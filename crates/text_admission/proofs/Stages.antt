-- What each stage hands to the functions that it calls.
-- Assumes nothing.
use Prim.Native.Nat.{ℕ, ◌+◌, ◌≤◌, ◌<◌}
use mathlib.Core.Path.{◌≡◌, refl, sym, subst, ◌∙◌}
use mathlib.Core.Logic.{inl}
use mathlib.Core.Bool.{true, false}
use mathlib.Core.List.{List}
use native.Mathlib.Omega.{arith}
use borrow.Author.Tests.{eq-eqb, ne_eqb}
use lib.Dec.{eqb}
use lib.ListN.{length, length-replicate}
use Rattle.basis.specs.Limits.{max_text_bytes, max_rules, max_constructs, max_terms, table_words}
use Rattle.table_reach.specs.Reaching.{Found}
use Rattle.std.specs.Prelude.{Option, Some, None}
use Rattle.table_judge.specs.Judged.{Passed8}
use Rattle.text_store.specs.Store.{State, node_words, term_words, rule_words, nodes_of, terms_of, rules_of}
use Rattle.text_store.proofs.Numbers.{at_term}
use Rattle.text_encoding.proofs.Writing.{written_length}
use Rattle.text_parsing.specs.Form.{refused}
use Rattle.text_parsing.specs.Cursors.{state_at}
use Rattle.text_parsing.specs.declared.Cursor.{Cursor}
use Rattle.text_syntax.specs.Rules.{form_of, outcome_of}
use Rattle.text_shapes.proofs.Places.{refused_inside}
use Rattle.text_names.specs.Counting.{nowhere}
use Rattle.text_store.specs.Words.{named_at, stored_term_at, nodes_room, terms_room, rules_room}
use Rattle.text_encoding.specs.Numbers.{condition_start}
use Rattle.text_encoding.specs.Encoded.{encoded}
use Rattle.text_wellformed.proofs.NodeFacts.{nodes_of_rules}
use Rattle.text_admission.specs.Admitted.{form, words_of, fault_5, fault_6, fault_8, Right, Limited, Named, NotRecursive, Bounded, RulesRefused, by_limit, by_name, by_cycle}
use Rattle.text_admission.specs.Late.{Within}
use Rattle.text_admission.specs.declared.Found as places
use Rattle.text_admission.proofs.Facts.{Basics, basics, facts, within, term_within}
use Rattle.text_admission.proofs.Spots.{limits_spot, names_spot, some_spot}
use Rattle.text_admission.proofs.Extending.{Inside, found_inside}
use Rattle.text_admission.proofs.Judging.{passed_8}

pub encoded_length : (xs ns ts rs : List ℕ) (n r : ℕ) → length (encoded xs ns ts rs n r) ≡ table_words
unfolding encoded
encoded_length xs ns ts rs n r = simp written_length (length-replicate {A = ℕ} table_words 0)

module _ (xs : List ℕ) (st : State) (h : length xs ≤ max_text_bytes) where
  -- 4: the form, and the place of a refusal
  pub formed : (c : Cursor) (ns ts rs : List ℕ) → form xs ≡ outcome_of c ns ts rs → (c.code ≡ 0 → ⊥) → Right xs (state_at c ns ts rs)
  formed c ns ts rs e z = record { formed = e ∙ let q : eqb c.code 0 ≡ false = ne_eqb c.code 0 z in rw (q, outcome_of) refl }

  pub not_formed : (c : Cursor) (ns ts rs : List ℕ) → form xs ≡ outcome_of c ns ts rs → c.code ≡ 0 → form xs ≡ refused c.start
  not_formed c ns ts rs e z = e ∙ let q : eqb c.code 0 ≡ true = eq-eqb c.code 0 z in rw (q, outcome_of) refl

  pub form_place : (p : ℕ) → form xs ≡ refused p → p ≤ max_text_bytes
  unfolding form_of
  form_place p e = omega (arith, refused_inside xs _ _ p e)

  -- 5 and 6: of a fault
  module _ (b : Basics xs st) where
    terms_placed : (t : ℕ) → stored_term_at (term_words st) t ≤ max_text_bytes
    terms_placed t = term_within xs st b h t at_term (inl refl)

    pub place_5 : fault_5 st < nowhere → fault_5 st ≤ max_text_bytes
    place_5 l = some_spot (fault_5 st) (limits_spot xs (node_words st) (term_words st) (rule_words st) (rules_of st) (within xs st b h) terms_placed) l

    pub place_6 : fault_6 xs st < nowhere → fault_6 xs st ≤ max_text_bytes
    place_6 l = some_spot (fault_6 xs st) (names_spot xs (node_words st) (term_words st) (rule_words st) (rules_of st) (within xs st b h) terms_placed) l

    pub by_5 : (base : ℕ) → Right xs st → fault_5 st < nowhere → RulesRefused xs base 5 (base + fault_5 st)
    by_5 base p l = by_limit p (λ z. omega (arith, z, l)) refl

    pub by_6 : (base : ℕ) → Limited xs st → fault_6 xs st < nowhere → RulesRefused xs base 6 (base + fault_6 xs st)
    by_6 base p l = by_name p (λ z. omega (arith, z, l)) refl

  pub limited : Right xs st → (past : ℕ) → past ≡ fault_5 st → nowhere ≤ past → past ≤ nowhere → Limited xs st
  limited p past e l m = record { passed = p; none = omega (arith, e, l, m) }

  pub named : Limited xs st → (wrong : ℕ) → wrong ≡ fault_6 xs st → nowhere ≤ wrong → wrong ≤ nowhere → Named xs st
  named p wrong e l m = record { passed = p; none = omega (arith, e, l, m) }

  -- 7: encoding
  abbrev pub Encodable : Type 0
  Encodable = (length (node_words st) ≡ nodes_room) × (length (term_words st) ≡ terms_room) × (length (rule_words st) ≡ rules_room) × (nodes_of st ≤ max_constructs) × (rules_of st ≤ max_rules) × (condition_start (node_words st) (nodes_of st) ≤ max_terms)

  pub encodable : Named xs st → Encodable
  encodable p = let f = facts xs st p.passed h in (f.basics.node_length, f.basics.term_length, f.basics.rule_length, f.nodes_limit, f.rules_limit, f.total)

  pub rule_placed : Named xs st → (k : ℕ) → named_at (rule_words st) k ≤ max_text_bytes
  rule_placed p = (within xs st (basics xs st p.passed.passed) h).rules

  pub long_words : length (words_of xs st) ≡ table_words
  long_words = encoded_length xs (node_words st) (term_words st) (rule_words st) (nodes_of st) (rules_of st)

  pub cyclic : (base : ℕ) (ws : List ℕ) → ws ≡ words_of xs st → (x : Option ℕ) (k : ℕ) → x ≡ Some k → Found ws x → Named xs st → RulesRefused xs base 7 (base + named_at (rule_words st) k)
  cyclic base ws w x k e f p = let q : Found (words_of xs st) (Some k) = subst (λ (v : List ℕ). Found v (Some k)) w (subst (Found ws) e f) in by_cycle p q.0 q.1 refl

  pub straight : (ws : List ℕ) → ws ≡ words_of xs st → (x : Option ℕ) → x ≡ None → Found ws x → Named xs st → NotRecursive xs st
  straight ws w x e f p = record { passed = p; none = subst (λ (v : List ℕ). Found v None) w (subst (Found ws) e f) }

  -- 8
  pub place_8 : NotRecursive xs st → (p : ℕ) → fault_8 xs st ≡ places.Found.At p → p ≤ max_text_bytes
  place_8 s p e =
      let f = facts xs st s.passed.passed h in
      subst Inside e
      (found_inside xs (node_words st) (term_words st) (words_of xs st) (nodes_of st) (terms_of st) (nodes_of_rules f.shape.rules) h (term_within xs st f.basics h))

  -- 9
  pub bounded : NotRecursive xs st → fault_8 xs st ≡ places.Found.Nothing → Bounded xs st
  bounded s e = record { passed = s; none = e }

  abbrev pub Judgeable : List ℕ → Type 0
  Judgeable ws = Passed8 ws × (length (node_words st) ≡ nodes_room) × (length (rule_words st) ≡ rules_room) × Within (node_words st) (rule_words st)

  pub judgeable : (ws : List ℕ) → ws ≡ words_of xs st → Bounded xs st → Judgeable ws
  judgeable ws w p =
      let b = basics xs st p.passed.passed.passed.passed in
      (subst Passed8 (sym w) (passed_8 xs st p h), b.node_length, b.rule_length, within xs st b h)
