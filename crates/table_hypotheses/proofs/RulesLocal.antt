-- Whether words are well laid out is read from the words below the sets, and from the weight and the words past the sets.
-- Assumes nothing.
use Prim.Native.Nat.{ℕ, zero, suc, ◌+◌, ◌*◌, ◌-◌, ◌≤◌, ◌<◌}
use mathlib.Core.Path.{◌≡◌, refl, sym, ap, ◌∙◌}
use mathlib.Core.Logic.{inl, inr}
use mathlib.Core.Bool.{Bool, true, false, cond, ◌&&◌, ◌||◌}
use mathlib.Core.List.{List}
use native.Mathlib.Omega.{arith}
use borrow.Author.Tests.{ltb-true, eqb-true, le-leb}
use lib.Dec.{leb, ltb, eqb}
use lib.ListN.{length}
use Rattle.basis.specs.Limits.{max_rules, max_constructs, max_variables, max_terms, max_weight}
use Rattle.basis.proofs.Booleans.{which}
use Rattle.term_words.specs.Words.{term_at}
use Rattle.term_words.specs.declared.Operation.{Operation}
use Rattle.term_words.specs.declared.Term.{Term}
use Rattle.table_layout.specs.Places.{word, table_words, rules_at, variables_at, constructs_at, terms_at, literals_at, sets_at, rule_count, construct_count, variable_count, weight_of, rule_word}
use Rattle.table_layout.specs.Constructs.{construct_at}
use Rattle.table_layout.specs.Held.{term_words}
use Rattle.table_layout.specs.declared.Construct.{Construct}
use Rattle.table_wellformed.specs.Checks.{limited, from_to, all_zero, size_at}
use Rattle.table_wellformed.specs.Parts.{unconditioned}
use Rattle.table_wellformed.specs.Lists.{own_start, own_end, begins, after, lists_begin, after_lists, lists_from, lists_laid, has_low, has_high, term_laid}
use Rattle.table_wellformed.specs.Rules.{body, rule_end, rule_laid, binder_of, sign_word, variable_laid, member_laid, next_variable, binders_from, is_concatenation, binders_laid, visible, operation_named, term_named, list_named, construct_named, uses_laid}
use Rattle.table_wellformed.specs.Laid.{headed, construct_laid, placed, laid}
use Rattle.table_layout.proofs.Bounds.{bounds}
use Rattle.table_structure.proofs.Facts.{Laid, facts}
use Rattle.table_structure.proofs.RuleLaws.{next_begins, last_ends, rule_fact, rule_within}
use Rattle.table_structure.proofs.NodeFacts.{body_exists}
use Rattle.table_hypotheses.specs.OneTable.{Alike, Ended}
use Rattle.table_hypotheses.proofs.HeldLocal.{construct_words, rule_words, variable_words, constructs_same, terms_same}
use Rattle.table_hypotheses.proofs.EndedWords.{ended_of, weight_limited, all_past}
use Rattle.table_hypotheses.proofs.LaidLocal.{from_to_same, header_same, zeros_same, size_same, walk_same, unconditioned_same, construct_laid_same}

-- no rule's variables end past their number
variables_end : {ws : List ℕ} (l : Laid ws) (n r : ℕ) → r + 1 + n ≡ rule_count ws → rule_end ws r 1 ≤ variable_count ws
variables_end {ws} l zero r e = let ends : rule_end ws r 1 ≡ variable_count ws = last_ends ws r 1 (omega arith) in omega arith
variables_end {ws} l (suc n) r e =
    let later : rule_end ws (r + 1) 1 ≤ variable_count ws = variables_end l n (r + 1) (omega arith) in
    let next : rule_end ws r 1 ≡ rule_word ws (r + 1) 1 = next_begins ws r 1 (omega arith) in
    omega (arith, (rule_fact l (r + 1) (omega arith)).variables)

-- what binds is a construct, and its variable one of the 64
binder_small : (ws : List ℕ) (i x : ℕ) → binder_of (construct_at ws i) ≡ x + 1 → (i < 256) × (x < 64)
binder_small ws i x e = ((bounds ws i).bound (omega arith), omega (arith, (bounds ws i).binder))

module _ {ws ws' : List ℕ} (a : Alike ws ws') where
  -- ---- lists of terms

  lists_begin_same : (i p : ℕ) → i < max_constructs → lists_begin ws i p ≡ lists_begin ws' i p
  lists_begin_same i p h =
      let from = construct_words a i 6 h (omega arith) in
      let upto = construct_words a i 7 h (omega arith) in
      λ t. begins p (from t) (upto t) && begins (after p (from t) (upto t)) (own_start (constructs_same a i t)) (own_end (constructs_same a i t))

  after_lists_same : (i p : ℕ) → i < max_constructs → after_lists ws i p ≡ after_lists ws' i p
  after_lists_same i p h =
      let from = construct_words a i 6 h (omega arith) in
      let upto = construct_words a i 7 h (omega arith) in
      λ t. after (after p (from t) (upto t)) (own_start (constructs_same a i t)) (own_end (constructs_same a i t))

  lists_same : (n i p : ℕ) → i + n ≤ max_constructs → lists_from n ws i p ≡ lists_from n ws' i p
  unfolding lists_from
  lists_same zero i p h = λ t. eqb p (header_same a 4 (omega arith) t)
  lists_same (suc n) i p h =
      let here = lists_begin_same i p (omega arith) in
      let next = after_lists_same i p (omega arith) in
      λ t. elim (here t) [ true ↦ lists_same n (i + 1) (next t) (omega arith) t | false ↦ false ]

  term_same : (k : ℕ) → k < max_terms → term_laid ws k ≡ term_laid ws' k
  term_same k h =
      let tag : word ws (terms_at + 3 * k) ≡ word ws' (terms_at + 3 * k) = a.same (terms_at + 3 * k) (omega arith) (λ e. omega arith) in
      let low : word ws (terms_at + 3 * k + 1) ≡ word ws' (terms_at + 3 * k + 1) = a.same (terms_at + 3 * k + 1) (omega arith) (λ e. omega arith) in
      let high : word ws (terms_at + 3 * k + 2) ≡ word ws' (terms_at + 3 * k + 2) = a.same (terms_at + 3 * k + 2) (omega arith) (λ e. omega arith) in
      λ t. (has_low (tag t) || eqb (low t) 0) && (has_high (tag t) || eqb (high t) 0)

  -- ---- binders

  variable_same : (x j : ℕ) → variable_laid ws x j ≡ variable_laid ws' x j
  variable_same x j =
      elim (which (eqb (binder_of (construct_at ws j)) (x + 1))) [
        | inl s ↦
            let small = binder_small ws j x (eqb-true (binder_of (construct_at ws j)) (x + 1) s) in
            let place = variable_words a x 0 small.1 (omega arith) in
            let width = variable_words a x 1 small.1 (omega arith) in
            let sign = variable_words a x 2 small.1 (omega arith) in
            let zeros = zeros_same a (variables_at + 4 * x + 3) (variables_at + 4 * x + 4) (omega arith) (omega (arith, small.1)) in
            λ t. (eqb (binder_of (constructs_same a j t)) (x + 1) && eqb (place t) j) && ((eqb (width t) (construct_words a j 2 small.0 (omega arith) t) && eqb (sign t) (sign_word (constructs_same a j t))) && zeros t)
        | inr s ↦ rw (s, ap (λ (c : Construct). eqb (binder_of c) (x + 1)) (sym (constructs_same a j)) ∙ s) refl
      ]

  member_same : (j x : ℕ) → member_laid ws j x ≡ member_laid ws' j x
  member_same j x = λ t. cond (ltb 0 (binder_of (constructs_same a j t))) (variable_same x j t) true

  binders_from_same : (start end first last : ℕ) → binders_from ws start end first last ≡ binders_from ws' start end first last
  binders_from_same start end first last =
      walk_same a (member_laid ws) (member_laid ws') (next_variable ws) (next_variable ws') (λ j x. eqb x last) end
      (λ j x t. ltb 0 (size_same a j t) && member_same j x t) (λ j x t. cond (ltb 0 (binder_of (constructs_same a j t))) (x + 1) x) (end - start) start first

  -- ---- uses

  visible_same : (first last i y : ℕ) → last ≤ max_variables → visible ws first last i y ≡ visible ws' first last i y
  visible_same first last i y h =
      elim (which (ltb y last)) [
        | inl s ↦ λ t. ltb y last && (leb first y && ltb (variable_words a y 0 (omega (arith, ltb-true y last s)) (omega arith) t) i)
        | inr s ↦ rw s
      ]

  operation_same : (first last i : ℕ) (o : Operation) → last ≤ max_variables → operation_named ws first last i o ≡ operation_named ws' first last i o
  operation_same first last i (Operation.Number n) h = refl
  operation_same first last i (Operation.Variable y) h = visible_same first last i y h
  operation_same first last i Operation.Add h = refl
  operation_same first last i Operation.Subtract h = refl
  operation_same first last i Operation.Multiply h = refl
  operation_same first last i Operation.Negate h = refl
  operation_same first last i Operation.Unknown h = refl

  term_named_same : (first last i : ℕ) (x : Term) → last ≤ max_variables → term_named ws first last i x ≡ term_named ws' first last i x
  term_named_same first last i (Term.Part o) h = operation_same first last i o h
  term_named_same first last i (Term.Single o) h = operation_same first last i o h
  term_named_same first last i Term.All h = refl
  term_named_same first last i Term.Range h = refl
  term_named_same first last i Term.From h = refl
  term_named_same first last i Term.UpTo h = refl
  term_named_same first last i Term.Or h = refl
  term_named_same first last i Term.Except h = refl
  term_named_same first last i Term.And h = refl
  term_named_same first last i (Term.Compare k) h = refl
  term_named_same first last i Term.Bad h = refl

  list_named_same : (first last i start end : ℕ) → last ≤ max_variables → list_named ws first last i start end ≡ list_named ws' first last i start end
  list_named_same first last i start end h =
      from_to_same (λ t. term_named ws first last i (term_at (term_words ws) t)) (λ t. term_named ws' first last i (term_at (term_words ws') t)) start end
      (λ k l m. term_named_same first last i (term_at (term_words ws) k) h ∙ ap (λ (w : List ℕ). term_named ws' first last i (term_at w k)) (terms_same a))

  construct_named_same : (first last i : ℕ) → last ≤ max_variables → i < max_constructs → construct_named ws first last i ≡ construct_named ws' first last i
  construct_named_same first last i h l =
      λ t.
      list_named_same first last i (construct_words a i 6 l (omega arith) t) (construct_words a i 7 l (omega arith) t) h t
      && list_named_same first last i (own_start (constructs_same a i t)) (own_end (constructs_same a i t)) h t

  -- ---- rules

  module _ (l : Laid ws) where
    pub rule_end_same : (r k : ℕ) → k < 2 → rule_end ws r k ≡ rule_end ws' r k
    rule_end_same r k h =
        elim (which (ltb (r + 1) (rule_count ws))) [
          | inl s ↦ λ t. cond (ltb (r + 1) (header_same a 1 (omega arith) t)) (rule_words a (r + 1) k (omega (arith, ltb-true (r + 1) (rule_count ws) s, l.counts.rules)) (omega arith) t) (header_same a (2 + k) (omega arith) t)
          | inr s ↦ rw (s, sym (ap (ltb (r + 1)) (header_same a 1 (omega arith))) ∙ s) (header_same a (2 + k) (omega arith))
        ]

    module _ (r : ℕ) (h : r < rule_count ws) where
      small : r < max_rules
      small = omega (arith, l.counts.rules)

      body_small : body ws r < max_constructs
      body_small = omega (arith, body_exists l r h, l.counts.constructs)

      variables_small : rule_end ws r 1 ≤ max_variables
      variables_small = omega (arith, variables_end l (rule_count ws - (r + 1)) r (omega arith), l.counts.variables)

      own : (k : ℕ) → k < 4 → rule_word ws r k ≡ rule_word ws' r k
      own k b = rule_words a r k small b

      at_body : (A : Type 0) (f g : ℕ → A) → ((i : ℕ) → i < max_constructs → f i ≡ g i) → f (body ws r) ≡ g (body ws' r)
      at_body A f g e = e (body ws r) body_small ∙ ap g (own 0 (omega arith))

      rule_same : rule_laid ws r ≡ rule_laid ws' r
      rule_same =
          let size = at_body ℕ (size_at ws) (size_at ws') (λ i b. size_same a i) in
          let no_case = at_body Bool (unconditioned ws) (unconditioned ws') (unconditioned_same a) in
          λ t.
          (ltb (own 0 (omega arith) t) (rule_end_same r 0 (omega arith) t) && eqb (own 0 (omega arith) t + size t) (rule_end_same r 0 (omega arith) t))
          && (eqb (own 1 (omega arith) t + own 2 (omega arith) t) (rule_end_same r 1 (omega arith) t) && (eqb (own 3 (omega arith) t) 0 && no_case t))

      binders_same : binders_laid ws r ≡ binders_laid ws' r
      binders_same =
          let top = at_body Bool (λ i. is_concatenation (construct_at ws i)) (λ i. is_concatenation (construct_at ws' i)) (λ i b. ap is_concatenation (constructs_same a i)) in
          λ t. binders_from_same (cond (top t) (own 0 (omega arith) t + 1) (own 0 (omega arith) t)) (rule_end_same r 0 (omega arith) t) (own 1 (omega arith) t) (rule_end_same r 1 (omega arith) t) t

      uses_same : uses_laid ws r ≡ uses_laid ws' r
      uses_same =
          from_to_same (construct_named ws (rule_word ws r 1) (rule_end ws r 1)) (construct_named ws' (rule_word ws r 1) (rule_end ws r 1)) (body ws r) (rule_end ws r 0)
          (λ i low high. construct_named_same (rule_word ws r 1) (rule_end ws r 1) i variables_small (omega (arith, rule_within l r h, l.counts.constructs)))
          ∙ (λ t. from_to (own 0 (omega arith) t) (rule_end_same r 0 (omega arith) t) (construct_named ws' (own 1 (omega arith) t) (rule_end_same r 1 (omega arith) t)))

    -- for the numbers up to a count
    counted : (k : ℕ) → k < 5 → (f g : ℕ → Bool) → ((i : ℕ) → i < word ws k → f i ≡ g i) → from_to 0 (word ws k) f ≡ from_to 0 (word ws' k) g
    counted k b f g h = from_to_same f g 0 (word ws k) (λ i low high. h i high) ∙ ap (λ (n : ℕ). from_to 0 n g) (header_same a k b)

  pub laid_local : Ended ws' → laid ws ≡ true → laid ws' ≡ true
  unfolding laid headed placed
  laid_local ended h =
      let l : Laid ws = facts ws h in
      let e : Ended ws = ended_of l in
      let long : leb table_words (length ws) ≡ leb table_words (length ws') = le-leb table_words (length ws) e.long ∙ sym (le-leb table_words (length ws') ended.long) in
      let weight : limited 1 (weight_of ws) max_weight ≡ limited 1 (weight_of ws') max_weight = weight_limited e ∙ sym (weight_limited ended) in
      let past : all_zero ws (sets_at + 32 * construct_count ws) table_words ≡ all_zero ws' (sets_at + 32 * construct_count ws') table_words = all_past e ∙ sym (all_past ended) in
      let count = header_same a in
      let zeros : (start width k : ℕ) (b : k < 5) (end : ℕ) → 6 ≤ start → end ≤ sets_at → all_zero ws (start + width * word ws k) end ≡ all_zero ws' (start + width * word ws' k) end =
      λ start width k b end low high t. zeros_same a (start + width * count k b t) end (omega arith) high t in
      let rules = counted l 1 (omega arith) (rule_laid ws) (rule_laid ws') (rule_same l) in
      let names =
      counted l 1 (omega arith) (λ r. binders_laid ws r && uses_laid ws r) (λ r. binders_laid ws' r && uses_laid ws' r)
      (λ r b t. binders_same l r b t && uses_same l r b t) in
      let constructs = counted l 2 (omega arith) (construct_laid ws) (construct_laid ws') (λ i b. construct_laid_same a i (omega (arith, l.counts.constructs))) in
      let terms = counted l 4 (omega arith) (term_laid ws) (term_laid ws') (λ k b. term_same k (omega (arith, l.counts.terms))) in
      let lists : lists_laid ws ≡ lists_laid ws' = lists_same (construct_count ws) 0 0 (omega (arith, l.counts.constructs)) ∙ ap (λ (n : ℕ). lists_from n ws' 0 0) (count 2 (omega arith)) in
      let whole : laid ws ≡ laid ws' =
      λ t.
      long t
      && (((eqb (count 0 (omega arith) t) 1399811687 && ((limited 1 (count 1 (omega arith) t) max_rules && limited 1 (count 2 (omega arith) t) max_constructs) && (leb (count 3 (omega arith) t) max_variables && leb (count 4 (omega arith) t) max_terms)))
      && (weight t && zeros_same a 6 rules_at (omega arith) (omega arith) t))
      && (((((zeros rules_at 4 1 (omega arith) variables_at (omega arith) (omega arith) t && zeros variables_at 4 3 (omega arith) constructs_at (omega arith) (omega arith) t)
      && ((zeros constructs_at 8 2 (omega arith) terms_at (omega arith) (omega arith) t && zeros terms_at 3 4 (omega arith) literals_at (omega arith) (omega arith) t)
      && (zeros literals_at 8 2 (omega arith) sets_at (omega arith) (omega arith) t && past t)))
      && ((eqb (rule_words a 0 0 (omega arith) (omega arith) t) 0 && eqb (rule_words a 0 1 (omega arith) (omega arith) t) 0) && rules t))
      && (constructs t && (lists t && terms t)))
      && names t)) in
      sym whole ∙ h
