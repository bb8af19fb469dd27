-- Each variable that a construct uses is one of its rule, bound before the construct.
-- Assumes nothing.
use Prim.Native.Nat.{ℕ, ◌+◌, ◌-◌, ◌≤◌, ◌<◌}
use mathlib.Core.Path.{◌≡◌, refl, subst}
use mathlib.Core.Bool.{Bool, true, false, cond}
use mathlib.Core.List.{List}
use native.Mathlib.Omega.{arith}
use borrow.Author.Tests.{lt-ltb, le-leb, eqb-true, ltb-false}
use lib.Dec.{eqb, ltb}
use Rattle.basis.specs.Limits.{max_variables, max_terms}
use Rattle.basis.proofs.Booleans.{picked}
use Rattle.term_words.specs.Words.{operation_of, term_of, term_at}
use Rattle.term_words.specs.declared.Operation.{Operation}
use Rattle.term_words.specs.declared.Term.{Term}
use Rattle.table_layout.specs.Held
use Rattle.table_layout.specs.Places.{construct_word}
use Rattle.table_wellformed.specs.Lists
use Rattle.table_wellformed.specs.Rules.{visible, operation_named, term_named, list_named, construct_named, uses_laid}
use Rattle.term_words.proofs.KnownTerms.{AllKnown}
use Rattle.text_shapes.specs.TermShapes.{SetShape, ConditionShape, CountsShape, read_terms, rename_operation, rename_term}
use Rattle.text_names.specs.Counting.{nowhere}
use Rattle.text_store.specs.Words.{own_from, own_end, condition_from, condition_end, term_tag, term_value, stored_term_at, is_use, first_node, last_node}
use Rattle.text_encoding.specs.Numbers.{first_at, binders_before, binder_of, variable_of, condition_length, own_length, condition_start, own_start}
use Rattle.text_wellformed.specs.Context.{Readable, Words, Nodes, ConditionAt, without, with_one, TreeAt}
use Rattle.text_wellformed.specs.Meant.{meant, Known}
use Rattle.text_wellformed.proofs.Tests.{from_to_all}
use Rattle.text_wellformed.proofs.RulesAt.{first_at_in}
use Rattle.text_wellformed.proofs.NoFaults.{Bound, bound_below, bound_from, binders_mono, condition_use, own_use}
use Rattle.text_wellformed.proofs.TermsKnown.{by_sign, known_set, known_condition, known_repeats}
use Rattle.text_wellformed.proofs.TermsListed.{Listed, cut_variable, known_at, term_listed}
use Rattle.text_wellformed.proofs.ListsFormed.{field_list, counts_list, own_listed, condition_listed, no_condition, a_condition}
use Rattle.text_wellformed.proofs.NodesMeant.{OwnMeant, of_field, of_counts, of_none, own_meant}
use Rattle.text_wellformed.proofs.RuleWords.{rule, body_is, first_variable, nodes_end, variables_end, variable_names}

-- ---- of terms only a variable's use names something

use_two : (tag : ℕ) → eqb tag 2 ≡ true → is_use tag ≡ true
use_two tag e = rw e

use_item : (tag : ℕ) → tag ≡ 34 → is_use tag ≡ true
use_item tag e = rw e

module _ (ws : List ℕ) (first last i : ℕ) (g : ℕ → ℕ) where
  abbrev NamedOperation : Operation → Type 0
  NamedOperation o = operation_named ws first last i (rename_operation g o) ≡ true

  abbrev NamedTerm : Term → Type 0
  NamedTerm x = term_named ws first last i (rename_term g x) ≡ true

  operation_is_named : (tag x : ℕ) → (eqb tag 2 ≡ true → visible ws first last i (g x) ≡ true) → NamedOperation (operation_of tag x 0)
  operation_is_named tag x h =
      picked NamedOperation (eqb tag 1) (λ e. refl) (λ e. picked NamedOperation (eqb tag 2) h (λ e. picked NamedOperation (eqb tag 3) (λ e. refl) (λ e. picked NamedOperation (eqb tag 4) (λ e. refl) (λ e. picked NamedOperation (eqb tag 5) (λ e. refl) (λ e. picked NamedOperation (eqb tag 6) (λ e. refl) (λ e. refl))))))

  term_is_named : (tag x : ℕ) → (is_use tag ≡ true → visible ws first last i (g x) ≡ true) → NamedTerm (term_of tag x 0)
  unfolding term_of
  term_is_named tag x h =
      picked NamedTerm (ltb tag 7) (λ e. operation_is_named tag x (λ z. h (use_two tag z))) (λ e.
      picked NamedTerm (ltb tag 32) (λ f. by_sign NamedTerm refl refl refl refl refl refl refl (λ k. refl) refl tag)
      (λ f. operation_is_named (tag - 32) x (λ z. h (use_item tag (let k : 32 ≤ tag = ltb-false tag 32 f in omega (arith, eqb-true (tag - 32) 2 z))))))

  words_named : (used : Bool) (tag value place : ℕ) → is_use tag ≡ used → (used ≡ true → visible ws first last i (g place) ≡ true) → NamedTerm (term_of tag (cond used place value) 0)
  words_named true tag value place e h = term_is_named tag place (λ z. h refl)
  words_named false tag value place e h = term_is_named tag value (λ z. let y : ◌≡◌ {A = ℕ} 0 1 = cc in absurd (omega arith))

-- ---- a list of the table

list_is_named : {xs ns ts ws : List ℕ} {a i s f n : ℕ} (first last : ℕ) → Listed xs ns ts ws a i s f n → AllKnown (read_terms ts f n) → ((m : ℕ) → m < n → is_use (term_tag ts (f + m)) ≡ true → visible ws first last i (cut_variable xs ns a i (stored_term_at ts (f + m))) ≡ true) → list_named ws first last i s (s + n) ≡ true
list_is_named {xs} {ns} {ts} {ws} {a} {i} {s} {f} {n} first last l known seen =
    from_to_all s (s + n) (λ q. term_named ws first last i (term_at (Held.term_words ws) q))
    (λ q h k.
    let z : s + (q - s) ≡ q = omega arith
    in let m : q - s < n = omega arith
    in subst (λ (p : ℕ). term_named ws first last i (term_at (Held.term_words ws) p) ≡ true) z
    (rw (term_listed l (q - s) m (known_at ts n f (q - s) known m))
    (words_named ws first last i (cut_variable xs ns a i) (is_use (term_tag ts (f + (q - s)))) (term_tag ts (f + (q - s))) (term_value ts (f + (q - s))) (stored_term_at ts (f + (q - s))) refl (seen (q - s) m))))

none_named : (ws : List ℕ) (first last i s e : ℕ) → e ≤ s → list_named ws first last i s e ≡ true
none_named ws first last i s e h = from_to_all s e (λ q. term_named ws first last i (term_at (Held.term_words ws) q)) (λ q a c. absurd (omega arith))

module _ {xs ns ts rs : List ℕ} {n t b r : ℕ} {ws : List ℕ} (W : Words xs ns ts rs n r ws) (K : Known xs ns rs n r ws) (N : Nodes xs ns ts n t) (R : Readable xs ns ts rs n t b r) (few_binders : binders_before ns n ≤ max_variables) (few_terms : condition_start ns n ≤ max_terms)
    (placed : (k : ℕ) → k < t → is_use (term_tag ts k) ≡ true → stored_term_at ts k < nowhere) where
  -- a binder's variable is visible from its rule's later constructs
  binder_visible : (a e i p : ℕ) → i < n → i ≤ e → Bound xs ns a i p → visible ws (binders_before ns a) (binders_before ns e) i (cut_variable xs ns a i p) ≡ true
  binder_visible a e i p h l x =
      let j : ℕ = binder_of xs ns a i p
      in let k : i ≤ n = omega arith
      in let m : variable_of xs ns a i p < binders_before ns i = bound_below x
      in let q : cut_variable xs ns a i p ≡ variable_of xs ns a i p = omega (arith, binders_mono ns i n k)
      in let y : variable_of xs ns a i p < binders_before ns e = omega (arith, binders_mono ns i e l)
      in let z : j < n = omega (arith, x.before)
      in rw (q, lt-ltb (variable_of xs ns a i p) (binders_before ns e) y, le-leb (binders_before ns a) (variable_of xs ns a i p) (bound_from x), variable_names W R few_binders j z x.binder) (lt-ltb j i x.before)

  module _ (k i : ℕ) (h : k < r) (from : first_node rs k ≤ i) (to : i < last_node rs k) where
    abbrev first : ℕ
    first = binders_before ns (first_node rs k)

    abbrev last : ℕ
    last = binders_before ns (last_node rs k)

    within : i < n
    within = omega (arith, (rule W R few_binders k h).within)

    bound_visible : (p : ℕ) → Bound xs ns (first_at rs r i) i p → visible ws first last i (cut_variable xs ns (first_at rs r i) i p) ≡ true
    bound_visible p x =
        let z : first_at rs r i ≡ first_node rs k = first_at_in R.rules k i h from to
        in let y : Bound xs ns (first_node rs k) i p = rw z at x
        in rw z (binder_visible (first_node rs k) (last_node rs k) i p within (omega arith) y)

    own_list : own_end ns i ≤ t → AllKnown (read_terms ts (own_from ns i) (own_length ns i)) → list_named ws first last i (own_start ns i) (own_start ns i + own_length ns i) ≡ true
    own_list l known =
        list_is_named first last (own_listed W N R few_binders few_terms placed i within l) known
        (λ m a e. bound_visible (stored_term_at ts (own_from ns i + m)) (own_use R placed i within (own_from ns i + m) (omega arith) e (omega arith) (omega arith)))

    own_named : OwnMeant xs ns rs r i → list_named ws first last i (Lists.own_start (meant xs ns rs r i)) (Lists.own_end (meant xs ns rs r i)) ≡ true
    own_named (of_field kind s e) =
        let T : TreeAt xs ns ts n t i = N.trees i within
        in let x : SetShape ts (own_from ns i) (own_end ns i) × (own_end ns i ≡ T.last) = field_list T.holds kind
        in rw (s, e) (own_list (omega (arith, x.1, T.terms_within)) (rw x.0.is (known_set x.0.tree)))
    own_named (of_counts kind how s e) =
        let T : TreeAt xs ns ts n t i = N.trees i within
        in let x : CountsShape ts (own_from ns i) (own_end ns i) × (own_end ns i ≡ T.last) = counts_list T.holds kind how
        in rw (s, e) (own_list (omega (arith, x.1, T.terms_within)) (rw x.0.is (known_repeats x.0.tree)))
    own_named (of_none s e) = rw (s, e) (none_named ws first last i 0 0 (omega arith))

    condition_named : ConditionAt ns ts t i → list_named ws first last i (construct_word ws i 6) (construct_word ws i 7) ≡ true
    condition_named (without u) =
        let z : (construct_word ws i 6 ≡ 0) × (construct_word ws i 7 ≡ 0) = no_condition W N R few_binders few_terms placed i within (omega (arith, u.from_is, u.end_is))
        in rw (z.0, z.1) (none_named ws first last i 0 0 (omega arith))
    condition_named (with_one c l) =
        let p : 0 < condition_length ns i = omega (arith, c.from_is, c.end_is, c.shape.some)
        in let z : (construct_word ws i 6 ≡ condition_start ns i) × (construct_word ws i 7 ≡ condition_start ns i + condition_length ns i) = a_condition W N R few_binders few_terms placed i within p
        in let x : ConditionShape ts (condition_from ns i) (condition_end ns i) = rw (c.from_is, c.end_is) c.shape
        in let y : condition_end ns i ≤ t = omega (arith, c.end_is)
        in rw (z.0, z.1)
        (list_is_named first last (condition_listed W N R few_binders few_terms placed i within y) (rw x.is (known_condition x.tree))
        (λ m a e. bound_visible (stored_term_at ts (condition_from ns i + m)) (condition_use R placed i within (condition_from ns i + m) (omega arith) e (omega arith) (omega arith))))

    construct_is_named : construct_named ws first last i ≡ true
    construct_is_named =
        rw (K i within, condition_named (N.conditions i within)) (own_named (own_meant rs r (N.trees i within).holds))

  pub uses_laid_in : (k : ℕ) → k < r → uses_laid ws k ≡ true
  uses_laid_in k h =
      rw (body_is W R few_binders k h, first_variable W R few_binders k h, nodes_end W R few_binders k h, variables_end W R few_binders k h)
      (from_to_all (first_node rs k) (last_node rs k) (construct_named ws (binders_before ns (first_node rs k)) (binders_before ns (last_node rs k))) (λ i a c. construct_is_named k i h a c))
