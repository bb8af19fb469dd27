-- The walk over a rule's members meets its binders in order, with variable numbers that count up.
-- Assumes nothing.
use Prim.Native.Nat.{ℕ, zero, suc, ◌+◌, ◌*◌, ◌-◌, ◌≤◌, ◌<◌}
use mathlib.Core.Path.{◌≡◌, refl, sym, ap, subst, ◌∙◌}
use mathlib.Core.Logic.{⊎_elim}
use mathlib.Core.Bool.{Bool, true, false, cond, ◌&&◌}
use mathlib.Core.List.{List}
use native.Mathlib.Omega.{arith}
use borrow.Author.Tests.{lt-ltb, eq-eqb, eqb-true, ne_eqb}
use lib.Dec.{eqb, ltb}
use Rattle.basis.specs.Limits.{max_variables}
use Rattle.basis.proofs.Booleans.{which}
use Rattle.table_layout.specs.Places.{word, variable_word, construct_word, variables_at}
use Rattle.table_layout.specs.Held.{size_of}
use Rattle.table_layout.specs.Constructs.{construct_at}
use Rattle.table_wellformed.specs.Checks.{all_zero, size_at, walk}
use Rattle.table_wellformed.specs.Rules
use Rattle.table_wellformed.specs.Rules.{is_concatenation, variable_laid, member_laid, next_variable, binders_laid}
use Rattle.table_wellformed.proofs.Walks.{one_step, at_once}
use Rattle.text_shapes.specs.NodeShapes.{tree, forest, Holds, literal_tree, range_tree, use_tree, eod_tree, uint_tree, marked_tree, counted_tree, chain_tree, switch_tree, no_trees, more_trees}
use Rattle.text_shapes.proofs.Moving.{extent}
use Rattle.text_store.specs.Words.{kind_of, is_binder, first_node, last_node}
use Rattle.text_encoding.specs.Lists.{narrow}
use Rattle.text_encoding.specs.Numbers.{binders_before, width_of, is_signed}
use Rattle.text_wellformed.specs.Context.{Readable, Words, Nodes}
use Rattle.text_wellformed.specs.Meant.{Known}
use Rattle.text_wellformed.proofs.Tests.{from_to_all}
use Rattle.text_wellformed.proofs.NoFaults.{binders_next}
use Rattle.text_wellformed.proofs.NodesMeant.{binder_meant, signed_meant, concatenation_meant, size_meant}
use Rattle.text_wellformed.proofs.RuleWords.{rule, rule_grows, body_is, first_variable, nodes_end, variables_end, variable_is, variable_names}
use Rattle.text_wellformed.proofs.BindersPlaced.{binder_kind, tree_binders, top}

-- the members of a concatenation
record Members (xs ns ts : List ℕ) (i e : ℕ) : Type 0 where
  many : ℕ
  first : ℕ
  last : ℕ
  count : ℕ
  holds : Holds xs ns ts (forest many) i e first last count

members : {xs ns ts : List ℕ} {i e f g β : ℕ} → Holds xs ns ts tree i e f g β → kind_of ns i ≡ 2 → Members xs ns ts (i + 1) e
members (literal_tree h a b c) k = absurd (omega (arith, h.kind_is))
members (range_tree h a b c d) k = absurd (omega (arith, h.kind_is))
members (use_tree h a b c) k = absurd (omega (arith, h.kind_is))
members (eod_tree h a b) k = absurd (omega (arith, h.kind_is))
members (uint_tree h a b c) k = absurd (omega (arith, h.kind_is))
members (marked_tree h a b c t) k = absurd (omega (arith, h.kind_is))
members (counted_tree h a b c t) k = absurd (omega (arith, h.kind_is))
members {xs} {ns} {ts} (chain_tree {j = j} {e = e} {f = f} {g = g} {β = β} {n = n} h k a b t) z = record { many = n; first = f; last = g; count = β; holds = subst (λ (q : ℕ). Holds xs ns ts (forest n) q e f g β) a t }
members (switch_tree h a t) k = absurd (omega (arith, h.kind_is))

neither : (a b : Bool) → b ≡ false → (a && b) ≡ false
neither true b e = e
neither false b e = refl

narrow_sign : (signed : Bool) → narrow (cond signed 1 0) ≡ cond signed 1 0
narrow_sign true = refl
narrow_sign false = refl

module _ {xs ns ts rs : List ℕ} {n t b r : ℕ} {ws : List ℕ} (W : Words xs ns ts rs n r ws) (K : Known xs ns rs n r ws) (N : Nodes xs ns ts n t) (R : Readable xs ns ts rs n t b r) (few_binders : binders_before ns n ≤ max_variables) where
  -- ---- one member

  binder_at : (j : ℕ) → j < n → (t : Bool) → is_binder ns j ≡ t → Rules.binder_of (construct_at ws j) ≡ cond t (binders_before ns j + 1) 0
  binder_at j h t e = ap Rules.binder_of (K j h) ∙ binder_meant xs ns rs r j ∙ ap (λ (b : Bool). cond b (binders_before ns j + 1) 0) e

  width_at : (j : ℕ) → j < n → is_binder ns j ≡ true → construct_word ws j 2 ≡ narrow (width_of xs ns j)
  width_at j h e = let k : kind_of ns j ≡ 8 = binder_kind ns j e in W.construct_numbered j 2 h (omega arith) ∙ rw k refl

  sign_at : (j : ℕ) → j < n → is_binder ns j ≡ true → Rules.sign_word (construct_at ws j) ≡ cond (is_signed xs ns j) 1 0
  sign_at j h e = ap Rules.sign_word (K j h) ∙ ap (λ (s : Bool). cond s 1 0) (signed_meant xs ns rs r j (binder_kind ns j e))

  variable_sign : (j : ℕ) → j < n → is_binder ns j ≡ true → variable_word ws (binders_before ns j) 2 ≡ cond (is_signed xs ns j) 1 0
  variable_sign j h e = variable_is W R few_binders j 2 h e (omega arith) ∙ narrow_sign (is_signed xs ns j)

  variable_rest : (j : ℕ) → j < n → is_binder ns j ≡ true → all_zero ws (variables_at + 4 * binders_before ns j + 3) (variables_at + 4 * binders_before ns j + 4) ≡ true
  variable_rest j h e =
      from_to_all (variables_at + 4 * binders_before ns j + 3) (variables_at + 4 * binders_before ns j + 4) (λ q. eqb (word ws q) 0)
      (λ q l m. let z : variables_at + 4 * binders_before ns j + 3 ≡ q = omega arith in eq-eqb (word ws q) 0 (ap (word ws) (sym z) ∙ variable_is W R few_binders j 3 h e (omega arith)))

  binder_laid : (j : ℕ) → j < n → is_binder ns j ≡ true → variable_laid ws (binders_before ns j) j ≡ true
  binder_laid j h e =
      rw (binder_at j h true e, eq-eqb (binders_before ns j + 1) (binders_before ns j + 1) refl, variable_names W R few_binders j h e, eq-eqb j j refl, variable_is W R few_binders j 1 h e (omega arith), width_at j h e, eq-eqb (narrow (width_of xs ns j)) (narrow (width_of xs ns j)) refl, variable_sign j h e, sign_at j h e, eq-eqb (cond (is_signed xs ns j) 1 0) (cond (is_signed xs ns j) 1 0) refl)
      (variable_rest j h e)

  binds_at : (j : ℕ) → j < n → (t : Bool) → is_binder ns j ≡ t → Rules.binds ws j ≡ t
  binds_at j h true e = ap (ltb 0) (binder_at j h true e) ∙ lt-ltb 0 (binders_before ns j + 1) (omega arith)
  binds_at j h false e = ap (ltb 0) (binder_at j h false e)

  member_passes : (j : ℕ) → j < n → member_laid ws j (binders_before ns j) ≡ true
  member_passes j h =
      ⊎_elim (λ (e : is_binder ns j ≡ true). rw (binds_at j h true e) (binder_laid j h e)) (λ (e : is_binder ns j ≡ false). rw (binds_at j h false e) refl) (which (is_binder ns j))

  member_next : (j : ℕ) → j < n → next_variable ws j (binders_before ns j) ≡ binders_before ns (j + 1)
  member_next j h =
      ⊎_elim (λ (e : is_binder ns j ≡ true). rw (binds_at j h true e) (sym (binders_next ns j true e))) (λ (e : is_binder ns j ≡ false). rw (binds_at j h false e) (omega (arith, binders_next ns j false e)))
      (which (is_binder ns j))

  -- ---- the members of rule k

  module _ (k : ℕ) (below : k < r) where
    abbrev walked : (fuel e i x : ℕ) → Bool
    walked fuel e i x = walk fuel ws (member_laid ws) (next_variable ws) (λ j x. eqb x (binders_before ns e)) e i x

    inside : last_node rs k ≤ n
    inside = (rule W R few_binders k below).within

    one_member : {i m f h β : ℕ} → Holds xs ns ts tree i m f h β → (fuel e : ℕ) → first_node rs k ≤ i → m ≤ e → e ≤ last_node rs k → top ns rs k i ≡ false → walked (suc fuel) e i (binders_before ns i) ≡ walked fuel e m (binders_before ns m)
    one_member {i} {m} t fuel e l o p out =
        let s : i < m = (extent t).0
        in let q : i < n = omega (arith, inside)
        in let z : size_at ws i ≡ m - i = ap size_of (K i q) ∙ size_meant rs r t
        in let y : i + size_at ws i ≡ m = omega arith
        in let x : next_variable ws i (binders_before ns i) ≡ binders_before ns m = member_next i q ∙ sym (tree_binders N R k below inside t s l (omega arith) out)
        in let v : (ltb 0 (size_at ws i) && member_laid ws i (binders_before ns i)) ≡ true = rw (lt-ltb 0 (size_at ws i) (omega arith)) (member_passes i q)
        in one_step ws (member_laid ws) (next_variable ws) (λ j x. eqb x (binders_before ns e)) e fuel i (binders_before ns i) true (omega arith) v ∙ rw (y, x) refl

    forest_walked : (fuel : ℕ) {many i e f g β : ℕ} → Holds xs ns ts (forest many) i e f g β → first_node rs k ≤ i → e ≤ last_node rs k → e ≤ i + fuel → ((j : ℕ) → i ≤ j → top ns rs k j ≡ false) → walked fuel e i (binders_before ns i) ≡ true
    forest_walked fuel (no_trees {i = i} z) l o p out =
        at_once ws (member_laid ws) (next_variable ws) (λ j x. eqb x (binders_before ns i)) i fuel i (binders_before ns i) (omega arith) ∙ eq-eqb (binders_before ns i) (binders_before ns i) refl
    forest_walked zero (more_trees u t r z) l o p out = absurd (omega (arith, (extent t).0, (extent r).0))
    forest_walked (suc fuel) (more_trees {i = i} {m = m} {e = e} u t r z) l o p out =
        let s : i < m = (extent t).0
        in let q : m ≤ e = (extent r).0
        in one_member t fuel e l q o (out i (omega arith)) ∙ forest_walked fuel r (omega arith) o (omega arith) (λ j c. out j (omega arith))

    -- from the first member of the top concatenation, which binds nothing, or from the body
    chained : kind_of ns (first_node rs k) ≡ 2 → walked (last_node rs k - (first_node rs k + 1)) (last_node rs k) (first_node rs k + 1) (binders_before ns (first_node rs k)) ≡ true
    chained e =
        let M : Members xs ns ts (first_node rs k + 1) (last_node rs k) = members (rule W R few_binders k below).holds e
        in let z : is_binder ns (first_node rs k) ≡ false = rw e refl
        in let y : binders_before ns (first_node rs k) ≡ binders_before ns (first_node rs k + 1) = omega (arith, binders_next ns (first_node rs k) false z)
        in rw y
        (forest_walked (last_node rs k - (first_node rs k + 1)) M.holds (omega arith) (omega arith) (omega arith)
        (λ j l. rw (ne_eqb j (first_node rs k) (λ x. omega arith)) refl))

    alone : eqb (kind_of ns (first_node rs k)) 2 ≡ false → walked (last_node rs k - first_node rs k) (last_node rs k) (first_node rs k) (binders_before ns (first_node rs k)) ≡ true
    alone e =
        forest_walked (last_node rs k - first_node rs k) (more_trees (rule W R few_binders k below).free (rule W R few_binders k below).holds (no_trees refl) refl) (omega arith) (omega arith) (omega arith) (λ j l. neither (eqb j (first_node rs k)) (eqb (kind_of ns (first_node rs k)) 2) e)

    pub binders_laid_in : binders_laid ws k ≡ true
    binders_laid_in =
        let h : first_node rs k < n = omega (arith, rule_grows W R few_binders k below, inside)
        in let c : is_concatenation (construct_at ws (first_node rs k)) ≡ eqb (kind_of ns (first_node rs k)) 2 = ap is_concatenation (K (first_node rs k) h) ∙ concatenation_meant xs ns rs r (first_node rs k)
        in rw (body_is W R few_binders k below, first_variable W R few_binders k below, nodes_end W R few_binders k below, variables_end W R few_binders k below, c)
        (⊎_elim (λ (e : eqb (kind_of ns (first_node rs k)) 2 ≡ true). rw e (chained (eqb-true (kind_of ns (first_node rs k)) 2 e))) (λ (e : eqb (kind_of ns (first_node rs k)) 2 ≡ false). rw e (alone e)) (which (eqb (kind_of ns (first_node rs k)) 2)))
