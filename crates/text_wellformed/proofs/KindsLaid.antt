-- Each construct is laid out as its kind asks.
-- Assumes nothing.
use Prim.Native.Nat.{ℕ, ◌+◌, ◌*◌, ◌≤◌, ◌<◌}
use mathlib.Core.Path.{◌≡◌, refl, ap, subst, ◌∙◌}
use mathlib.Core.Logic.{◌⊎◌, inl, inr, ⊎_elim}
use mathlib.Core.Bool.{true, cond}
use mathlib.Core.List.{List}
use native.Mathlib.Omega.{arith}
use borrow.Author.Tests.{lt-ltb, eq-eqb}
use lib.Dec.{ltb, eqb}
use lib.ListN.{length, get_or}
use Rattle.basis.specs.Limits.{max_constructs}
use Rattle.basis.proofs.Booleans.{picked, both_pass}
use Rattle.text_literals.specs.Literals.{characters_at}
use Rattle.table_layout.specs.Places.{word, construct_word, constructs_at}
use Rattle.table_layout.specs.Constructs.{construct_at}
use Rattle.table_layout.specs.declared.Construct.{Construct}
use Rattle.table_layout.specs.declared.Passes.{Passes}
use Rattle.table_wellformed.specs.Checks.{size_at}
use Rattle.table_wellformed.specs.Lists.{counts_formed}
use Rattle.table_wellformed.specs.Rules.{named_back}
use Rattle.table_wellformed.specs.Laid.{operands_zero, second_part, construct_end, chain_laid, passes_laid, repetition_laid, switch_laid, kind_laid}
use Rattle.table_wellformed.proofs.Every.{every_turn, every_end}
use Rattle.text_wellformed.proofs.NoFaults.{use_below}
use Rattle.text_shapes.specs.NodeShapes.{NameAt, LiteralAt, CharacterAt, Unconditioned, Marked, Shape, tree, forest, cases, Holds, literal_tree, range_tree, use_tree, eod_tree, uint_tree, marked_tree, counted_tree, chain_tree, switch_tree, no_trees, more_trees}
use Rattle.text_store.specs.Words.{kind_of, node_size, place_of, node_mark, last_place, is_binder}
use Rattle.text_encoding.specs.Numbers.{rule_of, binders_before, width_of, is_signed, own_length, own_start}
use Rattle.text_wellformed.specs.Context.{Readable, Words, TreeAt, Quiet}
use Rattle.text_wellformed.specs.Meant.{passes_meant, meant, Formed, NamedBack}
use Rattle.text_wellformed.proofs.NodeFacts.{ordered, tree_below, tree_size, forest_below, nodes}
use Rattle.text_wellformed.proofs.Totals.{marked_list}
use Rattle.text_wellformed.proofs.Standing.{literal_sized}
use Rattle.text_wellformed.proofs.Coding.{Coded, alternative_coded, concatenation_coded, switch_coded, eod_coded, marked_coded, counted_coded, use_coded, literal_coded, range_coded}
use Rattle.text_wellformed.proofs.Known.{mark_kinds, known}
use Rattle.text_wellformed.proofs.PartsLaid.{part_size, forest_laid, cases_laid}

-- ---- operands that are 0

module _ (ws : List ℕ) (i : ℕ) where
  zero_more : (k : ℕ) → k < 6 → construct_word ws i k ≡ 0 → operands_zero ws i (k + 1) ≡ true → operands_zero ws i k ≡ true
  zero_more k l w z =
      let s : constructs_at + 8 * i + k + 1 ≡ constructs_at + 8 * i + (k + 1) = omega arith in
      every_turn (constructs_at + 8 * i + 6) (constructs_at + 8 * i + k) (λ u. eqb (word ws u) 0) (omega arith) (rw w) ∙ rw s z

  zero_5 : {kind size a b c : ℕ} → Coded ws i kind size a b c 0 → operands_zero ws i 5 ≡ true
  zero_5 w = zero_more 5 (omega arith) w.word_5 (every_end (constructs_at + 8 * i + 6) (constructs_at + 8 * i + 6) (λ u. eqb (word ws u) 0) (omega arith))

  zero_4 : {kind size a b : ℕ} → Coded ws i kind size a b 0 0 → operands_zero ws i 4 ≡ true
  zero_4 w = zero_more 4 (omega arith) w.word_4 (zero_5 w)

  zero_3 : {kind size a : ℕ} → Coded ws i kind size a 0 0 0 → operands_zero ws i 3 ≡ true
  zero_3 w = zero_more 3 (omega arith) w.word_3 (zero_4 w)

  zero_2 : {kind size : ℕ} → Coded ws i kind size 0 0 0 0 → operands_zero ws i 2 ≡ true
  zero_2 w = zero_more 2 (omega arith) w.word_2 (zero_3 w)

-- ---- each kind of node

module _ {xs ns ts rs ws : List ℕ} {n t b r : ℕ} (known-text : Readable xs ns ts rs n t b r) (words : Words xs ns ts rs n r ws) (quiet : Quiet ns n) where
  -- the second of several parts begins before the end
  second_before : {m j e f g β : ℕ} → Holds xs ns ts (forest m) j e f g β → 2 ≤ m → e ≤ n → j + size_at ws j < e
  second_before (no_trees b) l h = absurd (omega arith)
  second_before (more_trees u x y b) l h =
      omega (arith, part_size known-text words quiet x (omega (arith, (ordered y).nodes)), tree_below x, forest_below y (omega arith))

  module _ {i e f g β : ℕ} (whole : Holds xs ns ts tree i e f g β) (within : e ≤ n) where
    inside : i < n
    inside = omega (arith, tree_below whole)

    end_is : construct_end ws i ≡ e
    end_is = omega (arith, part_size known-text words quiet whole within, tree_below whole)

    size_limit : node_size ns i ≤ max_constructs
    size_limit = omega (arith, tree_size whole, known-text.nodes_limit)

    -- what is laid where the construct is what is meant
    laid_as : (x : Construct) → meant xs ns rs r i ≡ x → kind_laid ws i x ≡ true → kind_laid ws i (construct_at ws i) ≡ true
    laid_as x p q = ap (kind_laid ws i) (known known-text words quiet i inside ∙ p) ∙ q

    chain_is_laid : {m γ : ℕ} → operands_zero ws i 2 ≡ true → 2 ≤ m → Holds xs ns ts (forest m) (i + 1) e f g γ → chain_laid ws i ≡ true
    chain_is_laid o l x =
        let a : ltb (second_part ws i) e ≡ true = lt-ltb (second_part ws i) e (second_before x l within) in
        rw (end_is, o, a) (forest_laid known-text words quiet within x)

    repetition_is_laid : {m γ : ℕ} (passes : Passes) → passes_laid ws i passes ≡ true → Unconditioned ns (i + 1) → Holds xs ns ts tree (i + 1) e f m γ → repetition_laid ws i passes ≡ true
    repetition_is_laid passes o u x =
        let s : second_part ws i ≡ e = omega (arith, part_size known-text words quiet x within, tree_below x) in
        let a : eqb e e ≡ true = eq-eqb e e refl in
        rw (end_is, s, o, a) (forest_laid known-text words quiet within (more_trees u x (no_trees refl) refl))

    switch_is_laid : {γ : ℕ} → operands_zero ws i 2 ≡ true → Holds xs ns ts cases (i + 1) e f g γ → switch_laid ws i ≡ true
    switch_is_laid o x = rw (end_is, o) (cases_laid known-text words quiet within x)

    -- ---- with parts

    chain_kind : {m γ : ℕ} → (kind_of ns i ≡ 1) ⊎ (kind_of ns i ≡ 2) → 2 ≤ m → Holds xs ns ts (forest m) (i + 1) e f g γ → kind_laid ws i (construct_at ws i) ≡ true
    unfolding meant
    chain_kind w l x =
        ⊎_elim
        (λ (k : kind_of ns i ≡ 1).
        laid_as (Construct.Alternative (node_size ns i)) (rw k) (chain_is_laid (zero_2 ws i (alternative_coded known-text words i inside (node_size ns i) refl size_limit k)) l x))
        (λ (k : kind_of ns i ≡ 2).
        laid_as (Construct.Concatenation (node_size ns i)) (rw k) (chain_is_laid (zero_2 ws i (concatenation_coded known-text words i inside (node_size ns i) refl size_limit k)) l x))
        w

    switch_kind : {γ : ℕ} → kind_of ns i ≡ 4 → Holds xs ns ts cases (i + 1) e f g γ → kind_laid ws i (construct_at ws i) ≡ true
    unfolding meant
    switch_kind k x = laid_as (Construct.Switch (node_size ns i)) (rw k) (switch_is_laid (zero_2 ws i (switch_coded known-text words i inside (node_size ns i) refl size_limit k)) x)

    -- `?`, `*` and `+` have no more operands
    mark_laid : (how start end : ℕ) → (how ≡ 1) ⊎ ((how ≡ 2) ⊎ (how ≡ 3)) → operands_zero ws i 3 ≡ true → passes_laid ws i (passes_meant how start end) ≡ true
    mark_laid how start end w o = ⊎_elim (λ (z : how ≡ 1). rw z o) (λ v. ⊎_elim (λ (z : how ≡ 2). rw z o) (λ (z : how ≡ 3). rw z o) v) w

    marked_kind : {m γ : ℕ} → kind_of ns i ≡ 3 → Marked ns i → Unconditioned ns (i + 1) → Holds xs ns ts tree (i + 1) e f m γ → kind_laid ws i (construct_at ws i) ≡ true
    unfolding meant
    marked_kind k m u x =
        let passes : Passes = passes_meant (node_mark ns i) (own_start ns i) (own_start ns i + own_length ns i) in
        laid_as (Construct.Repetition (node_size ns i) passes) (rw k)
        (repetition_is_laid passes
        (mark_laid (node_mark ns i) (own_start ns i) (own_start ns i + own_length ns i) (mark_kinds i m)
        (zero_3 ws i (marked_coded known-text words i inside (node_size ns i) refl size_limit (node_mark ns i) k refl m.most (marked_list ns n quiet i inside k m))))
        u x)

    counted_kind : {m γ : ℕ} → kind_of ns i ≡ 3 → node_mark ns i ≡ 4 → 0 < own_length ns i → counts_formed ws (own_start ns i) (own_start ns i + own_length ns i) ≡ true → Unconditioned ns (i + 1) → Holds xs ns ts tree (i + 1) e f m γ → kind_laid ws i (construct_at ws i) ≡ true
    unfolding meant
    counted_kind k w l c u x =
        let o : operands_zero ws i 5 ≡ true = zero_5 ws i (counted_coded known-text words i inside (node_size ns i) refl size_limit quiet k w l) in
        laid_as (Construct.Repetition (node_size ns i) (Passes.Counted (own_start ns i) (own_start ns i + own_length ns i))) (rw (k, w))
        (repetition_is_laid (Passes.Counted (own_start ns i) (own_start ns i + own_length ns i)) (rw (o, c)) u x)

    -- ---- without

    use_kind : kind_of ns i ≡ 5 → NameAt xs (place_of ns i) → kind_laid ws i (construct_at ws i) ≡ true
    unfolding meant
    use_kind k at =
        let l : rule_of xs rs r (place_of ns i) < r = use_below known-text i inside k at in
        let a : ltb (rule_of xs rs r (place_of ns i)) r ≡ true = lt-ltb (rule_of xs rs r (place_of ns i)) r l in
        laid_as (Construct.Use (rule_of xs rs r (place_of ns i))) (rw k)
        (rw (words.rules_are, a) (zero_3 ws i (use_coded known-text words i inside (node_size ns i) refl size_limit k l)))

    literal_kind : kind_of ns i ≡ 6 → LiteralAt xs (place_of ns i) ⊎ CharacterAt xs (place_of ns i) → kind_laid ws i (construct_at ws i) ≡ true
    unfolding meant
    literal_kind k at =
        laid_as (Construct.Literal (length (characters_at xs (place_of ns i)))) (rw k) (zero_3 ws i (literal_coded known-text words i inside (node_size ns i) refl size_limit k (literal_sized at)))

    range_kind : kind_of ns i ≡ 7 → kind_laid ws i (construct_at ws i) ≡ true
    unfolding meant
    range_kind k =
        laid_as (Construct.Range (get_or (characters_at xs (place_of ns i)) 0 0) (get_or (characters_at xs (last_place ns i)) 0 0)) (rw k)
        (zero_4 ws i (range_coded known-text words i inside (node_size ns i) refl size_limit k))

    eod_kind : kind_of ns i ≡ 9 → kind_laid ws i (construct_at ws i) ≡ true
    unfolding meant
    eod_kind k = laid_as Construct.Eod (rw k) (zero_2 ws i (eod_coded known-text words i inside (node_size ns i) refl size_limit k))

    uint_kind : kind_of ns i ≡ 8 → Formed ns n ws → NamedBack ns n ws → kind_laid ws i (construct_at ws i) ≡ true
    unfolding meant
    uint_kind k formed named =
        let back : named_back ws i (cond (is_binder ns i) (binders_before ns i + 1) 0) ≡ true =
        picked (λ (m : ℕ). named_back ws i m ≡ true) (is_binder ns i) (λ z. named i inside z) (λ z. refl) in
        laid_as (Construct.Uint (is_signed xs ns i) (width_of xs ns i) (own_start ns i) (own_start ns i + own_length ns i) (cond (is_binder ns i) (binders_before ns i + 1) 0)) (rw k)
        (both_pass back (formed.set i inside k))

  -- ---- any node

  module _ (formed : Formed ns n ws) (named : NamedBack ns n ws) where
    -- a part that begins at j, one after i
    from_next : {s : Shape} {j e f g β : ℕ} (i : ℕ) → j ≡ i + 1 → Holds xs ns ts s j e f g β → Holds xs ns ts s (i + 1) e f g β
    from_next {s} {j} {e} {f} {g} {β} i z x = subst (λ (k : ℕ). Holds xs ns ts s k e f g β) z x

    free_next : {j : ℕ} (i : ℕ) → j ≡ i + 1 → Unconditioned ns j → Unconditioned ns (i + 1)
    free_next i z u = subst (Unconditioned ns) z u

    node_laid : {i e f g β : ℕ} → e ≤ n → Holds xs ns ts tree i e f g β → kind_laid ws i (construct_at ws i) ≡ true
    node_laid h (literal_tree {f = f} x z b l) = literal_kind {f = f} (literal_tree x z b l) h x.kind_is l
    node_laid h (range_tree {f = f} x z b l m) = range_kind {f = f} (range_tree x z b l m) h x.kind_is
    node_laid h (use_tree {f = f} x z b l) = use_kind {f = f} (use_tree x z b l) h x.kind_is l
    node_laid h (eod_tree {f = f} x z b) = eod_kind {f = f} (eod_tree x z b) h x.kind_is
    node_laid h (uint_tree x z c b) = uint_kind (uint_tree x z c b) h x.kind_is formed named
    node_laid h (marked_tree {i = i} x z m u y) = marked_kind (marked_tree x z m u y) h x.kind_is m (free_next i z u) (from_next i z y)
    node_laid h (counted_tree {i = i} x z c u y) =
        counted_kind (counted_tree x z c u y) h x.kind_is c.how (omega (arith, c.from_is, c.end_is, c.shape.some)) (formed.counts i (omega (arith, x.below)) x.kind_is c.how) (free_next i z u) (from_next i z y)
    node_laid h (chain_tree {i = i} {kind = kind} x v z l y) =
        chain_kind (chain_tree x v z l y) h (⊎_elim (λ (w : kind ≡ 1). inl (x.kind_is ∙ w)) (λ (w : kind ≡ 2). inr (x.kind_is ∙ w)) v) l (from_next i z y)
    node_laid h (switch_tree {i = i} x z y) = switch_kind (switch_tree x z y) h x.kind_is (from_next i z y)

    pub kinds_laid : (i : ℕ) → i < n → kind_laid ws i (construct_at ws i) ≡ true
    kinds_laid i h = let tree_at : TreeAt xs ns ts n t i = (nodes known-text).trees i h in node_laid tree_at.within tree_at.holds
