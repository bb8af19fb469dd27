-- Of the construct that a node is in the table: its size, its binder, whether it is signed, whether it is a concatenation, its own list of terms.
-- Assumes nothing.
use Prim.Native.Nat.{ℕ, ◌+◌, ◌-◌, ◌≤◌}
use mathlib.Core.Path.{◌≡◌, refl, ◌∙◌}
use mathlib.Core.Logic.{inl, inr, ⊎_elim}
use mathlib.Core.Bool.{false, cond}
use mathlib.Core.List.{List}
use native.Mathlib.Omega.{arith}
use borrow.Author.Tests.{eqb-true, eqb-false}
use lib.Dec.{eqb}
use Rattle.basis.proofs.Booleans.{which, picked}
use Rattle.table_layout.specs.Attributes.{counts_list, attributes_of}
use Rattle.table_layout.specs.Held.{size_of}
use Rattle.table_layout.specs.declared.Construct.{Construct}
use Rattle.table_layout.specs.declared.Passes.{Passes}
use Rattle.table_wellformed.specs.Lists
use Rattle.table_wellformed.specs.Rules
use Rattle.text_shapes.specs.NodeShapes.{tree, Holds, literal_tree, range_tree, use_tree, eod_tree, uint_tree, marked_tree, counted_tree, chain_tree, switch_tree}
use Rattle.text_store.specs.Words.{kind_of, node_size, node_mark, is_binder}
use Rattle.text_encoding.specs.Numbers.{binders_before, is_signed, own_length, own_start}
use Rattle.text_wellformed.specs.Meant.{passes_meant, meant}

abbrev Unbound : Construct → Type 0
Unbound c = Rules.binder_of c ≡ 0

abbrev Unchained : Construct → Type 0
Unchained c = Rules.is_concatenation c ≡ false

module _ (xs ns rs : List ℕ) (r i : ℕ) where
  pub binder_meant : Rules.binder_of (meant xs ns rs r i) ≡ cond (is_binder ns i) (binders_before ns i + 1) 0
  unfolding meant
  binder_meant =
      ⊎_elim (λ z. let e : kind_of ns i ≡ 8 = eqb-true (kind_of ns i) 8 z in rw e refl)
      (λ (e : eqb (kind_of ns i) 8 ≡ false).
      rw e (picked Unbound (eqb (kind_of ns i) 1) (λ e. refl) (λ e. picked Unbound (eqb (kind_of ns i) 2) (λ e. refl) (λ e. picked Unbound (eqb (kind_of ns i) 3) (λ e. refl) (λ e. picked Unbound (eqb (kind_of ns i) 4) (λ e. refl) (λ e. picked Unbound (eqb (kind_of ns i) 5) (λ e. refl) (λ e. picked Unbound (eqb (kind_of ns i) 6) (λ e. refl) (λ e. picked Unbound (eqb (kind_of ns i) 7) (λ e. refl) (λ e. refl)))))))))
      (which (eqb (kind_of ns i) 8))

  pub signed_meant : kind_of ns i ≡ 8 → (attributes_of (meant xs ns rs r i)).signed ≡ is_signed xs ns i
  unfolding meant
  signed_meant e = rw e refl

  pub concatenation_meant : Rules.is_concatenation (meant xs ns rs r i) ≡ eqb (kind_of ns i) 2
  unfolding meant
  concatenation_meant =
      ⊎_elim (λ z. let e : kind_of ns i ≡ 2 = eqb-true (kind_of ns i) 2 z in rw e refl)
      (λ (e : eqb (kind_of ns i) 2 ≡ false).
      rw e (picked Unchained (eqb (kind_of ns i) 1) (λ e. refl) (λ e. picked Unchained (eqb (kind_of ns i) 3) (λ e. refl) (λ e. picked Unchained (eqb (kind_of ns i) 4) (λ e. refl) (λ e. picked Unchained (eqb (kind_of ns i) 5) (λ e. refl) (λ e. picked Unchained (eqb (kind_of ns i) 6) (λ e. refl) (λ e. picked Unchained (eqb (kind_of ns i) 7) (λ e. refl) (λ e. picked Unchained (eqb (kind_of ns i) 8) (λ e. refl) (λ e. refl)))))))))
      (which (eqb (kind_of ns i) 2))

-- a node's own list in the table: a uint's, that of counts, or none
pub data OwnMeant (xs ns rs : List ℕ) (r i : ℕ) : Type 0 where
  of_field : kind_of ns i ≡ 8 → Lists.own_start (meant xs ns rs r i) ≡ own_start ns i → Lists.own_end (meant xs ns rs r i) ≡ own_start ns i + own_length ns i → OwnMeant xs ns rs r i
  of_counts : kind_of ns i ≡ 3 → node_mark ns i ≡ 4 → Lists.own_start (meant xs ns rs r i) ≡ own_start ns i → Lists.own_end (meant xs ns rs r i) ≡ own_start ns i + own_length ns i → OwnMeant xs ns rs r i
  of_none : Lists.own_start (meant xs ns rs r i) ≡ 0 → Lists.own_end (meant xs ns rs r i) ≡ 0 → OwnMeant xs ns rs r i

abbrev Countless : Passes → Type 0
Countless p = (Lists.list_start (counts_list p) ≡ 0) × (Lists.list_end (counts_list p) ≡ 0)

no_counts : (how s e : ℕ) → 1 ≤ how → how ≤ 3 → Countless (passes_meant how s e)
no_counts how s e l m =
    picked Countless (eqb how 1) (λ x. (refl, refl)) (λ a.
    picked Countless (eqb how 2) (λ x. (refl, refl)) (λ b.
    picked Countless (eqb how 3) (λ x. (refl, refl)) (λ c. absurd (omega (arith, eqb-false how 1 a, eqb-false how 2 b, eqb-false how 3 c)))))

-- ---- trees

module _ {xs ns ts : List ℕ} where
  pub tree_size : {i e f g β : ℕ} → Holds xs ns ts tree i e f g β → node_size ns i ≡ e - i
  tree_size (literal_tree h a b c) = h.size_is
  tree_size (range_tree h a b c d) = h.size_is
  tree_size (use_tree h a b c) = h.size_is
  tree_size (eod_tree h a b) = h.size_is
  tree_size (uint_tree h a b c) = h.size_is
  tree_size (marked_tree h a b c t) = h.size_is
  tree_size (counted_tree h a b c t) = h.size_is
  tree_size (chain_tree h k a b t) = h.size_is
  tree_size (switch_tree h a t) = h.size_is

  pub size_meant : (rs : List ℕ) (r : ℕ) {i e f g β : ℕ} → Holds xs ns ts tree i e f g β → size_of (meant xs ns rs r i) ≡ e - i
  unfolding meant
  size_meant rs r (literal_tree h a b c) = rw h.kind_is (omega arith)
  size_meant rs r (range_tree h a b c d) = rw h.kind_is (omega arith)
  size_meant rs r (use_tree h a b c) = rw h.kind_is (omega arith)
  size_meant rs r (eod_tree h a b) = rw h.kind_is (omega arith)
  size_meant rs r (uint_tree h a b c) = rw h.kind_is (omega arith)
  size_meant rs r (marked_tree h a b c t) = rw h.kind_is h.size_is
  size_meant rs r (counted_tree h a b c t) = rw h.kind_is h.size_is
  size_meant rs r (chain_tree h (inl z) a b t) = let k : kind_of ns _ ≡ 1 = h.kind_is ∙ z in rw k h.size_is
  size_meant rs r (chain_tree h (inr z) a b t) = let k : kind_of ns _ ≡ 2 = h.kind_is ∙ z in rw k h.size_is
  size_meant rs r (switch_tree h a t) = rw h.kind_is h.size_is

  pub own_meant : (rs : List ℕ) (r : ℕ) {i e f g β : ℕ} → Holds xs ns ts tree i e f g β → OwnMeant xs ns rs r i
  unfolding meant
  own_meant rs r (literal_tree h a b c) = of_none (rw h.kind_is) (rw h.kind_is)
  own_meant rs r (range_tree h a b c d) = of_none (rw h.kind_is) (rw h.kind_is)
  own_meant rs r (use_tree h a b c) = of_none (rw h.kind_is) (rw h.kind_is)
  own_meant rs r (eod_tree h a b) = of_none (rw h.kind_is) (rw h.kind_is)
  own_meant rs r (uint_tree h a b c) = of_field h.kind_is (rw h.kind_is) (rw h.kind_is)
  own_meant rs r (marked_tree {i = i} h a b c t) =
      let z : Countless (passes_meant (node_mark ns i) (own_start ns i) (own_start ns i + own_length ns i)) = no_counts (node_mark ns i) (own_start ns i) (own_start ns i + own_length ns i) b.least b.most
      in of_none (rw h.kind_is z.0) (rw h.kind_is z.1)
  own_meant rs r (counted_tree h a b c t) = of_counts h.kind_is b.how (rw (h.kind_is, b.how)) (rw (h.kind_is, b.how))
  own_meant rs r (chain_tree h (inl z) a b t) = let k : kind_of ns _ ≡ 1 = h.kind_is ∙ z in of_none (rw k) (rw k)
  own_meant rs r (chain_tree h (inr z) a b t) = let k : kind_of ns _ ≡ 2 = h.kind_is ∙ z in of_none (rw k) (rw k)
  own_meant rs r (switch_tree h a t) = of_none (rw h.kind_is) (rw h.kind_is)
