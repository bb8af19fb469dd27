-- Widths that are wrong: those that are stored are the tree's.
-- Assumes nothing.
use Prim.Native.Nat.{ℕ, suc, ◌+◌, ◌≤◌, min}
use mathlib.Core.Path.{◌≡◌, refl, sym, ap, ap₂, ◌∙◌}
use mathlib.Core.Logic.Iff
use mathlib.Core.Logic.{⊎_elim, ◌↔◌}
use mathlib.Core.Bool.{Bool, true, false, cond, not, ◌&&◌}
use mathlib.Core.List.{List, ◌++◌}
use native.Mathlib.Omega.{arith}
use borrow.Author.Tests.{leb-true, leb-false, le-leb, lt-leb}
use lib.Dec.{leb, eqb}
use lib.ListN.{length}
use Rattle.basis.specs.Limits.{max_width, max_bound_width}
use Rattle.basis.proofs.Booleans.{which}
use Rattle.text_tokens.specs.Numbers.{capped, number_value}
use Rattle.text_store.specs.Words.{kind_of, width_place}
use Rattle.text_encoding.specs.Numbers.{width_of}
use Rattle.text_admission.specs.Extents.{most_of, width_found}
use Rattle.tree.specs.Lexemes.{Number}
use Rattle.tree_meaning.specs.Pieces.{Piece}
use Rattle.tree_meaning.specs.Places.{place_if}
use Rattle.tree_meaning.specs.Sizes.{wrong_width}
use Rattle.tree_store.proofs.Rows.{NodeRow}
use Rattle.tree_store.proofs.Storing.{NodeIs}
use Rattle.tree_store.proofs.Rowed.{NodesAt, no_nodes, node_then}
use Rattle.tree_store.proofs.Steps.{row_binds, InStep, no_step, a_formula, a_use, a_field, a_binder, another}
use Rattle.tree_sizes.proofs.Hits.{dropped, Hit, hit_if, Among, among_none, among_next, Hits, hits_if, hits_both}
use Rattle.tree_sizes.proofs.Gathered.{widths_of, gathered}

module _ (p : ℕ) where
  -- a width that is cut at 65 is as wrong
  width_same : (most v : ℕ) → most ≤ max_width → not (leb 1 (min 65 (capped v)) && leb (min 65 (capped v)) most) ≡ not (leb 1 v && leb v most)
  width_same most v few =
      ap₂ (λ (a b : Bool). not (a && b))
      (⊎_elim (λ (e : leb 1 v ≡ true). le-leb 1 (min 65 (capped v)) (let l = leb-true 1 v e in omega arith) ∙ sym e) (λ (e : leb 1 v ≡ false). lt-leb 1 (min 65 (capped v)) (let l = leb-false 1 v e in omega arith) ∙ sym e) (which (leb 1 v)))
      (⊎_elim (λ (e : leb v most ≡ true). le-leb (min 65 (capped v)) most (let l = leb-true v most e in omega arith) ∙ sym e) (λ (e : leb v most ≡ false). lt-leb (min 65 (capped v)) most (let l = leb-false v most e in omega arith) ∙ sym e) (which (leb v most)))

  module _ (xs ns : List ℕ) where
    width_hit : (most i q v : ℕ) → most ≤ max_width → most_of ns i ≡ most → kind_of ns i ≡ 8 → width_place ns i ≡ q → number_value xs q ≡ v → Hit p (width_found xs ns i) ↔ ((not (leb 1 v && leb v most) ≡ true) × (q ≤ p))
    width_hit most i q v few m k e f =
        let z : (eqb (kind_of ns i) 8 && not (leb 1 (width_of xs ns i) && leb (width_of xs ns i) (most_of ns i))) ≡ not (leb 1 v && leb v most) =
        ap (λ (n : ℕ). eqb n 8 && not (leb 1 (width_of xs ns i) && leb (width_of xs ns i) (most_of ns i))) k
        ∙ ap₂ (λ (n c : ℕ). not (leb 1 (min 65 (capped n)) && leb (min 65 (capped n)) c)) (ap (number_value xs) e ∙ f) m ∙ width_same most v few in
        let t = hit_if p (eqb (kind_of ns i) 8 && not (leb 1 (width_of xs ns i) && leb (width_of xs ns i) (most_of ns i))) (width_place ns i) in
        (λ x. let y = t.0 x in (sym z ∙ y.0, omega (arith, y.1, e)), λ x. t.1 (z ∙ x.0, omega (arith, x.1, e)))

    no_width : (i : ℕ) → eqb (kind_of ns i) 8 ≡ false → Hit p (width_found xs ns i) → ⊥
    no_width i e h =
        let y = (hit_if p (eqb (kind_of ns i) 8 && not (leb 1 (width_of xs ns i) && leb (width_of xs ns i) (most_of ns i))) (width_place ns i)).0 h in
        let z : false ≡ true = sym (ap (λ (b : Bool). b && not (leb 1 (width_of xs ns i) && leb (width_of xs ns i) (most_of ns i))) e) ∙ y.0 in
        let u : ◌≡◌ {A = ℕ} 0 1 = cc in omega arith

    -- a node without a width
    later : (n a : ℕ) {G : Type 0} → (Hit p (width_found xs ns a) → ⊥) → Among p n (a + 1) (width_found xs ns) ↔ G → Among p (suc n) a (width_found xs ns) ↔ G
    later n a t m = Iff.trans (among_next p n a (a + 1) (width_found xs ns) refl) (dropped t m)

    -- a uint
    wide : (most a m : ℕ) (n : Number) (l : List Piece) → most ≤ max_width → most_of ns a ≡ most → kind_of ns a ≡ 8 → width_place ns a ≡ n.start → number_value xs n.start ≡ n.value → Among p m (a + 1) (width_found xs ns) ↔ Hits p (gathered widths_of l)
        → Among p (suc m) a (width_found xs ns) ↔ Hits p (place_if (wrong_width most n) n.start ++ gathered widths_of l)
    wide most a m n l few c k e f g =
        Iff.trans (among_next p m a (a + 1) (width_found xs ns) refl)
        (hits_both p (place_if (wrong_width most n) n.start) (gathered widths_of l) (Iff.trans (width_hit most a n.start n.value few c k e f) (Iff.symm (hits_if p (wrong_width most n) n.start))) g)

    -- the most that a node's width may be, by its row
    most_by : {a : ℕ} {x : NodeRow} → NodeIs ns a x → most_of ns a ≡ cond (row_binds x) max_bound_width max_width
    most_by h = λ t. cond (eqb (h.kind_is t) 8 && not (eqb (h.how_is t) 0)) max_bound_width max_width

    -- the widths that are found in nodes are those of the pieces in step with them
    pub widths_found : {a : ℕ} {M : List NodeRow} {l : List Piece} → InStep xs M l → NodesAt ns a M → Among p (length M) a (width_found xs ns) ↔ Hits p (gathered widths_of l)
    unfolding Hits gathered
    widths_found {a} no_step no_nodes = (λ x. among_none p a (width_found xs ns) x, λ x. absurd x)
    widths_found (a_formula s) h = widths_found s h
    widths_found {a} (a_use {M = M} e f g s) (node_then h more) = later (length M) a (no_width a (ap (λ (k : ℕ). eqb k 8) (h.kind_is ∙ e))) (widths_found {a = a + 1} s more)
    widths_found {a} (a_field {M = M} {n = n} {l = l} e q f v s) (node_then h more) = wide max_width a (length M) n l (omega arith) (most_by h ∙ ap (λ (c : Bool). cond c max_bound_width max_width) q) (h.kind_is ∙ e) (h.first_is ∙ f) v (widths_found s more)
    widths_found {a} (a_binder {M = M} {n = n} {l = l} e q f v o u y s) (node_then h more) = wide max_bound_width a (length M) n l (omega arith) (most_by h ∙ ap (λ (c : Bool). cond c max_bound_width max_width) q) (h.kind_is ∙ e) (h.first_is ∙ f) v (widths_found s more)
    widths_found {a} (another {M = M} e q s) (node_then h more) = later (length M) a (no_width a (ap (λ (k : ℕ). eqb k 8) h.kind_is ∙ q)) (widths_found s more)
