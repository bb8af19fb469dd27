-- A binder is a rule's whole body or a member of its top concatenation: no other node holds it.
-- Assumes nothing.
use Prim.Native.Nat.{ℕ, zero, suc, ◌+◌, ◌-◌, ◌≤◌, ◌<◌}
use mathlib.Core.Path.{◌≡◌, refl, sym, ap, subst, ◌∙◌}
use mathlib.Core.Logic.{inl, inr, ⊎_elim}
use mathlib.Core.Bool.{Bool, true, false, not, cond, ◌&&◌, ◌||◌}
use mathlib.Core.List.{List}
use native.Mathlib.Omega.{arith}
use borrow.Author.Tests.{lt-ltb, eqb-true, ne_eqb}
use lib.Dec.{eqb}
use Rattle.basis.proofs.Booleans.{which, both_first, both_second, neither_second}
use Rattle.text_wellformed.proofs.LeastLaws.{no_place}
use Rattle.text_shapes.specs.NodeShapes.{NameAt, tree, Holds, literal_tree, range_tree, use_tree, eod_tree, uint_tree, marked_tree, counted_tree, chain_tree, switch_tree}
use Rattle.text_names.specs.Counting.{nowhere}
use Rattle.text_store.specs.Words.{kind_of, node_size, place_of, bound_at, how_bound, is_binder, first_node, last_node}
use Rattle.text_names.specs.Names.{is_reserved, bound_between, holds, held, held_between, is_misplaced, binder_fault, use_fault}
use Rattle.text_names.specs.Counting.{place_if}
use Rattle.text_encoding.specs.Numbers.{binders_before}
use Rattle.text_wellformed.specs.Context.{Readable, Nodes}
use Rattle.text_wellformed.proofs.Counting.{any_all}
use Rattle.text_wellformed.proofs.Names.{name_placed}
use Rattle.text_wellformed.proofs.NoFaults.{no_node_fault, binders_next}
use Rattle.text_wellformed.proofs.NodesMeant.{tree_size}

pub binder_kind : (ns : List ℕ) (i : ℕ) → is_binder ns i ≡ true → kind_of ns i ≡ 8
binder_kind ns i e = eqb-true (kind_of ns i) 8 (both_first (eqb (kind_of ns i) 8) (not (eqb (how_bound ns i) 0)) e)

-- what binds has a name
binds_named : {A : Type 0} (how : ℕ) → (how ≡ 0) → not (eqb how 0) ≡ true → A
binds_named how z e = let y : false ≡ true = ap (λ (q : ℕ). not (eqb q 0)) (sym z) ∙ e in let w : ◌≡◌ {A = ℕ} 0 1 = cc in absurd (omega arith)

binder_name : {xs ns ts : List ℕ} {i e f g β : ℕ} → Holds xs ns ts tree i e f g β → kind_of ns i ≡ 8 → not (eqb (how_bound ns i) 0) ≡ true → NameAt xs (bound_at ns i)
binder_name (literal_tree h a b c) k z = absurd (omega (arith, h.kind_is))
binder_name (range_tree h a b c d) k z = absurd (omega (arith, h.kind_is))
binder_name (use_tree h a b c) k z = absurd (omega (arith, h.kind_is))
binder_name (eod_tree h a b) k z = absurd (omega (arith, h.kind_is))
binder_name {ns = ns} (uint_tree {i = i} h a b c) k z = ⊎_elim (λ n. binds_named (how_bound ns i) n.0 z) (λ n. n.2) c.how
binder_name (marked_tree h a b c t) k z = absurd (omega (arith, h.kind_is))
binder_name (counted_tree h a b c t) k z = absurd (omega (arith, h.kind_is))
binder_name (chain_tree h (inl y) a b t) k z = absurd (omega (arith, h.kind_is))
binder_name (chain_tree h (inr y) a b t) k z = absurd (omega (arith, h.kind_is))
binder_name (switch_tree h a t) k z = absurd (omega (arith, h.kind_is))

-- the second of two places, where the first is not asked about
second_place : (b c : Bool) (x y : ℕ) → b ≡ false → c ≡ true → nowhere ≤ cond b x (cond c y nowhere) → nowhere ≤ y
second_place b c x y p q h = rw (p, q) at h

-- the test of a node that would hold it
held_so : (a b c : Bool) → (a && not (b && c)) ≡ false → a ≡ true → (b && c) ≡ true
held_so a true true e t = refl
held_so a true false e t = let y : ◌≡◌ {A = Bool} true false = sym (rw t) ∙ e in let w : ◌≡◌ {A = ℕ} 0 1 = cc in absurd (omega arith)
held_so a false c e t = let y : ◌≡◌ {A = Bool} true false = sym (rw t) ∙ e in let w : ◌≡◌ {A = ℕ} 0 1 = cc in absurd (omega arith)

-- nodes that bind nothing
pub none_bound : (ns : List ℕ) (d i : ℕ) → ((q : ℕ) → i ≤ q → q < i + d → is_binder ns q ≡ false) → binders_before ns (i + d) ≡ binders_before ns i
none_bound ns zero i h = ap (binders_before ns) (omega arith)
none_bound ns (suc d) i h =
    let z : i + suc d ≡ i + d + 1 = omega arith
    in rw z (omega (arith, binders_next ns (i + d) false (h (i + d) (omega arith) (omega arith)), none_bound ns d i (λ q a b. h q a (omega arith))))

-- node j is the top concatenation of rule k
abbrev pub top : (ns rs : List ℕ) → (k j : ℕ) → Bool
top ns rs k j = eqb j (first_node rs k) && eqb (kind_of ns (first_node rs k)) 2

module _ {xs ns ts rs : List ℕ} {n t b r : ℕ} (N : Nodes xs ns ts n t) (R : Readable xs ns ts rs n t b r) (k : ℕ) (below : k < r) (within : last_node rs k ≤ n) where
  unheld : (i j : ℕ) → first_node rs k ≤ j → j < i → i < last_node rs k → is_binder ns i ≡ true → held ns (first_node rs k) i j ≡ false
  unheld i j l m h e =
      let c : kind_of ns i ≡ 8 = binder_kind ns i e
      in let w : not (eqb (how_bound ns i) 0) ≡ true = both_second (eqb (kind_of ns i) 8) (not (eqb (how_bound ns i) 0)) e
      in let p : bound_at ns i < nowhere = name_placed R.short (binder_name (N.trees i (omega arith)).holds c w)
      in let f : Bool = binder_fault xs ns (first_node rs k) i (bound_at ns i)
      in let u : ℕ = place_if (use_fault xs ns rs r (first_node rs k) (last_node rs k) (place_of ns i)) (place_of ns i)
      in let y : nowhere ≤ place_if f (bound_at ns i) =
      second_place (eqb (kind_of ns i) 5) (is_binder ns i) u (place_if f (bound_at ns i)) (ne_eqb (kind_of ns i) 5 (λ z. omega arith)) e (omega (arith, no_node_fault R k i below (omega arith) h))
      in let z : f ≡ false = no_place f (bound_at ns i) y p
      in let x : is_misplaced ns (first_node rs k) i ≡ false =
      neither_second (bound_between xs ns (first_node rs k) i (bound_at ns i)) (is_misplaced ns (first_node rs k) i) (neither_second (is_reserved xs (bound_at ns i)) (bound_between xs ns (first_node rs k) i (bound_at ns i) || is_misplaced ns (first_node rs k) i) z)
      in any_all (i - first_node rs k) (first_node rs k) (held ns (first_node rs k) i) (neither_second (not (eqb (how_bound ns i) 1)) (held_between ns (first_node rs k) i) x) j l (omega arith)

  -- a tree other than the top concatenation has no binder but its root
  pub inner_free : {j m f g β : ℕ} → Holds xs ns ts tree j m f g β → first_node rs k ≤ j → m ≤ last_node rs k → top ns rs k j ≡ false → (i : ℕ) → j + 1 ≤ i → i < m → is_binder ns i ≡ false
  inner_free {j} {m} h l o out i p q =
      ⊎_elim
      (λ (e : is_binder ns i ≡ true).
      let w : i - j < node_size ns j = omega (arith, tree_size h)
      in let y : top ns rs k j ≡ true = held_so (holds ns i j) (eqb j (first_node rs k)) (eqb (kind_of ns (first_node rs k)) 2) (unheld i j l (omega arith) (omega arith) e) (lt-ltb (i - j) (node_size ns j) w)
      in let v : false ≡ true = sym out ∙ y
      in let z : ◌≡◌ {A = ℕ} 0 1 = cc in absurd (omega arith))
      (λ e. e) (which (is_binder ns i))

  pub tree_binders : {j m f g β : ℕ} → Holds xs ns ts tree j m f g β → j < m → first_node rs k ≤ j → m ≤ last_node rs k → top ns rs k j ≡ false → binders_before ns m ≡ binders_before ns (j + 1)
  tree_binders {j} {m} h s l o out =
      let z : j + 1 + (m - (j + 1)) ≡ m = omega arith
      in subst (λ (q : ℕ). binders_before ns q ≡ binders_before ns (j + 1)) z (none_bound ns (m - (j + 1)) (j + 1) (λ i p q. inner_free h l o out i p (omega arith)))
