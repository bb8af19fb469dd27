-- The parts of a node, and the cases of a switch.
-- Assumes nothing.
use Prim.Native.Nat.{ℕ, zero, suc, ◌+◌, ◌≤◌, ◌<◌}
use mathlib.Core.Path.{◌≡◌, refl, ap, subst, ◌∙◌}
use mathlib.Core.Logic.{⊎_elim, inl, inr}
use mathlib.Core.Bool.{Bool, true, false}
use mathlib.Core.List.Memᴰ
use mathlib.Core.List.{List, [], ◌∷◌}
use native.Mathlib.Omega.{arith}
use borrow.Author.Tests.{lt-ltb, le-ltb, ne_eqb, ltb-true}
use lib.Dec.{ltb}
use Rattle.basis.proofs.Booleans.{which}
use Rattle.theory.specs.Grammar.{◌∈◌}
use Rattle.text_shapes.specs.NodeShapes.{tree, further, Holds, literal_tree, range_tree, use_tree, eod_tree, uint_tree, marked_tree, counted_tree, chain_tree, switch_tree, a_case, no_further, a_default, more_cases, Conditioned}
use Rattle.text_store.specs.Words.{kind_of, node_size, condition_from, condition_end}
use Rattle.text_wellformed.proofs.NodeFacts.{ordered, tree_below, tree_size}
use Rattle.text_meaning.specs.Meaning.{parts_from, parts_of, is_default}
use Rattle.text_meaning.specs.Claims.{DefaultLast}

-- one part, and then the others
pub parts_next : (ns : List ℕ) (most j end : ℕ) → j < end → parts_from ns (suc most) j end ≡ j ∷ parts_from ns most (j + node_size ns j) end
unfolding parts_from
parts_next ns most j end h = ap (λ (x : Bool). elim x [ true ↦ j ∷ parts_from ns most (j + node_size ns j) end | false ↦ [] ]) (lt-ltb j end h)

pub parts_end : (ns : List ℕ) (most j end : ℕ) → end ≤ j → parts_from ns most j end ≡ []
unfolding parts_from
parts_end ns zero j end h = refl
parts_end ns (suc most) j end h = ap (λ (x : Bool). elim x [ true ↦ j ∷ parts_from ns most (j + node_size ns j) end | false ↦ [] ]) (le-ltb j end h)

-- all parts are before the end
pub part_below : (ns : List ℕ) (most j end c : ℕ) → c ∈ parts_from ns most j end → c < end
unfolding parts_from
part_below ns zero j end c m = absurd (Memᴰ.not-nil m)
part_below ns (suc most) j end c m =
    let is : (x : Bool) → ltb j end ≡ x → c ∈ elim x [ true ↦ j ∷ parts_from ns most (j + node_size ns j) end | false ↦ [] ] =
    λ x e. subst (λ (x : Bool). c ∈ elim x [ true ↦ j ∷ parts_from ns most (j + node_size ns j) end | false ↦ [] ]) e m in
    ⊎_elim
    (λ (e : ltb j end ≡ true). ⊎_elim (λ (z : c ≡ j). omega (arith, ltb-true j end e)) (λ w. part_below ns most (j + node_size ns j) end c w) (Memᴰ.cases_cons (is true e)))
    (λ (e : ltb j end ≡ false). absurd (Memᴰ.not-nil (is false e)))
    (which (ltb j end))

-- ---- the default is last

default_after : (ns : List ℕ) (c : ℕ) (cs : List ℕ) → is_default ns c ≡ false → DefaultLast ns cs → DefaultLast ns (c ∷ cs)
unfolding DefaultLast
default_after ns c [] e y = tt
default_after ns c (d ∷ cs) e y = (e, y)

-- the parts from a tree on are it and those after it
parts_tree : {xs ns ts : List ℕ} {j m f g β : ℕ} (most end : ℕ) → Holds xs ns ts tree j m f g β → m ≤ end → parts_from ns (suc most) j end ≡ j ∷ parts_from ns most m end
parts_tree {ns = ns} {j = j} {m = m} most end x l =
    let z : j + node_size ns j ≡ m = omega (arith, tree_size x, tree_below x) in
    parts_next ns most j end (omega (arith, tree_below x)) ∙ ap (λ (k : ℕ). j ∷ parts_from ns most k end) z

pub given : {ns ts : List ℕ} {i f h : ℕ} → Conditioned ns ts i f h → is_default ns i ≡ false
given {ns = ns} {i = i} c = ne_eqb (condition_from ns i) (condition_end ns i) (λ z. omega (arith, c.from_is, c.end_is, c.shape.some))

further_last : {xs ns ts : List ℕ} {j e f g β : ℕ} (most : ℕ) → e ≤ j + most → Holds xs ns ts further j e f g β → DefaultLast ns (parts_from ns most j e)
unfolding DefaultLast
further_last {ns = ns} most l (no_further {i = i} b) = rw (parts_end ns most i i (omega arith)) tt
further_last zero l (a_default u x) = absurd (omega (arith, tree_below x))
further_last {ns = ns} (suc most) l (a_default {i = i} {e = e} u x) = rw (parts_tree most e x (omega arith), parts_end ns most e e (omega arith)) tt
further_last zero l (more_cases (a_case c x y b)) = absurd (omega (arith, tree_below x, (ordered y).nodes))
further_last {ns = ns} (suc most) l (more_cases (a_case {i = i} {m = m} {e = e} c x y b)) =
    rw (parts_tree most e x (ordered y).nodes) (default_after ns i (parts_from ns most m e) (given c) (further_last most (omega (arith, tree_below x)) y))

-- of a switch
pub default_last : {xs ns ts : List ℕ} {i e f g β : ℕ} → Holds xs ns ts tree i e f g β → kind_of ns i ≡ 4 → DefaultLast ns (parts_of ns i)
default_last (literal_tree h a b c) k = absurd (omega (arith, h.kind_is))
default_last (range_tree h a b c d) k = absurd (omega (arith, h.kind_is))
default_last (use_tree h a b c) k = absurd (omega (arith, h.kind_is))
default_last (eod_tree h a b) k = absurd (omega (arith, h.kind_is))
default_last (uint_tree h a b c) k = absurd (omega (arith, h.kind_is))
default_last (marked_tree h a b c t) k = absurd (omega (arith, h.kind_is))
default_last (counted_tree h a b c t) k = absurd (omega (arith, h.kind_is))
default_last (chain_tree h (inl z) a b t) k = absurd (omega (arith, h.kind_is))
default_last (chain_tree h (inr z) a b t) k = absurd (omega (arith, h.kind_is))
default_last {ns = ns} (switch_tree {i = i} {j = j} {e = e} h a t) k =
    let y : i + node_size ns i ≡ e = omega (arith, h.size_is, h.below) in
    rw (y, ← a) (further_last (node_size ns i) (omega (arith, h.size_is, h.below)) (more_cases t))
