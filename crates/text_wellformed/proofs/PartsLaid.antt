-- The parts of a construct fill it, one after the other.
-- Assumes nothing.
use Prim.Native.Nat.{ℕ, zero, suc, ◌+◌, ◌-◌, ◌≤◌, ◌<◌}
use mathlib.Core.Path.{◌≡◌, refl, sym, ap, ◌∙◌}
use mathlib.Core.Logic.{⊎_elim}
use mathlib.Core.Bool.{Bool, true, false, ◌&&◌}
use mathlib.Core.List.{List}
use native.Mathlib.Omega.{arith}
use borrow.Author.Tests.{lt-ltb, eq-eqb}
use lib.Dec.{ltb, eqb}
use Rattle.basis.proofs.Booleans.{either_second}
use Rattle.table_layout.specs.Held.{size_of}
use Rattle.table_wellformed.specs.Checks.{size_at, walk}
use Rattle.table_wellformed.specs.Parts.{part_laid, parts_laid, unconditioned, conditioned}
use Rattle.table_wellformed.proofs.Walks.{one_step, at_once}
use Rattle.text_shapes.specs.NodeShapes.{Unconditioned, Conditioned, tree, forest, cases, further, Holds, literal_tree, range_tree, use_tree, eod_tree, uint_tree, marked_tree, counted_tree, chain_tree, switch_tree, no_trees, more_trees, a_case, no_further, a_default, more_cases}
use Rattle.text_store.specs.Words.{kind_of, node_size}
use Rattle.text_wellformed.specs.Context.{Readable, Words, TreeAt, Quiet}
use Rattle.text_wellformed.specs.Meant.{meant}
use Rattle.text_wellformed.proofs.NodeFacts.{ordered, tree_below, tree_size, nodes}
use Rattle.text_wellformed.proofs.ConditionWords.{is_unconditioned, is_conditioned}
use Rattle.text_wellformed.proofs.Known.{known}

-- ---- sizes

-- a construct is as large as the tree of its node
module _ (rs : List ℕ) (r : ℕ) where
  meant_size : {xs ns ts : List ℕ} {i e f g β : ℕ} → Holds xs ns ts tree i e f g β → size_of (meant xs ns rs r i) ≡ e - i
  unfolding meant
  meant_size (literal_tree h z b l) = rw h.kind_is (omega arith)
  meant_size (range_tree h z b l m) = rw h.kind_is (omega arith)
  meant_size (use_tree h z b l) = rw h.kind_is (omega arith)
  meant_size (eod_tree h z b) = rw h.kind_is (omega arith)
  meant_size (uint_tree h z f b) = rw h.kind_is (omega arith)
  meant_size (marked_tree h z m u x) = rw h.kind_is h.size_is
  meant_size (counted_tree h z c u x) = rw h.kind_is h.size_is
  meant_size {ns = ns} (chain_tree {i = i} {kind = kind} h k z t x) =
      ⊎_elim (λ (w : kind ≡ 1). let y : kind_of ns i ≡ 1 = h.kind_is ∙ w in rw y h.size_is) (λ (w : kind ≡ 2). let y : kind_of ns i ≡ 2 = h.kind_is ∙ w in rw y h.size_is) k
  meant_size (switch_tree h z x) = rw h.kind_is h.size_is

-- ---- walks

module _ {xs ns ts rs ws : List ℕ} {n t b r : ℕ} (known-text : Readable xs ns ts rs n t b r) (words : Words xs ns ts rs n r ws) (quiet : Quiet ns n) where
  pub part_size : {i e f g β : ℕ} → Holds xs ns ts tree i e f g β → e ≤ n → size_at ws i ≡ e - i
  part_size {i} x h = ap size_of (known known-text words quiet i (omega (arith, tree_below x))) ∙ meant_size rs r x

  module _ (switch : Bool) (first end : ℕ) where
    -- the parts from j up to `end` are laid
    abbrev Walks : ℕ → Type 0
    Walks j = (fuel : ℕ) → end ≤ j + fuel → walk fuel ws (λ j x. part_laid ws switch first j end) (λ j x. x) (λ j x. eqb j end) end j 0 ≡ true

    walks_end : Walks end
    walks_end fuel l = at_once ws (λ j x. part_laid ws switch first j end) (λ j x. x) (λ j x. eqb j end) end fuel end 0 (omega arith) ∙ eq-eqb end end refl

    -- one part, and then the others
    walks_part : {j m f g β : ℕ} → Holds xs ns ts tree j m f g β → m ≤ end → end ≤ n → part_laid ws switch first j end ≡ true → Walks m → Walks j
    walks_part {j} {m} x h k p y zero l = absurd (omega (arith, tree_below x))
    walks_part {j} {m} x h k p y (suc fuel) l =
        let s : size_at ws j ≡ m - j = part_size x (omega arith) in
        let z : j + size_at ws j ≡ m = omega (arith, tree_below x) in
        let c : ltb 0 (size_at ws j) ≡ true = lt-ltb 0 (size_at ws j) (omega (arith, tree_below x)) in
        one_step ws (λ j x. part_laid ws switch first j end) (λ j x. x) (λ j x. eqb j end) end fuel j 0 true (omega (arith, tree_below x)) (rw (c, p))
        ∙ ap (λ (k : ℕ). walk fuel ws (λ j x. part_laid ws switch first j end) (λ j x. x) (λ j x. eqb j end) end k 0) z
        ∙ y fuel (omega (arith, tree_below x))

  -- ---- the parts of a chain or a repetition

  forest_walks : {m j e f g β : ℕ} (first : ℕ) → e ≤ n → Holds xs ns ts (forest m) j e f g β → Walks false first e j
  forest_walks first h (no_trees {i = i} b) fuel l = walks_end false first i fuel l
  forest_walks first h (more_trees {i = j} {e = e} u x y b) fuel l =
      walks_part false first e x (ordered y).nodes h (is_unconditioned known-text words quiet j (omega (arith, tree_below x, (ordered y).nodes)) u)
      (λ fuel l. forest_walks first h y fuel l) fuel l

  pub forest_laid : {m i e f g β : ℕ} → e ≤ n → Holds xs ns ts (forest m) i e f g β → parts_laid ws false i e ≡ true
  forest_laid {i = i} {e = e} h x = forest_walks i h x (e - i) (omega (arith, (ordered x).nodes))

  -- ---- the cases of a switch

  case_laid : {j f g : ℕ} (first end : ℕ) → j < n → Conditioned ns ts j f g → part_laid ws true first j end ≡ true
  case_laid {j} first end h c = rw (is_conditioned known-text words quiet j h c)

  default_laid : {j f g β : ℕ} (first end : ℕ) → first < j → end ≤ n → Unconditioned ns j → Holds xs ns ts tree j end f g β → part_laid ws true first j end ≡ true
  default_laid {j} first end l h u x =
      let s : size_at ws j ≡ end - j = part_size x h in
      let a : ltb first j ≡ true = lt-ltb first j l in
      let c : eqb (j + size_at ws j) end ≡ true = eq-eqb (j + size_at ws j) end (omega (arith, tree_below x)) in
      let d : unconditioned ws j ≡ true = is_unconditioned known-text words quiet j (omega (arith, tree_below x)) u in
      either_second (conditioned ws j) ((ltb first j && eqb (j + size_at ws j) end) && unconditioned ws j) (rw (a, c, d))

  further_walks : {j e f g β : ℕ} (first : ℕ) → e ≤ n → first < j → Holds xs ns ts further j e f g β → Walks true first e j
  further_walks first h l (no_further {i = i} b) fuel k = walks_end true first i fuel k
  further_walks first h l (a_default {e = e} u x) fuel k = walks_part true first e x (omega arith) h (default_laid first e l h u x) (walks_end true first e) fuel k
  further_walks first h l (more_cases (a_case {e = e} c x y b)) fuel k =
      walks_part true first e x (ordered y).nodes h (case_laid first e (omega (arith, tree_below x, (ordered y).nodes)) c)
      (λ fuel k. further_walks first h (omega (arith, tree_below x)) y fuel k) fuel k

  pub cases_laid : {i e f g β : ℕ} → e ≤ n → Holds xs ns ts cases i e f g β → parts_laid ws true i e ≡ true
  cases_laid h (a_case {i = i} {e = e} c x y b) =
      walks_part true i e x (ordered y).nodes h (case_laid i e (omega (arith, tree_below x, (ordered y).nodes)) c)
      (λ fuel k. further_walks i h (omega (arith, tree_below x)) y fuel k) (e - i) (omega (arith, tree_below x, (ordered y).nodes))

  -- any construct is as large as its node says
  pub size_is : (i : ℕ) → i < n → size_at ws i ≡ node_size ns i
  size_is i h =
      let tree_at : TreeAt xs ns ts n t i = (nodes known-text).trees i h in
      part_size tree_at.holds tree_at.within ∙ sym (tree_size tree_at.holds)
