-- Every node is the root of a tree, with a condition or without.
-- Assumes nothing.
use Prim.Native.Nat.{ℕ, ◌+◌, ◌-◌, ◌≤◌, ◌<◌}
use mathlib.Core.Path.{◌≡◌, refl}
use mathlib.Core.Logic.{⊎_elim}
use mathlib.Core.List.{List}
use native.Mathlib.Omega.{arith}
use Rattle.text_shapes.specs.NodeShapes.{Headed, Unconditioned, Shape, tree, forest, cases, further, Holds, literal_tree, range_tree, use_tree, eod_tree, uint_tree, marked_tree, counted_tree, chain_tree, switch_tree, no_trees, more_trees, a_case, no_further, a_default, more_cases, Rules, no_rules, a_rule}
use Rattle.text_store.specs.Words.{node_size}
use Rattle.text_wellformed.specs.Context.{Readable, TreeAt, ConditionAt, without, with_one, Nodes}
use Rattle.text_wellformed.proofs.Sums.{side}

-- nodes and terms go on
pub record Ordered (i e f g : ℕ) : Type 0 where
  pub nodes : i ≤ e
  pub terms : f ≤ g

-- the first node of a tree
pub record Root (ns : List ℕ) (i e : ℕ) : Type 0 where
  pub kind : ℕ
  pub head : Headed ns i e kind

-- ---- what holds of the nodes from i up to e

abbrev pub Along : (ℕ → Type 0) → ℕ → ℕ → Type 0
Along P i e = (j : ℕ) → i ≤ j → j < e → P j

module _ (P : ℕ → Type 0) where
  pub along_none : (i e : ℕ) → e ≤ i → Along P i e
  along_none i e h j a b = absurd (omega arith)

  pub along_both : (i m e : ℕ) → Along P i m → Along P m e → Along P i e
  along_both i m e x y j a b = ⊎_elim (λ (l : j < m). x j a l) (λ (l : m ≤ j). y j l b) (side j m)

  pub along_first : (i k e : ℕ) → k ≡ i + 1 → P i → Along P k e → Along P i e
  along_first i k e z p y j a b = ⊎_elim (λ (l : j < k). let w : j ≡ i = omega arith in rw w p) (λ (l : k ≤ j). y j l b) (side j k)

module _ {xs ns ts : List ℕ} where
  pub ordered : {s : Shape} {i e f g β : ℕ} → Holds xs ns ts s i e f g β → Ordered i e f g
  ordered (literal_tree h z b l) = record { nodes = omega arith; terms = omega arith }
  ordered (range_tree h z b l m) = record { nodes = omega arith; terms = omega arith }
  ordered (use_tree h z b l) = record { nodes = omega arith; terms = omega arith }
  ordered (eod_tree h z b) = record { nodes = omega arith; terms = omega arith }
  ordered (uint_tree h z f b) = record { nodes = omega arith; terms = omega (arith, f.shape.some) }
  ordered (marked_tree h z m u x) = record { nodes = omega arith; terms = omega (arith, (ordered x).terms) }
  ordered (counted_tree h z c u x) = record { nodes = omega arith; terms = omega (arith, (ordered x).terms, c.shape.some) }
  ordered (chain_tree h k z t x) = record { nodes = omega arith; terms = omega (arith, (ordered x).terms) }
  ordered (switch_tree h z x) = record { nodes = omega arith; terms = omega (arith, (ordered x).terms) }
  ordered (no_trees b) = record { nodes = omega arith; terms = omega arith }
  ordered (more_trees u x y b) = record { nodes = omega (arith, (ordered x).nodes, (ordered y).nodes); terms = omega (arith, (ordered x).terms, (ordered y).terms) }
  ordered (a_case c x y b) = record { nodes = omega (arith, (ordered x).nodes, (ordered y).nodes); terms = omega (arith, c.shape.some, (ordered x).terms, (ordered y).terms) }
  ordered (no_further b) = record { nodes = omega arith; terms = omega arith }
  ordered (a_default u x) = record { nodes = omega (arith, (ordered x).nodes); terms = omega (arith, (ordered x).terms) }
  ordered (more_cases x) = record { nodes = omega (arith, (ordered x).nodes); terms = omega (arith, (ordered x).terms) }

  headed : {i e f g β : ℕ} → Holds xs ns ts tree i e f g β → Root ns i e
  headed (literal_tree h z b l) = record { kind = 6; head = h }
  headed (range_tree h z b l m) = record { kind = 7; head = h }
  headed (use_tree h z b l) = record { kind = 5; head = h }
  headed (eod_tree h z b) = record { kind = 9; head = h }
  headed (uint_tree h z f b) = record { kind = 8; head = h }
  headed (marked_tree h z m u x) = record { kind = 3; head = h }
  headed (counted_tree h z c u x) = record { kind = 3; head = h }
  headed (chain_tree {kind = kind} h k z t x) = record { kind = kind; head = h }
  headed (switch_tree h z x) = record { kind = 4; head = h }

  -- a tree has a node, which says how many it has
  pub tree_below : {i e f g β : ℕ} → Holds xs ns ts tree i e f g β → i < e
  tree_below x = (headed x).head.below

  pub tree_size : {i e f g β : ℕ} → Holds xs ns ts tree i e f g β → node_size ns i ≡ e - i
  tree_size x = (headed x).head.size_is

  -- trees that follow one another have nodes
  pub forest_below : {m i e f g β : ℕ} → Holds xs ns ts (forest m) i e f g β → 0 < m → i < e
  forest_below (no_trees b) h = absurd (omega arith)
  forest_below (more_trees u x y b) h = omega (arith, tree_below x, (ordered y).nodes)

  pub cases_below : {i e f g β : ℕ} → Holds xs ns ts cases i e f g β → i < e
  cases_below (a_case c x y b) = omega (arith, tree_below x, (ordered y).nodes)

-- ---- trees

module _ (xs ns ts : List ℕ) (n t : ℕ) where
  abbrev Rooted : ℕ → Type 0
  Rooted i = TreeAt xs ns ts n t i

  root : {i e f g β : ℕ} → Holds xs ns ts tree i e f g β → e ≤ n → g ≤ t → Rooted i
  root {i} {e} {f} {g} {β} x h k = record { end = e; first = f; last = g; count = β; within = h; terms_within = k; holds = x }

  leaf : {i e f g β : ℕ} → Holds xs ns ts tree i e f g β → e ≡ i + 1 → e ≤ n → g ≤ t → Along Rooted i e
  leaf {i} {e} x z h k = along_first Rooted i e e z (root x h k) (along_none Rooted e e (omega arith))

  inner : {i j e f g β : ℕ} → Holds xs ns ts tree i e f g β → j ≡ i + 1 → e ≤ n → g ≤ t → Along Rooted j e → Along Rooted i e
  inner {i} {j} {e} x z h k y = along_first Rooted i j e z (root x h k) y

  rooted : {s : Shape} {i e f g β : ℕ} → Holds xs ns ts s i e f g β → e ≤ n → g ≤ t → Along Rooted i e
  rooted (literal_tree x z b l) h k = leaf (literal_tree x z b l) z h k
  rooted (range_tree x z b l m) h k = leaf (range_tree x z b l m) z h k
  rooted (use_tree x z b l) h k = leaf (use_tree x z b l) z h k
  rooted (eod_tree x z b) h k = leaf (eod_tree x z b) z h k
  rooted (uint_tree x z f b) h k = leaf (uint_tree x z f b) z h k
  rooted (marked_tree x z m u y) h k = inner (marked_tree x z m u y) z h k (rooted y h k)
  rooted (counted_tree x z c u y) h k = inner (counted_tree x z c u y) z h k (rooted y h (omega (arith, c.shape.some)))
  rooted (chain_tree x w z l y) h k = inner (chain_tree x w z l y) z h k (rooted y h k)
  rooted (switch_tree x z y) h k = inner (switch_tree x z y) z h k (rooted y h k)
  rooted (no_trees {i = i} b) h k = along_none Rooted i i (omega arith)
  rooted (more_trees {i = i} {m = m} {e = e} u x y b) h k = along_both Rooted i m e (rooted x (omega (arith, (ordered y).nodes)) (omega (arith, (ordered y).terms))) (rooted y h k)
  rooted (a_case {i = i} {m = m} {e = e} c x y b) h k = along_both Rooted i m e (rooted x (omega (arith, (ordered y).nodes)) (omega (arith, (ordered y).terms))) (rooted y h k)
  rooted (no_further {i = i} b) h k = along_none Rooted i i (omega arith)
  rooted (a_default u x) h k = rooted x h k
  rooted (more_cases x) h k = rooted x h k

-- ---- conditions

-- a tree's root has its condition from outside
abbrev inside : Shape → ℕ → ℕ
inside tree i = i + 1
inside (forest m) i = i
inside cases i = i
inside further i = i

module _ (xs ns ts : List ℕ) (t : ℕ) where
  abbrev Settled : ℕ → Type 0
  Settled i = ConditionAt ns ts t i

  free : {i e f g β : ℕ} → Unconditioned ns i → Holds xs ns ts tree i e f g β → Along Settled (i + 1) e → Along Settled i e
  free {i} {e} u x y = along_first Settled i (i + 1) e refl (without u) y

  under : (i j e : ℕ) → j ≡ i + 1 → Along Settled j e → Along Settled (i + 1) e
  under i j e z y k a b = y k (omega arith) b

  settled : {s : Shape} {i e f g β : ℕ} → Holds xs ns ts s i e f g β → g ≤ t → Along Settled (inside s i) e
  settled (literal_tree {i = i} {e = e} x z b l) k = along_none Settled (i + 1) e (omega arith)
  settled (range_tree {i = i} {e = e} x z b l m) k = along_none Settled (i + 1) e (omega arith)
  settled (use_tree {i = i} {e = e} x z b l) k = along_none Settled (i + 1) e (omega arith)
  settled (eod_tree {i = i} {e = e} x z b) k = along_none Settled (i + 1) e (omega arith)
  settled (uint_tree {i = i} {e = e} x z f b) k = along_none Settled (i + 1) e (omega arith)
  settled (marked_tree {i = i} {j = j} {e = e} x z m u y) k = under i j e z (free u y (settled y k))
  settled (counted_tree {i = i} {j = j} {e = e} x z c u y) k = under i j e z (free u y (settled y (omega (arith, c.shape.some))))
  settled (chain_tree {i = i} {j = j} {e = e} x w z l y) k = under i j e z (settled y k)
  settled (switch_tree {i = i} {j = j} {e = e} x z y) k = under i j e z (settled y k)
  settled (no_trees {i = i} b) k = along_none Settled i i (omega arith)
  settled (more_trees {i = i} {m = m} {e = e} u x y b) k = along_both Settled i m e (free u x (settled x (omega (arith, (ordered y).terms)))) (settled y k)
  settled (a_case {i = i} {m = m} {e = e} c x y b) k =
      along_both Settled i m e (along_first Settled i (i + 1) m refl (with_one c (omega (arith, (ordered x).terms, (ordered y).terms))) (settled x (omega (arith, (ordered y).terms)))) (settled y k)
  settled (no_further {i = i} b) k = along_none Settled i i (omega arith)
  settled (a_default u x) k = free u x (settled x k)
  settled (more_cases x) k = settled x k

-- ---- rules

module _ {xs ns ts rs : List ℕ} {r n t b : ℕ} where
  pub rules_ordered : {k i f u : ℕ} → Rules xs ns ts rs r n t b k i f u → Ordered i n f t
  rules_ordered (no_rules a b c d) = record { nodes = omega arith; terms = omega arith }
  rules_ordered (a_rule p q l v u x y) = record { nodes = omega (arith, (ordered x).nodes, (rules_ordered y).nodes); terms = omega (arith, (ordered x).terms, (rules_ordered y).terms) }

  trees_of : {k i f u : ℕ} → Rules xs ns ts rs r n t b k i f u → Along (λ j. TreeAt xs ns ts n t j) i n
  trees_of (no_rules {i = i} a b c d) = along_none (λ j. TreeAt xs ns ts n t j) i n (omega arith)
  trees_of (a_rule {i = i} {m = m} p q l v u x y) = along_both (λ j. TreeAt xs ns ts n t j) i m n (rooted xs ns ts n t x (rules_ordered y).nodes (rules_ordered y).terms) (trees_of y)

  conditions_of : {k i f u : ℕ} → Rules xs ns ts rs r n t b k i f u → Along (λ j. ConditionAt ns ts t j) i n
  conditions_of (no_rules {i = i} a b c d) = along_none (λ j. ConditionAt ns ts t j) i n (omega arith)
  conditions_of (a_rule {i = i} {m = m} p q l v u x y) = along_both (λ j. ConditionAt ns ts t j) i m n (free xs ns ts t u x (settled xs ns ts t x (rules_ordered y).terms)) (conditions_of y)

pub nodes_of_rules : {xs ns ts rs : List ℕ} {n t b r : ℕ} → Rules xs ns ts rs r n t b 0 0 0 0 → Nodes xs ns ts n t
nodes_of_rules x = record { trees = λ i h. trees_of x i (omega arith) h; conditions = λ i h. conditions_of x i (omega arith) h }

pub nodes : {xs ns ts rs : List ℕ} {n t b r : ℕ} → Readable xs ns ts rs n t b r → Nodes xs ns ts n t
nodes k = nodes_of_rules k.rules
