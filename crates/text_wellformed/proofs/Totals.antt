-- How many binders and terms the nodes have, up to the last.
-- Assumes nothing.
use Prim.Native.Nat.{ℕ, ◌+◌, ◌-◌, ◌≤◌, ◌<◌}
use mathlib.Core.Path.{◌≡◌, refl, sym, ap, ◌∙◌}
use mathlib.Core.Logic.{◌⊎◌, ⊎_elim}
use mathlib.Core.Bool.{false}
use mathlib.Core.List.{List}
use native.Mathlib.Omega.{arith}
use borrow.Author.Tests.{eqb-false}
use lib.Dec.{eqb}
use Rattle.text_shapes.specs.NodeShapes.{Unconditioned, Binds, Marked, Shape, tree, forest, cases, further, Holds, literal_tree, range_tree, use_tree, eod_tree, uint_tree, marked_tree, counted_tree, chain_tree, switch_tree, no_trees, more_trees, a_case, no_further, a_default, more_cases, Rules, no_rules, a_rule}
use Rattle.text_store.specs.Words.{kind_of, how_bound}
use Rattle.text_encoding.specs.Lists.{sum}
use Rattle.text_encoding.specs.Numbers.{binds_one, binders_before, condition_length, own_length, lists_length, condition_start}
use Rattle.text_wellformed.specs.Context.{Readable, Quiet}
use Rattle.text_wellformed.proofs.Sums.{total, total_join, total_none, total_one, total_step}
use Rattle.text_wellformed.proofs.NodeFacts.{ordered, tree_below, rules_ordered}

-- ---- binders

module _ (ns : List ℕ) where
  no_binder : (i kind : ℕ) → kind_of ns i ≡ kind → eqb kind 8 ≡ false → binds_one ns i ≡ 0
  no_binder i kind k z = rw (k, z)

  a_binder : {xs : List ℕ} (i β : ℕ) → kind_of ns i ≡ 8 → Binds xs ns i β → binds_one ns i ≡ β
  a_binder i β k b =
      ⊎_elim (λ (z : (how_bound ns i ≡ 0) × (β ≡ 0)). rw (k, z.0) (sym z.1))
      (λ z. ⊎_elim (λ (w : how_bound ns i ≡ 1). rw (k, w) (sym z.1)) (λ (w : how_bound ns i ≡ 2). rw (k, w) (sym z.1)) z.0)
      b.how

  -- a leaf, and a node before the nodes that it holds
  leaf_binders : (i e kind β : ℕ) → kind_of ns i ≡ kind → eqb kind 8 ≡ false → e ≡ i + 1 → β ≡ 0 → total (binds_one ns) i e ≡ β
  leaf_binders i e kind β k z h b = omega (arith, total_one (binds_one ns) i e h, no_binder i kind k z)

  inner_binders : (i j e kind β : ℕ) → kind_of ns i ≡ kind → eqb kind 8 ≡ false → j ≡ i + 1 → i < e → total (binds_one ns) j e ≡ β → total (binds_one ns) i e ≡ β
  inner_binders i j e kind β k z h l b = omega (arith, total_step (binds_one ns) i j e h l, no_binder i kind k z)

  chain_binders : (i j e kind β : ℕ) → kind_of ns i ≡ kind → (kind ≡ 1) ⊎ (kind ≡ 2) → j ≡ i + 1 → i < e → total (binds_one ns) j e ≡ β → total (binds_one ns) i e ≡ β
  chain_binders i j e kind β k z = inner_binders i j e kind β k (⊎_elim (λ (w : kind ≡ 1). rw w) (λ (w : kind ≡ 2). rw w) z)

  two_binders : (i m e β γ δ : ℕ) → i ≤ m → m ≤ e → total (binds_one ns) i m ≡ β → total (binds_one ns) m e ≡ γ → δ ≡ β + γ → total (binds_one ns) i e ≡ δ
  two_binders i m e β γ δ h k b c d = omega (arith, total_join (binds_one ns) i m e h k)

  tree_binders : {xs ts : List ℕ} {s : Shape} {i e f g β : ℕ} → Holds xs ns ts s i e f g β → total (binds_one ns) i e ≡ β
  tree_binders (literal_tree {i = i} {e = e} {β = β} x z b l) = leaf_binders i e 6 β x.kind_is refl z b
  tree_binders (range_tree {i = i} {e = e} {β = β} x z b l m) = leaf_binders i e 7 β x.kind_is refl z b
  tree_binders (use_tree {i = i} {e = e} {β = β} x z b l) = leaf_binders i e 5 β x.kind_is refl z b
  tree_binders (eod_tree {i = i} {e = e} {β = β} x z b) = leaf_binders i e 9 β x.kind_is refl z b
  tree_binders (uint_tree {i = i} {e = e} {β = β} x z f b) = total_one (binds_one ns) i e z ∙ a_binder i β x.kind_is b
  tree_binders (marked_tree {i = i} {j = j} {e = e} {β = β} x z m u y) = inner_binders i j e 3 β x.kind_is refl z x.below (tree_binders y)
  tree_binders (counted_tree {i = i} {j = j} {e = e} {β = β} x z c u y) = inner_binders i j e 3 β x.kind_is refl z x.below (tree_binders y)
  tree_binders (chain_tree {i = i} {j = j} {e = e} {β = β} {kind = kind} x w z l y) = chain_binders i j e kind β x.kind_is w z x.below (tree_binders y)
  tree_binders (switch_tree {i = i} {j = j} {e = e} {β = β} x z y) = inner_binders i j e 4 β x.kind_is refl z x.below (tree_binders y)
  tree_binders (no_trees {i = i} b) = total_none (binds_one ns) i ∙ sym b
  tree_binders (more_trees {i = i} {m = m} {e = e} {β = β} {γ = γ} {δ = δ} u x y b) = two_binders i m e β γ δ (ordered x).nodes (ordered y).nodes (tree_binders x) (tree_binders y) b
  tree_binders (a_case {i = i} {m = m} {e = e} {β = β} {γ = γ} {δ = δ} c x y b) = two_binders i m e β γ δ (ordered x).nodes (ordered y).nodes (tree_binders x) (tree_binders y) b
  tree_binders (no_further {i = i} b) = total_none (binds_one ns) i ∙ sym b
  tree_binders (a_default u x) = tree_binders x
  tree_binders (more_cases x) = tree_binders x

-- ---- terms

-- the condition of a tree's root counts with the tree, and its terms stand before the tree's
abbrev extra : List ℕ → Shape → ℕ → ℕ
extra ns tree i = condition_length ns i
extra ns (forest m) i = 0
extra ns cases i = 0
extra ns further i = 0

module _ (ns : List ℕ) (n : ℕ) (quiet : Quiet ns n) where
  no_list : (i kind : ℕ) → kind_of ns i ≡ kind → eqb kind 8 ≡ false → eqb kind 3 ≡ false → i < n → own_length ns i ≡ 0
  no_list i kind k a b h = quiet i h (λ z. eqb-false kind 8 a (sym k ∙ z)) (λ z. eqb-false kind 3 b (sym k ∙ z.0))

  leaf_terms : (i e kind f : ℕ) → kind_of ns i ≡ kind → eqb kind 8 ≡ false → eqb kind 3 ≡ false → e ≡ i + 1 → e ≤ n → total (lists_length ns) i e + f ≡ condition_length ns i + f
  leaf_terms i e kind f k a b z h = omega (arith, total_one (lists_length ns) i e z, no_list i kind k a b (omega arith))

  -- a node whose own list has the terms from m up to g, after those of the nodes that it holds
  inner_terms : (i j e f m g : ℕ) → own_length ns i + m ≡ g → j ≡ i + 1 → i < e → total (lists_length ns) j e + f ≡ m → total (lists_length ns) i e + f ≡ condition_length ns i + g
  inner_terms i j e f m g w z l y = omega (arith, total_step (lists_length ns) i j e z l)

  plain_terms : (i j e f g kind : ℕ) → kind_of ns i ≡ kind → eqb kind 8 ≡ false → eqb kind 3 ≡ false → j ≡ i + 1 → i < e → e ≤ n → total (lists_length ns) j e + f ≡ g → total (lists_length ns) i e + f ≡ condition_length ns i + g
  plain_terms i j e f g kind k a b z l h y = inner_terms i j e f g g (omega (arith, no_list i kind k a b (omega arith))) z l y

  chain_terms : (i j e f g kind : ℕ) → kind_of ns i ≡ kind → (kind ≡ 1) ⊎ (kind ≡ 2) → j ≡ i + 1 → i < e → e ≤ n → total (lists_length ns) j e + f ≡ g → total (lists_length ns) i e + f ≡ condition_length ns i + g
  chain_terms i j e f g kind k w = ⊎_elim (λ (v : kind ≡ 1). plain_terms i j e f g 1 (k ∙ v) refl refl) (λ (v : kind ≡ 2). plain_terms i j e f g 2 (k ∙ v) refl refl) w

  free_terms : (i e f g : ℕ) → Unconditioned ns i → total (lists_length ns) i e + f ≡ condition_length ns i + g → total (lists_length ns) i e + f ≡ g
  free_terms i e f g u y = omega (arith, u.from_is, u.end_is)

  pub marked_list : (i : ℕ) → i < n → kind_of ns i ≡ 3 → Marked ns i → own_length ns i ≡ 0
  marked_list i h k m = quiet i h (λ z. omega (arith, k, z)) (λ z. omega (arith, z.1, m.most))

  tree_terms : {xs ts : List ℕ} {s : Shape} {i e f g β : ℕ} → Holds xs ns ts s i e f g β → e ≤ n → total (lists_length ns) i e + f ≡ extra ns s i + g
  tree_terms (literal_tree {i = i} {e = e} {f = f} x z b l) h = leaf_terms i e 6 f x.kind_is refl refl z h
  tree_terms (range_tree {i = i} {e = e} {f = f} x z b l m) h = leaf_terms i e 7 f x.kind_is refl refl z h
  tree_terms (use_tree {i = i} {e = e} {f = f} x z b l) h = leaf_terms i e 5 f x.kind_is refl refl z h
  tree_terms (eod_tree {i = i} {e = e} {f = f} x z b) h = leaf_terms i e 9 f x.kind_is refl refl z h
  tree_terms (uint_tree {i = i} {e = e} x z c b) h = omega (arith, total_one (lists_length ns) i e z, c.from_is, c.end_is, c.shape.some)
  tree_terms (marked_tree {i = i} {j = j} {e = e} {f = f} {g = g} x z m u y) h =
      inner_terms i j e f g g (omega (arith, marked_list i (omega (arith, x.below)) x.kind_is m)) z x.below (free_terms j e f g u (tree_terms y h))
  tree_terms (counted_tree {i = i} {j = j} {e = e} {f = f} {m = m} {g = g} x z c u y) h =
      inner_terms i j e f m g (omega (arith, c.from_is, c.end_is, c.shape.some)) z x.below (free_terms j e f m u (tree_terms y h))
  tree_terms (chain_tree {i = i} {j = j} {e = e} {f = f} {g = g} {kind = kind} x w z l y) h = chain_terms i j e f g kind x.kind_is w z x.below h (tree_terms y h ∙ omega arith)
  tree_terms (switch_tree {i = i} {j = j} {e = e} {f = f} {g = g} x z y) h = plain_terms i j e f g 4 x.kind_is refl refl z x.below h (tree_terms y h ∙ omega arith)
  tree_terms (no_trees {i = i} b) h = omega (arith, total_none (lists_length ns) i)
  tree_terms (more_trees {i = i} {m = m} {e = e} {f = f} {h = k} u x y b) h =
      omega (arith, total_join (lists_length ns) i m e (ordered x).nodes (ordered y).nodes, free_terms i m f k u (tree_terms x (omega (arith, (ordered y).nodes))), tree_terms y h)
  tree_terms (a_case {i = i} {m = m} {e = e} c x y b) h =
      omega (arith, total_join (lists_length ns) i m e (ordered x).nodes (ordered y).nodes, tree_terms x (omega (arith, (ordered y).nodes)), tree_terms y h, c.from_is, c.end_is, c.shape.some)
  tree_terms (no_further {i = i} b) h = omega (arith, total_none (lists_length ns) i)
  tree_terms (a_default {i = i} {e = e} {f = f} {g = g} u x) h = omega (arith, free_terms i e f g u (tree_terms x h))
  tree_terms (more_cases x) h = tree_terms x h

-- ---- rules

module _ {xs ns ts rs : List ℕ} {r n t b : ℕ} where
  rules_binders : {k i f u : ℕ} → Rules xs ns ts rs r n t b k i f u → total (binds_one ns) i n + u ≡ b
  rules_binders (no_rules {i = i} p q l v) = rw q (omega (arith, total_none (binds_one ns) n))
  rules_binders (a_rule {i = i} {m = m} p q l v u x y) = omega (arith, total_join (binds_one ns) i m n (ordered x).nodes (rules_ordered y).nodes, tree_binders ns x, rules_binders y)

  rules_terms : {k i f u : ℕ} → Quiet ns n → Rules xs ns ts rs r n t b k i f u → total (lists_length ns) i n + f ≡ t
  rules_terms quiet (no_rules {i = i} p q l v) = rw q (omega (arith, total_none (lists_length ns) n))
  rules_terms quiet (a_rule {i = i} {m = m} {f = f} {h = h} p q l v u x y) =
      omega (arith, total_join (lists_length ns) i m n (ordered x).nodes (rules_ordered y).nodes, free_terms ns n quiet i m f h u (tree_terms ns n quiet x (rules_ordered y).nodes), rules_terms quiet y)

  some_nodes : {k i f u : ℕ} → Rules xs ns ts rs r n t b k i f u → k < r → i < n
  some_nodes (no_rules p q l v) h = absurd (omega arith)
  some_nodes (a_rule p q l v u x y) h = omega (arith, tree_below x, (rules_ordered y).nodes)

  pub terms_of_rules : Quiet ns n → Rules xs ns ts rs r n t b 0 0 0 0 → condition_start ns n ≡ t
  terms_of_rules quiet x = let z : n - 0 ≡ n = omega arith in sym (ap (λ (m : ℕ). sum m 0 (lists_length ns)) z) ∙ omega (arith, rules_terms quiet x)

module _ {xs ns ts rs : List ℕ} {n t b r : ℕ} (k : Readable xs ns ts rs n t b r) where
  pub binders_total : binders_before ns n ≡ b
  binders_total = let z : n - 0 ≡ n = omega arith in sym (ap (λ (m : ℕ). sum m 0 (binds_one ns)) z) ∙ omega (arith, rules_binders k.rules)

  pub terms_total : Quiet ns n → condition_start ns n ≡ t
  terms_total quiet = terms_of_rules quiet k.rules

  pub some_node : 1 ≤ n
  some_node = some_nodes k.rules k.some
