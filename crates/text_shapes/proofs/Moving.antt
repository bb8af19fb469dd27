-- A tree is the same where its words stand further on, and where other words change.
-- Assumes nothing.
use Prim.Native.Nat.{ℕ, ◌+◌, ◌-◌, ◌≤◌, ◌<◌}
use mathlib.Core.Path.{◌≡◌, ◌∙◌}
use mathlib.Core.List.{List}
use native.Mathlib.Omega.{arith}
use native.Mathlib.Nat.{add-zero}
use lib.ListN.{get_or}
use Rattle.text_store.specs.Words.{node_start, term_start, node_word}
use Rattle.text_store.proofs.Numbers.{at_kind, at_size, at_place, at_mark, at_last_place, at_width_place, at_bound, at_own_from, at_own_end, at_how_bound, at_condition_from, at_condition_end}
use Rattle.text_shapes.specs.TermShapes.{SetShape, ConditionShape, CountsShape}
use Rattle.text_shapes.specs.NodeShapes.{Headed, Unconditioned, Conditioned, Binds, Marked, Counted, Field, Shape, tree, forest, cases, further, Holds, literal_tree, range_tree, use_tree, eod_tree, uint_tree, marked_tree, counted_tree, chain_tree, switch_tree, no_trees, more_trees, a_case, no_further, a_default, more_cases}

-- ---- where a shape begins and ends

abbrev pub Extent : Shape → (i e f g : ℕ) → Type 0
Extent tree i e f g = (i < e) × (f ≤ g)
Extent (forest n) i e f g = (i ≤ e) × (f ≤ g)
Extent cases i e f g = (i ≤ e) × (f ≤ g)
Extent further i e f g = (i ≤ e) × (f ≤ g)

pub extent : {xs ns ts : List ℕ} {s : Shape} {i e f g β : ℕ} → Holds xs ns ts s i e f g β → Extent s i e f g
extent (literal_tree h a b c) = (h.below, omega arith)
extent (range_tree h a b c d) = (h.below, omega arith)
extent (use_tree h a b c) = (h.below, omega arith)
extent (eod_tree h a b) = (h.below, omega arith)
extent (uint_tree h a b c) = (h.below, omega (arith, b.shape.some))
extent (marked_tree h a b c t) = (h.below, (extent t).1)
extent (counted_tree h a b c t) = (h.below, omega (arith, (extent t).1, b.shape.some))
extent (chain_tree h k a b t) = (h.below, (extent t).1)
extent (switch_tree h a t) = (h.below, (extent t).1)
extent (no_trees z) = (omega arith, omega arith)
extent (more_trees u t r z) = (omega (arith, (extent t).0, (extent r).0), omega (arith, (extent t).1, (extent r).1))
extent (a_case c t r z) = (omega (arith, (extent t).0, (extent r).0), omega (arith, (extent t).1, (extent r).1, c.shape.some))
extent (no_further z) = (omega arith, omega arith)
extent (a_default u t) = (omega (arith, (extent t).0), (extent t).1)
extent (more_cases c) = extent c

-- ---- words that agree

-- the terms from f up to g
pub record SameTerms (ts ts' : List ℕ) (f g : ℕ) : Type 0 where
  pub at : (k : ℕ) → term_start f ≤ k → k < term_start g → get_or ts' k 0 ≡ get_or ts k 0

-- the nodes from i up to e, by m further on
pub record SameNodes (ns ns' : List ℕ) (m i e : ℕ) : Type 0 where
  pub at : (j k : ℕ) → i ≤ j → j < e → k < 10 → node_word ns' (j + m) k ≡ node_word ns j k

-- node i without the condition that it may have as a case
pub record SameRoot (ns ns' : List ℕ) (m i : ℕ) : Type 0 where
  pub at : (k : ℕ) → k < 8 → node_word ns' (i + m) k ≡ node_word ns i k

-- what has to agree: whether a tree is a case does not matter to it
abbrev pub SameWords : Shape → (ns ns' : List ℕ) (m i e : ℕ) → Type 0
SameWords tree ns ns' m i e = SameRoot ns ns' m i × SameNodes ns ns' m (i + 1) e
SameWords (forest n) ns ns' m i e = SameNodes ns ns' m i e
SameWords cases ns ns' m i e = SameNodes ns ns' m i e
SameWords further ns ns' m i e = SameNodes ns ns' m i e

-- what terms are depends on their words alone (`TermLaws`)
pub record TermsSame : Type 0 where
  pub set_same : (ts ts' : List ℕ) (f e : ℕ) → SetShape ts f e → ((k : ℕ) → term_start f ≤ k → k < term_start e → get_or ts' k 0 ≡ get_or ts k 0) → SetShape ts' f e
  pub condition_same : (ts ts' : List ℕ) (f e : ℕ) → ConditionShape ts f e → ((k : ℕ) → term_start f ≤ k → k < term_start e → get_or ts' k 0 ≡ get_or ts k 0) → ConditionShape ts' f e
  pub counts_same : (ts ts' : List ℕ) (f e : ℕ) → CountsShape ts f e → ((k : ℕ) → term_start f ≤ k → k < term_start e → get_or ts' k 0 ≡ get_or ts k 0) → CountsShape ts' f e

part_terms : {ts ts' : List ℕ} {f g : ℕ} (h k : ℕ) → SameTerms ts ts' f g → f ≤ h → k ≤ g → SameTerms ts ts' h k
part_terms h k w a b = record { at = λ j c d. w.at j (omega arith) (omega arith) }

part_nodes : {ns ns' : List ℕ} {m i e : ℕ} (h k : ℕ) → SameNodes ns ns' m i e → i ≤ h → k ≤ e → SameNodes ns ns' m h k
part_nodes h k w a b = record { at = λ j q c d. w.at j q (omega arith) (omega arith) }

-- of all nodes of a range those of the tree at its beginning
tree_nodes : {ns ns' : List ℕ} {m i e : ℕ} (h k : ℕ) → SameNodes ns ns' m i e → i ≤ h → h < k → k ≤ e → SameRoot ns ns' m h × SameNodes ns ns' m (h + 1) k
tree_nodes h k w a b c = (record { at = λ q d. w.at h q a (omega arith) (omega arith) }, part_nodes (h + 1) k w (omega arith) c)

module _ {ns ns' : List ℕ} {m i : ℕ} where
  headed_moves : {e kind : ℕ} → SameRoot ns ns' m i → Headed ns i e kind → Headed ns' (i + m) (e + m) kind
  headed_moves {e} {kind} w h =
      let z : e - i ≡ e + m - (i + m) = omega arith
      in record { kind_is = w.at at_kind (omega arith) ∙ h.kind_is; size_is = w.at at_size (omega arith) ∙ h.size_is ∙ z; below = omega (arith, h.below) }

  marked_moves : SameRoot ns ns' m i → Marked ns i → Marked ns' (i + m)
  marked_moves w h = record { least = rw (w.at at_mark (omega arith)) h.least; most = rw (w.at at_mark (omega arith)) h.most }

  binds_moves : {xs : List ℕ} {β : ℕ} → SameRoot ns ns' m i → Binds xs ns i β → Binds xs ns' (i + m) β
  binds_moves w h = record { how = rw (w.at at_how_bound (omega arith), w.at at_bound (omega arith)) h.how }

  free_moves : {e : ℕ} → SameNodes ns ns' m i e → i < e → Unconditioned ns i → Unconditioned ns' (i + m)
  free_moves w b h = record { from_is = w.at i at_condition_from (omega arith) b (omega arith) ∙ h.from_is; end_is = w.at i at_condition_end (omega arith) b (omega arith) ∙ h.end_is }

  module _ (same : TermsSame) {ts ts' : List ℕ} {f g : ℕ} where
    counted_moves : SameRoot ns ns' m i → SameTerms ts ts' f g → Counted ns ts i f g → Counted ns' ts' (i + m) f g
    counted_moves w v h = record { how = w.at at_mark (omega arith) ∙ h.how; from_is = w.at at_own_from (omega arith) ∙ h.from_is; end_is = w.at at_own_end (omega arith) ∙ h.end_is; shape = same.counts_same ts ts' f g h.shape v.at }

    field_moves : {xs : List ℕ} → SameRoot ns ns' m i → SameTerms ts ts' f g → Field xs ns ts i f g → Field xs ns' ts' (i + m) f g
    field_moves w v h = record { width = rw (w.at at_width_place (omega arith)) h.width; from_is = w.at at_own_from (omega arith) ∙ h.from_is; end_is = w.at at_own_end (omega arith) ∙ h.end_is; shape = same.set_same ts ts' f g h.shape v.at }

    pub conditioned_moves : {e : ℕ} → SameNodes ns ns' m i e → i < e → SameTerms ts ts' f g → Conditioned ns ts i f g → Conditioned ns' ts' (i + m) f g
    conditioned_moves w b v h =
        record {
          from_is = w.at i at_condition_from (omega arith) b (omega arith) ∙ h.from_is;
          end_is = w.at i at_condition_end (omega arith) b (omega arith) ∙ h.end_is;
          shape = same.condition_same ts ts' f g h.shape v.at;
        }

-- ---- trees move

-- what stands in a node of its own
inner : {ns ns' : List ℕ} {m e : ℕ} {i j : ℕ} → j ≡ i → SameNodes ns ns' m i e → SameNodes ns ns' m j e
inner {ns} {ns'} {m} {e} {i} {j} z w = part_nodes j e w (omega arith) (omega arith)

module _ (same : TermsSame) (ns' : List ℕ) (m : ℕ) {xs ns ts ts' : List ℕ} where
  pub moves : {s : Shape} {i e f g β : ℕ} → Holds xs ns ts s i e f g β → SameWords s ns ns' m i e → SameTerms ts ts' f g → Holds xs ns' ts' s (i + m) (e + m) f g β
  moves (literal_tree h a b c) w v = literal_tree (headed_moves w.0 h) (omega arith) b (rw (w.0.at at_place (omega arith)) c)
  moves (range_tree h a b c d) w v = range_tree (headed_moves w.0 h) (omega arith) b (rw (w.0.at at_place (omega arith)) c) (rw (w.0.at at_last_place (omega arith)) d)
  moves (use_tree h a b c) w v = use_tree (headed_moves w.0 h) (omega arith) b (rw (w.0.at at_place (omega arith)) c)
  moves (eod_tree h a b) w v = eod_tree (headed_moves w.0 h) (omega arith) b
  moves (uint_tree h a b c) w v = uint_tree (headed_moves w.0 h) (omega arith) (field_moves same w.0 v b) (binds_moves w.0 c)
  moves (marked_tree {j = j} {e = e} h a b c t) w v =
      marked_tree {j = j + m} (headed_moves w.0 h) (omega arith) (marked_moves w.0 b) (free_moves (inner a w.1) (extent t).0 c)
      (moves t (tree_nodes j e (inner a w.1) (omega arith) (extent t).0 (omega arith)) v)
  moves (counted_tree {j = j} {e = e} {f = f} {m = q} {g = g} h a b c t) w v =
      counted_tree {j = j + m} {m = q} (headed_moves w.0 h) (omega arith) (counted_moves same w.0 (part_terms q g v (extent t).1 (omega arith)) b) (free_moves (inner a w.1) (extent t).0 c)
      (moves t (tree_nodes j e (inner a w.1) (omega arith) (extent t).0 (omega arith)) (part_terms f q v (omega arith) (omega (arith, b.shape.some))))
  moves (chain_tree {j = j} h k a b t) w v = chain_tree {j = j + m} (headed_moves w.0 h) k (omega arith) b (moves t (inner a w.1) v)
  moves (switch_tree {j = j} h a t) w v = switch_tree {j = j + m} (headed_moves w.0 h) (omega arith) (moves t (inner a w.1) v)
  moves (no_trees z) w v = no_trees z
  moves (more_trees {i = i} {m = q} {e = e} {f = f} {h = h} {g = g} u t r z) w v =
      let x : i < q = (extent t).0
      in let y : q ≤ e = (extent r).0
      in let b : f ≤ h = (extent t).1
      in let c : h ≤ g = (extent r).1
      in more_trees (free_moves (part_nodes i q w (omega arith) y) x u) (moves t (tree_nodes i q w (omega arith) x y) (part_terms f h v (omega arith) c))
      (moves r (part_nodes q e w (omega arith) (omega arith)) (part_terms h g v b (omega arith))) z
  moves (a_case {i = i} {m = q} {e = e} {f = f} {h = h} {k = k} {g = g} d t r z) w v =
      let x : i < q = (extent t).0
      in let y : q ≤ e = (extent r).0
      in let b : h ≤ k = (extent t).1
      in let c : k ≤ g = (extent r).1
      in let l : f < h = d.shape.some
      in a_case (conditioned_moves same (part_nodes i q w (omega arith) y) x (part_terms f h v (omega arith) (omega arith)) d)
      (moves t (tree_nodes i q w (omega arith) x y) (part_terms h k v (omega arith) c))
      (moves r (part_nodes q e w (omega arith) (omega arith)) (part_terms k g v (omega arith) (omega arith))) z
  moves (no_further z) w v = no_further z
  moves (a_default {i = i} {e = e} u t) w v = a_default (free_moves w (extent t).0 u) (moves t (tree_nodes i e w (omega arith) (extent t).0 (omega arith)) v)
  moves (more_cases c) w v = more_cases (moves c w v)

-- ---- trees stay

-- the words of the nodes below e
abbrev pub SameBelow : (ns ns' : List ℕ) (e : ℕ) → Type 0
SameBelow ns ns' e = (k : ℕ) → k < node_start e → get_or ns' k 0 ≡ get_or ns k 0

below_nodes : (ns ns' : List ℕ) (i e : ℕ) → SameBelow ns ns' e → SameNodes ns ns' 0 i e
below_nodes ns ns' i e w = record { at = λ j k a b c. rw add-zero (w (node_start j + k) (omega arith)) }

-- all nodes of a shape agree
pub all_words : {xs ns ns' ts : List ℕ} {m i e f g β : ℕ} (s : Shape) → Holds xs ns ts s i e f g β → SameNodes ns ns' m i e → SameWords s ns ns' m i e
all_words {i = i} {e = e} tree h w = tree_nodes i e w (omega arith) (extent h).0 (omega arith)
all_words (forest n) h w = w
all_words cases h w = w
all_words further h w = w

module _ (same : TermsSame) {xs ns ts : List ℕ} (ns' ts' : List ℕ) where
  -- whether it is a case may change too
  pub stays_with : {s : Shape} {i e f g β : ℕ} → Holds xs ns ts s i e f g β → SameWords s ns ns' 0 i e → SameTerms ts ts' f g → Holds xs ns' ts' s i e f g β
  stays_with h w v = simp add-zero at (moves same ns' 0 h w v)

  pub stays : {s : Shape} {i e f g β : ℕ} → Holds xs ns ts s i e f g β → SameBelow ns ns' e → SameTerms ts ts' f g → Holds xs ns' ts' s i e f g β
  stays {s} {i} {e} h w v = stays_with h (all_words s h (below_nodes ns ns' i e w)) v
