-- Repetition marks, members and branches: what stands from node i on becomes a part of one tree.
-- Assumes nothing.
use Prim.Native.Nat.{ℕ, suc, ◌+◌, ◌≤◌, ◌<◌}
use mathlib.Core.Path.{◌≡◌, refl, sym, subst, ◌∙◌}
use mathlib.Core.Logic.{◌⊎◌}
use mathlib.Core.Bool.{Bool, true, false}
use mathlib.Core.List.{List, [], ◌∷◌}
use native.Mathlib.Omega.{arith}
use Rattle.basis.specs.Limits.{max_nesting}
use Rattle.text_store.proofs.Numbers.{at_mark, at_own_from, at_own_end}
use Rattle.text_parsing.specs.Symbols.{counts, atom, marked, counts_end}
use Rattle.text_store.specs.Store.{State, nodes_of, terms_of, insert, node_words, term_words, binders_of}
use Rattle.text_parsing.specs.Form.{chained}
use Rattle.text_productions.specs.Phrases.{Phrases}
use Rattle.text_shapes.specs.TermShapes.{CountsShape}
use Rattle.text_shapes.specs.NodeShapes.{Unconditioned, tree, forest, Holds, marked_tree, counted_tree, chain_tree, no_trees, more_trees}
use Rattle.text_shapes.proofs.Moving.{TermsSame, extent}
use Rattle.text_shapes.proofs.Growth.{Fine}
use Rattle.text_shapes.proofs.Claims.{TermsOnly, TermFacts, Kept, Part, Gives, Whole, Several, Chained, Reads, end, next}
use Rattle.text_shapes.proofs.Building.{kept_refl, kept_less, gives_from, gives_after_terms, kept_terms, holds_kept, free_kept, Inserted, inserted, headed, behind, behind_free, builds}

-- ---- one after the other

-- a tree that is made into another from the same node
pub gives_after : {xs : List ℕ} {i f u : ℕ} {a b c : State} → Gives xs i f u a b → Gives xs i f u b c → Gives xs i f u a c
gives_after g h = gives_from g.kept g.steady h

-- what is there is the tree
pub gives_same : {xs : List ℕ} {i f u : ℕ} {a : State} → Part xs tree i f u a → Unconditioned (node_words a) i → Gives xs i f u a a
gives_same {i = i} {a = a} p v = record { kept = kept_refl i a; steady = refl; part = p; free = v }

-- ---- marks

module _ (same : TermsSame) {xs : List ℕ} {i f u : ℕ} {a b : State} (fine : Fine a) (fine' : Fine b) where
  pub mark_made : (p how mark : ℕ) → 1 ≤ how → how ≤ 3 → b ≡ insert 3 p i how mark 0 0 0 a → Part xs tree i f u a → Unconditioned (node_words a) i → Gives xs i f u a b
  mark_made p how mark l m z t v =
      let h : i < nodes_of a = (extent t.holds).0
      in let n : Inserted i 3 p how mark 0 0 0 a b = inserted 3 p i how mark 0 0 0 z fine fine' (omega arith)
      in builds n t.count t.bound
      (marked_tree {j = i + 1} (headed n) refl (record { least = rw (n.at at_mark (omega arith)) l; most = rw (n.at at_mark (omega arith)) m }) (behind_free n h v) (behind n same t.holds))

-- counts are read from a to c, and then the node is put
counted_made : {xs : List ℕ} {i f u m : ℕ} {a c b : State} → TermFacts xs → (p mark : ℕ) → m ≡ terms_of a → Fine a → Phrases xs (counts ∷ []) a c → Fine c → b ≡ insert 3 p i 4 mark m (terms_of c) 0 c → Fine b → Part xs tree i f u a → Unconditioned (node_words a) i → Gives xs i f u a b
counted_made {xs} {i} {f} {u} {m} {a} {c} {b} facts p mark e fine s fine-c z fine' t v =
    let r : CountsShape (term_words c) (terms_of a) (terms_of c) × TermsOnly a c = facts.counts_read a c s fine.term_length fine-c.terms
    in let k : Kept (nodes_of a) a c = kept_terms (nodes_of a) r.1
    in let h : i < nodes_of a = (extent t.holds).0
    in let h' : i < nodes_of c = omega (arith, r.1.nodes_same)
    in let n : Inserted i 3 p 4 mark m (terms_of c) 0 c b = inserted 3 p i 4 mark m (terms_of c) 0 z fine-c fine' (omega arith)
    in let w : Holds xs (node_words c) (term_words c) tree i (nodes_of a) f (terms_of a) t.count = holds_kept facts.same k (omega arith) (omega arith) t.holds
    in let w' : Holds xs (node_words c) (term_words c) tree i (nodes_of c) f (terms_of a) t.count = rw r.1.nodes_same w
    in let g : Gives xs i f u c b =
    builds n t.count (r.1.binders_same ∙ t.bound)
    (counted_tree {j = i + 1} {m = terms_of a} (headed n) refl
    (record {
      how = n.at at_mark (omega arith);
      from_is = n.at at_own_from (omega arith) ∙ e;
      end_is = n.at at_own_end (omega arith);
      shape = subst (λ (l : List ℕ). CountsShape l (terms_of a) (terms_of c)) (sym n.term_words_same) r.0;
    })
    (behind_free n h' (free_kept k h v))
    (behind n facts.same w'))
    in gives_after_terms r.1 g

-- ---- trees one after the other

one_tree : {xs : List ℕ} {i f u : ℕ} {a : State} → Part xs tree i f u a → Unconditioned (node_words a) i → Part xs (forest 1) i f u a
one_tree t v = record { count = t.count; bound = t.bound; holds = more_trees {γ = 0} {δ = t.count} v t.holds (no_trees refl) (omega arith) }

add_tree : {xs ns ts : List ℕ} {k i m e f h g β γ δ : ℕ} → Holds xs ns ts (forest k) i m f h β → Unconditioned ns m → Holds xs ns ts tree m e h g γ → δ ≡ β + γ → Holds xs ns ts (forest (suc k)) i e f g δ
add_tree {δ = δ} (no_trees z) v t y = more_trees {γ = 0} {δ = δ} v t (no_trees refl) (omega arith)
add_tree {γ = γ} {δ = δ} (more_trees {γ = q} w s r z) v t y = more_trees {γ = q + γ} {δ = δ} w s (add_tree r v t refl) (omega arith)

-- a forest of one tree is the tree
only_tree : {xs ns ts : List ℕ} {k i e f g β : ℕ} → k ≡ 1 → Holds xs ns ts (forest k) i e f g β → Unconditioned ns i × Holds xs ns ts tree i e f g β
only_tree z (no_trees y) = absurd (omega arith)
only_tree z (more_trees {β = β} {δ = δ} w s (no_trees y) x) = let q : δ ≡ β = omega arith in (w, rw q s)
only_tree z (more_trees w s (more_trees v t r y) x) = absurd (omega arith)

-- ---- productions

pub counts_claim : {xs : List ℕ} {p i mark m : ℕ} {a c : State} → TermFacts xs → Fine a → m ≡ terms_of a → Reads xs (counts ∷ counts_end p i mark m ∷ []) a c → (f u : ℕ) → Part xs tree i f u a → Unconditioned (node_words a) i → Gives xs i f u a c
counts_claim {p = p} {mark = mark} facts fine e (next x fx (next y fy end)) f u t v = counted_made facts p mark e fine x fx y fy t v

pub item_claim : {xs : List ℕ} {d p i : ℕ} {a c : State} → i ≡ nodes_of a → Reads xs (atom d ∷ marked p i ∷ []) a c → d ≤ max_nesting → Whole xs a c
item_claim {xs} {d} {p} {i} {a} {c} e (next {c = b} x fx (next y fy end)) h =
    let g : Gives xs i (terms_of a) (binders_of a) a b = rw e (x h)
    in subst (λ (j : ℕ). Gives xs j (terms_of a) (binders_of a) a c) e (gives_after g (y (terms_of a) (binders_of a) g.part g.free))

-- the same of members and of branches

pub chain_begins : {xs : List ℕ} {d i : ℕ} {a b c : State} → i ≡ nodes_of a → (d ≤ max_nesting → Whole xs a b) → Chained xs d i false b c → d ≤ max_nesting → Whole xs a c
chain_begins {xs} {d} {i} {a} {b} {c} e x y h =
    let g : Gives xs i (terms_of a) (binders_of a) a b = rw e (x h)
    in subst (λ (j : ℕ). Gives xs j (terms_of a) (binders_of a) a c) e (gives_after g (y h 1 (terms_of a) (binders_of a) refl (one_tree g.part g.free)))

several_more : (many : Bool) (k : ℕ) → Several many k → 2 ≤ suc k
several_more true k h = omega arith
several_more false k h = omega arith

pub chain_goes : {xs : List ℕ} {d i : ℕ} {a b c : State} (many : Bool) → TermsSame → (d ≤ max_nesting → Whole xs a b) → Chained xs d i true b c → Chained xs d i many a c
chain_goes {xs} {d} {i} {a} {b} {c} many same x y h k f u s t =
    let g : Whole xs a b = x h
    in let l : i ≤ nodes_of a = (extent t.holds).0
    in let w : Holds xs (node_words b) (term_words b) (forest k) i (nodes_of a) f (terms_of a) t.count = holds_kept same g.kept (omega arith) (omega arith) t.holds
    in let p : Part xs (forest (suc k)) i f u b = record { count = t.count + g.part.count; bound = omega (arith, t.bound, g.part.bound); holds = add_tree w g.free g.part.holds refl }
    in gives_from (kept_less i l g.kept) g.steady (y h (suc k) f u (several_more many k s) p)

pub chain_ends : {xs : List ℕ} {d i : ℕ} {a c : State} (many : Bool) (kind p : ℕ) → (kind ≡ 1) ⊎ (kind ≡ 2) → TermsSame → Fine a → Fine c → c ≡ chained kind many p i a → Chained xs d i many a c
chain_ends {xs} {d} {i} {a} {c} true kind p which same fine fine' z h k f u s t =
    let n : Inserted i kind p 0 0 0 0 0 a c = inserted kind p i 0 0 0 0 0 z fine fine' (extent t.holds).0
    in builds n t.count t.bound (chain_tree {j = i + 1} (headed n) which refl s (behind n same t.holds))
chain_ends {xs} {d} {i} {a} {c} false kind p which same fine fine' z h k f u s t =
    let o : Unconditioned (node_words a) i × Holds xs (node_words a) (term_words a) tree i (nodes_of a) f (terms_of a) t.count = only_tree s t.holds
    in subst (Gives xs i f u a) (sym z) (gives_same (record { count = t.count; bound = t.bound; holds = o.1 }) o.0)
