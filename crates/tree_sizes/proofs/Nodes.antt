-- What refusal 8 finds, up to a place p, in the lists of nodes one after the other.
-- Assumes nothing.
use Prim.Native.Nat.{ℕ, suc, ◌+◌, ◌≤◌}
use mathlib.Core.Path.{◌≡◌, sym, subst}
use mathlib.Core.Logic.{◌⊎◌, inl, inr, ⊎_elim, ◌↔◌}
use mathlib.Core.List.{List, [], ◌∷◌, ◌++◌}
use native.Mathlib.Omega.{arith}
use lib.ListN.{length}
use Rattle.tree_store.proofs.Rows.{NodeRow, on_first}
use Rattle.tree_sizes.proofs.Hits.{Hit}
use Rattle.tree_sizes.proofs.NodeLists.{condition_at, own_at}

module _ (p : ℕ) (ns ts ws : List ℕ) where
  -- in nodes from i on
  unfoldable pub NodesHit : ℕ → List NodeRow → Type 0
  NodesHit i [] = ⊥
  NodesHit i (r ∷ M) = (Hit p (condition_at ns ts ws i) ⊎ Hit p (own_at ns ts ws i)) ⊎ NodesHit (suc i) M

  -- without the condition of the first
  unfoldable pub FirstHit : ℕ → List NodeRow → Type 0
  FirstHit i [] = ⊥
  FirstHit i (r ∷ M) = Hit p (own_at ns ts ws i) ⊎ NodesHit (suc i) M

  -- in some or in those after them
  pub nodes_two : (i : ℕ) (M L : List NodeRow) → NodesHit i (M ++ L) ↔ (NodesHit i M ⊎ NodesHit (i + length M) L)
  unfolding NodesHit
  nodes_two i [] L =
      let e : i ≡ i + 0 = omega arith in
      (λ h. inr (subst (λ (k : ℕ). NodesHit k L) e h), λ h. ⊎_elim (λ (z : ⊥). absurd z) (λ z. subst (λ (k : ℕ). NodesHit k L) (sym e) z) h)
  nodes_two i (r ∷ M) L =
      let t = nodes_two (suc i) M L in
      let e : suc i + length M ≡ i + suc (length M) = omega arith in (
        λ h. ⊎_elim (λ x. inl (inl x)) (λ x. ⊎_elim (λ y. inl (inr y)) (λ y. inr (subst (λ (k : ℕ). NodesHit k L) e y)) (t.0 x)) h,
        λ h. ⊎_elim (λ x. ⊎_elim (λ y. inl y) (λ y. inr (t.1 (inl y))) x) (λ x. inr (t.1 (inr (subst (λ (k : ℕ). NodesHit k L) (sym e) x)))) h,
      )

  -- the same, without the condition of the first
  pub first_two : (i : ℕ) (M L : List NodeRow) → 1 ≤ length M → FirstHit i (M ++ L) ↔ (FirstHit i M ⊎ NodesHit (i + length M) L)
  unfolding NodesHit FirstHit
  first_two i [] L l = absurd (omega arith)
  first_two i (r ∷ M) L l =
      let t = nodes_two (suc i) M L in
      let e : suc i + length M ≡ i + suc (length M) = omega arith in (
        λ h. ⊎_elim (λ x. inl (inl x)) (λ x. ⊎_elim (λ y. inl (inr y)) (λ y. inr (subst (λ (k : ℕ). NodesHit k L) e y)) (t.0 x)) h,
        λ h. ⊎_elim (λ x. ⊎_elim (λ y. inl y) (λ y. inr (t.1 (inl y))) x) (λ x. inr (t.1 (inr (subst (λ (k : ℕ). NodesHit k L) (sym e) x)))) h,
      )

  -- a case's first node, whose condition is the case's
  pub cased : (i f g : ℕ) (M : List NodeRow) → 1 ≤ length M → NodesHit i (on_first f g M) ↔ (Hit p (condition_at ns ts ws i) ⊎ FirstHit i M)
  unfolding NodesHit FirstHit
  cased i f g [] l = absurd (omega arith)
  cased i f g (r ∷ M) l = (
    λ h. ⊎_elim (λ x. ⊎_elim (λ y. inl y) (λ y. inr (inl y)) x) (λ x. inr (inr x)) h,
    λ h. ⊎_elim (λ x. inl (inl x)) (λ x. ⊎_elim (λ y. inl (inr y)) (λ y. inr y) x) h,
  )

  -- a first node without a condition
  pub unconditioned : (i : ℕ) (M : List NodeRow) → (Hit p (condition_at ns ts ws i) → ⊥) → NodesHit i M ↔ FirstHit i M
  unfolding NodesHit FirstHit
  unconditioned i [] c = (λ h. h, λ h. h)
  unconditioned i (r ∷ M) c = (λ h. ⊎_elim (λ x. ⊎_elim (λ y. absurd (c y)) (λ y. inl y) x) (λ x. inr x) h, λ h. ⊎_elim (λ x. inl (inr x)) (λ x. inr x) h)
