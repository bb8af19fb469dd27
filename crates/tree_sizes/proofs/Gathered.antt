-- The faults of a rule's pieces in two parts: its widths and its calculations.
-- Assumes nothing.
use Prim.Native.Nat.{ℕ}
use mathlib.Core.Path.{◌≡◌, refl, sym, ap, subst, ◌∙◌}
use mathlib.Core.Logic.Iff
use mathlib.Core.Logic.{◌⊎◌, inl, inr, ⊎_elim, ◌↔◌}
use mathlib.Core.List.{List, [], ◌∷◌, ◌++◌, append_assoc}
use Rattle.tree.specs.Tree.{Rule}
use Rattle.tree_meaning.specs.Pieces.{Piece, use_of_rule, width, formula, binding, rule_pieces}
use Rattle.tree_meaning.specs.Places.{place_if}
use Rattle.tree_meaning.specs.Sizes.{wrong_width, widest_in, calculation_faults, faults_in, size_faults}
use Rattle.tree_sizes.proofs.Hits.{either, Hits, hits_two, hits_both}

-- a width that is wrong
abbrev pub widths_of : Piece → List ℕ
widths_of (use_of_rule x) = []
widths_of (width most n) = place_if (wrong_width most n) n.start
widths_of (formula f) = []
widths_of (binding x signed n placed) = []

-- calculations that are too large
abbrev pub sizes_of : (List ℕ → ℕ) → Piece → List ℕ
sizes_of widest (use_of_rule x) = []
sizes_of widest (width most n) = []
sizes_of widest (formula f) = calculation_faults widest f
sizes_of widest (binding x signed n placed) = []

-- of all these pieces
unfoldable pub gathered : (Piece → List ℕ) → List Piece → List ℕ
gathered f [] = []
gathered f (x ∷ l) = f x ++ gathered f l

gathered_append : (f : Piece → List ℕ) (l m : List Piece) → gathered f (l ++ m) ≡ gathered f l ++ gathered f m
unfolding gathered
gathered_append f [] m = refl
gathered_append f (x ∷ l) m = ap (λ (k : List ℕ). f x ++ k) (gathered_append f l m) ∙ sym (append_assoc (f x) (gathered f l) (gathered f m))

-- of two lists of pieces
pub gathered_both : {A B : Type 0} (p : ℕ) (f : Piece → List ℕ) (l m : List Piece) → A ↔ Hits p (gathered f l) → B ↔ Hits p (gathered f m) → (A ⊎ B) ↔ Hits p (gathered f (l ++ m))
gathered_both {A} {B} p f l m a b = subst (λ (k : List ℕ). (A ⊎ B) ↔ Hits p k) (sym (gathered_append f l m)) (hits_both p (gathered f l) (gathered f m) a b)

-- two parts
abbrev pub Two : ℕ → (List ℕ → ℕ) → List Piece → Type 0
Two p widest l = Hits p (gathered widths_of l) ⊎ Hits p (gathered (sizes_of widest) l)

-- one more fault in one of the parts, or in the rest
module _ {X W C : Type 0} where
  in_first : (X ⊎ (W ⊎ C)) ↔ ((X ⊎ W) ⊎ C)
  in_first = (
    λ h. ⊎_elim (λ x. inl (inl x)) (λ r. ⊎_elim (λ u. inl (inr u)) (λ u. inr u) r) h,
    λ h. ⊎_elim (λ r. ⊎_elim (λ x. inl x) (λ u. inr (inl u)) r) (λ u. inr (inr u)) h,
  )

  in_second : (X ⊎ (W ⊎ C)) ↔ (W ⊎ (X ⊎ C))
  in_second = (
    λ h. ⊎_elim (λ x. inr (inl x)) (λ r. ⊎_elim (λ u. inl u) (λ u. inr (inr u)) r) h,
    λ h. ⊎_elim (λ u. inr (inl u)) (λ r. ⊎_elim (λ x. inl x) (λ u. inr (inr u)) r) h,
  )

-- the faults of pieces are those of the two parts
pub two_parts : (p : ℕ) (widest : List ℕ → ℕ) (l : List Piece) → Hits p (faults_in widest l) ↔ Two p widest l
unfolding faults_in gathered Hits
two_parts p widest [] = (λ h. absurd h, λ h. ⊎_elim (λ (z : ⊥). absurd z) (λ (z : ⊥). absurd z) h)
two_parts p widest (use_of_rule x ∷ l) = two_parts p widest l
two_parts p widest (width most n ∷ l) =
    let F = place_if (wrong_width most n) n.start in
    Iff.trans (hits_two p F (faults_in widest l)) (Iff.trans (either Iff.rfl (two_parts p widest l)) (Iff.trans in_first (either (Iff.symm (hits_two p F (gathered widths_of l))) Iff.rfl)))
two_parts p widest (formula f ∷ l) =
    let G = calculation_faults widest f in
    Iff.trans (hits_two p G (faults_in widest l)) (Iff.trans (either Iff.rfl (two_parts p widest l)) (Iff.trans in_second (either Iff.rfl (Iff.symm (hits_two p G (gathered (sizes_of widest) l))))))
two_parts p widest (binding x signed n placed ∷ l) = two_parts p widest l

-- ---- of rules

-- the faults of each rule
unfoldable pub of_rules : (Rule → List ℕ) → List Rule → List ℕ
of_rules f [] = []
of_rules f (r ∷ l) = f r ++ of_rules f l

-- its widths
abbrev pub rule_widths : Rule → List ℕ
rule_widths r = gathered widths_of (rule_pieces r)

-- its calculations, with its own variables
abbrev pub rule_sizes : Rule → List ℕ
rule_sizes r = gathered (sizes_of (widest_in (rule_pieces r))) (rule_pieces r)

-- the tree's faults are those of the two parts
pub rules_parts : (p : ℕ) (l : List Rule) → Hits p (size_faults l) ↔ (Hits p (of_rules rule_widths l) ⊎ Hits p (of_rules rule_sizes l))
unfolding size_faults of_rules Hits
rules_parts p [] = (λ h. absurd h, λ h. ⊎_elim (λ (z : ⊥). absurd z) (λ (z : ⊥). absurd z) h)
rules_parts p (r ∷ l) =
    let F = faults_in (widest_in (rule_pieces r)) (rule_pieces r) in
    let t = two_parts p (widest_in (rule_pieces r)) (rule_pieces r) in
    let m = rules_parts p l in
    let b = hits_two p (rule_widths r) (of_rules rule_widths l) in
    let c = hits_two p (rule_sizes r) (of_rules rule_sizes l) in (
      λ h. ⊎_elim (λ x. ⊎_elim (λ z. inl (b.1 (inl z))) (λ z. inr (c.1 (inl z))) (t.0 x)) (λ x. ⊎_elim (λ z. inl (b.1 (inr z))) (λ z. inr (c.1 (inr z))) (m.0 x)) ((hits_two p F (size_faults l)).0 h),
      λ h. (hits_two p F (size_faults l)).1
          (⊎_elim (λ y. ⊎_elim (λ z. inl (t.1 (inl z))) (λ z. inr (m.1 (inl z))) (b.0 y)) (λ y. ⊎_elim (λ z. inl (t.1 (inr z))) (λ z. inr (m.1 (inr z))) (c.0 y)) h),
    )
