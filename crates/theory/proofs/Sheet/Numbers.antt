-- What holds of every number of a grammar, by the list of its constructs.
-- Assumes nothing.
use Prim.Native.Nat.{ℕ, zero, suc, ◌≤◌, ◌<◌}
use native.Mathlib.Omega.{arith}
use borrow.Author.Tests.{eqb-true, eqb-false, ltb-true, ltb-false, ne_eqb}
use mathlib.Core.Path.{◌≡◌, sym, subst, ◌∙◌, ap}
use mathlib.Core.Logic.{inl, inr}
use mathlib.Core.List.{List, [], ◌∷◌, map}
use lib.Dec.{eqb, ltb}
use lib.ListN.{length, get_or, get_or-eq_default, get_or-map}
use Rattle.basis.proofs.Booleans.{which}
use Rattle.theory.specs.Weight.{largest, weigh, Weighs}
use Rattle.theory.proofs.Sheet.Samples.{SheetNode, opening_number, numbered, nothing, opening_use, Sample, grammar_of, weight_in}

-- P of each element of a list, with its number
abbrev pub Listed : {A : Type 0} → (ℕ → A → Type 0) → List A → Type 0
Listed P [] = Unit {0}
Listed P (a ∷ l) = P 0 a × Listed (λ i. P (suc i)) l

-- one after the other, `tt` at the end
infixr 20 ◌and◌
abbrev pub ◌and◌ : {A B : Type 0} → A → B → A × B
a and b = (a, b)

listed_at : {A : Type 0} (P : ℕ → A → Type 0) (l : List A) (i : ℕ) (d : A) → i < length l → Listed P l → P i (get_or l i d)
listed_at P [] i d h p = absurd (omega arith)
listed_at P (a ∷ l) zero d h p = p.0
listed_at P (a ∷ l) (suc i) d h p = listed_at (λ j. P (suc j)) l i d (omega arith) p.1

pub listed_map : {A : Type 0} {P Q : ℕ → A → Type 0} → ((i : ℕ) (a : A) → P i a → Q i a) → (l : List A) → Listed P l → Listed Q l
listed_map f [] p = tt
listed_map f (a ∷ l) p = f 0 a p.0 and listed_map (λ i. f (suc i)) l p.1

-- a number of no construct
abbrev pub Neither : {A : Type 0} → List A → ℕ → Type 0
Neither l i = (length l ≤ i) × (i ≡ opening_number → ⊥)

module _ {A : Type 0} (opening neither : A) (l : List A) where
  numbered_construct : (i : ℕ) → (i ≡ opening_number → ⊥) → numbered opening neither l i ≡ get_or l i neither
  unfolding numbered
  numbered_construct i h = rw (ne_eqb i opening_number h, numbered)

  pub numbered_neither : (i : ℕ) → Neither l i → numbered opening neither l i ≡ neither
  numbered_neither i h = numbered_construct i h.1 ∙ get_or-eq_default l neither h.0

  pub each : (P : ℕ → A → Type 0) → P opening_number opening → ((i : ℕ) → Neither l i → P i neither) → Listed P l → (i : ℕ) → P i (numbered opening neither l i)
  unfolding numbered
  each P o n p i =
      elim (which (eqb i opening_number)) [
        | inl t ↦ rw (eqb-true i opening_number t) o
        | inr t ↦
            let h = eqb-false i opening_number t in
            elim (which (ltb i (length l))) [
              | inl u ↦ subst (P i) (sym (numbered_construct i h)) (listed_at P l i neither (ltb-true i (length l) u) p)
              | inr u ↦ let k : Neither l i = (ltb-false i (length l) u, h) in subst (P i) (sym (numbered_neither i k)) (n i k)
            ]
      ]

pub numbered_map : {A B : Type 0} (f : A → B) (opening neither : A) (l : List A) (i : ℕ)
    → numbered (f opening) (f neither) (map f l) i ≡ f (numbered opening neither l i)
unfolding numbered
numbered_map f opening neither l i =
    elim (which (eqb i opening_number)) [ inl t ↦ rw (t, numbered) | inr t ↦ rw (t, numbered) (get_or-map f l i neither) ]

-- weights that are as their parts' make them
pub weighs : (s : Sample) → weigh (λ c. weight_in s) tt opening_use ≡ s.weight → map (weigh (λ c. weight_in s) tt) s.constructs ≡ s.weights
    → Weighs (grammar_of s) (λ c. weight_in s)
unfolding grammar_of weight_in weigh largest
weighs s o e c i =
    let weight : SheetNode → ℕ = weigh (λ c. weight_in s) tt in
    ap (λ (w : ℕ). numbered w 1 s.weights i) (sym o)
    ∙ (ap (λ (ws : List ℕ). numbered (weight opening_use) 1 ws i) (sym e) ∙ numbered_map weight opening_use nothing s.constructs i)
