-- What a list of terms is depends on its own words, and renaming variables renames them in the list.
-- Assumes nothing.
use Prim.Native.Nat.{ℕ, ◌-◌, ◌≤◌, ◌<◌}
use mathlib.Core.Path.{◌≡◌, refl, sym, ap, ap₂, ◌∙◌}
use mathlib.Core.List.{List, [], ◌∷◌, ◌++◌, map, map-append}
use native.Mathlib.Omega.{arith}
use lib.ListN.{get_or}
use Rattle.text_store.specs.Words.{term_start}
use Rattle.term_words.specs.declared.Operation.{Operation}
use Rattle.term_words.specs.declared.Term.{Term}
use Rattle.term_trees.specs.Trees.{Calculation, literal, use_of, plus, minus, times, opposite, ValueSet, everything, only, between, from, up_to, either, without, Condition, compare, both, any, Repeats, exact, on_from, up_to_bound, spanning}
use Rattle.term_trees.specs.Postfix.{last_sign, before, calculation_terms, set_terms, condition_terms, repeat_terms}
use Rattle.text_shapes.specs.TermShapes.{read_terms, rename_operation, rename_term, renamed, renamed_set, renamed_condition, renamed_repeats, SetShape, ConditionShape, CountsShape}
use Rattle.text_shapes.proofs.Adding.{read_same}

-- ---- the same words

-- the words of the terms from f up to e are the same
abbrev pub SameWords : List ℕ → List ℕ → ℕ → ℕ → Type 0
SameWords ts us f e = (k : ℕ) → term_start f ≤ k → k < term_start e → get_or us k 0 ≡ get_or ts k 0

same_read : (ts us : List ℕ) (f e : ℕ) → f < e → SameWords ts us f e → read_terms us f (e - f) ≡ read_terms ts f (e - f)
same_read ts us f e l h = read_same ts us (e - f) f (λ j a b. h j a (omega arith))

module _ {ts us : List ℕ} {f e : ℕ} where
  pub set_same : SetShape ts f e → SameWords ts us f e → SetShape us f e
  set_same s h = record { some = s.some; tree = s.tree; is = same_read ts us f e s.some h ∙ s.is; room = s.room }

  pub condition_same : ConditionShape ts f e → SameWords ts us f e → ConditionShape us f e
  condition_same s h = record { some = s.some; tree = s.tree; is = same_read ts us f e s.some h ∙ s.is; room = s.room }

  pub counts_same : CountsShape ts f e → SameWords ts us f e → CountsShape us f e
  counts_same s h = record { some = s.some; tree = s.tree; is = same_read ts us f e s.some h ∙ s.is; room = s.room }

-- ---- other numbers for variables

module _ (g : ℕ → ℕ) where
  abbrev rename : List Term → List Term
  rename L = map (rename_term g) L

  -- lists joined, each as it is renamed
  both_renamed : (L M L' M' : List Term) → L' ≡ rename L → M' ≡ rename M → L' ++ M' ≡ rename (L ++ M)
  both_renamed L M L' M' p q = ap₂ (λ (l m : List Term). l ++ m) p q ∙ sym (map-append (rename_term g) L M)

  pair_renamed : (L M : List Term) (z : Term) (L' M' : List Term) → L' ≡ rename L → M' ≡ rename M → (L' ++ M') ++ (rename_term g z ∷ []) ≡ rename ((L ++ M) ++ (z ∷ []))
  pair_renamed L M z L' M' p q = both_renamed (L ++ M) (z ∷ []) (L' ++ M') (rename_term g z ∷ []) (both_renamed L M L' M' p q) refl

  sign_renamed : (c : Calculation) → last_sign (renamed g c) ≡ rename_operation g (last_sign c)
  unfolding renamed
  sign_renamed (literal n) = refl
  sign_renamed (use_of k) = refl
  sign_renamed (plus a b) = refl
  sign_renamed (minus a b) = refl
  sign_renamed (times a b) = refl
  sign_renamed (opposite a) = refl

  -- a calculation's terms from those before the last
  ended : (c : Calculation) → before (renamed g c) ≡ rename (before c) → calculation_terms (renamed g c) ≡ rename (calculation_terms c)
  ended c p = both_renamed (before c) (Term.Part (last_sign c) ∷ []) (before (renamed g c)) (Term.Part (last_sign (renamed g c)) ∷ []) p (ap (λ (o : Operation). Term.Part o ∷ []) (sign_renamed c))

  two : (a b : Calculation) → before (renamed g a) ≡ rename (before a) → before (renamed g b) ≡ rename (before b) → calculation_terms (renamed g a) ++ calculation_terms (renamed g b) ≡ rename (calculation_terms a ++ calculation_terms b)
  two a b p q = both_renamed (calculation_terms a) (calculation_terms b) (calculation_terms (renamed g a)) (calculation_terms (renamed g b)) (ended a p) (ended b q)

  before_renamed : (c : Calculation) → before (renamed g c) ≡ rename (before c)
  unfolding before renamed
  before_renamed (literal n) = refl
  before_renamed (use_of k) = refl
  before_renamed (plus a b) = two a b (before_renamed a) (before_renamed b)
  before_renamed (minus a b) = two a b (before_renamed a) (before_renamed b)
  before_renamed (times a b) = two a b (before_renamed a) (before_renamed b)
  before_renamed (opposite a) = ended a (before_renamed a)

  pub calculation_renamed : (c : Calculation) → calculation_terms (renamed g c) ≡ map (rename_term g) (calculation_terms c)
  calculation_renamed c = ended c (before_renamed c)

  -- a calculation, or two, and a sign
  one_sign : (c : Calculation) (z : Term) → calculation_terms (renamed g c) ++ (rename_term g z ∷ []) ≡ rename (calculation_terms c ++ (z ∷ []))
  one_sign c z = both_renamed (calculation_terms c) (z ∷ []) (calculation_terms (renamed g c)) (rename_term g z ∷ []) (calculation_renamed c) refl

  two_sign : (a b : Calculation) (z : Term) → (calculation_terms (renamed g a) ++ calculation_terms (renamed g b)) ++ (rename_term g z ∷ []) ≡ rename ((calculation_terms a ++ calculation_terms b) ++ (z ∷ []))
  two_sign a b z = pair_renamed (calculation_terms a) (calculation_terms b) z (calculation_terms (renamed g a)) (calculation_terms (renamed g b)) (calculation_renamed a) (calculation_renamed b)

  pub set_renamed : (x : ValueSet) → set_terms (renamed_set g x) ≡ map (rename_term g) (set_terms x)
  unfolding set_terms renamed_set
  set_renamed everything = refl
  set_renamed (only a) = both_renamed (before a) (Term.Single (last_sign a) ∷ []) (before (renamed g a)) (Term.Single (last_sign (renamed g a)) ∷ []) (before_renamed a) (ap (λ (o : Operation). Term.Single o ∷ []) (sign_renamed a))
  set_renamed (between a b) = two_sign a b Term.Range
  set_renamed (from a) = one_sign a Term.From
  set_renamed (up_to b) = one_sign b Term.UpTo
  set_renamed (either x y) = pair_renamed (set_terms x) (set_terms y) Term.Or (set_terms (renamed_set g x)) (set_terms (renamed_set g y)) (set_renamed x) (set_renamed y)
  set_renamed (without x y) = pair_renamed (set_terms x) (set_terms y) Term.Except (set_terms (renamed_set g x)) (set_terms (renamed_set g y)) (set_renamed x) (set_renamed y)

  pub condition_renamed : (x : Condition) → condition_terms (renamed_condition g x) ≡ map (rename_term g) (condition_terms x)
  unfolding condition_terms renamed_condition
  condition_renamed (compare k a b) = two_sign a b (Term.Compare k)
  condition_renamed (both x y) = pair_renamed (condition_terms x) (condition_terms y) Term.And (condition_terms (renamed_condition g x)) (condition_terms (renamed_condition g y)) (condition_renamed x) (condition_renamed y)
  condition_renamed (any x y) = pair_renamed (condition_terms x) (condition_terms y) Term.Or (condition_terms (renamed_condition g x)) (condition_terms (renamed_condition g y)) (condition_renamed x) (condition_renamed y)

  pub repeats_renamed : (x : Repeats) → repeat_terms (renamed_repeats g x) ≡ map (rename_term g) (repeat_terms x)
  unfolding repeat_terms renamed_repeats
  repeats_renamed (exact n) = calculation_renamed n
  repeats_renamed (on_from a) = one_sign a Term.From
  repeats_renamed (up_to_bound b) = one_sign b Term.UpTo
  repeats_renamed (spanning a b) = two_sign a b Term.Range
