-- Which lists of terms the parts of sets, counts and conditions add, and how they are put together.
-- Assumes nothing.
use Prim.Native.Nat.{ℕ, zero, suc, ◌+◌, ◌*◌, ◌-◌, ◌≤◌, ◌<◌}
use mathlib.Core.Path.{◌≡◌, refl, sym, ap, subst, ◌∙◌}
use mathlib.Core.List.{List, [], ◌∷◌, ◌++◌, append-nil}
use native.Mathlib.Omega.{arith}
use Rattle.basis.specs.Limits.{max_rules, max_variables}
use Rattle.term_words.specs.Words.{term_of}
use Rattle.term_words.specs.declared.Comparison.{Comparison}
use Rattle.term_words.specs.declared.Operation.{Operation}
use Rattle.term_words.specs.declared.Term.{Term}
use Rattle.term_trees.specs.Trees.{Calculation, literal, use_of, plus, minus, times, opposite, everything, only, between, from, up_to, either, without, Condition, compare, both, any, Repeats, exact, on_from, up_to_bound, spanning}
use Rattle.term_trees.specs.Postfix.{before, calculation_terms, set_terms, condition_terms, repeat_terms}
use Rattle.text_shapes.specs.TermShapes.{renamed, renamed_set, renamed_condition, renamed_repeats, RepeatsRoom}
use Rattle.text_shapes.proofs.Adding.{term_read}
use Rattle.text_shapes.proofs.Spelling.{Spells, Turns, Extends, followed, unary, binary, and_more, CalculationRoom, SetsRoom, TestsRoom, Within, Deep, two_within, two_deep}

-- ---- what each part adds

-- a calculation with at most e numbers waiting, and what lengthens one
abbrev pub Calc : ℕ → List Term → Type 0
Calc e = Spells calculation_terms (Within CalculationRoom e)

abbrev pub CalcMore : ℕ → List Term → Type 0
CalcMore e = Extends calculation_terms (Within CalculationRoom e)

-- an item, a set within d parentheses, and what lengthens one
abbrev pub Item : List Term → Type 0
Item = Spells set_terms (Within SetsRoom 61)

abbrev pub Sets : ℕ → ℕ → List Term → Type 0
Sets e d = Spells set_terms (Deep SetsRoom e d)

abbrev pub SetMore : ℕ → ℕ → List Term → Type 0
SetMore e d = Extends set_terms (Deep SetsRoom e d)

-- after the lower bound
abbrev pub ItemTail : List Term → Type 0
ItemTail = Turns calculation_terms (Within CalculationRoom 1) set_terms (Within SetsRoom 61)

pub data Bound (some none p : ℕ) (L : List Term) : Type 0 where
  limit : {M N : List Term} → Calc 1 M → N ≡ term_read some 0 p ∷ [] → L ≡ M ++ N → Bound some none p L
  no_limit : L ≡ term_read none 0 p ∷ [] → Bound some none p L

abbrev pub CountsRoom : Repeats → Type 0
CountsRoom x = (g : ℕ → ℕ) → ((k : ℕ) → g k < max_rules) → RepeatsRoom max_variables (renamed_repeats g x)

abbrev pub Times : List Term → Type 0
Times = Spells repeat_terms CountsRoom

abbrev pub TimesTail : List Term → Type 0
TimesTail = Turns calculation_terms (Within CalculationRoom 1) repeat_terms CountsRoom

abbrev pub Comparing : List Term → Type 0
Comparing = Turns calculation_terms (Within CalculationRoom 1) condition_terms (Within TestsRoom 61)

abbrev pub Tests : ℕ → ℕ → List Term → Type 0
Tests e d = Spells condition_terms (Deep TestsRoom e d)

abbrev pub TestMore : ℕ → ℕ → List Term → Type 0
TestMore e d = Extends condition_terms (Deep TestsRoom e d)

-- the tag of a sign that joins conditions
pub record Joint (tag : ℕ) (join : Condition → Condition → Condition) : Type 0 where
  pub is : (p : ℕ) (x y : Condition) → condition_terms (join x y) ≡ (condition_terms x ++ condition_terms y) ++ (term_read tag 0 p ∷ [])
  pub room : (x y : Condition) (n : ℕ) → TestsRoom x n → TestsRoom y (suc n) → TestsRoom (join x y) n

pub record Links (tag d : ℕ) (L : List Term) : Type 0 where
  pub by : (join : Condition → Condition → Condition) → Joint tag join → TestMore 26 d L

-- ---- calculations

module _ (p : ℕ) (L : List Term) where
  pub number_spelled : (v : ℕ) → L ≡ term_read 1 v p ∷ [] → Calc 3 L
  unfolding before renamed term_of
  number_spelled v e =
      let z : v + 4294967296 * 0 ≡ v = omega arith
      in record { tree = literal v; is = e ∙ ap (λ (n : ℕ). Term.Part (Operation.Number n) ∷ []) z; fine = record { at = λ n l g h. omega arith } }

  pub variable_spelled : (v : ℕ) → L ≡ term_read 2 v p ∷ [] → Calc 3 L
  unfolding before renamed term_of
  variable_spelled v e = record { tree = use_of p; is = e; fine = record { at = λ n l g h. (omega arith, h p) } }

module _ (p : ℕ) (L M : List Term) where
  pub opposite_spelled : Calc 3 L → M ≡ term_read 6 0 p ∷ [] → Calc 3 (L ++ M)
  unfolding before renamed term_of
  opposite_spelled c e = followed c (unary opposite (Term.Part Operation.Negate) (λ x. refl) (λ x w. record { at = λ n l. w.at n l }) e)

  pub times_more : Calc 3 L → M ≡ term_read 5 0 p ∷ [] → CalcMore 2 (L ++ M)
  unfolding before renamed term_of
  times_more c e = binary times (Term.Part Operation.Multiply) (λ x y. refl) (λ x y. two_within times (λ n h k g i. (h g i, k g i)) (omega arith)) c e

  pub plus_more : Calc 2 L → M ≡ term_read 3 0 p ∷ [] → CalcMore 1 (L ++ M)
  unfolding before renamed term_of
  plus_more c e = binary plus (Term.Part Operation.Add) (λ x y. refl) (λ x y. two_within plus (λ n h k g i. (h g i, k g i)) (omega arith)) c e

  pub minus_more : Calc 2 L → M ≡ term_read 4 0 p ∷ [] → CalcMore 1 (L ++ M)
  unfolding before renamed term_of
  minus_more c e = binary minus (Term.Part Operation.Subtract) (λ x y. refl) (λ x y. two_within minus (λ n h k g i. (h g i, k g i)) (omega arith)) c e

  -- ---- sets

  pub except_more : (d : ℕ) → Sets 28 d L → M ≡ term_read 12 0 p ∷ [] → SetMore 27 d (L ++ M)
  unfolding set_terms renamed_set term_of
  except_more d c e = binary without Term.Except (λ x y. refl) (λ x y. two_deep without (λ n h k g i. (h g i, k g i)) (omega arith)) c e

  pub or_more : (d : ℕ) → Sets 27 d L → M ≡ term_read 11 0 p ∷ [] → SetMore 26 d (L ++ M)
  unfolding set_terms renamed_set term_of
  or_more d c e = binary either Term.Or (λ x y. refl) (λ x y. two_deep either (λ n h k g i. (h g i, k g i)) (omega arith)) c e

-- a bound of an item that has none below, and of one that has
pub open_spelled : (p : ℕ) (L : List Term) → Bound 10 7 p L → Item L
unfolding set_terms renamed_set term_of
open_spelled p L (limit c e z) =
    subst Item (sym z) (followed c (unary up_to Term.UpTo (λ x. refl) (λ x w. record { at = λ n l g h. (w.at 0 (omega arith) g h, omega arith) }) e))
open_spelled p L (no_limit e) = record { tree = everything; is = e; fine = record { at = λ n l g h. omega arith } }

pub tail_spelled : (p : ℕ) (L : List Term) → Bound 8 9 p L → ItemTail L
unfolding set_terms renamed_set term_of
tail_spelled p L (limit c e z) =
    subst ItemTail (sym z)
    (binary between Term.Range (λ x y. refl) (λ x y v w. record { at = λ n l g h. (v.at 0 (omega arith) g h, w.at 1 (omega arith) g h, omega arith) }) c e)
tail_spelled p L (no_limit e) = unary from Term.From (λ x. refl) (λ x w. record { at = λ n l g h. (w.at 0 (omega arith) g h, omega arith) }) e

pub only_fine : (c : Calculation) → Within CalculationRoom 1 c → Within SetsRoom 61 (only c)
unfolding renamed_set
only_fine c w = record { at = λ n l g h. (w.at 0 (omega arith) g h, omega arith) }

-- ---- counts

pub exact_spelled : TimesTail []
unfolding repeat_terms renamed_repeats
exact_spelled = record { after = λ x w. record { tree = exact x; is = append-nil (calculation_terms x); fine = λ g h. w.at 0 (omega arith) g h } }

pub up_to_spelled : (p : ℕ) (L M : List Term) → Calc 1 L → M ≡ term_read 10 0 p ∷ [] → Times (L ++ M)
unfolding repeat_terms renamed_repeats term_of
up_to_spelled p L M c e = followed c (unary up_to_bound Term.UpTo (λ x. refl) (λ x w g h. w.at 0 (omega arith) g h) e)

pub span_spelled : (p : ℕ) (L : List Term) → Bound 8 9 p L → TimesTail L
unfolding repeat_terms renamed_repeats term_of
span_spelled p L (limit c e z) =
    subst TimesTail (sym z) (binary spanning Term.Range (λ x y. refl) (λ x y v w g h. (v.at 0 (omega arith) g h, w.at 1 (omega arith) g h)) c e)
span_spelled p L (no_limit e) = unary on_from Term.From (λ x. refl) (λ x w g h. w.at 0 (omega arith) g h) e

-- ---- conditions

-- a comparison's tag
record Compares (tag : ℕ) : Type 0 where
  how : Comparison
  is : (p : ℕ) → term_read tag 0 p ≡ Term.Compare how

compares : (n : ℕ) → n ≤ 5 → Compares (14 + n)
unfolding term_of
compares zero h = record { how = Comparison.Equal; is = λ p. refl }
compares (suc zero) h = record { how = Comparison.Unequal; is = λ p. refl }
compares (suc (suc zero)) h = record { how = Comparison.Less; is = λ p. refl }
compares (suc (suc (suc zero))) h = record { how = Comparison.AtMost; is = λ p. refl }
compares (suc (suc (suc (suc zero)))) h = record { how = Comparison.Greater; is = λ p. refl }
compares (suc (suc (suc (suc (suc zero))))) h = record { how = Comparison.AtLeast; is = λ p. refl }
compares (suc (suc (suc (suc (suc (suc n)))))) h = absurd (omega arith)

pub compare_spelled : (tag p : ℕ) → 14 ≤ tag → tag ≤ 19 → (L M : List Term) → Calc 1 L → M ≡ term_read tag 0 p ∷ [] → Comparing (L ++ M)
unfolding condition_terms renamed_condition
compare_spelled tag p l m L M c e =
    let z : 14 + (tag - 14) ≡ tag = omega arith in
    let k : Compares tag = subst Compares z (compares (tag - 14) (omega arith)) in
    binary (compare k.how) (Term.Compare k.how) (λ x y. refl)
    (λ x y v w. record { at = λ n i g h. (v.at 0 (omega arith) g h, w.at 1 (omega arith) g h, omega arith) })
    c (e ∙ ap (λ (t : Term). t ∷ []) (k.is p))

pub and_joint : Joint 13 both
unfolding condition_terms renamed_condition term_of
and_joint = record { is = λ p x y. refl; room = λ x y n h k g i. (h g i, k g i) }

pub or_joint : Joint 11 any
unfolding condition_terms renamed_condition term_of
or_joint = record { is = λ p x y. refl; room = λ x y n h k g i. (h g i, k g i) }

pub link_more : {tag d : ℕ} (p : ℕ) (L M : List Term) → Tests 27 d L → M ≡ term_read tag 0 p ∷ [] → Links tag d (L ++ M)
link_more {tag} p L M c e =
    record { by = λ join j. binary join (term_read tag 0 p) (j.is p) (λ x y. two_deep join (j.room x y) (omega arith)) c e }

pub links_both : {tag d : ℕ} (L M : List Term) → Links tag d L → Links tag d M → Links tag d (L ++ M)
links_both L M h k = record { by = λ join j. and_more (h.by join j) (k.by join j) }
