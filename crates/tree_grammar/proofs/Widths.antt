-- Sizes of the variables for values within the widths of a rule: where 8 is not given, the terms of the rule's sets and conditions answer at such values what
-- its tree says.
-- Assumes nothing.
use Prim.Native.Nat.{ℕ, zero, suc, ◌≤◌, ◌<◌}
use mathlib.Core.Path.{◌≡◌, refl, sym, ap, ◌∙◌, subst}
use mathlib.Core.Logic.{⊎_elim}
use mathlib.Core.Bool.{Bool, true, false, cond}
use mathlib.Core.List.{List, [], ◌∷◌, map}
use mathlib.Core.Option.{none}
use native.Mathlib.Omega.{arith}
use borrow.Author.Tests.{eqb-true, eqb-false}
use lib.Dec.{eqb}
use lib.IntN.{ℤ, pos, nat_abs}
use lib.ListN.{length, get_or, set, length-set}
use lib.Seq.{get_or-set_same, get_or-set_other}
use Rattle.basis.specs.Patterns.{greatest_size}
use Rattle.basis.proofs.Booleans.{which}
use Rattle.text_header.proofs.Runs.{word_equal, word_self}
use Rattle.text_tokens.specs.Names.{is_same}
use Rattle.term_evaluation.specs.Meaning.{condition}
use Rattle.term_sizes.specs.Inside.{Below, Inside}
use Rattle.term_trees.specs.Postfix.{set_terms, condition_terms}
use Rattle.term_trees.proofs.Theorems.{answer}
use Rattle.table_layout.specs.Held.{is_yes}
use Rattle.text_meaning.specs.Meaning.{in_set as in_list, in_static_set}
use Rattle.tree.specs.Lexemes.{Name}
use Rattle.tree.specs.Tree.{ValueSet, Condition}
use Rattle.tree_meaning.specs.Pieces.{Term, a_number, a_use, a_sign, set_parts, tests_parts, terms_of, uses_in, Piece, use_of_rule, width, formula, binding, bound_in}
use Rattle.tree_meaning.specs.Names.{is_among}
use Rattle.tree_meaning.specs.Sizes.{widest_in}
use Rattle.tree_meaning.specs.Values.{in_set, is_true}
use Rattle.tree_meaning.specs.Grammar.{Values, values_at, mentions_variable, any_name, variable_of}
use Rattle.tree_meaning.proofs.Passing.{CalculationsFit, UsesRight}
use Rattle.tree_meaning.proofs.Inside.{Held}
use Rattle.tree_meaning.proofs.Binding.{Own}
use Rattle.tree_meaning.proofs.Numbers.{among_later, one_name}
use Rattle.tree_terms.specs.Terms.{set_tree, tests_tree}
use Rattle.tree_terms.proofs.Fitting.{AsWide}
use Rattle.tree_terms.proofs.Rooms.{Known}
use Rattle.tree_terms.proofs.Worked.{set_worked, condition_worked}
use Rattle.tree_terms.proofs.Variables.{set_variable}

answered : (b : Bool) → is_yes (answer b) ≡ b
answered true = refl
answered false = refl

-- ---- at any sizes

-- what the uses among these terms have
module _ (numbered widest : List ℕ → ℕ) (w : List ℤ) (names : List Name)
    (wide : (y : Name) → is_among names y ≡ true → get_or w (numbered y.letters) (pos 0) ≡ pos (widest y.letters))
    (known : (y : Name) → is_among names y ≡ true → numbered y.letters < length w) where
  pub all_wide : (l : List Term) → UsesRight names (uses_in l) → AsWide numbered widest w l
  unfolding AsWide UsesRight uses_in
  all_wide [] h = tt
  all_wide (a_number n ∷ l) h = all_wide l h
  all_wide (a_use y ∷ l) h = (wide y h.0, all_wide l h.1)
  all_wide (a_sign s ∷ l) h = all_wide l h

  pub all_known : (l : List Term) → UsesRight names (uses_in l) → Known numbered (length w) l
  unfolding Known UsesRight uses_in
  all_known [] h = tt
  all_known (a_number n ∷ l) h = all_known l h
  all_known (a_use y ∷ l) h = (known y h.0, all_known l h.1)
  all_known (a_sign s ∷ l) h = all_known l h

-- without a variable any sizes do
pub none_wide : (numbered widest : List ℕ → ℕ) (w : List ℤ) (l : List Term) → any_name (uses_in l) ≡ false → AsWide numbered widest w l
unfolding AsWide uses_in
none_wide numbered widest w [] e = tt
none_wide numbered widest w (a_number n ∷ l) e = none_wide numbered widest w l e
none_wide numbered widest w (a_use y ∷ l) e = let z : ◌≡◌ {A = ℕ} 0 1 = cc in absurd (omega arith)
none_wide numbered widest w (a_sign s ∷ l) e = none_wide numbered widest w l e

pub none_known : (numbered : List ℕ → ℕ) (n : ℕ) (l : List Term) → any_name (uses_in l) ≡ false → Known numbered n l
unfolding Known uses_in
none_known numbered n [] e = tt
none_known numbered n (a_number k ∷ l) e = none_known numbered n l e
none_known numbered n (a_use y ∷ l) e = let z : ◌≡◌ {A = ℕ} 0 1 = cc in absurd (omega arith)
none_known numbered n (a_sign s ∷ l) e = none_known numbered n l e

pub no_values : Inside [] []
no_values = record { same = refl; each = λ k h. absurd (omega arith) }

module _ (numbered widest : List ℕ → ℕ) where
  pub set_answers : {d : ℕ} (x : ValueSet d) (v w : List ℤ) → Inside v w → AsWide numbered widest w (terms_of (set_parts x)) → Known numbered (length w) (terms_of (set_parts x)) → CalculationsFit widest (set_parts x) → (k : ℤ)
      → in_list (set_terms (set_tree numbered none x)) v k ≡ in_set (values_at numbered v) x k
  set_answers x v w i a n c k = ap is_yes (set_worked numbered widest v w i x a n c k 0) ∙ answered (in_set (values_at numbered v) x k)

  -- where no values are known
  pub set_static : {d : ℕ} (x : ValueSet d) → CalculationsFit widest (set_parts x) → (k : ℤ)
      → in_static_set (set_terms (set_tree numbered none x)) k ≡ cond (mentions_variable (set_parts x)) true (in_set (values_at numbered []) x k)
  set_static x c k =
      ⊎_elim
      (λ (e : mentions_variable (set_parts x) ≡ true). (λ t. cond ((set_variable numbered x ∙ e) t) true (in_list (set_terms (set_tree numbered none x)) [] k)) ∙ sym (λ t. cond (e t) true (in_set (values_at numbered []) x k)))
      (λ (e : mentions_variable (set_parts x) ≡ false).
      (λ t. cond ((set_variable numbered x ∙ e) t) true (in_list (set_terms (set_tree numbered none x)) [] k))
      ∙ set_answers x [] [] no_values (none_wide numbered widest [] (terms_of (set_parts x)) e) (none_known numbered 0 (terms_of (set_parts x)) e) c k
      ∙ sym (λ t. cond (e t) true (in_set (values_at numbered []) x k)))
      (which (mentions_variable (set_parts x)))

  pub condition_answers : {d : ℕ} (x : Condition d) (v w : List ℤ) → Inside v w → AsWide numbered widest w (terms_of (tests_parts x)) → Known numbered (length w) (terms_of (tests_parts x)) → CalculationsFit widest (tests_parts x)
      → is_yes (condition v 0 (condition_terms (tests_tree numbered tt x))) ≡ is_true (values_at numbered v) x
  condition_answers x v w i a n c = ap is_yes (condition_worked numbered widest v w i x a n c 0) ∙ answered (is_true (values_at numbered v) x)

-- ---- the sizes: a variable of the rule has the greatest size of its width, another the size of its value

module _ (numbered : List ℕ → ℕ) where
  unfoldable pub sizes_for : Values → List Piece → List ℤ
  sizes_for v [] = map (λ (z : ℤ). pos (nat_abs z)) v
  sizes_for v (use_of_rule x ∷ more) = sizes_for v more
  sizes_for v (width most n ∷ more) = sizes_for v more
  sizes_for v (formula f ∷ more) = sizes_for v more
  sizes_for v (binding x signed n placed ∷ more) = set (sizes_for v more) (numbered x.letters) (pos (greatest_size signed n.value))

  map_many : (v : Values) → length (map (λ (z : ℤ). pos (nat_abs z)) v) ≡ length v
  map_many [] = refl
  map_many (z ∷ v) = ap suc (map_many v)

  pub sizes_many : (v : Values) (ps : List Piece) → length (sizes_for v ps) ≡ length v
  unfolding sizes_for
  sizes_many v [] = map_many v
  sizes_many v (use_of_rule x ∷ more) = sizes_many v more
  sizes_many v (width most n ∷ more) = sizes_many v more
  sizes_many v (formula f ∷ more) = sizes_many v more
  sizes_many v (binding x signed n placed ∷ more) = length-set (sizes_for v more) (numbered x.letters) (pos (greatest_size signed n.value)) ∙ sizes_many v more

  own_size : (v : Values) (k : ℕ) → Below (get_or v k (pos 0)) (get_or (map (λ (z : ℤ). pos (nat_abs z)) v) k (pos 0))
  own_size [] k = record { size = 0; is = refl; le = omega arith }
  own_size (z ∷ v) zero = record { size = nat_abs z; is = refl; le = omega arith }
  own_size (z ∷ v) (suc k) = own_size v k

  below_each : (v : Values) (ps : List Piece) → Held numbered v ps → (k : ℕ) → k < length v → Below (get_or v k (pos 0)) (get_or (sizes_for v ps) k (pos 0))
  unfolding sizes_for Held
  below_each v [] h k l = own_size v k
  below_each v (use_of_rule x ∷ more) h k l = below_each v more h k l
  below_each v (width most n ∷ more) h k l = below_each v more h k l
  below_each v (formula f ∷ more) h k l = below_each v more h k l
  below_each v (binding x signed n placed ∷ more) h k l =
      ⊎_elim
      (λ (e : eqb k (numbered x.letters) ≡ true).
      let q : k ≡ numbered x.letters = eqb-true k (numbered x.letters) e
      in record {
        size = greatest_size signed n.value;
        is = ap (λ (j : ℕ). get_or (set (sizes_for v more) (numbered x.letters) (pos (greatest_size signed n.value))) j (pos 0)) q ∙ get_or-set_same (sizes_for v more) (numbered x.letters) (pos (greatest_size signed n.value)) (pos 0) (omega (arith, sizes_many v more));
        le = subst (λ (j : ℕ). nat_abs (get_or v j (pos 0)) ≤ greatest_size signed n.value) (sym q) h.0;
      })
      (λ (e : eqb k (numbered x.letters) ≡ false).
      subst (λ (z : ℤ). Below (get_or v k (pos 0)) z) (sym (get_or-set_other (sizes_for v more) (numbered x.letters) k (pos (greatest_size signed n.value)) (pos 0) (eqb-false k (numbered x.letters) e))) (below_each v more h.1 k l))
      (which (eqb k (numbered x.letters)))

  pub sizes_inside : (v : Values) (ps : List Piece) → Held numbered v ps → Inside v (sizes_for v ps)
  sizes_inside v ps h = record { same = sym (sizes_many v ps); each = λ k l. below_each v ps h k (omega (arith, sizes_many v ps)) }

-- each variable of the rule has its width's greatest size there
module _ (b : ℕ) (whole : List Piece) where
  abbrev number : List ℕ → ℕ
  number = variable_of b (bound_in whole)

  pub sizes_wide : (v : Values) (ps : List Piece) → Own whole ps → (y : Name) → is_among (bound_in whole) y ≡ true → is_among (bound_in ps) y ≡ true → number y.letters < length v
      → get_or (sizes_for number v ps) (number y.letters) (pos 0) ≡ pos (widest_in ps y.letters)
  unfolding sizes_for Own bound_in is_among widest_in
  sizes_wide v [] o y k e l = let z : ◌≡◌ {A = ℕ} 0 1 = cc in absurd (omega arith)
  sizes_wide v (use_of_rule x ∷ more) o y k e l = sizes_wide v more o y k e l
  sizes_wide v (width most n ∷ more) o y k e l = sizes_wide v more o y k e l
  sizes_wide v (formula f ∷ more) o y k e l = sizes_wide v more o y k e l
  sizes_wide v (binding x signed n placed ∷ more) o y k e l =
      ⊎_elim
      (λ (c : is_same x.letters y.letters ≡ true).
      let q : x.letters ≡ y.letters = word_equal x.letters y.letters c
      in ap (λ (j : List ℕ). get_or (set (sizes_for number v more) (number x.letters) (pos (greatest_size signed n.value))) (number j) (pos 0)) (sym q)
      ∙ get_or-set_same (sizes_for number v more) (number x.letters) (pos (greatest_size signed n.value)) (pos 0) (omega (arith, sizes_many number v more, ap number q))
      ∙ sym (ap (λ (j : Bool). pos (cond j (greatest_size signed n.value) (widest_in more y.letters))) c))
      (λ (c : is_same x.letters y.letters ≡ false).
      get_or-set_other (sizes_for number v more) (number x.letters) (number y.letters) (pos (greatest_size signed n.value)) (pos 0)
      (λ q. let z : ◌≡◌ {A = Bool} true false = sym (word_self x.letters) ∙ ap (is_same x.letters) (one_name b (bound_in whole) x y o.1 k (sym q)) ∙ c in let u : ◌≡◌ {A = ℕ} 0 1 = cc in absurd (omega arith))
      ∙ sizes_wide v more o.2 y k (among_later x (bound_in more) y c e) l
      ∙ sym (ap (λ (j : Bool). pos (cond j (greatest_size signed n.value) (widest_in more y.letters))) c))
      (which (is_same x.letters y.letters))
