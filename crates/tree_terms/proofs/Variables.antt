-- A variable stands in a set, counts or a condition exactly where one stands in its terms: "a set with a variable counting as `~`", "counts with a variable
-- allowing all".
-- Assumes nothing.
use Prim.Native.Nat.{ℕ}
use mathlib.Core.Path.{◌≡◌, refl, sym, ap, ap₂, ◌∙◌}
use mathlib.Core.Bool.{Bool, true, false, cond, ◌||◌, or-false}
use mathlib.Core.List.{List, [], ◌∷◌, ◌++◌}
use mathlib.Core.Option.{Option, none, some}
use Rattle.term_words.specs.declared.Term.{Term as WordTerm}
use Rattle.term_evaluation.specs.Variables.{is_use, uses_variable, has_variable}
use Rattle.term_trees.specs.Trees.{Calculation as TermCalculation, times as multiplied, plus as added, minus as less_by, ValueSet as TermSet, without}
use Rattle.term_trees.specs.Postfix.{last_sign, before, calculation_terms, set_terms, repeat_terms}
use Rattle.tree.specs.Tree.{Primary, number, variable, Operand, plain, opposite, Factors, no_factor, times, Product, product, Summands, no_summand, plus, minus, Calculation, sum, Item, everything, only, between, from, up_to_bound, SetPart, Choices, item, item_but_item, item_but_set, last_choice, or_choices, ValueSet, Counts, exactly, at_least_count, at_most, span}
use Rattle.tree_meaning.specs.Pieces.{Term, a_number, a_use, a_sign, primary_terms, operand_terms, factor_terms, product_terms, summand_terms, terms_of_calculation, Component, whole_number, joined_by, item_parts, set_parts, counts_parts, terms_of, uses_in}
use Rattle.tree_meaning.specs.Grammar.{any_name, mentions_variable}
use Rattle.tree_terms.specs.Terms.{set_after, primary_tree, operand_tree, times_tree, product_tree, sum_tree, calculation_tree, item_tree, set_tree, counts_tree}

-- ---- lists

pick_or : (a b : Bool) → cond a true b ≡ (a || b)
pick_or true b = refl
pick_or false b = refl

or_both : (a b c : Bool) → ((a || b) || c) ≡ (a || (b || c))
or_both true b c = refl
or_both false b c = refl

some_variable : (xs ys : List WordTerm) → has_variable (xs ++ ys) ≡ (has_variable xs || has_variable ys)
unfolding has_variable
some_variable [] ys = refl
some_variable (x ∷ xs) ys =
    pick_or (uses_variable x) (has_variable (xs ++ ys))
    ∙ (ap (λ (b : Bool). uses_variable x || b) (some_variable xs ys)
    ∙ (sym (or_both (uses_variable x) (has_variable xs) (has_variable ys)) ∙ ap (λ (b : Bool). b || has_variable ys) (sym (pick_or (uses_variable x) (has_variable xs)))))

-- a variable is used among terms of a tree
abbrev used : List Term → Bool
used ts = any_name (uses_in ts)

some_use : (xs ys : List Term) → used (xs ++ ys) ≡ (used xs || used ys)
unfolding uses_in
some_use [] ys = refl
some_use (a_number n ∷ xs) ys = some_use xs ys
some_use (a_use x ∷ xs) ys = refl
some_use (a_sign s ∷ xs) ys = some_use xs ys

-- ---- calculations

-- in a calculation's terms, the last of which may be marked
abbrev holds_one : TermCalculation → Bool
holds_one c = has_variable (before c) || is_use (last_sign c)

last_one : (c : TermCalculation) → has_variable (calculation_terms c) ≡ holds_one c
unfolding has_variable
last_one c =
    some_variable (before c) (WordTerm.Part (last_sign c) ∷ []) ∙ ap (λ (b : Bool). has_variable (before c) || b) (pick_or (is_use (last_sign c)) false ∙ or-false (is_use (last_sign c)))

single_one : (c : TermCalculation) → has_variable (before c ++ (WordTerm.Single (last_sign c) ∷ [])) ≡ holds_one c
unfolding has_variable
single_one c =
    some_variable (before c) (WordTerm.Single (last_sign c) ∷ []) ∙ ap (λ (b : Bool). has_variable (before c) || b) (pick_or (is_use (last_sign c)) false ∙ or-false (is_use (last_sign c)))

two_ones : (a b : TermCalculation) → (has_variable (calculation_terms a ++ calculation_terms b) || false) ≡ (holds_one a || holds_one b)
two_ones a b =
    or-false (has_variable (calculation_terms a ++ calculation_terms b)) ∙ (some_variable (calculation_terms a) (calculation_terms b) ∙ ap₂ ◌||◌ (last_one a) (last_one b))

module _ (numbered : List ℕ → ℕ) where
  primary_one : (x : Primary) → holds_one (primary_tree numbered x) ≡ used (primary_terms x)
  unfolding before has_variable uses_in
  primary_one (number n) = refl
  primary_one (variable x) = refl

  operand_one : (x : Operand) → holds_one (operand_tree numbered x) ≡ used (operand_terms x)
  unfolding before uses_in
  operand_one (plain x) = primary_one x
  operand_one (opposite s x) = or-false (has_variable (calculation_terms (primary_tree numbered x))) ∙ (last_one (primary_tree numbered x) ∙ primary_one x)

  times_one : (a : TermCalculation) (more : Factors) → holds_one (times_tree numbered a more) ≡ (holds_one a || used (factor_terms more))
  unfolding before uses_in times_tree factor_terms
  times_one a no_factor = sym (or-false (holds_one a))
  times_one a (times s x more) =
      times_one (multiplied a (operand_tree numbered x)) more
      ∙ (ap (λ (b : Bool). b || used (factor_terms more)) (two_ones a (operand_tree numbered x) ∙ ap (λ (b : Bool). holds_one a || b) (operand_one x))
      ∙ (or_both (holds_one a) (used (operand_terms x)) (used (factor_terms more)) ∙ ap (λ (b : Bool). holds_one a || b) (sym (some_use (operand_terms x) (factor_terms more)))))

  product_one : (x : Product) → holds_one (product_tree numbered x) ≡ used (product_terms x)
  product_one (product x more) =
      times_one (operand_tree numbered x) more ∙ (ap (λ (b : Bool). b || used (factor_terms more)) (operand_one x) ∙ sym (some_use (operand_terms x) (factor_terms more)))

  sum_one : (a : TermCalculation) (more : Summands) → holds_one (sum_tree numbered a more) ≡ (holds_one a || used (summand_terms more))
  unfolding before uses_in sum_tree summand_terms
  sum_one a no_summand = sym (or-false (holds_one a))
  sum_one a (plus s x more) =
      sum_one (added a (product_tree numbered x)) more
      ∙ (ap (λ (b : Bool). b || used (summand_terms more)) (two_ones a (product_tree numbered x) ∙ ap (λ (b : Bool). holds_one a || b) (product_one x))
      ∙ (or_both (holds_one a) (used (product_terms x)) (used (summand_terms more)) ∙ ap (λ (b : Bool). holds_one a || b) (sym (some_use (product_terms x) (summand_terms more)))))
  sum_one a (minus s x more) =
      sum_one (less_by a (product_tree numbered x)) more
      ∙ (ap (λ (b : Bool). b || used (summand_terms more)) (two_ones a (product_tree numbered x) ∙ ap (λ (b : Bool). holds_one a || b) (product_one x))
      ∙ (or_both (holds_one a) (used (product_terms x)) (used (summand_terms more)) ∙ ap (λ (b : Bool). holds_one a || b) (sym (some_use (product_terms x) (summand_terms more)))))

  calculation_one : (c : Calculation) → holds_one (calculation_tree numbered c) ≡ used (terms_of_calculation c)
  calculation_one (sum x more) =
      sum_one (product_tree numbered x) more ∙ (ap (λ (b : Bool). b || used (summand_terms more)) (product_one x) ∙ sym (some_use (product_terms x) (summand_terms more)))

-- ---- sets and counts

parts_both : (f g : List Component) → used (terms_of (f ++ g)) ≡ (used (terms_of f) || used (terms_of g))
unfolding terms_of uses_in
parts_both [] g = refl
parts_both (whole_number c ∷ f) g =
    some_use (terms_of_calculation c) (terms_of (f ++ g))
    ∙ (ap (λ (b : Bool). used (terms_of_calculation c) || b) (parts_both f g)
    ∙ (sym (or_both (used (terms_of_calculation c)) (used (terms_of f)) (used (terms_of g))) ∙ ap (λ (b : Bool). b || used (terms_of g)) (sym (some_use (terms_of_calculation c) (terms_of f)))))
parts_both (joined_by s ∷ f) g = parts_both f g

-- a sign at the end is none
sign_last : (xs : List WordTerm) (x : WordTerm) → uses_variable x ≡ false → has_variable (xs ++ (x ∷ [])) ≡ has_variable xs
unfolding has_variable
sign_last xs x e = some_variable xs (x ∷ []) ∙ (ap (λ (b : Bool). has_variable xs || cond b true false) e ∙ or-false (has_variable xs))

-- in the set that stands before
abbrev in_before : Option TermSet → Bool
in_before none = false
in_before (some x) = has_variable (set_terms x)

joined : (o : Option TermSet) (x : TermSet) → has_variable (set_terms (set_after o x)) ≡ (in_before o || has_variable (set_terms x))
unfolding set_terms
joined none x = refl
joined (some y) x = sign_last (set_terms y ++ set_terms x) WordTerm.Or refl ∙ some_variable (set_terms y) (set_terms x)

but_one : (x y : TermSet) (a b : Bool) → has_variable (set_terms x) ≡ a → has_variable (set_terms y) ≡ b → has_variable (set_terms (without x y)) ≡ (a || b)
unfolding set_terms
but_one x y a b e f = sign_last (set_terms x ++ set_terms y) WordTerm.Except refl ∙ (some_variable (set_terms x) (set_terms y) ∙ ap₂ ◌||◌ e f)

module _ (numbered : List ℕ → ℕ) where
  -- a calculation, alone and with another
  one_here : (c : Calculation) → has_variable (calculation_terms (calculation_tree numbered c)) ≡ used (terms_of (whole_number c ∷ []))
  unfolding terms_of uses_in
  one_here c = last_one (calculation_tree numbered c) ∙ (calculation_one numbered c ∙ (sym (or-false (used (terms_of_calculation c))) ∙ sym (some_use (terms_of_calculation c) [])))

  two_here : (a b : Calculation) → has_variable (calculation_terms (calculation_tree numbered a) ++ calculation_terms (calculation_tree numbered b)) ≡ used (terms_of (whole_number a ∷ whole_number b ∷ []))
  unfolding terms_of
  two_here a b =
      some_variable (calculation_terms (calculation_tree numbered a)) (calculation_terms (calculation_tree numbered b))
      ∙ (ap₂ ◌||◌ (last_one (calculation_tree numbered a) ∙ calculation_one numbered a) (one_here b) ∙ sym (some_use (terms_of_calculation a) (terms_of (whole_number b ∷ []))))

  -- signs between them are none
  after_sign : (a : Calculation) (f : List Component) → used (terms_of (whole_number a ∷ f)) ≡ (used (terms_of_calculation a) || used (terms_of f))
  unfolding terms_of
  after_sign a f = some_use (terms_of_calculation a) (terms_of f)

  item_one : (x : Item) → has_variable (set_terms (item_tree numbered x)) ≡ mentions_variable (item_parts x)
  unfolding set_terms terms_of uses_in has_variable
  item_one (everything s) = refl
  item_one (only a) = single_one (calculation_tree numbered a) ∙ (calculation_one numbered a ∙ (sym (or-false (used (terms_of_calculation a))) ∙ sym (some_use (terms_of_calculation a) [])))
  item_one (between a s b) =
      sign_last (calculation_terms (calculation_tree numbered a) ++ calculation_terms (calculation_tree numbered b)) WordTerm.Range refl
      ∙ (two_here a b ∙ (after_sign a (whole_number b ∷ []) ∙ sym (after_sign a (joined_by s ∷ whole_number b ∷ []))))
  item_one (from a s) = sign_last (calculation_terms (calculation_tree numbered a)) WordTerm.From refl ∙ (one_here a ∙ (after_sign a [] ∙ sym (after_sign a (joined_by s ∷ []))))
  item_one (up_to_bound s b) = sign_last (calculation_terms (calculation_tree numbered b)) WordTerm.UpTo refl ∙ one_here b

  set_one : {p : SetPart} {d : ℕ} (o : Option TermSet) (x : Choices p d) → has_variable (set_terms (set_tree numbered o x)) ≡ (in_before o || mentions_variable (set_parts x))
  unfolding set_tree set_parts terms_of uses_in
  set_one o (item a) = joined o (item_tree numbered a) ∙ ap (λ (b : Bool). in_before o || b) (item_one a)
  set_one o (item_but_item a s b) =
      joined o (without (item_tree numbered a) (item_tree numbered b))
      ∙ ap (λ (c : Bool). in_before o || c) (but_one (item_tree numbered a) (item_tree numbered b) _ _ (item_one a) (item_one b) ∙ sym (parts_both (item_parts a) (joined_by s ∷ item_parts b)))
  set_one o (item_but_set depth a s opens b closes) =
      joined o (without (item_tree numbered a) (set_tree numbered none b))
      ∙ ap (λ (c : Bool). in_before o || c) (but_one (item_tree numbered a) (set_tree numbered none b) _ _ (item_one a) (set_one none b) ∙ sym (parts_both (item_parts a) (joined_by s ∷ set_parts b)))
  set_one o (last_choice a) = set_one o a
  set_one o (or_choices a s b) =
      set_one (some (set_tree numbered o a)) b
      ∙ (ap (λ (c : Bool). c || mentions_variable (set_parts b)) (set_one o a)
      ∙ (or_both (in_before o) (mentions_variable (set_parts a)) (mentions_variable (set_parts b)) ∙ ap (λ (c : Bool). in_before o || c) (sym (parts_both (set_parts a) (joined_by s ∷ set_parts b)))))

  pub set_variable : {d : ℕ} (x : ValueSet d) → has_variable (set_terms (set_tree numbered none x)) ≡ mentions_variable (set_parts x)
  set_variable x = set_one none x

  pub counts_variable : (x : Counts) → has_variable (repeat_terms (counts_tree numbered x)) ≡ mentions_variable (counts_parts x)
  unfolding repeat_terms terms_of uses_in
  counts_variable (exactly n) = one_here n
  counts_variable (at_least_count a s) = sign_last (calculation_terms (calculation_tree numbered a)) WordTerm.From refl ∙ (one_here a ∙ (after_sign a [] ∙ sym (after_sign a (joined_by s ∷ []))))
  counts_variable (at_most s b) = sign_last (calculation_terms (calculation_tree numbered b)) WordTerm.UpTo refl ∙ one_here b
  counts_variable (span a s b) =
      sign_last (calculation_terms (calculation_tree numbered a) ++ calculation_terms (calculation_tree numbered b)) WordTerm.Range refl
      ∙ (two_here a b ∙ (after_sign a (whole_number b ∷ []) ∙ sym (after_sign a (joined_by s ∷ whole_number b ∷ []))))
