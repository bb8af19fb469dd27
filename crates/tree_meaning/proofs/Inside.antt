-- Values that are bound stay within their variables' widths; so, where 6 and 8 are not given, no calculation of a rule passes 2^62 at any values that a run meets.
-- Assumes nothing.
use Prim.Native.Nat.{ℕ, ◌+◌, ◌^◌, ◌≤◌}
use mathlib.Core.Path.{◌≡◌, subst}
use mathlib.Core.Logic.{⊎_elim}
use mathlib.Core.Bool.{true}
use mathlib.Core.List.{List, [], ◌∷◌}
use mathlib.Core.Option.{none}
use native.Mathlib.Omega.{arith}
use lib.IntN.{pos, nat_abs}
use lib.ListN.{length, get_or}
use Rattle.basis.specs.Patterns.{greatest_size}
use Rattle.basis.proofs.Booleans.{picked, either_first, either_second, either_cases}
use Rattle.text_header.proofs.Runs.{word_equal}
use Rattle.text_tokens.specs.Names.{is_same}
use Rattle.tree.specs.Lexemes.{Name}
use Rattle.tree.specs.Tree.{Rule, Rules}
use Rattle.tree_meaning.specs.Values.{Environment, calculation_value}
use Rattle.tree_meaning.specs.Pieces.{Term, a_number, a_use, a_sign, terms_of_calculation, Component, whole_number, joined_by, terms_of, uses_in, Piece, use_of_rule, width, formula, binding, bound_in, rules_of, rule_name, rule_pieces, variables_of}
use Rattle.tree_meaning.specs.Names.{is_among, rule_names, refusal_6}
use Rattle.tree_meaning.specs.Sizes.{widest_in, refusal_8}
use Rattle.tree_meaning.specs.Grammar.{Values, values_at, variable_of}
use Rattle.tree_meaning.proofs.Bounds.{Within, within_first, within_second, calculation_fits}
use Rattle.tree_meaning.proofs.Passing.{CalculationsFit, PiecesFit, RulesFit, UsesRight, NamesRight, RulesNamed, fits, named}
use Rattle.tree_meaning.proofs.Numbers.{among_later}

-- ---- values of a rule's variables

module _ (variable : List ℕ → ℕ) where
  -- each binder's is at most the largest of its width, in size
  unfoldable pub Held : Values → List Piece → Type 0
  Held v [] = Unit {0}
  Held v (use_of_rule x ∷ more) = Held v more
  Held v (width most n ∷ more) = Held v more
  Held v (formula f ∷ more) = Held v more
  Held v (binding x signed n placed ∷ more) = (nat_abs (get_or v (variable x.letters) (pos 0)) ≤ greatest_size signed n.value) × Held v more

  -- so is that of each name that is bound
  pub known_within : (v : Values) (ps : List Piece) (x : Name) → Held v ps → is_among (bound_in ps) x ≡ true → nat_abs (get_or v (variable x.letters) (pos 0)) ≤ widest_in ps x.letters
  unfolding Held bound_in is_among widest_in
  known_within v [] x h k = let z : ◌≡◌ {A = ℕ} 0 1 = cc in absurd (omega arith)
  known_within v (use_of_rule y ∷ more) x h k = known_within v more x h k
  known_within v (width most n ∷ more) x h k = known_within v more x h k
  known_within v (formula f ∷ more) x h k = known_within v more x h k
  known_within v (binding y signed n placed ∷ more) x h k =
      picked (λ (w : ℕ). nat_abs (get_or v (variable x.letters) (pos 0)) ≤ w) (is_same y.letters x.letters)
      (λ e. subst (λ (l : List ℕ). nat_abs (get_or v (variable l) (pos 0)) ≤ greatest_size signed n.value) (word_equal y.letters x.letters e) h.0)
      (λ e. known_within v more x h.1 (among_later y (bound_in more) x e k))

-- ---- calculations at such values

module _ (env : Environment) where
  -- every calculation has a value of at most 2^62, above zero or below
  unfoldable pub Valued : List Component → Type 0
  Valued [] = Unit {0}
  Valued (whole_number c ∷ more) = (nat_abs (calculation_value env c) ≤ 2 ^ 62) × Valued more
  Valued (joined_by s ∷ more) = Valued more

  unfoldable pub AllValued : List Piece → Type 0
  AllValued [] = Unit {0}
  AllValued (use_of_rule x ∷ more) = AllValued more
  AllValued (width most n ∷ more) = AllValued more
  AllValued (formula f ∷ more) = Valued f × AllValued more
  AllValued (binding x signed n placed ∷ more) = AllValued more

module _ (env : Environment) (widest : List ℕ → ℕ) where
  -- the variable that a name is has a value within its width
  abbrev InsideAt : Name → Type 0
  InsideAt x = nat_abs (env x.letters) ≤ widest x.letters

  terms_within : (names : List Name) → ((x : Name) → is_among names x ≡ true → InsideAt x) → (ts : List Term) → UsesRight names (uses_in ts) → Within env widest ts
  unfolding UsesRight uses_in Within
  terms_within names inside [] h = tt
  terms_within names inside (a_number n ∷ more) h = terms_within names inside more h
  terms_within names inside (a_use x ∷ more) h = (inside x h.0, terms_within names inside more h.1)
  terms_within names inside (a_sign s ∷ more) h = terms_within names inside more h

  formula_valued : (f : List Component) → Within env widest (terms_of f) → CalculationsFit widest f → Valued env f
  unfolding Within terms_of CalculationsFit Valued
  formula_valued [] h k = tt
  formula_valued (whole_number c ∷ more) h k =
      (calculation_fits env widest c (within_first env widest (terms_of_calculation c) (terms_of more) h) k.0, formula_valued more (within_second env widest (terms_of_calculation c) (terms_of more) h) k.1)
  formula_valued (joined_by s ∷ more) h k = formula_valued more h k

  -- after binders of these names, which are within their widths, as those among the pieces are
  pieces_valued : (rules variables before : List Name) (ps : List Piece) → ((x : Name) → is_among before x ≡ true → InsideAt x)
      → ((x : Name) → is_among (bound_in ps) x ≡ true → InsideAt x) → NamesRight rules variables before ps → PiecesFit widest ps → AllValued env ps
  unfolding bound_in is_among NamesRight PiecesFit AllValued
  pieces_valued rules variables before [] a b h k = tt
  pieces_valued rules variables before (use_of_rule x ∷ more) a b h k = pieces_valued rules variables before more a b h.2 k
  pieces_valued rules variables before (width most n ∷ more) a b h k = pieces_valued rules variables before more a b h k.2
  pieces_valued rules variables before (formula f ∷ more) a b h k =
      (formula_valued f (terms_within before a (terms_of f) h.0) k.0, pieces_valued rules variables before more a b h.1 k.1)
  pieces_valued rules variables before (binding y signed n placed ∷ more) a b h k =
      pieces_valued rules variables (y ∷ before) more
      (λ x e. ⊎_elim (λ f. b x (either_first (is_same y.letters x.letters) (is_among (bound_in more) x) f)) (λ f. a x f) (either_cases (is_same y.letters x.letters) (is_among before x) e))
      (λ x e. b x (either_second (is_same y.letters x.letters) (is_among (bound_in more) x) e)) h.2 k

-- a rule, the first of whose variables has number b: no calculation of it passes 2^62 at values within the variables' widths
pub rule_valued : (rules : List Name) (b : ℕ) (v : Values) (r : Rule) → NamesRight rules (variables_of r) [] (rule_pieces r) → PiecesFit (widest_in (rule_pieces r)) (rule_pieces r)
    → Held (variable_of b (variables_of r)) v (rule_pieces r) → AllValued (values_at (variable_of b (variables_of r)) v) (rule_pieces r)
unfolding is_among
rule_valued rules b v r h k i =
    pieces_valued (values_at (variable_of b (variables_of r)) v) (widest_in (rule_pieces r)) rules (variables_of r) [] (rule_pieces r)
    (λ x e. let z : ◌≡◌ {A = ℕ} 0 1 = cc in absurd (omega arith))
    (λ x e. known_within (variable_of b (variables_of r)) v (rule_pieces r) x i e) h k

-- all rules
unfoldable pub RulesHeld : (b : ℕ) → Values → List Rule → Type 0
RulesHeld b v [] = Unit {0}
RulesHeld b v (r ∷ more) = Held (variable_of b (variables_of r)) v (rule_pieces r) × RulesHeld (b + length (variables_of r)) v more

unfoldable pub RulesValued : (b : ℕ) → Values → List Rule → Type 0
RulesValued b v [] = Unit {0}
RulesValued b v (r ∷ more) = AllValued (values_at (variable_of b (variables_of r)) v) (rule_pieces r) × RulesValued (b + length (variables_of r)) v more

rules_valued : (rules earlier : List Name) (b : ℕ) (v : Values) (rs : List Rule) → RulesNamed rules earlier rs → RulesFit rs → RulesHeld b v rs → RulesValued b v rs
unfolding RulesNamed RulesFit RulesHeld RulesValued
rules_valued rules earlier b v [] h k i = tt
rules_valued rules earlier b v (r ∷ more) h k i =
    (rule_valued rules b v r h.1 k.0 i.0, rules_valued rules (rule_name r ∷ earlier) (b + length (variables_of r)) v more h.2 k.1 i.1)

-- of a text for which 6 and 8 are not given
pub none_passes : (t : Rules) (v : Values) → refusal_6 t ≡ none → refusal_8 t ≡ none → RulesHeld 0 v (rules_of t) → RulesValued 0 v (rules_of t)
none_passes t v six eight h = rules_valued (rule_names t) [] 0 v (rules_of t) (named t six) (fits t eight) h
