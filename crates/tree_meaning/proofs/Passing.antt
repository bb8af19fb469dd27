-- What holds of a tree for which 5, 6 or 8 is not given: totals, names and sizes, piece by piece.
-- Assumes nothing.
use Prim.Native.Nat.{ℕ, ◌+◌, ◌*◌, ◌^◌, ◌≤◌}
use mathlib.Core.Path.{◌≡◌}
use mathlib.Core.Bool.{true, false, not, ◌&&◌, ◌||◌}
use mathlib.Core.List.{List, [], ◌∷◌, ◌++◌}
use mathlib.Core.Option.{none}
use native.Mathlib.Omega.{arith}
use borrow.Author.Tests.{leb-true, ltb-false}
use lib.Dec.{leb, ltb}
use lib.ListN.{length}
use Rattle.basis.proofs.Booleans.{both_first, both_second, neither_first, neither_second, not_false}
use Rattle.tree.specs.Lexemes.{Name}
use Rattle.tree.specs.Tree.{Primary, number, variable, Operand, plain, opposite, Factors, no_factor, times, Product, product, Summands, no_summand, plus, minus, Calculation, sum, Rule, Rules}
use Rattle.tree.specs.Spelling.{spell_calculation}
use Rattle.tree_meaning.specs.Pieces.{Term, a_number, a_use, a_sign, primary_terms, operand_terms, factor_terms, product_terms, summand_terms, terms_of_calculation, Component, whole_number, joined_by, terms_of, uses_in, Piece, use_of_rule, width, formula, binding, rules_of, rule_name, rule_pieces, variables_of}
use Rattle.tree_meaning.specs.Places.{place_if, first_byte}
use Rattle.tree_meaning.specs.Counted.{Totals, no_rule, with_rule, is_past, limit_faults, refusal_5, terms}
use Rattle.tree_meaning.specs.Names.{is_reserved, is_among, rule_fault, use_fault, binder_fault, variable_fault, variable_faults, faults_after, name_faults, rule_names, refusal_6}
use Rattle.tree_meaning.specs.Sizes.{primary_size, operand_size, product_size, times_largest, product_largest, sum_largest, calculation_largest, wrong_width, widest_in, too_large, calculation_faults, faults_in, size_faults, refusal_8}
use Rattle.tree_meaning.proofs.Bounds.{times_part}
use Rattle.tree_meaning.proofs.LeastLaws.{no_place, no_first, no_second, no_least}
use Rattle.tree_meaning.proofs.Lengths.{all_constructs}

-- ---- tests that fail

-- ---- 8

unfoldable pub NumbersFit : List Term → Type 0
NumbersFit [] = Unit {0}
NumbersFit (a_number n ∷ more) = (n.value ≤ 2 ^ 62) × NumbersFit more
NumbersFit (a_use x ∷ more) = NumbersFit more
NumbersFit (a_sign s ∷ more) = NumbersFit more

numbers_both : (xs ys : List Term) → NumbersFit xs → NumbersFit ys → NumbersFit (xs ++ ys)
unfolding NumbersFit
numbers_both [] ys p q = q
numbers_both (a_number n ∷ more) ys p q = (p.0, numbers_both more ys p.1 q)
numbers_both (a_use x ∷ more) ys p q = numbers_both more ys p q
numbers_both (a_sign s ∷ more) ys p q = numbers_both more ys p q

-- the numbers of a calculation are parts of it
module _ (widest : List ℕ → ℕ) where
  primary_numbers : (x : Primary) → primary_size widest x ≤ 2 ^ 62 → NumbersFit (primary_terms x)
  unfolding NumbersFit
  primary_numbers (number n) h = (h, tt)
  primary_numbers (variable x) h = tt

  operand_numbers : (x : Operand) → operand_size widest x ≤ 2 ^ 62 → NumbersFit (operand_terms x)
  unfolding NumbersFit
  operand_numbers (plain x) h = primary_numbers x h
  operand_numbers (opposite s x) h = primary_numbers x h

  factor_numbers : (k : ℕ) (more : Factors) → times_largest widest k more ≤ 2 ^ 62 → NumbersFit (factor_terms more)
  unfolding NumbersFit factor_terms times_largest
  factor_numbers k no_factor h = tt
  factor_numbers k (times s x more) h =
      numbers_both (operand_terms x) (factor_terms more) (operand_numbers x (omega arith)) (factor_numbers (k * operand_size widest x) more (omega arith))

  product_numbers : (x : Product) → product_largest widest x ≤ 2 ^ 62 → NumbersFit (product_terms x)
  product_numbers (product x more) h =
      let p = times_part widest (operand_size widest x) more in
      numbers_both (operand_terms x) (factor_terms more) (operand_numbers x (omega arith)) (factor_numbers (operand_size widest x) more h)

  summand_numbers : (k : ℕ) (more : Summands) → sum_largest widest k more ≤ 2 ^ 62 → NumbersFit (summand_terms more)
  unfolding NumbersFit summand_terms sum_largest
  summand_numbers k no_summand h = tt
  summand_numbers k (plus s x more) h =
      numbers_both (product_terms x) (summand_terms more) (product_numbers x (omega arith)) (summand_numbers (k + product_size widest x) more (omega arith))
  summand_numbers k (minus s x more) h =
      numbers_both (product_terms x) (summand_terms more) (product_numbers x (omega arith)) (summand_numbers (k + product_size widest x) more (omega arith))

  calculation_numbers : (c : Calculation) → calculation_largest widest c ≤ 2 ^ 62 → NumbersFit (terms_of_calculation c)
  calculation_numbers (sum x more) h =
      numbers_both (product_terms x) (summand_terms more) (product_numbers x (omega arith)) (summand_numbers (product_size widest x) more (omega arith))

module _ (widest : List ℕ → ℕ) where
  unfoldable pub CalculationsFit : List Component → Type 0
  CalculationsFit [] = Unit {0}
  CalculationsFit (whole_number c ∷ more) = (too_large widest c ≡ false) × CalculationsFit more
  CalculationsFit (joined_by s ∷ more) = CalculationsFit more

  calculations_fit : (f : List Component) → calculation_faults widest f ≡ [] → CalculationsFit f
  unfolding CalculationsFit calculation_faults
  calculations_fit [] e = tt
  calculations_fit (whole_number c ∷ more) e =
      let p = first_byte (spell_calculation c []) in (
        no_place (too_large widest c) p (no_first (place_if (too_large widest c) p) (calculation_faults widest more) e),
        calculations_fit more (no_second (place_if (too_large widest c) p) (calculation_faults widest more) e),
      )
  calculations_fit (joined_by s ∷ more) e = calculations_fit more e

  -- a number past 2^62 is a calculation that passes it
  pub numbers_fit : (f : List Component) → CalculationsFit f → NumbersFit (terms_of f)
  unfolding CalculationsFit NumbersFit terms_of
  numbers_fit [] h = tt
  numbers_fit (whole_number c ∷ more) h =
      numbers_both (terms_of_calculation c) (terms_of more) (calculation_numbers widest c (ltb-false (2 ^ 62) (calculation_largest widest c) h.0)) (numbers_fit more h.1)
  numbers_fit (joined_by s ∷ more) h = numbers_fit more h

  unfoldable pub PiecesFit : List Piece → Type 0
  PiecesFit [] = Unit {0}
  PiecesFit (use_of_rule x ∷ more) = PiecesFit more
  PiecesFit (width most n ∷ more) = (1 ≤ n.value) × (n.value ≤ most) × PiecesFit more
  PiecesFit (formula f ∷ more) = CalculationsFit f × PiecesFit more
  PiecesFit (binding x signed n placed ∷ more) = PiecesFit more

  pieces_fit : (ps : List Piece) → faults_in widest ps ≡ [] → PiecesFit ps
  unfolding PiecesFit faults_in
  pieces_fit [] e = tt
  pieces_fit (use_of_rule x ∷ more) e = pieces_fit more e
  pieces_fit (width most n ∷ more) e =
      let b = not_false (leb 1 n.value && leb n.value most) (no_place (wrong_width most n) n.start (no_first (place_if (wrong_width most n) n.start) (faults_in widest more) e)) in (
        leb-true 1 n.value (both_first (leb 1 n.value) (leb n.value most) b),
        leb-true n.value most (both_second (leb 1 n.value) (leb n.value most) b),
        pieces_fit more (no_second (place_if (wrong_width most n) n.start) (faults_in widest more) e),
      )
  pieces_fit (formula f ∷ more) e = (
    calculations_fit f (no_first (calculation_faults widest f) (faults_in widest more) e),
    pieces_fit more (no_second (calculation_faults widest f) (faults_in widest more) e),
  )
  pieces_fit (binding x signed n placed ∷ more) e = pieces_fit more e

-- each rule, with its own variables
unfoldable pub RulesFit : List Rule → Type 0
RulesFit [] = Unit {0}
RulesFit (r ∷ more) = PiecesFit (widest_in (rule_pieces r)) (rule_pieces r) × RulesFit more

rules_fit : (rs : List Rule) → size_faults rs ≡ [] → RulesFit rs
unfolding RulesFit size_faults
rules_fit [] e = tt
rules_fit (r ∷ more) e = (
  pieces_fit (widest_in (rule_pieces r)) (rule_pieces r) (no_first (faults_in (widest_in (rule_pieces r)) (rule_pieces r)) (size_faults more) e),
  rules_fit more (no_second (faults_in (widest_in (rule_pieces r)) (rule_pieces r)) (size_faults more) e),
)

pub fits : (t : Rules) → refusal_8 t ≡ none → RulesFit (rules_of t)
fits t e = rules_fit (rules_of t) (no_least (size_faults (rules_of t)) e)

-- ---- 6

unfoldable pub UsesRight : (before : List Name) → List Name → Type 0
UsesRight before [] = Unit {0}
UsesRight before (x ∷ more) = (is_among before x ≡ true) × UsesRight before more

uses_right : (before xs : List Name) → variable_faults before xs ≡ [] → UsesRight before xs
unfolding UsesRight variable_faults
uses_right before [] e = tt
uses_right before (x ∷ more) e = (
  not_false (is_among before x) (neither_second (is_reserved x) (not (is_among before x)) (no_place (variable_fault before x) x.start (no_first (place_if (variable_fault before x) x.start) (variable_faults before more) e))),
  uses_right before more (no_second (place_if (variable_fault before x) x.start) (variable_faults before more) e),
)

module _ (rules variables : List Name) where
  unfoldable pub NamesRight : (before : List Name) → List Piece → Type 0
  NamesRight before [] = Unit {0}
  NamesRight before (use_of_rule x ∷ more) = (is_among rules x ≡ true) × (is_among variables x ≡ false) × NamesRight before more
  NamesRight before (width most n ∷ more) = NamesRight before more
  NamesRight before (formula f ∷ more) = UsesRight before (uses_in (terms_of f)) × NamesRight before more
  NamesRight before (binding x signed n placed ∷ more) = (is_among before x ≡ false) × (placed ≡ true) × NamesRight (x ∷ before) more

  names_right : (before : List Name) (ps : List Piece) → faults_after rules variables before ps ≡ [] → NamesRight before ps
  unfolding NamesRight faults_after
  names_right before [] e = tt
  names_right before (use_of_rule x ∷ more) e =
      let a = no_first (place_if (use_fault rules variables x) x.start) (faults_after rules variables before more) e in
      let b = no_second (place_if (use_fault rules variables x) x.start) (faults_after rules variables before more) e in
      let c = neither_second (is_reserved x) (not (is_among rules x) || is_among variables x) (no_place (use_fault rules variables x) x.start a) in
      (not_false (is_among rules x) (neither_first (not (is_among rules x)) (is_among variables x) c), neither_second (not (is_among rules x)) (is_among variables x) c, names_right before more b)
  names_right before (width most n ∷ more) e = names_right before more e
  names_right before (formula f ∷ more) e = (
    uses_right before (uses_in (terms_of f)) (no_first (variable_faults before (uses_in (terms_of f))) (faults_after rules variables before more) e),
    names_right before more (no_second (variable_faults before (uses_in (terms_of f))) (faults_after rules variables before more) e),
  )
  names_right before (binding x signed n placed ∷ more) e =
      let a = no_first (place_if (binder_fault before placed x) x.start) (faults_after rules variables (x ∷ before) more) e in
      let b = no_second (place_if (binder_fault before placed x) x.start) (faults_after rules variables (x ∷ before) more) e in
      let c = neither_second (is_reserved x) (is_among before x || not placed) (no_place (binder_fault before placed x) x.start a) in
      (neither_first (is_among before x) (not placed) c, not_false placed (neither_second (is_among before x) (not placed) c), names_right (x ∷ before) more b)

-- each rule, whose name no rule before it has
unfoldable pub RulesNamed : (rules earlier : List Name) → List Rule → Type 0
RulesNamed rules earlier [] = Unit {0}
RulesNamed rules earlier (r ∷ more) =
    (is_among earlier (rule_name r) ≡ false) × NamesRight rules (variables_of r) [] (rule_pieces r) × RulesNamed rules (rule_name r ∷ earlier) more

rules_named : (rules earlier : List Name) (rs : List Rule) → name_faults rules earlier rs ≡ [] → RulesNamed rules earlier rs
unfolding RulesNamed name_faults
rules_named rules earlier [] e = tt
rules_named rules earlier (r ∷ more) e =
    let here = place_if (rule_fault earlier (rule_name r)) (rule_name r).start in
    let inside = faults_after rules (variables_of r) [] (rule_pieces r) in
    let after = name_faults rules (rule_name r ∷ earlier) more in
    let b = no_second here (inside ++ after) e in (
      neither_second (is_reserved (rule_name r)) (is_among earlier (rule_name r)) (no_place (rule_fault earlier (rule_name r)) (rule_name r).start (no_first here (inside ++ after) e)),
      names_right rules (variables_of r) [] (rule_pieces r) (no_first inside after b),
      rules_named rules (rule_name r ∷ earlier) more (no_second inside after b),
    )

pub named : (t : Rules) → refusal_6 t ≡ none → RulesNamed (rule_names t) [] (rules_of t)
named t e = rules_named (rule_names t) [] (rules_of t) (no_least (name_faults (rule_names t) [] (rules_of t)) e)

-- ---- 5

-- none of these totals is past its limit
pub record Limited (rules constructs variables terms : ℕ) : Type 0 where
  pub rules_fit : rules ≤ 64
  pub constructs_fit : constructs ≤ 256
  pub variables_fit : variables ≤ 64
  pub terms_fit : terms ≤ 1024

limited_by : (n : Totals) → is_past n ≡ false → Limited n.rules n.all_constructs n.variables n.all_terms
limited_by n e =
    let a = neither_second (ltb 64 n.rules) (ltb 256 n.all_constructs || (ltb 64 n.variables || ltb 1024 n.all_terms)) e in
    let b = neither_second (ltb 256 n.all_constructs) (ltb 64 n.variables || ltb 1024 n.all_terms) a in
    record {
      rules_fit = ltb-false 64 n.rules (neither_first (ltb 64 n.rules) (ltb 256 n.all_constructs || (ltb 64 n.variables || ltb 1024 n.all_terms)) e);
      constructs_fit = ltb-false 256 n.all_constructs (neither_first (ltb 256 n.all_constructs) (ltb 64 n.variables || ltb 1024 n.all_terms) a);
      variables_fit = ltb-false 64 n.variables (neither_first (ltb 64 n.variables) (ltb 1024 n.all_terms) b);
      terms_fit = ltb-false 1024 n.all_terms (neither_second (ltb 64 n.variables) (ltb 1024 n.all_terms) b);
    }

-- the variables and terms of all rules
unfoldable pub all_variables : List Rule → ℕ
all_variables [] = 0
all_variables (r ∷ more) = length (variables_of r) + all_variables more

unfoldable pub all_terms_of : List Rule → ℕ
all_terms_of [] = 0
all_terms_of (r ∷ more) = terms (rule_pieces r) + all_terms_of more

limits : (n : Totals) (rs : List Rule) → Limited n.rules n.all_constructs n.variables n.all_terms → limit_faults n rs ≡ []
    → Limited (n.rules + length rs) (n.all_constructs + all_constructs rs) (n.variables + all_variables rs) (n.all_terms + all_terms_of rs)
unfolding limit_faults all_constructs all_variables all_terms_of
limits n [] h e =
    record { rules_fit = omega (arith, h.rules_fit); constructs_fit = omega (arith, h.constructs_fit); variables_fit = omega (arith, h.variables_fit); terms_fit = omega (arith, h.terms_fit) }
limits n (r ∷ more) h e =
    let m = with_rule n r in
    let a = limited_by m (no_place (is_past m) (rule_name r).start (no_first (place_if (is_past m) (rule_name r).start) (limit_faults m more) e)) in
    let b = limits m more a (no_second (place_if (is_past m) (rule_name r).start) (limit_faults m more) e) in
    record { rules_fit = omega (arith, b.rules_fit); constructs_fit = omega (arith, b.constructs_fit); variables_fit = omega (arith, b.variables_fit); terms_fit = omega (arith, b.terms_fit) }

pub limited : (t : Rules) → refusal_5 t ≡ none → Limited (length (rules_of t)) (all_constructs (rules_of t)) (all_variables (rules_of t)) (all_terms_of (rules_of t))
limited t e =
    let l = limits no_rule (rules_of t) (record { rules_fit = omega arith; constructs_fit = omega arith; variables_fit = omega arith; terms_fit = omega arith }) (no_least (limit_faults no_rule (rules_of t)) e) in
    record { rules_fit = omega (arith, l.rules_fit); constructs_fit = omega (arith, l.constructs_fit); variables_fit = omega (arith, l.variables_fit); terms_fit = omega (arith, l.terms_fit) }
