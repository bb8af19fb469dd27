-- Refusal 8: "number or width outside its limits, or a calculation, or part of one, whose size may pass 2^62 (variables at their widest, sizes added and
-- multiplied)", at the "number or calculation". Written numbers go to 2^62 too (Req 10), so a number past it is a part of a calculation that passes.
-- Assumes nothing.
use Rattle.std.specs.Prelude.{ℕ, ◌+◌, ◌*◌, ◌^◌, max, Bool, cond, not, ◌&&◌, List, [], ◌∷◌, ◌++◌, leb, ltb}
use Rattle.std.proofs.Math.Option.{Option}
use Rattle.basis.specs.Patterns.{greatest_size}
use Rattle.text_tokens.specs.Names.{is_same}
use Rattle.tree.specs.Lexemes.{Number}
use Rattle.tree.specs.Tree.{Primary, number, variable, Operand, plain, opposite, Factors, no_factor, times, Product, product, Summands, no_summand, plus, minus, Calculation, sum, Rule, Rules}
use Rattle.tree.specs.Spelling.{spell_calculation}
use Rattle.tree_meaning.specs.Pieces.{Component, whole_number, joined_by, Piece, use_of_rule, width, formula, binding, rules_of, rule_pieces}
use Rattle.tree_meaning.specs.Places.{first_byte, place_if, least}

-- ---- sizes, with the size of each variable by its letters; a minus changes none

module _ (widest : List ℕ → ℕ) where
  abbrev pub primary_size : Primary → ℕ
  primary_size (number n) = n.value
  primary_size (variable x) = widest x.letters

  abbrev pub operand_size : Operand → ℕ
  operand_size (plain x) = primary_size x
  operand_size (opposite s x) = primary_size x

  -- "sizes added and multiplied": n times the factors that follow it
  unfoldable pub times_size : ℕ → Factors → ℕ
  times_size n no_factor = n
  times_size n (times s x more) = times_size (n * operand_size x) more

  abbrev pub product_size : Product → ℕ
  product_size (product x more) = times_size (operand_size x) more

  -- n and the products that are added to it or taken from it
  unfoldable pub sum_size : ℕ → Summands → ℕ
  sum_size n no_summand = n
  sum_size n (plus s x more) = sum_size (n + product_size x) more
  sum_size n (minus s x more) = sum_size (n + product_size x) more

  abbrev pub calculation_size : Calculation → ℕ
  calculation_size (sum x more) = sum_size (product_size x) more

  -- ---- "or part of one": the largest of its size and those of its parts, from the left

  unfoldable pub times_largest : ℕ → Factors → ℕ
  times_largest n no_factor = n
  times_largest n (times s x more) = max n (max (operand_size x) (times_largest (n * operand_size x) more))

  abbrev pub product_largest : Product → ℕ
  product_largest (product x more) = times_largest (operand_size x) more

  unfoldable pub sum_largest : ℕ → Summands → ℕ
  sum_largest n no_summand = n
  sum_largest n (plus s x more) = max n (max (product_largest x) (sum_largest (n + product_size x) more))
  sum_largest n (minus s x more) = max n (max (product_largest x) (sum_largest (n + product_size x) more))

  abbrev pub calculation_largest : Calculation → ℕ
  calculation_largest (sum x more) = max (product_largest x) (sum_largest (product_size x) more)

-- ---- what is outside its limits

-- "width a number from 1" to the most that it may be
abbrev pub wrong_width : ℕ → Number → Bool
wrong_width most n = not (leb 1 n.value && leb n.value most)

-- "variables at their widest": 2^width - 1, of a signed one 2^(width - 1), of the variable's binder
unfoldable pub widest_in : List Piece → List ℕ → ℕ
widest_in [] x = 0
widest_in (use_of_rule y ∷ more) x = widest_in more x
widest_in (width most n ∷ more) x = widest_in more x
widest_in (formula f ∷ more) x = widest_in more x
widest_in (binding y signed n placed ∷ more) x = cond (is_same y.letters x) (greatest_size signed n.value) (widest_in more x)

module _ (widest : List ℕ → ℕ) where
  -- "a calculation, or part of one, whose size may pass 2^62"
  abbrev pub too_large : Calculation → Bool
  too_large c = ltb (2 ^ 62) (calculation_largest widest c)

  -- such calculations, each at its first byte
  unfoldable pub calculation_faults : List Component → List ℕ
  calculation_faults [] = []
  calculation_faults (whole_number c ∷ more) = place_if (too_large c) (first_byte (spell_calculation c [])) ++ calculation_faults more
  calculation_faults (joined_by s ∷ more) = calculation_faults more

  unfoldable pub faults_in : List Piece → List ℕ
  faults_in [] = []
  faults_in (use_of_rule x ∷ more) = faults_in more
  faults_in (width most n ∷ more) = place_if (wrong_width most n) n.start ++ faults_in more
  faults_in (formula f ∷ more) = calculation_faults f ++ faults_in more
  faults_in (binding x signed n placed ∷ more) = faults_in more

-- in each rule, with its own variables
unfoldable pub size_faults : List Rule → List ℕ
size_faults [] = []
size_faults (r ∷ more) = faults_in (widest_in (rule_pieces r)) (rule_pieces r) ++ size_faults more

abbrev pub refusal_8 : Rules → Option ℕ
refusal_8 t = least (size_faults (rules_of t))
