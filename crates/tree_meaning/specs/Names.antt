-- Refusal 6: "name unknown, double, reserved, misplaced or of the wrong kind", at "the name".
-- Assumes nothing.
use Rattle.std.specs.Prelude.{ℕ, Bool, false, not, ◌||◌, List, [], ◌∷◌, ◌++◌, map, eqb}
use Rattle.std.proofs.Math.Option.{Option}
use Rattle.text_tokens.specs.Names.{reserved_of, is_same}
use Rattle.tree.specs.Lexemes.{Name}
use Rattle.tree.specs.Tree.{Rule, Rules}
use Rattle.tree_meaning.specs.Pieces.{terms_of, uses_in, Piece, use_of_rule, width, formula, binding, rules_of, rule_name, rule_pieces, variables_of}
use Rattle.tree_meaning.specs.Places.{place_if, least}

-- "Reserved: …"
abbrev pub is_reserved : Name → Bool
is_reserved x = not (eqb (reserved_of x.letters) 0)

-- it is one of these names
unfoldable pub is_among : List Name → Name → Bool
is_among [] x = false
is_among (y ∷ more) x = is_same y.letters x.letters || is_among more x

-- ---- what is wrong with a name

-- a rule's name, after rules of these names: "double, reserved"
abbrev pub rule_fault : (earlier : List Name) → Name → Bool
rule_fault earlier x = is_reserved x || is_among earlier x

-- a rule's use: "unknown", "reserved", or "of the wrong kind": "In its rule a variable hides a rule of the same name"
abbrev pub use_fault : (rules variables : List Name) → Name → Bool
use_fault rules variables x = is_reserved x || (not (is_among rules x) || is_among variables x)

-- a variable's name in its binder, after the binders of these names in its rule: "double, reserved, misplaced"
abbrev pub binder_fault : (before : List Name) → (placed : Bool) → Name → Bool
binder_fault before placed x = is_reserved x || (is_among before x || not placed)

-- a variable's use: "unknown", "reserved"; "uses stand in later members" than a binder; one that is misplaced is at fault itself
abbrev pub variable_fault : (before : List Name) → Name → Bool
variable_fault before x = is_reserved x || not (is_among before x)

-- ---- where

-- the uses of variables, after the binders of these names
unfoldable pub variable_faults : (before : List Name) → List Name → List ℕ
variable_faults before [] = []
variable_faults before (x ∷ more) = place_if (variable_fault before x) x.start ++ variable_faults before more

-- what is at fault in a rule, of these rules and variables
module _ (rules variables : List Name) where
  unfoldable pub faults_after : (before : List Name) → List Piece → List ℕ
  faults_after before [] = []
  faults_after before (use_of_rule x ∷ more) = place_if (use_fault rules variables x) x.start ++ faults_after before more
  faults_after before (width most n ∷ more) = faults_after before more
  faults_after before (formula f ∷ more) = variable_faults before (uses_in (terms_of f)) ++ faults_after before more
  faults_after before (binding x signed n placed ∷ more) = place_if (binder_fault before placed x) x.start ++ faults_after (x ∷ before) more

-- in each of these rules, of all, after rules of these names
unfoldable pub name_faults : (rules earlier : List Name) → List Rule → List ℕ
name_faults rules earlier [] = []
name_faults rules earlier (r ∷ more) =
    place_if (rule_fault earlier (rule_name r)) (rule_name r).start ++ (faults_after rules (variables_of r) [] (rule_pieces r) ++ name_faults rules (rule_name r ∷ earlier) more)

-- the names of the rules
abbrev pub rule_names : Rules → List Name
rule_names t = map rule_name (rules_of t)

abbrev pub refusal_6 : Rules → Option ℕ
refusal_6 t = least (name_faults (rule_names t) [] (rules_of t))
