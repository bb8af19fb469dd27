-- Constructs are as many as are counted: those of a tree, of each rule and of all rules.
-- Assumes nothing.
use Prim.Native.Nat.{ℕ, suc, ◌+◌, ◌≤◌}
use mathlib.Core.Path.{◌≡◌, refl, ap, ap₂, ◌∙◌}
use mathlib.Core.Bool.{Bool, true, false}
use mathlib.Core.List.{List, [], ◌∷◌, ◌++◌}
use native.Mathlib.Omega.{arith}
use lib.ListN.{length, length-append}
use Rattle.tree.specs.Tree.{Part, Tree, literal, range, field, binder, rule_use, eod, group, switch, last_case, case_default, case_cases, once, repeated, last_member, and_members, last_branch, or_branches, Rule}
use Rattle.tree_meaning.specs.Pieces.{rule_body, variables_of}
use Rattle.tree_meaning.specs.Counted.{constructs, rule_constructs}
use Rattle.tree_meaning.specs.Grammar.{constructs_of, body_of, variable_of, rules_constructs}

-- every tree has one
pub some_construct : {p : Part} {d : ℕ} (begun : Bool) (x : Tree p d) → 1 ≤ constructs begun x
unfolding constructs
some_construct begun (literal l) = omega arith
some_construct begun (range a s b one one') = omega arith
some_construct begun (field signed depth u opens n comma x closes) = omega arith
some_construct begun (binder signed depth u opens n comma v opens' x comma' y closes closes') = omega arith
some_construct begun (rule_use x other) = omega arith
some_construct begun (eod s) = omega arith
some_construct begun (group depth opens x closes) = some_construct false x
some_construct begun (switch depth opens x closes) = omega arith
some_construct begun (last_case c colon x end) = some_construct false x
some_construct begun (case_default c colon x end colon' y end') = let h = some_construct false x in omega arith
some_construct begun (case_cases c colon x end more) = let h = some_construct false x in omega arith
some_construct begun (once x) = some_construct false x
some_construct begun (repeated x m) = omega arith
some_construct begun (last_member x) = some_construct false x
some_construct false (and_members x s more) = omega arith
some_construct true (and_members x s more) = let h = some_construct false x in omega arith
some_construct begun (last_branch x) = some_construct false x
some_construct false (or_branches x s more) = omega arith
some_construct true (or_branches x s more) = let h = some_construct false x in omega arith

module _ (body variable : List ℕ → ℕ) where
  -- two lists of constructs, one after the other
  two_trees : {p q : Part} {d e : ℕ} (a b : Bool) (i j : ℕ) (x : Tree p d) (y : Tree q e) → length (constructs_of body variable a i x) ≡ constructs a x
      → length (constructs_of body variable b j y) ≡ constructs b y
      → length (constructs_of body variable a i x ++ constructs_of body variable b j y) ≡ constructs a x + constructs b y
  two_trees a b i j x y p q = length-append (constructs_of body variable a i x) (constructs_of body variable b j y) ∙ ap₂ ◌+◌ p q

  pub as_counted : {p : Part} {d : ℕ} (begun : Bool) (i : ℕ) (x : Tree p d) → length (constructs_of body variable begun i x) ≡ constructs begun x
  unfolding constructs constructs_of
  as_counted begun i (literal l) = refl
  as_counted begun i (range a s b one one') = refl
  as_counted begun i (field signed depth u opens n comma x closes) = refl
  as_counted begun i (binder signed depth u opens n comma v opens' x comma' y closes closes') = refl
  as_counted begun i (rule_use x other) = refl
  as_counted begun i (eod s) = refl
  as_counted begun i (group depth opens x closes) = as_counted false i x
  as_counted begun i (switch depth opens x closes) = ap suc (as_counted false (suc i) x)
  as_counted begun i (last_case c colon x end) = as_counted false i x
  as_counted begun i (case_default c colon x end colon' y end') = two_trees false false i (i + constructs false x) x y (as_counted false i x) (as_counted false (i + constructs false x) y)
  as_counted begun i (case_cases c colon x end more) = two_trees false false i (i + constructs false x) x more (as_counted false i x) (as_counted false (i + constructs false x) more)
  as_counted begun i (once x) = as_counted false i x
  as_counted begun i (repeated x m) = ap suc (as_counted false (suc i) x)
  as_counted begun i (last_member x) = as_counted false i x
  as_counted false i (and_members x s more) = ap suc (two_trees false true (suc i) (suc i + constructs false x) x more (as_counted false (suc i) x) (as_counted true (suc i + constructs false x) more))
  as_counted true i (and_members x s more) = two_trees false true i (i + constructs false x) x more (as_counted false i x) (as_counted true (i + constructs false x) more)
  as_counted begun i (last_branch x) = as_counted false i x
  as_counted false i (or_branches x s more) = ap suc (two_trees false true (suc i) (suc i + constructs false x) x more (as_counted false (suc i) x) (as_counted true (suc i + constructs false x) more))
  as_counted true i (or_branches x s more) = two_trees false true i (i + constructs false x) x more (as_counted false i x) (as_counted true (i + constructs false x) more)

-- all rules
unfoldable pub all_constructs : List Rule → ℕ
all_constructs [] = 0
all_constructs (r ∷ more) = rule_constructs r + all_constructs more

pub rules_as_counted : (all : List Rule) (i b : ℕ) (rs : List Rule) → length (rules_constructs all i b rs) ≡ all_constructs rs
unfolding rules_constructs all_constructs
rules_as_counted all i b [] = refl
rules_as_counted all i b (r ∷ more) =
    length-append (constructs_of (body_of 0 all) (variable_of b (variables_of r)) false i (rule_body r)) (rules_constructs all (i + rule_constructs r) (b + length (variables_of r)) more)
    ∙ ap₂ ◌+◌ (as_counted (body_of 0 all) (variable_of b (variables_of r)) false i (rule_body r)) (rules_as_counted all (i + rule_constructs r) (b + length (variables_of r)) more)
