-- Numbers of rules and of variables: those of names that are known lie in range, and each variable of a rule has its own.
-- Assumes nothing.
use Prim.Native.Nat.{ℕ, suc, ◌+◌, ◌≤◌, ◌<◌}
use mathlib.Core.Path.{◌≡◌, sym, ◌∙◌}
use mathlib.Core.Logic.{⊎_elim}
use mathlib.Core.Bool.{true, false}
use mathlib.Core.List.{List, [], ◌∷◌, map}
use native.Mathlib.Omega.{arith}
use lib.ListN.{length}
use Rattle.basis.proofs.Booleans.{which, picked}
use Rattle.text_header.proofs.Runs.{word_equal}
use Rattle.text_tokens.specs.Names.{is_same}
use Rattle.tree.specs.Lexemes.{Name}
use Rattle.tree.specs.Tree.{Rule}
use Rattle.tree_meaning.specs.Pieces.{rule_name, rule_body}
use Rattle.tree_meaning.specs.Counted.{rule_constructs}
use Rattle.tree_meaning.specs.Names.{is_among}
use Rattle.tree_meaning.specs.Grammar.{body_of, variable_of}
use Rattle.tree_meaning.proofs.Lengths.{some_construct, all_constructs}

-- ---- a test in a list of names

pub among_later : (y : Name) (more : List Name) (x : Name) → is_same y.letters x.letters ≡ false → is_among (y ∷ more) x ≡ true → is_among more x ≡ true
unfolding is_among
among_later y more x e h = sym (rw e) ∙ h

-- ---- rules

pub body_in_range : (i : ℕ) (rs : List Rule) (x : Name) → is_among (map rule_name rs) x ≡ true → (i ≤ body_of i rs x.letters) × (body_of i rs x.letters < i + all_constructs rs)
unfolding is_among body_of all_constructs
body_in_range i [] x h = let z : ◌≡◌ {A = ℕ} 0 1 = cc in absurd (omega arith)
body_in_range i (r ∷ more) x h =
    picked (λ (n : ℕ). (i ≤ n) × (n < i + (rule_constructs r + all_constructs more))) (is_same (rule_name r).letters x.letters)
    (λ e. let k = some_construct false (rule_body r) in (omega arith, omega arith))
    (λ e. let k = body_in_range (i + rule_constructs r) more x (among_later (rule_name r) (map rule_name more) x e h) in (omega (arith, k.0), omega (arith, k.1)))

-- ---- variables

pub variable_from : (b : ℕ) (names : List Name) (x : List ℕ) → b ≤ variable_of b names x
unfolding variable_of
variable_from b [] x = omega arith
variable_from b (y ∷ more) x = picked (λ (n : ℕ). b ≤ n) (is_same y.letters x) (λ e. omega arith) (λ e. let k = variable_from (suc b) more x in omega arith)

pub variable_under : (b : ℕ) (names : List Name) (x : Name) → is_among names x ≡ true → variable_of b names x.letters < b + length names
unfolding is_among variable_of
variable_under b [] x h = let z : ◌≡◌ {A = ℕ} 0 1 = cc in absurd (omega arith)
variable_under b (y ∷ more) x h =
    picked (λ (n : ℕ). n < b + suc (length more)) (is_same y.letters x.letters) (λ e. omega arith)
    (λ e. let k = variable_under (suc b) more x (among_later y more x e h) in omega arith)

module _ (b : ℕ) (y : Name) (more : List Name) (x : List ℕ) where
  pub variable_here : is_same y.letters x ≡ true → variable_of b (y ∷ more) x ≡ b
  unfolding variable_of
  variable_here e = rw e

  pub variable_later : is_same y.letters x ≡ false → variable_of b (y ∷ more) x ≡ variable_of (suc b) more x
  unfolding variable_of
  variable_later e = rw e

-- one number, one name
pub one_name : (b : ℕ) (names : List Name) (x y : Name) → is_among names x ≡ true → is_among names y ≡ true → variable_of b names x.letters ≡ variable_of b names y.letters
    → x.letters ≡ y.letters
unfolding is_among
one_name b [] x y h k e = let z : ◌≡◌ {A = ℕ} 0 1 = cc in absurd (omega arith)
one_name b (z ∷ more) x y h k e =
    ⊎_elim
    (λ p. ⊎_elim (λ q. sym (word_equal z.letters x.letters p) ∙ word_equal z.letters y.letters q)
    (λ q. absurd (omega (arith, e, variable_here b z more x.letters p, variable_later b z more y.letters q, variable_from (suc b) more y.letters)))
    (which (is_same z.letters y.letters)))
    (λ p. ⊎_elim (λ q. absurd (omega (arith, e, variable_later b z more x.letters p, variable_here b z more y.letters q, variable_from (suc b) more x.letters)))
    (λ q. one_name (suc b) more x y (among_later z more x p h) (among_later z more y q k) (sym (variable_later b z more x.letters p) ∙ e ∙ variable_later b z more y.letters q))
    (which (is_same z.letters y.letters)))
    (which (is_same z.letters x.letters))
