-- Which rules reach which: refusal 7, "rule reaches itself", at the "first such rule", and refusal 12 (Req 06), "a rule not reached from the start rule, at the first
-- such name". Every written use counts.
-- Assumes nothing.
use Rattle.std.specs.Prelude.{ℕ, ◌≤◌, ◌≡◌, ◌⊎◌}
use mathlib.Core.List.{List, [], ◌∷◌, Memᴰ}
use Rattle.tree.specs.Tree.{Rule, Rules, last_rule, and_rules}
use Rattle.tree_meaning.specs.Pieces.{Piece, use_of_rule, width, formula, binding, rules_of, rule_name, rule_pieces}

-- the names of rules that are used, each by its letters
unfoldable pub used_in : List Piece → List (List ℕ)
used_in [] = []
used_in (use_of_rule x ∷ more) = x.letters ∷ used_in more
used_in (width most n ∷ more) = used_in more
used_in (formula f ∷ more) = used_in more
used_in (binding x signed n placed ∷ more) = used_in more

-- a rule of the one name has a use of the other
pub record Uses (t : Rules) (x y : List ℕ) : Type 0 where
  pub by : Rule
  pub there : Memᴰ by (rules_of t)
  pub named : (rule_name by).letters ≡ x
  pub used : Memᴰ y (used_in (rule_pieces by))

-- it uses it, or a rule that reaches it
pub data Reaches (t : Rules) : List ℕ → List ℕ → Type 0 where
  directly : {x y : List ℕ} → Uses t x y → Reaches t x y
  through : {x y z : List ℕ} → Uses t x y → Reaches t y z → Reaches t x z

-- a rule with its name at p reaches itself
pub record RecursiveAt (t : Rules) (p : ℕ) : Type 0 where
  pub itself : Rule
  pub there : Memᴰ itself (rules_of t)
  pub place : (rule_name itself).start ≡ p
  pub reaches : Reaches t (rule_name itself).letters (rule_name itself).letters

-- the first that does
pub record Refusal7 (t : Rules) (p : ℕ) : Type 0 where
  pub recursive : RecursiveAt t p
  pub first : (q : ℕ) → RecursiveAt t q → p ≤ q

-- none does
abbrev pub Acyclic : Rules → Type 0
Acyclic t = (p : ℕ) → RecursiveAt t p → ⊥

-- "The first is the start rule."
abbrev pub start_rule : Rules → Rule
start_rule (last_rule r) = r
start_rule (and_rules r more) = r

-- the start rule's name, or that of a rule that it reaches
abbrev pub Reached : Rules → List ℕ → Type 0
Reached t x = (x ≡ (rule_name (start_rule t)).letters) ⊎ Reaches t (rule_name (start_rule t)).letters x

-- a rule with its name at p is not reached
pub record UnreachedAt (t : Rules) (p : ℕ) : Type 0 where
  pub unused : Rule
  pub there : Memᴰ unused (rules_of t)
  pub place : (rule_name unused).start ≡ p
  pub unreached : Reached t (rule_name unused).letters → ⊥

-- the first that is not
pub record Refusal12 (t : Rules) (p : ℕ) : Type 0 where
  pub unreached : UnreachedAt t p
  pub first : (q : ℕ) → UnreachedAt t q → p ≤ q
