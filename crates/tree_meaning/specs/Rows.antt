-- Document 01's table "Numbers of refusal", rows 5 to 11, and 12 and 13 of Req 06, each a sentence about a tree: when it is given, and its place, which counts from
-- where the rules begin. Rows are tried in order: 7 is meant of a tree that passes 5 and 6, 8 to 13 of one that passes 5 to 7 (an unknown name has no meaning).
-- Assumes nothing.
use Rattle.std.specs.Prelude.{ℕ, ◌≤◌, ◌<◌, ◌≡◌}
use Rattle.std.proofs.Math.Option.{some}
use Rattle.basis.specs.Limits.{max_weight}
use Rattle.basis.specs.Bits.{Bits}
use Rattle.theory.specs.Lookahead.{Conflict, EmptyBody}
use Rattle.theory.specs.Weight.{Weighs}
use Rattle.tree.specs.Tree.{Rules}
use Rattle.tree_meaning.specs.Pieces.{rule_name}
use Rattle.tree_meaning.specs.Counted.{refusal_5}
use Rattle.tree_meaning.specs.Names.{refusal_6}
use Rattle.tree_meaning.specs.Reaching.{start_rule, Refusal7, Refusal12}
use Rattle.tree_meaning.specs.Sizes.{refusal_8}
use Rattle.tree_meaning.specs.Grammar.{Context, first_context, construct_numbered, opening, tree_grammar, NoValue}

-- construct i is a uint whose set has no variable and no value left
abbrev pub IsEmpty : Rules → ℕ → Type 0
IsEmpty t i = NoValue (construct_numbered t i).uint

-- construct i has a clash, whichever its window is
abbrev pub HasConflict : Rules → ℕ → Type 0
HasConflict t i = (x : Bits) × Conflict (tree_grammar t) i x

module _ (t : Rules) (p : ℕ) where
  -- "a number of the Limits line passed", at "the rule in which it first is"
  abbrev pub PastLimit : Type 0
  PastLimit = refusal_5 t ≡ some p

  -- "name unknown, double, reserved, misplaced or of the wrong kind", at "the name"
  abbrev pub WrongName : Type 0
  WrongName = refusal_6 t ≡ some p

  -- "rule reaches itself", at the "first such rule"
  abbrev pub Recursive : Type 0
  Recursive = Refusal7 t p

  -- "number or width outside its limits, or a calculation, or part of one, whose size may pass 2^62", at the "number or calculation"
  abbrev pub TooLarge : Type 0
  TooLarge = refusal_8 t ≡ some p

  -- "repeated body has the empty first window", at "the repetition mark"
  abbrev pub EmptyBodies : Type 0
  EmptyBodies = (i : ℕ) × EmptyBody (tree_grammar t) i × (p ≡ (construct_numbered t i).mark) × ((j : ℕ) → EmptyBody (tree_grammar t) j → p ≤ (construct_numbered t j).mark)

  -- "clash", at "the construct": the first, as they are numbered "the outer before the inner"
  abbrev pub Clashes : Type 0
  Clashes = (i : ℕ) × HasConflict t i × ((j : ℕ) → j < i → HasConflict t j → ⊥) × (p ≡ (construct_numbered t i).place)

  -- "weight over 65,535", at the "start rule"
  abbrev pub TooHeavy : Type 0
  TooHeavy = (w : Context → ℕ → ℕ) × Weighs (tree_grammar t) w × (max_weight < w first_context opening) × (p ≡ (rule_name (start_rule t)).start)

  -- "a rule not reached from the start rule, at the first such name" (Req 06)
  abbrev pub Unreached : Type 0
  Unreached = Refusal12 t p

  -- "a uint whose set has no variable and no value left, at the uint" (Req 06): the first
  abbrev pub NoValues : Type 0
  NoValues = (i : ℕ) × IsEmpty t i × ((j : ℕ) → j < i → IsEmpty t j → ⊥) × (p ≡ (construct_numbered t i).place)
