-- A property of every construct of a tree, from a property of every piece of it: one walk for all such laws.
-- Assumes nothing.
use Prim.Native.Nat.{ℕ, suc, ◌+◌, ◌≤◌}
use mathlib.Core.Bool.{Bool, true, false}
use mathlib.Core.List.{List, [], ◌∷◌, ◌++◌}
use mathlib.Core.Option.{Option}
use native.Mathlib.Omega.{arith}
use lib.ListN.{length, set}
use Rattle.basis.specs.Limits.{max_width}
use Rattle.theory.specs.Grammar.{alternative, concatenation as sequence, switch as choice-by, eod as frame_end}
use Rattle.tree.specs.Lexemes.{Name, Number}
use Rattle.tree.specs.Tree.{ValueSet, Mark, Part, Tree, literal, range, field, binder, rule_use, eod, group, switch, last_case, case_default, case_cases, once, repeated, last_member, and_members, last_branch, or_branches, Rule}
use Rattle.tree_meaning.specs.Pieces.{set_parts, Piece, use_of_rule, width, formula, binding, mark_pieces, pieces, rule_body, rule_pieces, variables_of}
use Rattle.tree_meaning.specs.Counted.{constructs, rule_constructs}
use Rattle.tree_meaning.specs.Grammar.{Context, Values, TreeNode, Construct, literal_node, range_node, use_node, uint_node, repetition_node, constructs_of, body_of, variable_of, rules_constructs}

module _ (S : Piece → Type 0) where
  -- every piece has it
  unfoldable pub AllPieces : List Piece → Type 0
  AllPieces [] = Unit {0}
  AllPieces (x ∷ more) = S x × AllPieces more

  pub pieces_first : (ps qs : List Piece) → AllPieces (ps ++ qs) → AllPieces ps
  unfolding AllPieces
  pieces_first [] qs h = tt
  pieces_first (x ∷ more) qs h = (h.0, pieces_first more qs h.1)

  pub pieces_second : (ps qs : List Piece) → AllPieces (ps ++ qs) → AllPieces qs
  unfolding AllPieces
  pieces_second [] qs h = h
  pieces_second (x ∷ more) qs h = pieces_second more qs h.1

module _ (R : TreeNode → Type 0) where
  -- every construct has it
  unfoldable pub AllNodes : List Construct → Type 0
  AllNodes [] = Unit {0}
  AllNodes (c ∷ more) = R c.node × AllNodes more

  pub nodes_both : (cs ds : List Construct) → AllNodes cs → AllNodes ds → AllNodes (cs ++ ds)
  unfolding AllNodes
  nodes_both [] ds p q = q
  nodes_both (c ∷ more) ds p q = (p.0, nodes_both more ds p.1 q)

-- what each kind of construct has, if its own pieces have S
pub record Follows (body variable : List ℕ → ℕ) (R : TreeNode → Type 0) (S : Piece → Type 0) : Type 0 where
  pub literals : (bytes : List ℕ) → R (literal_node bytes)
  pub ranges : (low high : ℕ) → R (range_node low high)
  pub fields : (d : ℕ) (signed : Bool) (n : Number) (x : ValueSet d) → S (width max_width n) → S (formula (set_parts x)) → R (uint_node variable signed n x (λ v k. v))
  pub binders : (d : ℕ) (signed : Bool) (most : ℕ) (n : Number) (x : Name) (y : ValueSet d) (placed : Bool) → most ≤ max_width → S (width most n) → S (formula (set_parts y)) → S (binding x signed n placed)
      → R (uint_node variable signed n y (λ v k. set v (variable x.letters) k))
  pub rule_uses : (x : Name) → S (use_of_rule x) → R (use_node (body x.letters))
  pub ends : R frame_end
  pub switches : (which : Context → Values → Option ℕ) (optional : Bool) (is : List ℕ) → R (choice-by which optional is)
  pub repetitions : (m : Mark) (i : ℕ) → AllPieces S (mark_pieces m) → R (repetition_node variable m i)
  pub concatenations : (is : List ℕ) → R (sequence is)
  pub alternatives : (is : List ℕ) → R (alternative is)

module _ (body variable : List ℕ → ℕ) (R : TreeNode → Type 0) (S : Piece → Type 0) (f : Follows body variable R S) where
  two : {p q : Part} {d e : ℕ} (a b : Bool) (i j : ℕ) (x : Tree p d) (y : Tree q e) → AllNodes R (constructs_of body variable a i x) → AllNodes R (constructs_of body variable b j y)
      → AllNodes R (constructs_of body variable a i x ++ constructs_of body variable b j y)
  two a b i j x y p q = nodes_both R (constructs_of body variable a i x) (constructs_of body variable b j y) p q

  pub every : {p : Part} {d : ℕ} (top begun : Bool) (i : ℕ) (x : Tree p d) → AllPieces S (pieces top x) → AllNodes R (constructs_of body variable begun i x)
  unfolding AllPieces AllNodes pieces constructs_of
  every top begun i (literal l) h = (f.literals l.characters, tt)
  every top begun i (range a s b one one') h = (f.ranges _ _, tt)
  every top begun i (field signed depth u opens n comma x closes) h = (f.fields _ signed n x h.0 h.1.0, tt)
  every top begun i (binder signed depth u opens n comma v opens' x comma' y closes closes') h = (f.binders _ signed _ n x y top (omega arith) h.0 h.1.0 h.1.1.0, tt)
  every top begun i (rule_use x other) h = (f.rule_uses x h.0, tt)
  every top begun i (eod s) h = (f.ends, tt)
  every top begun i (group depth opens x closes) h = every false false i x h
  every top begun i (switch depth opens x closes) h = (f.switches _ _ _, every false false (suc i) x h)
  every top begun i (last_case c colon x end) h = every false false i x h.1
  every top begun i (case_default c colon x end colon' y end') h =
      two false false i (i + constructs false x) x y (every false false i x (pieces_first S (pieces false x) (pieces false y) h.1)) (every false false (i + constructs false x) y (pieces_second S (pieces false x) (pieces false y) h.1))
  every top begun i (case_cases c colon x end more) h =
      two false false i (i + constructs false x) x more (every false false i x (pieces_first S (pieces false x) (pieces false more) h.1)) (every false false (i + constructs false x) more (pieces_second S (pieces false x) (pieces false more) h.1))
  every top begun i (once x) h = every top false i x h
  every top begun i (repeated x m) h = (f.repetitions m (suc i) (pieces_first S (mark_pieces m) (pieces false x) h), every false false (suc i) x (pieces_second S (mark_pieces m) (pieces false x) h))
  every top begun i (last_member x) h = every top false i x h
  every top false i (and_members x s more) h =
      (f.concatenations _, two false true (suc i) (suc i + constructs false x) x more (every top false (suc i) x (pieces_first S (pieces top x) (pieces top more) h)) (every top true (suc i + constructs false x) more (pieces_second S (pieces top x) (pieces top more) h)))
  every top true i (and_members x s more) h =
      two false true i (i + constructs false x) x more (every top false i x (pieces_first S (pieces top x) (pieces top more) h)) (every top true (i + constructs false x) more (pieces_second S (pieces top x) (pieces top more) h))
  every top begun i (last_branch x) h = every top false i x h
  every top false i (or_branches x s more) h =
      (f.alternatives _, two false true (suc i) (suc i + constructs false x) x more (every false false (suc i) x (pieces_first S (pieces false x) (pieces false more) h)) (every false true (suc i + constructs false x) more (pieces_second S (pieces false x) (pieces false more) h)))
  every top true i (or_branches x s more) h =
      two false true i (i + constructs false x) x more (every false false i x (pieces_first S (pieces false x) (pieces false more) h)) (every false true (i + constructs false x) more (pieces_second S (pieces false x) (pieces false more) h))

-- ---- rules, each with its own property of pieces

unfoldable pub AllRules : (S : ℕ → Rule → Piece → Type 0) → (b : ℕ) → List Rule → Type 0
AllRules S b [] = Unit {0}
AllRules S b (r ∷ more) = AllPieces (S b r) (rule_pieces r) × AllRules S (b + length (variables_of r)) more

pub every_rule : (all : List Rule) (R : TreeNode → Type 0) (S : ℕ → Rule → Piece → Type 0) → ((b : ℕ) (r : Rule) → Follows (body_of 0 all) (variable_of b (variables_of r)) R (S b r))
    → (i b : ℕ) (rs : List Rule) → AllRules S b rs → AllNodes R (rules_constructs all i b rs)
unfolding AllNodes AllRules rules_constructs
every_rule all R S f i b [] h = tt
every_rule all R S f i b (r ∷ more) h =
    nodes_both R (constructs_of (body_of 0 all) (variable_of b (variables_of r)) false i (rule_body r)) (rules_constructs all (i + rule_constructs r) (b + length (variables_of r)) more)
    (every (body_of 0 all) (variable_of b (variables_of r)) R (S b r) (f b r) true false i (rule_body r) h.0)
    (every_rule all R S f (i + rule_constructs r) (b + length (variables_of r)) more h.1)
