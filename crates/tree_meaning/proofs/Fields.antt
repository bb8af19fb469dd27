-- Where 6 is not given, every rule that is used has its body among the constructs of the text; where 8 is not, a uint or sint has 1 to 64 bits. A literal has 8 bits a
-- character.
-- Assumes nothing.
use Prim.Native.Nat.{ℕ, ◌+◌, ◌*◌, ◌≤◌, ◌<◌}
use mathlib.Core.Path.{◌≡◌, refl}
use mathlib.Core.Logic.{◌⊎◌, inl, inr}
use mathlib.Core.List.{List, [], ◌∷◌, map}
use mathlib.Core.Option.{none}
use native.Mathlib.Omega.{arith}
use lib.ListN.{length}
use Rattle.basis.specs.Limits.{max_width}
use Rattle.basis.specs.Bits.{Bits}
use Rattle.theory.specs.Grammar.{alternative, concatenation as sequence, repetition, switch as choice-by, use_of, field as bits_of, eod as frame_end}
use Rattle.tree.specs.Lexemes.{Name}
use Rattle.tree.specs.Tree.{Rule, Rules}
use Rattle.tree_meaning.specs.Pieces.{Piece, use_of_rule, width, formula, binding, rules_of, rule_name, rule_pieces, variables_of}
use Rattle.tree_meaning.specs.Names.{refusal_6}
use Rattle.tree_meaning.specs.Sizes.{widest_in, refusal_8}
use Rattle.tree_meaning.specs.Grammar.{TreeNode, body_of, variable_of, tree_constructs}
use Rattle.tree_meaning.proofs.Lengths.{all_constructs}
use Rattle.tree_meaning.proofs.Numbers.{body_in_range}
use Rattle.tree_meaning.proofs.Passing.{PiecesFit, RulesFit, fits, NamesRight, RulesNamed, named}
use Rattle.tree_meaning.proofs.Every.{AllPieces, AllNodes, Follows, AllRules, every_rule}

-- ---- rules that are used

-- the body that a construct opens is below `end`
abbrev pub Opens : (end : ℕ) → TreeNode → Type 0
Opens end (alternative is) = Unit {0}
Opens end (sequence is) = Unit {0}
Opens end (repetition counts static fixed body) = Unit {0}
Opens end (choice-by which optional is) = Unit {0}
Opens end (use_of enters opens closes body) = body < end
Opens end (bits_of wide admits static binds) = Unit {0}
Opens end frame_end = Unit {0}

abbrev UseBelow : (end : ℕ) → (body : List ℕ → ℕ) → Piece → Type 0
UseBelow end body (use_of_rule x) = body x.letters < end
UseBelow end body (width most n) = Unit {0}
UseBelow end body (formula f) = Unit {0}
UseBelow end body (binding x signed n placed) = Unit {0}

opening_below : (end : ℕ) (body variable : List ℕ → ℕ) → Follows body variable (Opens end) (UseBelow end body)
opening_below end body variable =
    record {
      literals = λ bytes. tt;
      ranges = λ low high. tt;
      fields = λ d signed n x a b. tt;
      binders = λ d signed most n x y placed fits a b c. tt;
      rule_uses = λ x a. a;
      ends = tt;
      switches = λ which optional is. tt;
      repetitions = λ m i a. tt;
      concatenations = λ is. tt;
      alternatives = λ is. tt;
    }

module _ (all : List Rule) where
  uses_below : (variables before : List Name) (ps : List Piece) → NamesRight (map rule_name all) variables before ps → AllPieces (UseBelow (all_constructs all) (body_of 0 all)) ps
  unfolding NamesRight AllPieces
  uses_below variables before [] h = tt
  uses_below variables before (use_of_rule x ∷ more) h = (let k = body_in_range 0 all x h.0 in omega (arith, k.1), uses_below variables before more h.2)
  uses_below variables before (width most n ∷ more) h = (tt, uses_below variables before more h)
  uses_below variables before (formula f ∷ more) h = (tt, uses_below variables before more h.1)
  uses_below variables before (binding x signed n placed ∷ more) h = (tt, uses_below variables (x ∷ before) more h.2)

  rules_below : (earlier : List Name) (b : ℕ) (rs : List Rule) → RulesNamed (map rule_name all) earlier rs → AllRules (λ b r. UseBelow (all_constructs all) (body_of 0 all)) b rs
  unfolding RulesNamed AllRules
  rules_below earlier b [] h = tt
  rules_below earlier b (r ∷ more) h = (uses_below (variables_of r) [] (rule_pieces r) h.1, rules_below (rule_name r ∷ earlier) (b + length (variables_of r)) more h.2)

pub bodies_in_range : (t : Rules) → refusal_6 t ≡ none → AllNodes (Opens (all_constructs (rules_of t))) (tree_constructs t)
bodies_in_range t e =
    let all = rules_of t in
    every_rule all (Opens (all_constructs all)) (λ b r. UseBelow (all_constructs all) (body_of 0 all)) (λ b r. opening_below (all_constructs all) (body_of 0 all) (variable_of b (variables_of r))) 0 0 all
    (rules_below all [] 0 all (named t e))

-- ---- widths

-- 1 to 64 bits, or 8 for each character; whatever comes next
pub record Wide (wide : Bits → ℕ) : Type 0 where
  pub bits : ℕ
  pub always : (s : Bits) → wide s ≡ bits
  pub right : ((1 ≤ bits) × (bits ≤ max_width)) ⊎ ((k : ℕ) × (bits ≡ 8 * k))

abbrev pub WideNode : TreeNode → Type 0
WideNode (alternative is) = Unit {0}
WideNode (sequence is) = Unit {0}
WideNode (repetition counts static fixed body) = Unit {0}
WideNode (choice-by which optional is) = Unit {0}
WideNode (use_of enters opens closes body) = Unit {0}
WideNode (bits_of wide admits static binds) = Wide wide
WideNode frame_end = Unit {0}

abbrev WidePiece : Piece → Type 0
WidePiece (use_of_rule x) = Unit {0}
WidePiece (width most n) = (1 ≤ n.value) × (n.value ≤ most)
WidePiece (formula f) = Unit {0}
WidePiece (binding x signed n placed) = Unit {0}

widths_follow : (body variable : List ℕ → ℕ) → Follows body variable WideNode WidePiece
widths_follow body variable =
    record {
      literals = λ bytes. record { bits = 8 * length bytes; always = λ s. refl; right = inr (length bytes, refl) };
      ranges = λ low high. record { bits = 8; always = λ s. refl; right = inl (omega arith, omega arith) };
      fields = λ d signed n x a b. record { bits = n.value; always = λ s. refl; right = inl a };
      binders = λ d signed most n x y placed fits a b c. record { bits = n.value; always = λ s. refl; right = inl (a.0, omega (arith, a.1, fits)) };
      rule_uses = λ x a. tt;
      ends = tt;
      switches = λ which optional is. tt;
      repetitions = λ m i a. tt;
      concatenations = λ is. tt;
      alternatives = λ is. tt;
    }

widths_right : (widest : List ℕ → ℕ) (ps : List Piece) → PiecesFit widest ps → AllPieces WidePiece ps
unfolding PiecesFit AllPieces
widths_right widest [] h = tt
widths_right widest (use_of_rule x ∷ more) h = (tt, widths_right widest more h)
widths_right widest (width most n ∷ more) h = ((h.0, h.1), widths_right widest more h.2)
widths_right widest (formula f ∷ more) h = (tt, widths_right widest more h.1)
widths_right widest (binding x signed n placed ∷ more) h = (tt, widths_right widest more h)

rules_wide : (b : ℕ) (rs : List Rule) → RulesFit rs → AllRules (λ b r. WidePiece) b rs
unfolding RulesFit AllRules
rules_wide b [] h = tt
rules_wide b (r ∷ more) h = (widths_right (widest_in (rule_pieces r)) (rule_pieces r) h.0, rules_wide (b + length (variables_of r)) more h.1)

pub field_widths : (t : Rules) → refusal_8 t ≡ none → AllNodes WideNode (tree_constructs t)
field_widths t e =
    every_rule (rules_of t) WideNode (λ b r. WidePiece) (λ b r. widths_follow (body_of 0 (rules_of t)) (variable_of b (variables_of r))) 0 0 (rules_of t) (rules_wide 0 (rules_of t) (fits t e))
