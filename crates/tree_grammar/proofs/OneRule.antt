-- A rule of a text: every node that is stored of it means what the tree's construct of its number means.
-- Assumes nothing.
use Prim.Native.Nat.{ℕ, ◌+◌, ◌≤◌}
use mathlib.Core.Path.{◌≡◌, refl, ap, ◌∙◌}
use mathlib.Core.Bool.{true, false}
use mathlib.Core.List.{List, []}
use native.Mathlib.Omega.{arith}
use lib.ListN.{length}
use Rattle.text_store.specs.Words.{first_node, last_node}
use Rattle.text_encoding.specs.Numbers.{binders_before, variable_of}
use Rattle.tree.specs.Lexemes.{Lexeme}
use Rattle.tree.specs.Tree.{Rule, Rules}
use Rattle.tree.specs.Spelling.{spell}
use Rattle.tree_meaning.specs.Pieces.{rules_of as rules_in, rule_body, rule_pieces, variables_of}
use Rattle.tree_meaning.specs.Counted.{rule_constructs}
use Rattle.tree_meaning.specs.Names.{rule_names}
use Rattle.tree_meaning.specs.Sizes.{widest_in}
use Rattle.tree_meaning.specs.Grammar.{Values, constructs_of, body_of, variable_of as number-among}
use Rattle.tree_meaning.proofs.Every.{AllPieces}
use Rattle.tree_meaning.proofs.Passing.{NamesRight, PiecesFit}
use Rattle.tree_meaning.proofs.Inside.{Held}
use Rattle.tree_meaning.proofs.Binding.{all_own}
use Rattle.tree_meaning.proofs.Numbers.{variable_under}
use Rattle.tree_meaning.proofs.Keeping.{BindingKeeps}
use Rattle.tree_store.proofs.Rows.{node_rows, term_rows}
use Rattle.tree_store.proofs.Lengths.{nodes_counted}
use Rattle.tree_store.proofs.Standing.{Standing, SpelledBy}
use Rattle.tree_store.proofs.Binding.{before_none}
use Rattle.tree_store.proofs.Steps.{in_step}
use Rattle.tree_store.proofs.Rowed.{NodesAt, Rowed}
use Rattle.tree_numbers.proofs.Rules.{At}
use Rattle.tree_numbers.proofs.Owners.{owner}
use Rattle.tree_numbers.proofs.Bodies.{body_number}
use Rattle.tree_numbers.proofs.Variables.{variable_number, binder_number}
use Rattle.tree_grammar.proofs.Lists.{RowsAt}
use Rattle.tree_grammar.proofs.Widths.{sizes_for, sizes_many, sizes_inside, sizes_wide}
use Rattle.tree_grammar.proofs.Formulas.{Measured, InRule}
use Rattle.tree_grammar.proofs.Firsts.{whole_first}
use Rattle.tree_grammar.proofs.Walk.{AllMeant, walk}
use Rattle.tree_grammar.proofs.Pieces.{pieces_right}

-- rule k of a text: its first node is a, its first term t, its first variable b
pub record RuleOf (P : Values → Type 0) (all : Rules) (xs ns ts ws : List ℕ) (k a t b : ℕ) (x : Rule) : Type 0 where
  pub there : At (rules_in all) k x
  pub first_is : first_node ws k ≡ a
  pub last_is : last_node ws k ≡ a + rule_constructs x
  pub nodes_are : NodesAt ns a (node_rows false (rule_body x) t)
  pub terms_are : RowsAt ts t (term_rows (rule_body x))
  pub place : ℕ
  pub rest : List Lexeme
  pub stands : Standing xs place (spell (rule_body x) rest)
  pub bound_before : binders_before ns a ≡ b
  pub few : b + length (variables_of x) ≤ 64
  pub named : NamesRight (rule_names all) (variables_of x) [] (rule_pieces x)
  pub fits : PiecesFit (widest_in (rule_pieces x)) (rule_pieces x)
  pub keeps : AllPieces (BindingKeeps P (number-among b (variables_of x))) (rule_pieces x)
  pub held : (v : Values) → P v → Held (number-among b (variables_of x)) v (rule_pieces x)
  pub many : (v : Values) → P v → length v ≡ 64

module _ {P : Values → Type 0} {all : Rules} {xs ns ts ws : List ℕ} {r k a t b : ℕ} {x : Rule} (spelled : SpelledBy xs all) (rowed : Rowed all ns ts ws r) (h : RuleOf P all xs ns ts ws k a t b x) where
  abbrev numbered : List ℕ → ℕ
  numbered = number-among b (variables_of x)

  measured : (v : Values) → P v → Measured numbered (widest_in (rule_pieces x)) (variables_of x) v
  measured v p =
      record {
        sizes = sizes_for numbered v (rule_pieces x);
        inside = sizes_inside numbered v (rule_pieces x) (h.held v p);
        wide = λ y e. sizes_wide b (rule_pieces x) v (rule_pieces x) (all_own (rule_names all) (variables_of x) (rule_pieces x) h.named) y e e (omega (arith, variable_under b (variables_of x) y e, h.few, h.many v p));
        known = λ y e. omega (arith, variable_under b (variables_of x) y e, h.few, h.many v p, sizes_many numbered v (rule_pieces x));
      }

  in_rule : InRule P xs ns ws r (body_of 0 (rules_in all)) numbered (widest_in (rule_pieces x)) (rule_names all) (variables_of x) a (a + rule_constructs x)
  in_rule =
      let step = in_step false true (rule_body x) t h.rest h.stands
      in record {
        bodies = λ y g e. body_number spelled rowed y g e;
        variables = λ i y g l m e.
            ap (λ (f : ℕ). variable_of xs ns f i y.start) (owner rowed i h.there (omega (arith, h.first_is)) (omega (arith, h.last_is)) ∙ h.first_is)
            ∙ variable_number b i y step h.nodes_are g h.bound_before (omega (arith, nodes_counted false (rule_body x) t)) e;
        binders = λ i y g l m e f. binder_number b i y step h.nodes_are g h.bound_before l (omega (arith, nodes_counted false (rule_body x) t)) e f;
        measured = measured;
      }

  pub rule_meant : AllMeant P xs ns ts ws r a (constructs_of (body_of 0 (rules_in all)) numbered false a (rule_body x))
  rule_meant =
      walk in_rule ts true false (rule_body x) a t [] h.rest (whole_first (node_rows false (rule_body x) t) h.nodes_are) h.terms_are h.stands before_none (omega arith)
      (pieces_right P numbered (widest_in (rule_pieces x)) (rule_names all) (variables_of x) (variables_of x) (rule_pieces x) refl h.named h.fits h.keeps)
