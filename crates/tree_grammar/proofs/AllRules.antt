-- All rules of a text, one after the other.
-- Assumes nothing.
use Prim.Native.Nat.{ℕ, suc, ◌+◌, ◌≤◌}
use mathlib.Core.Path.{◌≡◌, sym, ap, ◌∙◌, subst}
use mathlib.Core.Bool.{true, false}
use mathlib.Core.List.{List, [], ◌∷◌, ◌++◌}
use native.Mathlib.Omega.{arith}
use lib.ListN.{length}
use Rattle.text_tokens.specs.declared.Kind.{Kind}
use Rattle.text_encoding.specs.Numbers.{binders_before}
use Rattle.tree.specs.Lexemes.{Name, Lexeme, sign}
use Rattle.tree.specs.Tree.{Rule, rule, Rules, last_rule, and_rules}
use Rattle.tree.specs.Spelling.{spell_rules}
use Rattle.tree_meaning.specs.Pieces.{rules_of as rules_in, rule_body, variables_of}
use Rattle.tree_meaning.specs.Counted.{Totals, with_rule, rule_constructs}
use Rattle.tree_meaning.specs.Names.{rule_names}
use Rattle.tree_meaning.specs.Grammar.{Values, constructs_of, body_of, variable_of as number-among, rules_constructs}
use Rattle.tree_meaning.proofs.Every.{AllRules}
use Rattle.tree_meaning.proofs.Passing.{RulesNamed, RulesFit, all_variables}
use Rattle.tree_meaning.proofs.Inside.{RulesHeld}
use Rattle.tree_meaning.proofs.Keeping.{BindingKeeps}
use Rattle.tree_meaning.proofs.Lengths.{as_counted}
use Rattle.tree_store.proofs.Rows.{node_rows, term_rows, rules_nodes, rules_terms}
use Rattle.tree_store.proofs.Lengths.{nodes_counted, terms_counted}
use Rattle.tree_store.proofs.Standing.{Standing, past, after_tree, SpelledBy}
use Rattle.tree_store.proofs.Steps.{in_step}
use Rattle.tree_store.proofs.Rowed.{NodesAt, nodes_left, nodes_right, RulesIn, rule_then, Rowed}
use Rattle.tree_numbers.proofs.Rules.{At, at_first, at_later}
use Rattle.tree_numbers.proofs.Variables.{binders_after}
use Rattle.tree_grammar.proofs.Lists.{RowsAt, rows_left, rows_right}
use Rattle.tree_grammar.proofs.Walk.{AllMeant, meant_both}
use Rattle.tree_grammar.proofs.OneRule.{RuleOf, rule_meant}

module _ {P : Values → Type 0} {all : Rules} {xs ns ts ws : List ℕ} {r : ℕ} (spelled : SpelledBy xs all) (rowed : Rowed all ns ts ws r) (many : (v : Values) → P v → length v ≡ 64) where
  -- the words after a rule
  nodes_after : (n : Totals) (x : Rule) (l : List Rule) → NodesAt ns n.all_constructs (node_rows false (rule_body x) n.all_terms ++ rules_nodes (n.all_terms + length (term_rows (rule_body x))) l)
      → NodesAt ns (with_rule n x).all_constructs (rules_nodes (with_rule n x).all_terms l)
  nodes_after n x l h =
      subst (λ (i : ℕ). NodesAt ns i (rules_nodes (with_rule n x).all_terms l)) (ap (λ (i : ℕ). n.all_constructs + i) (nodes_counted false (rule_body x) n.all_terms))
      (subst (λ (i : ℕ). NodesAt ns (n.all_constructs + length (node_rows false (rule_body x) n.all_terms)) (rules_nodes i l)) (ap (λ (i : ℕ). n.all_terms + i) (terms_counted true (rule_body x)))
      (nodes_right (node_rows false (rule_body x) n.all_terms) (rules_nodes (n.all_terms + length (term_rows (rule_body x))) l) h))

  rows_after : (n : Totals) (x : Rule) (l : List Rule) → RowsAt ts n.all_terms (term_rows (rule_body x) ++ rules_terms l) → RowsAt ts (with_rule n x).all_terms (rules_terms l)
  rows_after n x l h =
      subst (λ (i : ℕ). RowsAt ts (n.all_terms + i) (rules_terms l)) (terms_counted true (rule_body x)) (rows_right (term_rows (rule_body x)) (rules_terms l) h)

  pub rules_meant : (t : Rules) (n : Totals) (earlier : List Name) (w : List Lexeme) {q : ℕ} → ((j : ℕ) (x : Rule) → At (rules_in t) j x → At (rules_in all) (n.rules + j) x) → NodesAt ns n.all_constructs (rules_nodes n.all_terms (rules_in t))
      → RowsAt ts n.all_terms (rules_terms (rules_in t)) → RulesIn ws n (rules_in t) → Standing xs q (spell_rules t w) → binders_before ns n.all_constructs ≡ n.variables → n.variables + all_variables (rules_in t) ≤ 64
      → RulesNamed (rule_names all) earlier (rules_in t) → RulesFit (rules_in t) → AllRules (λ b x. BindingKeeps P (number-among b (variables_of x))) n.variables (rules_in t) → ((v : Values) → P v → RulesHeld n.variables v (rules_in t))
      → AllMeant P xs ns ts ws r n.all_constructs (rules_constructs (rules_in all) n.all_constructs n.variables (rules_in t))
  unfolding rules_in rules_nodes rules_terms spell_rules all_variables RulesNamed RulesFit AllRules RulesHeld rules_constructs AllMeant
  rules_meant (last_rule (rule y is c close)) n earlier w {q} at nodes rows (rule_then e f g more) s bound few named fits keeps held =
      let x = rule y is c close
      in let this : RuleOf P all xs ns ts ws n.rules n.all_constructs n.all_terms n.variables x =
      record {
        there = subst (λ (j : ℕ). At (rules_in all) j x) (let z : n.rules + 0 ≡ n.rules = omega arith in z) (at 0 x at_first);
        first_is = f;
        last_is = g;
        nodes_are = nodes_left (node_rows false c n.all_terms) [] nodes;
        terms_are = rows_left (term_rows c) [] rows;
        place = q;
        rest = sign Kind.Semicolon close ∷ w;
        stands = past (past s);
        bound_before = bound;
        few = omega arith;
        named = named.1;
        fits = fits.0;
        keeps = keeps.0;
        held = λ v p. (held v p).0;
        many = many;
      }
      in meant_both P xs ns ts ws r n.all_constructs (constructs_of (body_of 0 (rules_in all)) (number-among n.variables (variables_of x)) false n.all_constructs c) [] (rule_meant spelled rowed this) tt
  rules_meant (and_rules (rule y is c close) t) n earlier w {q} at nodes rows (rule_then e f g more) s bound few named fits keeps held =
      let x = rule y is c close
      in let this : RuleOf P all xs ns ts ws n.rules n.all_constructs n.all_terms n.variables x =
      record {
        there = subst (λ (j : ℕ). At (rules_in all) j x) (let z : n.rules + 0 ≡ n.rules = omega arith in z) (at 0 x at_first);
        first_is = f;
        last_is = g;
        nodes_are = nodes_left (node_rows false c n.all_terms) (rules_nodes (n.all_terms + length (term_rows c)) (rules_in t)) nodes;
        terms_are = rows_left (term_rows c) (rules_terms (rules_in t)) rows;
        place = q;
        rest = sign Kind.Semicolon close ∷ spell_rules t w;
        stands = past (past s);
        bound_before = bound;
        few = omega arith;
        named = named.1;
        fits = fits.0;
        keeps = keeps.0;
        held = λ v p. (held v p).0;
        many = many;
      }
      in let cs = constructs_of (body_of 0 (rules_in all)) (number-among n.variables (variables_of x)) false n.all_constructs c
      in let ds = rules_constructs (rules_in all) (n.all_constructs + rule_constructs x) (n.variables + length (variables_of x)) (rules_in t)
      in meant_both P xs ns ts ws r n.all_constructs cs ds (rule_meant spelled rowed this)
      (subst (λ (j : ℕ). AllMeant P xs ns ts ws r (n.all_constructs + j) ds) (sym (as_counted (body_of 0 (rules_in all)) (number-among n.variables (variables_of x)) false n.all_constructs c))
      (rules_meant t (with_rule n x) (y ∷ earlier) w (λ j z m. subst (λ (k : ℕ). At (rules_in all) k z) (let u : n.rules + suc j ≡ suc n.rules + j = omega arith in u) (at (suc j) z (at_later m)))
      (nodes_after n x (rules_in t) nodes) (rows_after n x (rules_in t) rows) more (past (after_tree c (past (past s))))
      (ap (λ (k : ℕ). binders_before ns (n.all_constructs + k)) (sym (nodes_counted false c n.all_terms))
      ∙ binders_after (in_step false true c n.all_terms (sign Kind.Semicolon close ∷ spell_rules t w) (past (past s))) (nodes_left (node_rows false c n.all_terms) (rules_nodes (n.all_terms + length (term_rows c)) (rules_in t)) nodes) bound)
      (omega arith) named.2 fits.1 keeps.1 (λ v p. (held v p).1)))
