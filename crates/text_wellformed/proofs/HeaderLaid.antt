-- The header of encoded words, their length, and the words without a meaning.
-- Assumes nothing.
use Prim.Native.Nat.{ℕ, ◌+◌, ◌*◌, ◌≤◌}
use mathlib.Core.Path.{◌≡◌}
use mathlib.Core.Bool.{true}
use mathlib.Core.List.{List}
use native.Mathlib.Omega.{arith}
use borrow.Author.Tests.{le-leb, eq-eqb}
use lib.Dec.{leb}
use lib.ListN.{length}
use Rattle.basis.specs.Limits.{max_rules, max_constructs, max_variables, max_terms, max_weight}
use Rattle.basis.proofs.Booleans.{both_pass}
use Rattle.table_layout.specs.Places.{table_words, mark_of, rule_count, construct_count, variable_count, term_count, weight_of, rules_at, variables_at, constructs_at, terms_at, literals_at, sets_at}
use Rattle.table_wellformed.specs.Laid.{headed, rest_zero}
use Rattle.text_encoding.specs.Numbers.{binders_before, condition_start}
use Rattle.text_wellformed.specs.Context.{Words}
use Rattle.text_wellformed.proofs.Passing.{limited_pass, zeros_pass}

module _ {xs ns ts rs : List ℕ} {n r : ℕ} {ws : List ℕ} (w : Words xs ns ts rs n r ws) where
  pub long_enough : leb table_words (length ws) ≡ true
  long_enough = le-leb table_words (length ws) (omega (arith, w.many))

  pub rest_laid : rest_zero ws ≡ true
  rest_laid =
      both_pass
      (both_pass (zeros_pass ws (rules_at + 4 * rule_count ws) variables_at (λ k l h. w.rules_rest k (omega (arith, w.rules_are)) h))
      (zeros_pass ws (variables_at + 4 * variable_count ws) constructs_at (λ k l h. w.variables_rest k (omega (arith, w.variables_are)) h)))
      (both_pass
      (both_pass (zeros_pass ws (constructs_at + 8 * construct_count ws) terms_at (λ k l h. w.constructs_rest k (omega (arith, w.constructs_are)) h))
      (zeros_pass ws (terms_at + 3 * term_count ws) literals_at (λ k l h. w.terms_rest k (omega (arith, w.terms_are)) h)))
      (both_pass (zeros_pass ws (literals_at + 8 * construct_count ws) sets_at (λ k l h. w.literals_rest k (omega (arith, w.constructs_are)) (omega arith)))
      (zeros_pass ws (sets_at + 32 * construct_count ws) table_words (λ k l h. w.literals_rest k (omega (arith, w.constructs_are)) h))))

  module _ (some_rule : 1 ≤ r) (rules : r ≤ max_rules) (some_node : 1 ≤ n) (nodes : n ≤ max_constructs) (binders : binders_before ns n ≤ max_variables) (terms : condition_start ns n ≤ max_terms) where
    pub header_laid : headed ws ≡ true
    unfolding headed
    header_laid =
        both_pass
        (both_pass (eq-eqb (mark_of ws) 1399811687 w.mark_is)
        (both_pass
        (both_pass (limited_pass 1 (rule_count ws) max_rules (omega (arith, w.rules_are)) (omega (arith, w.rules_are))) (limited_pass 1 (construct_count ws) max_constructs (omega (arith, w.constructs_are)) (omega (arith, w.constructs_are))))
        (both_pass (le-leb (variable_count ws) max_variables (omega (arith, w.variables_are))) (le-leb (term_count ws) max_terms (omega (arith, w.terms_are))))))
        (both_pass (limited_pass 1 (weight_of ws) max_weight (omega (arith, w.weight_is)) (omega (arith, w.weight_is))) (zeros_pass ws 6 rules_at w.header_rest))
