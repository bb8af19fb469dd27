-- What a right header gives: the counts within their limits.
-- Assumes nothing.
use Prim.Native.Nat.{ℕ, ◌≤◌}
use mathlib.Core.Path.{◌≡◌}
use mathlib.Core.Bool.{Bool, true, ◌&&◌}
use mathlib.Core.List.{List}
use borrow.Author.Tests.{leb-true}
use lib.Dec.{leb, eqb}
use Rattle.basis.specs.Limits.{max_rules, max_constructs, max_variables, max_terms, max_weight}
use Rattle.basis.proofs.Booleans.{both_first, both_second}
use Rattle.table_layout.specs.Places.{rules_at, mark_of, rule_count, construct_count, variable_count, term_count, weight_of}
use Rattle.table_wellformed.specs.Checks.{limited, all_zero}
use Rattle.table_wellformed.specs.Laid.{counts_limited, headed}

pub record Limits (ws : List ℕ) : Type 0 where
  pub some_rule : 1 ≤ rule_count ws
  pub rules : rule_count ws ≤ max_rules
  pub some_construct : 1 ≤ construct_count ws
  pub constructs : construct_count ws ≤ max_constructs
  pub variables : variable_count ws ≤ max_variables
  pub terms : term_count ws ≤ max_terms
  pub some_weight : 1 ≤ weight_of ws
  pub weight : weight_of ws ≤ max_weight

limited_low : (low n high : ℕ) → limited low n high ≡ true → low ≤ n
limited_low low n high h = leb-true low n (both_first (leb low n) (leb n high) h)

limited_high : (low n high : ℕ) → limited low n high ≡ true → n ≤ high
limited_high low n high h = leb-true n high (both_second (leb low n) (leb n high) h)

pub limits : (ws : List ℕ) → headed ws ≡ true → Limits ws
unfolding headed
limits ws h =
    let R : Bool = limited 1 (rule_count ws) max_rules
    in let C : Bool = limited 1 (construct_count ws) max_constructs
    in let X : Bool = leb (variable_count ws) max_variables
    in let T : Bool = leb (term_count ws) max_terms
    in let W : Bool = limited 1 (weight_of ws) max_weight
    in let marked : Bool = eqb (mark_of ws) 1399811687
    in let rest : Bool = all_zero ws 6 rules_at
    in let front : (marked && counts_limited ws) ≡ true = both_first (marked && counts_limited ws) (W && rest) h
    in let weighed : W ≡ true = both_first W rest (both_second (marked && counts_limited ws) (W && rest) h)
    in let counted : counts_limited ws ≡ true = both_second marked (counts_limited ws) front
    in let upper : (R && C) ≡ true = both_first (R && C) (X && T) counted
    in let lower : (X && T) ≡ true = both_second (R && C) (X && T) counted
    in record {
      some_rule = limited_low 1 (rule_count ws) max_rules (both_first R C upper);
      rules = limited_high 1 (rule_count ws) max_rules (both_first R C upper);
      some_construct = limited_low 1 (construct_count ws) max_constructs (both_second R C upper);
      constructs = limited_high 1 (construct_count ws) max_constructs (both_second R C upper);
      variables = leb-true (variable_count ws) max_variables (both_first X T lower);
      terms = leb-true (term_count ws) max_terms (both_second X T lower);
      some_weight = limited_low 1 (weight_of ws) max_weight weighed;
      weight = limited_high 1 (weight_of ws) max_weight weighed;
    }
