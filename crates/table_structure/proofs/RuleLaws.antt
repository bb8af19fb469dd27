-- The rules of laid out words: one after the other, and every construct in one of them.
-- Assumes nothing.
use Prim.Native.Nat.{ℕ, zero, suc, ◌+◌, ◌-◌, ◌≤◌, ◌<◌}
use mathlib.Core.Path.{◌≡◌}
use mathlib.Core.Logic.{inl, inr}
use mathlib.Core.Bool.{Bool, true, ◌&&◌}
use mathlib.Core.List.{List}
use native.Mathlib.Omega.{arith}
use borrow.Author.Tests.{lt-ltb, le-ltb, ltb-true, ltb-false, eqb-true}
use lib.Dec.{ltb, eqb}
use Rattle.basis.proofs.Booleans.{which, both_first, both_second}
use Rattle.table_layout.specs.Places.{word, rule_count, construct_count, rule_word}
use Rattle.table_wellformed.specs.Checks.{size_at}
use Rattle.table_wellformed.specs.Parts.{unconditioned}
use Rattle.table_wellformed.specs.Rules.{body, rule_end, rule_laid}
use Rattle.table_structure.proofs.Facts.{RuleLaid, Laid}

rule_facts : (ws : List ℕ) (r : ℕ) → rule_laid ws r ≡ true → RuleLaid ws r
rule_facts ws r h =
    let B : Bool = ltb (body ws r) (rule_end ws r 0)
    in let E : Bool = eqb (body ws r + size_at ws (body ws r)) (rule_end ws r 0)
    in let X : Bool = eqb (rule_word ws r 1 + rule_word ws r 2) (rule_end ws r 1)
    in let Z : Bool = eqb (rule_word ws r 3) 0
    in let U : Bool = unconditioned ws (body ws r)
    in let constructs : (B && E) ≡ true = both_first (B && E) (X && (Z && U)) h
    in let others : (X && (Z && U)) ≡ true = both_second (B && E) (X && (Z && U)) h
    in record {
      some_construct = ltb-true (body ws r) (rule_end ws r 0) (both_first B E constructs);
      ends = eqb-true (body ws r + size_at ws (body ws r)) (rule_end ws r 0) (both_second B E constructs);
      variables = eqb-true (rule_word ws r 1 + rule_word ws r 2) (rule_end ws r 1) (both_first X (Z && U) others);
      unused = eqb-true (rule_word ws r 3) 0 (both_first Z U (both_second X (Z && U) others));
      no_case = both_second Z U (both_second X (Z && U) others);
    }

-- where rule r ends: where the next begins, or after the last construct
pub next_begins : (ws : List ℕ) (r k : ℕ) → r + 1 < rule_count ws → rule_end ws r k ≡ rule_word ws (r + 1) k
next_begins ws r k h = rw (lt-ltb (r + 1) (rule_count ws) h)

pub last_ends : (ws : List ℕ) (r k : ℕ) → rule_count ws ≤ r + 1 → rule_end ws r k ≡ word ws (2 + k)
last_ends ws r k h = rw (le-ltb (r + 1) (rule_count ws) h)

-- the rule of construct i
pub record RuleOf (ws : List ℕ) (i : ℕ) : Type 0 where
  pub rule : ℕ
  pub exists : rule < rule_count ws
  pub begins : body ws rule ≤ i
  pub ends : i < rule_end ws rule 0

module _ {ws : List ℕ} (l : Laid ws) where
  pub rule_fact : (r : ℕ) → r < rule_count ws → RuleLaid ws r
  rule_fact r h = rule_facts ws r (l.rule r h)

  search_from : (n r i : ℕ) → r + n ≡ rule_count ws → r < rule_count ws → body ws r ≤ i → i < construct_count ws → RuleOf ws i
  search_from zero r i e h low high = absurd (omega arith)
  search_from (suc n) r i e h low high =
      elim (which (ltb i (rule_end ws r 0))) [
        | inl t ↦ record { rule = r; exists = h; begins = low; ends = ltb-true i (rule_end ws r 0) t }
        | inr t ↦
            let past : rule_end ws r 0 ≤ i = ltb-false i (rule_end ws r 0) t
            in elim (which (ltb (r + 1) (rule_count ws))) [
              | inl s ↦ let more : r + 1 < rule_count ws = ltb-true (r + 1) (rule_count ws) s in search_from n (r + 1) i (omega arith) more (omega (arith, next_begins ws r 0 more)) high
              | inr s ↦ let last : rule_count ws ≤ r + 1 = ltb-false (r + 1) (rule_count ws) s in let ends : rule_end ws r 0 ≡ construct_count ws = last_ends ws r 0 last in absurd (omega arith)
            ]
      ]

  pub rule_of : (i : ℕ) → i < construct_count ws → RuleOf ws i
  rule_of i h = search_from (rule_count ws) 0 i (omega arith) l.counts.some_rule (omega (arith, l.start_body)) h

  -- a later rule begins where an earlier one has ended
  pub rules_apart : (n r : ℕ) → r + 1 + n < rule_count ws → rule_end ws r 0 ≤ body ws (r + 1 + n)
  rules_apart zero r h = let e : rule_end ws r 0 ≡ body ws (r + 1) = next_begins ws r 0 (omega arith) in let f : r + 1 + 0 ≡ r + 1 = omega arith in rw f (omega arith)
  rules_apart (suc n) r h =
      let before : rule_end ws r 0 ≤ body ws (r + 1 + n) = rules_apart n r (omega arith)
      in let within : body ws (r + 1 + n) < rule_end ws (r + 1 + n) 0 = (rule_fact (r + 1 + n) (omega arith)).some_construct
      in let e : rule_end ws (r + 1 + n) 0 ≡ body ws (r + 1 + n + 1) = next_begins ws (r + 1 + n) 0 (omega arith)
      in let f : r + 1 + suc n ≡ r + 1 + n + 1 = omega arith
      in rw f (omega arith)

  -- no rule ends past the constructs
  ends_within : (n r : ℕ) → r + 1 + n ≡ rule_count ws → rule_end ws r 0 ≤ construct_count ws
  ends_within zero r e = let ends : rule_end ws r 0 ≡ construct_count ws = last_ends ws r 0 (omega arith) in omega arith
  ends_within (suc n) r e =
      let later : rule_end ws (r + 1) 0 ≤ construct_count ws = ends_within n (r + 1) (omega arith)
      in let within : body ws (r + 1) < rule_end ws (r + 1) 0 = (rule_fact (r + 1) (omega arith)).some_construct
      in let next : rule_end ws r 0 ≡ body ws (r + 1) = next_begins ws r 0 (omega arith)
      in omega arith

  pub rule_within : (r : ℕ) → r < rule_count ws → rule_end ws r 0 ≤ construct_count ws
  rule_within r h = ends_within (rule_count ws - (r + 1)) r (omega arith)
