-- What laid out words give, piece by piece.
-- Assumes nothing.
use Prim.Native.Nat.{ℕ, zero, suc, ◌+◌, ◌-◌, ◌≤◌, ◌<◌}
use mathlib.Core.Path.{◌≡◌, sym, ◌∙◌}
use mathlib.Core.Logic.{inl, inr}
use mathlib.Core.Bool.{Bool, true, false, ◌&&◌}
use mathlib.Core.List.{List}
use native.Mathlib.Omega.{arith}
use borrow.Author.Tests.{leb-true, eqb-true, eqb-false, ltb-true, ltb-false}
use lib.Dec.{leb, ltb, eqb}
use lib.ListN.{length}
use Rattle.basis.specs.Limits.{max_literal_bytes, max_weight}
use Rattle.basis.proofs.Booleans.{which, both_first, both_second}
use Rattle.table_layout.specs.Places.{table_words, rules_at, mark_of, weight_of, rule_count, construct_count, term_count, rule_word}
use Rattle.table_layout.specs.Constructs.{construct_at}
use Rattle.table_wellformed.specs.Checks.{limited, from_to, all_zero, size_at}
use Rattle.table_wellformed.specs.Parts.{unconditioned}
use Rattle.table_wellformed.specs.Lists.{lists_laid, condition_formed, term_laid}
use Rattle.table_wellformed.specs.Rules.{body, rule_end, rule_laid, rules_laid, binders_laid, uses_laid, names_laid}
use Rattle.table_wellformed.specs.Laid.{counts_limited, headed, kind_laid, literal_length, byte_laid, construct_laid, rest_zero, placed, laid}
use Rattle.table_wellformed.proofs.Every.{every_turn, every_stop}
use Rattle.table_wellformed.proofs.Limits.{Limits, limits}

pub lt_of_ne : (a b : ℕ) → a ≤ b → (a ≡ b → ⊥) → a + 1 ≤ b
lt_of_ne a b h apart = elim (which (ltb a b)) [ inl t ↦ let l : a < b = ltb-true a b t in omega arith | inr t ↦ let g : b ≤ a = ltb-false a b t in absurd (apart (omega arith)) ]

-- what all numbers pass, each passes
module _ (f : ℕ → Bool) (end : ℕ) where
  each_from : (n start i : ℕ) → end ≡ start + n → from_to start end f ≡ true → start ≤ i → i < end → f i ≡ true
  each_from zero start i e h low high = absurd (omega arith)
  each_from (suc n) start i e h low high =
      elim (which (f start)) [
        | inl t ↦
            elim (which (eqb start i)) [
              | inl s ↦ let same : start ≡ i = eqb-true start i s in rw same at t
              | inr s ↦
                  let apart : start ≡ i → ⊥ = eqb-false start i s
                  in each_from n (start + 1) i (omega arith) (sym (every_turn end start f (omega arith) t) ∙ h) (lt_of_ne start i low apart) high
            ]
        | inr t ↦ let z : false ≡ true = sym (every_stop end start f (omega arith) t) ∙ h in let w : ◌≡◌ {A = ℕ} 0 1 = cc in absurd (omega arith)
      ]

  pub each : (start i : ℕ) → from_to start end f ≡ true → start ≤ i → i < end → f i ≡ true
  each start i h low high = each_from (end - start) start i (omega arith) h low high

-- a rule's words
pub record RuleLaid (ws : List ℕ) (r : ℕ) : Type 0 where
  pub some_construct : body ws r < rule_end ws r 0
  pub ends : body ws r + size_at ws (body ws r) ≡ rule_end ws r 0
  pub variables : rule_word ws r 1 + rule_word ws r 2 ≡ rule_end ws r 1
  pub unused : rule_word ws r 3 ≡ 0
  pub no_case : unconditioned ws (body ws r) ≡ true

pub record Laid (ws : List ℕ) : Type 0 where
  pub long : table_words ≤ length ws
  pub mark : mark_of ws ≡ 1399811687
  pub counts : Limits ws
  pub header_rest : all_zero ws 6 rules_at ≡ true
  pub rest : rest_zero ws ≡ true
  pub start_body : body ws 0 ≡ 0
  pub start_variables : rule_word ws 0 1 ≡ 0
  pub rule : (r : ℕ) → r < rule_count ws → rule_laid ws r ≡ true
  pub kind : (i : ℕ) → i < construct_count ws → kind_laid ws i (construct_at ws i) ≡ true
  pub bytes : (i : ℕ) → i < construct_count ws → from_to 0 max_literal_bytes (byte_laid ws i (literal_length (construct_at ws i))) ≡ true
  pub condition : (i : ℕ) → i < construct_count ws → condition_formed ws i ≡ true
  pub lists : lists_laid ws ≡ true
  pub term : (t : ℕ) → t < term_count ws → term_laid ws t ≡ true
  pub binders : (r : ℕ) → r < rule_count ws → binders_laid ws r ≡ true
  pub uses : (r : ℕ) → r < rule_count ws → uses_laid ws r ≡ true

pub facts : (ws : List ℕ) → laid ws ≡ true → Laid ws
unfolding laid headed placed
facts ws h =
    let L : Bool = leb table_words (length ws)
    in let Z : Bool = rest_zero ws && rules_laid ws
    in let T : Bool = from_to 0 (term_count ws) (term_laid ws)
    in let C : Bool = from_to 0 (construct_count ws) (construct_laid ws)
    in let P : Bool = Z && (C && (lists_laid ws && T))
    in let after_length : (headed ws && (P && names_laid ws)) ≡ true = both_second L (headed ws && (P && names_laid ws)) h
    in let after_header : (P && names_laid ws) ≡ true = both_second (headed ws) (P && names_laid ws) after_length
    in let places : P ≡ true = both_first P (names_laid ws) after_header
    in let names : names_laid ws ≡ true = both_second P (names_laid ws) after_header
    in let zeros_rules : Z ≡ true = both_first Z (C && (lists_laid ws && T)) places
    in let rules : rules_laid ws ≡ true = both_second (rest_zero ws) (rules_laid ws) zeros_rules
    in let others : (C && (lists_laid ws && T)) ≡ true = both_second Z (C && (lists_laid ws && T)) places
    in let constructs : C ≡ true = both_first C (lists_laid ws && T) others
    in let terms : (lists_laid ws && T) ≡ true = both_second C (lists_laid ws && T) others
    in let B : Bool = eqb (body ws 0) 0
    in let X : Bool = eqb (rule_word ws 0 1) 0
    in let R : Bool = from_to 0 (rule_count ws) (rule_laid ws)
    in let M : Bool = eqb (mark_of ws) 1399811687
    in let W : Bool = limited 1 (weight_of ws) max_weight
    in let H : Bool = all_zero ws 6 rules_at
    in let header : ((M && counts_limited ws) && (W && H)) ≡ true = both_first (headed ws) (P && names_laid ws) after_length
    in let starts : (B && X) ≡ true = both_first (B && X) R rules
    in record {
      long = leb-true table_words (length ws) (both_first L (headed ws && (P && names_laid ws)) h);
      mark = eqb-true (mark_of ws) 1399811687 (both_first M (counts_limited ws) (both_first (M && counts_limited ws) (W && H) header));
      header_rest = both_second W H (both_second (M && counts_limited ws) (W && H) header);
      counts = limits ws (both_first (headed ws) (P && names_laid ws) after_length);
      rest = both_first (rest_zero ws) (rules_laid ws) zeros_rules;
      start_body = eqb-true (body ws 0) 0 (both_first B X starts);
      start_variables = eqb-true (rule_word ws 0 1) 0 (both_second B X starts);
      rule = λ r l. each (rule_laid ws) (rule_count ws) 0 r (both_second (B && X) R rules) (omega arith) l;
      kind = λ i l. both_first (kind_laid ws i (construct_at ws i)) (from_to 0 max_literal_bytes (byte_laid ws i (literal_length (construct_at ws i))) && condition_formed ws i) (each (construct_laid ws) (construct_count ws) 0 i constructs (omega arith) l);
      bytes =
          λ i l.
          both_first (from_to 0 max_literal_bytes (byte_laid ws i (literal_length (construct_at ws i)))) (condition_formed ws i)
          (both_second (kind_laid ws i (construct_at ws i)) (from_to 0 max_literal_bytes (byte_laid ws i (literal_length (construct_at ws i))) && condition_formed ws i) (each (construct_laid ws) (construct_count ws) 0 i constructs (omega arith) l));
      condition =
          λ i l.
          both_second (from_to 0 max_literal_bytes (byte_laid ws i (literal_length (construct_at ws i)))) (condition_formed ws i)
          (both_second (kind_laid ws i (construct_at ws i)) (from_to 0 max_literal_bytes (byte_laid ws i (literal_length (construct_at ws i))) && condition_formed ws i) (each (construct_laid ws) (construct_count ws) 0 i constructs (omega arith) l));
      lists = both_first (lists_laid ws) T terms;
      term = λ t l. each (term_laid ws) (term_count ws) 0 t (both_second (lists_laid ws) T terms) (omega arith) l;
      binders = λ r l. both_first (binders_laid ws r) (uses_laid ws r) (each (λ q. binders_laid ws q && uses_laid ws q) (rule_count ws) 0 r names (omega arith) l);
      uses = λ r l. both_second (binders_laid ws r) (uses_laid ws r) (each (λ q. binders_laid ws q && uses_laid ws q) (rule_count ws) 0 r names (omega arith) l);
    }
