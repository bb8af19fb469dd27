-- The numbers of answers to texts, and what is left of the table.
-- Assumes nothing.
use Prim.Native.Nat.{ℕ, ◌≤◌}
use mathlib.Core.Path.{◌≡◌, refl, sym, ap, subst}
use mathlib.Core.List.{List}
use native.Mathlib.Omega.{arith}
use lib.ListN.{length, drop}
use Rattle.basis.specs.Limits.{table_words}
use Rattle.text_admission.specs.Admitted.{Refusal, RulesRefused, AnsweredRules, Answers, refused_early, by_rules}
use Rattle.text_admission.specs.Answers.{number_of}
use Rattle.text_admission.specs.declared.Admission.{Admission}
use Rattle.admission.specs.Promised.{TextAnswered}

-- 1 to 13, and not 10: a clash has an answer of its own
abbrev pub Plain : ℕ → Type 0
Plain n = (1 ≤ n) × (n ≤ 13) × (n ≡ 10 → ⊥)

early_number : (text table : List ℕ) (number place : ℕ) → Refusal text table number place → Plain number
early_number text table number place (Refusal.short_table l) = (omega arith, omega arith, λ e. omega arith)
early_number text table number place (Refusal.wrong_size l s) = (omega arith, omega arith, λ e. omega arith)
early_number text table number place (Refusal.wrong_header l s m e) = (omega arith, omega arith, λ e. omega arith)

rules_number : (xs : List ℕ) (base number place : ℕ) → RulesRefused xs base number place → Plain number
rules_number xs base number place (RulesRefused.by_form e z) = (omega arith, omega arith, λ e. omega arith)
rules_number xs base number place (RulesRefused.by_limit p e z) = (omega arith, omega arith, λ e. omega arith)
rules_number xs base number place (RulesRefused.by_name p e z) = (omega arith, omega arith, λ e. omega arith)
rules_number xs base number place (RulesRefused.by_cycle p c f z) = (omega arith, omega arith, λ e. omega arith)
rules_number xs base number place (RulesRefused.by_size p e z) = (omega arith, omega arith, λ e. omega arith)
rules_number xs base number place (RulesRefused.by_empty_body p m z) = (omega arith, omega arith, λ e. omega arith)
rules_number xs base number place (RulesRefused.by_weight p j w z) = (omega arith, omega arith, λ e. omega arith)
rules_number xs base number place (RulesRefused.by_unreached p j w u z) = (omega arith, omega arith, λ e. omega arith)
rules_number xs base number place (RulesRefused.by_no_value p j w a l z) = (omega arith, omega arith, λ e. omega arith)

-- a refused text's table is as it was
as_it_was : (old new : List ℕ) (answer : Admission) → number_of answer ≤ 13 → new ≡ old → TextAnswered old new answer
as_it_was old new answer l e = record { number = l; refused = λ n. e; length_kept = ap length e; beyond = ap (drop table_words) e }

by_the_rules : (xs : List ℕ) (base : ℕ) (old new : List ℕ) (answer : Admission) → AnsweredRules xs base old new answer → TextAnswered old new answer
by_the_rules xs base old new (Admission.Admitted weight) p =
    record { number = (let z : 0 ≤ 13 = omega arith in z); refused = λ n. absurd (n refl); length_kept = p.table.length_kept; beyond = p.table.beyond }
by_the_rules xs base old new (Admission.Refused number place) p = as_it_was old new (Admission.Refused number place) (rules_number xs base number place p.0).1 p.1
by_the_rules xs base old new (Admission.Conflict place construct clash) p =
    as_it_was old new (Admission.Conflict place construct clash) (let z : 10 ≤ 13 = omega arith in z) p.1

pub text_answered : (text old new : List ℕ) (answer : Admission) → Answers text old new answer → TextAnswered old new answer
text_answered text old new answer (refused_early number place e r k) =
    subst (TextAnswered old new) (sym e) (as_it_was old new (Admission.Refused number place) (early_number text old number place r).1 k)
text_answered text old new answer (by_rules base h p) = by_the_rules (drop base text) base old new answer p

pub refused_number : (text old new : List ℕ) (number place : ℕ) → Answers text old new (Admission.Refused number place) → Plain number
refused_number text old new number place (refused_early n q e r k) = subst Plain (sym (ap number_of e)) (early_number text old n q r)
refused_number text old new number place (by_rules base h p) = rules_number (drop base text) base number place p.0
