-- The weight and the words past the sets, of well laid out words.
-- Assumes nothing.
use Prim.Native.Nat.{ℕ, zero, suc, ◌+◌, ◌*◌, ◌-◌}
use mathlib.Core.Path.{◌≡◌, refl, ◌∙◌}
use mathlib.Core.Bool.{Bool, true, ◌&&◌}
use mathlib.Core.List.{List}
use native.Mathlib.Omega.{arith}
use borrow.Author.Tests.{eqb-true, le-leb, eq-eqb}
use lib.Dec.{eqb}
use Rattle.basis.specs.Limits.{max_weight}
use Rattle.basis.proofs.Booleans.{both_second}
use Rattle.table_layout.specs.Places.{word, table_words, rules_at, variables_at, constructs_at, terms_at, literals_at, sets_at, rule_count, construct_count, variable_count, term_count, weight_of}
use Rattle.table_wellformed.specs.Checks.{limited, every, from_to, all_zero}
use Rattle.table_structure.proofs.Facts.{Laid, each}
use Rattle.table_hypotheses.specs.OneTable.{Ended}
use Rattle.table_hypotheses.proofs.LaidLocal.{from_to_same}

pub ended_of : {ws : List ℕ} → Laid ws → Ended ws
ended_of {ws} l =
    let R : Bool = all_zero ws (rules_at + 4 * rule_count ws) variables_at && all_zero ws (variables_at + 4 * variable_count ws) constructs_at in
    let C : Bool = all_zero ws (constructs_at + 8 * construct_count ws) terms_at && all_zero ws (terms_at + 3 * term_count ws) literals_at in
    let Y : Bool = all_zero ws (literals_at + 8 * construct_count ws) sets_at in
    let S : Bool = all_zero ws (sets_at + 32 * construct_count ws) table_words in
    let zeros : S ≡ true = both_second Y S (both_second C (Y && S) (both_second R (C && (Y && S)) l.rest)) in
    record {
      long = l.long;
      some_weight = l.counts.some_weight;
      weight = omega (arith, l.counts.weight);
      zeros = λ k low high. eqb-true (word ws k) 0 (each (λ u. eqb (word ws u) 0) table_words (sets_at + 32 * construct_count ws) k zeros low high);
    }

pub weight_limited : {ws : List ℕ} → Ended ws → limited 1 (weight_of ws) max_weight ≡ true
weight_limited {ws} e = rw (le-leb 1 (weight_of ws) e.some_weight, le-leb (weight_of ws) max_weight (omega (arith, e.weight))) refl

all_true : (start end : ℕ) → from_to start end (λ k. true) ≡ true
unfolding every
all_true start end = always (end - start) start
  where
    always : (n i : ℕ) → every n i (λ k. true) ≡ true
    always zero i = refl
    always (suc n) i = always n (i + 1)

pub all_past : {ws : List ℕ} → Ended ws → all_zero ws (sets_at + 32 * construct_count ws) table_words ≡ true
all_past {ws} e =
    from_to_same (λ k. eqb (word ws k) 0) (λ k. true) (sets_at + 32 * construct_count ws) table_words (λ k low high. eq-eqb (word ws k) 0 (e.zeros k low high))
    ∙ all_true (sets_at + 32 * construct_count ws) table_words
