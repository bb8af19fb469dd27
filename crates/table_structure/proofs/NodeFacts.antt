-- Of laid out words: uses name rules, and constructs past the count are missing.
-- Assumes nothing.
use Prim.Native.Nat.{ℕ, ◌+◌, ◌*◌, ◌≤◌, ◌<◌}
use mathlib.Core.Path.{◌≡◌, refl}
use mathlib.Core.Logic.{inl, inr}
use mathlib.Core.Bool.{Bool, true, ◌&&◌}
use mathlib.Core.List.{List}
use native.Mathlib.Omega.{arith}
use borrow.Author.Tests.{ltb-true, eqb-true}
use lib.Dec.{ltb, eqb}
use Rattle.basis.specs.Limits.{max_constructs}
use Rattle.basis.proofs.Booleans.{which, both_first, both_second}
use Rattle.table_layout.specs.Places.{word, rules_at, variables_at, constructs_at, terms_at, literals_at, sets_at, table_words, rule_count, construct_count, variable_count, term_count, construct_word}
use Rattle.table_layout.specs.Constructs.{construct_of, construct_at}
use Rattle.table_layout.specs.declared.Construct.{Construct}
use Rattle.table_wellformed.specs.Checks.{all_zero}
use Rattle.table_wellformed.specs.Rules.{body}
use Rattle.table_wellformed.specs.Laid.{operands_zero, kind_laid}
use Rattle.table_structure.proofs.Facts.{Laid, each}
use Rattle.table_structure.proofs.RuleLaws.{rule_fact, rule_within}

-- a rule use names a rule
pub use_names : {ws : List ℕ} → Laid ws → (i r : ℕ) → i < construct_count ws → construct_at ws i ≡ Construct.Use r → r < rule_count ws
use_names {ws} l i r h e = ltb-true r (rule_count ws) (both_first (ltb r (rule_count ws)) (operands_zero ws i 3) (rw e at (l.kind i h)))

-- a rule's body is a construct
pub body_exists : {ws : List ℕ} (l : Laid ws) (r : ℕ) → r < rule_count ws → body ws r < construct_count ws
body_exists {ws} l r h = omega (arith, rule_within l r h, (rule_fact l r h).some_construct)

-- no construct below the count is missing
pub present : {ws : List ℕ} → Laid ws → (i : ℕ) → i < construct_count ws → construct_at ws i ≡ Construct.Missing → ⊥
present {ws} l i h e = let f : kind_laid ws i Construct.Missing ≡ true = rw e at (l.kind i h) in let z : ◌≡◌ {A = ℕ} 0 1 = cc in omega arith

-- a construct past the count is missing
zero_word : {ws : List ℕ} → Laid ws → (i k : ℕ) → construct_count ws ≤ i → i < max_constructs → k < 8 → construct_word ws i k ≡ 0
zero_word {ws} l i k past room small =
    let R : Bool = all_zero ws (rules_at + 4 * rule_count ws) variables_at
    in let X : Bool = all_zero ws (variables_at + 4 * variable_count ws) constructs_at
    in let C : Bool = all_zero ws (constructs_at + 8 * construct_count ws) terms_at
    in let T : Bool = all_zero ws (terms_at + 3 * term_count ws) literals_at
    in let S : Bool = all_zero ws (literals_at + 8 * construct_count ws) sets_at && all_zero ws (sets_at + 32 * construct_count ws) table_words
    in let zeros : C ≡ true = both_first C T (both_first (C && T) S (both_second (R && X) ((C && T) && S) l.rest))
    in eqb-true (construct_word ws i k) 0 (each (λ u. eqb (word ws u) 0) terms_at (constructs_at + 8 * construct_count ws) (constructs_at + 8 * i + k) zeros (omega arith) (omega arith))

missing_zero : (i a b c d : ℕ) → construct_of i 0 0 a b c d ≡ Construct.Missing
unfolding construct_of
missing_zero i a b c d = refl

pub missing_past : {ws : List ℕ} → Laid ws → (i : ℕ) → construct_count ws ≤ i → construct_at ws i ≡ Construct.Missing
unfolding construct_at
missing_past {ws} l i past =
    elim (which (ltb i max_constructs)) [
      | inl t ↦
          let room : i < max_constructs = ltb-true i max_constructs t
          in rw (t, zero_word l i 0 past room (omega arith), zero_word l i 1 past room (omega arith)) (missing_zero i (construct_word ws i 2) (construct_word ws i 3) (construct_word ws i 4) (construct_word ws i 5))
      | inr t ↦ rw t
    ]
