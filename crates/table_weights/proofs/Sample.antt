-- The record `Ruled` and the theorems are not vacuous: the table of `a = b & eod; b = eod;`, whose weight is 5.
-- Assumes nothing.
use Prim.Native.Nat.{ℕ, zero, suc, ◌+◌, ◌*◌, ◌≤◌, ◌<◌}
use native.Mathlib.Omega.{arith}
use mathlib.Core.Path.{◌≡◌, refl}
use mathlib.Core.List.{List, [], ◌∷◌, ◌++◌}
use lib.ListN.{length, replicate, get_or-eq_default}
use Rattle.table_layout.specs.Places.{constructs_at, construct_word}
use Rattle.table_layout.specs.Constructs.{construct_at}
use Rattle.table_layout.specs.Held.{parts, node_of, held, opening}
use Rattle.table_layout.specs.declared.Construct.{Construct}
use Rattle.theory.specs.Weight.{sum, weigh}
use Rattle.table_reach.specs.Reaching.{body_of, rule_end, Reaches, Acyclic}
use Rattle.table_reach.proofs.Constructs.{missing_zero}
use Rattle.table_weights.specs.Ruled.{size_at, Tiles, Filled, Ruled}
use Rattle.table_weights.proofs.Totals.{total}
use Rattle.table_weights.proofs.Heights.{rounds, weight_at}

abbrev pub sample : List ℕ
sample =
    (0 ∷ 2 ∷ 4 ∷ []) ++ replicate 65 0 ++ (3 ∷ []) ++ replicate 507 0
    ++ (2 ∷ 3 ∷ 0 ∷ 0 ∷ 0 ∷ 0 ∷ 0 ∷ 0 ∷ 5 ∷ 1 ∷ 1 ∷ 0 ∷ 0 ∷ 0 ∷ 0 ∷ 0 ∷ 9 ∷ 1 ∷ 0 ∷ 0 ∷ 0 ∷ 0 ∷ 0 ∷ 0 ∷ 9 ∷ 1 ∷ [])

past : (i k : ℕ) → 4 ≤ i → construct_word sample i k ≡ 0
past i k h = let l : length sample ≡ 602 = refl in get_or-eq_default sample 0 {n = constructs_at + 8 * i + k} (omega arith)

missing : (i : ℕ) → 4 ≤ i → construct_at sample i ≡ Construct.Missing
missing i h = missing_zero sample i (past i 0 h) (past i 1 h)

filled : (i : ℕ) → i < 4 → Filled sample i (construct_at sample i)
unfolding construct_at
filled zero h = Tiles.more {j = 1} (omega arith) (Tiles.more {j = 2} (omega arith) (Tiles.done refl))
filled (suc zero) h = omega arith
filled (suc (suc zero)) h = tt
filled (suc (suc (suc zero))) h = tt
filled (suc (suc (suc (suc i)))) h = absurd (omega arith)

whole : (r : ℕ) → r < 2 → (body_of sample r < 4) × (body_of sample r + size_at sample (body_of sample r) ≡ rule_end sample r)
unfolding construct_at
whole zero h = (omega arith, refl)
whole (suc zero) h = (omega arith, refl)
whole (suc (suc r)) h = absurd (omega arith)

pub sample_ruled : Ruled sample
sample_ruled =
    record {
      some_rule = omega arith;
      rules_most = omega arith;
      constructs_most = omega arith;
      first_body = refl;
      body_there = λ r h. (whole r h).0;
      body_whole = λ r h. (whole r h).1;
      filled = filled;
      none_after = missing;
    }

-- its one use is that of rule 1, by rule 0
only_use : (r at q : ℕ) → body_of sample r ≤ at → r < 2 → construct_at sample at ≡ Construct.Use q → (r ≡ 0) × (q ≡ 1)
unfolding construct_at
only_use r zero q h l e = let z : ◌≡◌ {A = ℕ} 0 1 = cc in absurd (omega arith)
only_use zero (suc zero) q h l e = (refl, cc)
only_use (suc zero) (suc zero) q h l e = absurd (omega arith)
only_use (suc (suc r)) (suc zero) q h l e = absurd (omega arith)
only_use r (suc (suc zero)) q h l e = let z : ◌≡◌ {A = ℕ} 0 1 = cc in absurd (omega arith)
only_use r (suc (suc (suc zero))) q h l e = let z : ◌≡◌ {A = ℕ} 0 1 = cc in absurd (omega arith)
only_use r (suc (suc (suc (suc i)))) q h l e = let f : construct_at sample (suc (suc (suc (suc i)))) ≡ Construct.Missing = missing (suc (suc (suc (suc i)))) (omega arith) in let z : ◌≡◌ {A = ℕ} 0 1 = cc in absurd (omega arith)

ends : {r q : ℕ} → Reaches sample r q → (r ≡ 0) × (q ≡ 1)
ends {r} {q} (Reaches.directly u) = only_use r u.at q u.from u.rule u.used
ends {r} (Reaches.through {p = p} u a) = ((only_use r u.at p u.from u.rule u.used).0, (ends a).1)

pub sample_acyclic : Acyclic sample
sample_acyclic r a = omega (arith, (ends a).0, (ends a).1)

pub sample_weight : weight_at sample opening ≡ 5
unfolding rounds total held node_of parts construct_at weigh sum
sample_weight = refl
