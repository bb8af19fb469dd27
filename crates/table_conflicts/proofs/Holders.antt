-- The first two parts that have the least window.
-- Assumes nothing.
use Prim.Native.Nat.{ℕ, ◌+◌, ◌≤◌, ◌<◌}
use mathlib.Core.Path.{◌≡◌, sym, ◌∙◌}
use mathlib.Core.Logic.{◌⊎◌, inl, inr, ◌≢◌}
use mathlib.Core.List.{List}
use native.Mathlib.Omega.{arith}
use native.Mathlib.Decide.{dec_lt, ℕ_discrete}
use Rattle.basis.specs.Bits.{Bits}
use Rattle.basis.specs.Lookahead.{number}
use Rattle.theory.specs.Grammar.{◌∈◌}
use Rattle.table_first_follow.specs.Rules.{Family}
use Rattle.table_conflicts.specs.Windows.{Lowest, Shared, FirstFrom}
use Rattle.table_conflicts.specs.Conflicts.{HasNumber, FirstHolders}

module _ (F : Family) (whole : List ℕ) (n end : ℕ) (inside : (k : ℕ) → k ∈ whole → k < end) where
  -- where some part has it, the search finds one
  hit : (from r j : ℕ) → FirstFrom F whole from n end r → j ∈ whole → from ≤ j → HasNumber F j n → r < end
  hit from r j f m l h = elim (dec_lt r end) [ yes k ↦ k | no k ↦ absurd (f.before j m l (omega (arith, inside j m)) h) ]

  module _ (first second : ℕ) (f : FirstFrom F whole 0 n end first) (s : FirstFrom F whole (first + 1) n end second) where
    -- what has it and is not the first comes behind it
    behind : (j : ℕ) → j ∈ whole → HasNumber F j n → (j ≡ first → ⊥) → first + 1 ≤ j
    behind j m h apart = elim (dec_lt j first) [ yes k ↦ absurd (f.before j m (omega arith) k h) | no k ↦ let z : j ≢ first = apart in omega arith ]

    others : (j : ℕ) → j ∈ whole → HasNumber F j n → (j ≡ first) ⊎ (second ≤ j)
    others j m h =
        elim (ℕ_discrete j first) [
          | yes e ↦ inl e
          | no e ↦ elim (dec_lt j second) [ yes k ↦ absurd (s.before j m (behind j m h e) k h) | no k ↦ inr (omega arith) ]
        ]

    -- of two that have it, one is not the first
    another : (x : Bits) → number x ≡ n → Shared F whole x → second < end
    another x e h =
        elim (ℕ_discrete h.one first) [
          | yes q ↦ let z : h.other ≡ first → ⊥ = (λ p. h.apart (q ∙ sym p)) in
              hit (first + 1) second h.other s h.other_listed (behind h.other h.other_listed (x, e, h.other_has) z) (x, e, h.other_has)
          | no q ↦ hit (first + 1) second h.one s h.one_listed (behind h.one h.one_listed (x, e, h.one_has) q) (x, e, h.one_has)
        ]

    pub first_holders : Lowest (Shared F whole) n → 0 < n → FirstHolders F whole n first second
    first_holders l p =
        let x = l.some p in
        let a : first < end = hit 0 first x.2.one f x.2.one_listed (omega arith) (x.0, x.1, x.2.one_has) in
        let b : second < end = another x.0 x.1 x.2 in
        let g = f.found a in
        let t = s.found b in
        record { first_listed = g.0; second_listed = t.0; in_order = omega (arith, t.1); first_has = g.2; second_has = t.2; others = others }
