-- "Weight: field or eod 1; rule use 1 + body; concatenation 1 + sum; alternative or switch 1 + largest; repetition 2 × body + 1; grammar,
-- as a use of its start rule." (theory, Weight.) Refusal 11: "weight over 65,535".
-- Assumes nothing.
use Rattle.std.specs.Prelude.{ℕ, ◌<◌, ◌≡◌, List, get_or}
use Rattle.basis.specs.Limits.{max_constructs}
use Rattle.theory.specs.Weight.{Weighs}
use Rattle.table_layout.specs.Held.{Context, first_context, held, opening}
use Rattle.table_reach.specs.Reaching.{Acyclic}
use Rattle.table_weights.specs.Ruled.{Ruled}
use Rattle.table_weights.specs.Sweeps.{capped}

-- the list has the weight of each construct, up to one past the limit (no more than one function gives the weights, and the laws say that one does)
abbrev pub Weights : List ℕ → List ℕ → Type 0
Weights ws xs = Ruled ws → Acyclic ws → (weight : Context → ℕ → ℕ) → Weighs (held ws) weight → (i : ℕ) → i < max_constructs → get_or xs i 0 ≡ capped (weight first_context i)

-- the grammar's weight, so too
abbrev pub Weight : List ℕ → ℕ → Type 0
Weight ws n = Ruled ws → Acyclic ws → (weight : Context → ℕ → ℕ) → Weighs (held ws) weight → n ≡ capped (weight first_context opening)
