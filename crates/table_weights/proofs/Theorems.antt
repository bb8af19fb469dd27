-- What of a table whose rules lie well, and of which none reaches itself, the theory asks: weights and room.
-- Assumes nothing.
use Prim.Native.Nat.{ℕ, ◌≤◌, ◌<◌}
use native.Mathlib.Omega.{arith}
use mathlib.Core.Path.{◌≡◌}
use mathlib.Core.Logic.{◌↔◌}
use mathlib.Core.List.{List}
use lib.ListN.{get_or}
use Rattle.basis.specs.Limits.{max_constructs, max_weight, max_entries}
use Rattle.theory.specs.Weight.{Weighs, HasRoom}
use Rattle.table_layout.specs.Held.{Context, first_context, held, opening}
use Rattle.table_reach.specs.Reaching.{Acyclic}
use Rattle.table_weights.specs.Ruled.{Ruled}
use Rattle.table_weights.specs.Sweeps.{capped}
use Rattle.table_weights.specs.Weighed.{Weights, Weight}
use Rattle.table_weights.proofs.Heights.{weight_at, weighs, unique}
use Rattle.table_weights.proofs.Rooms.{rooms, has_room, opening_room}

module _ (ws : List ℕ) (ruled : Ruled ws) (acyclic : Acyclic ws) where
  -- there are weights, and no others
  pub weights_exist : Weighs (held ws) (λ c i. weight_at ws i)
  weights_exist = weighs ws ruled acyclic

  pub weights_unique : (v w : Context → ℕ → ℕ) → Weighs (held ws) v → Weighs (held ws) w → (i : ℕ) → v first_context i ≡ w first_context i
  weights_unique = unique ws ruled acyclic

  -- what the function's answer says of them
  pub entry_weight : (xs : List ℕ) → Weights ws xs → (i : ℕ) → i < max_constructs → get_or xs i 0 ≡ capped (weight_at ws i)
  entry_weight xs a = a ruled acyclic (λ c i. weight_at ws i) weights_exist

  pub grammar_weight : (n : ℕ) → Weight ws n → n ≡ capped (weight_at ws opening)
  grammar_weight n a = a ruled acyclic (λ c i. weight_at ws i) weights_exist

  -- refusal 11: "weight over 65,535"
  pub within_limit : (n : ℕ) → Weight ws n → n ≤ max_weight → n ≡ weight_at ws opening
  within_limit n a h = omega (arith, grammar_weight n a)

  pub over_limit : (n : ℕ) → Weight ws n → (max_weight < n) ↔ (max_weight < weight_at ws opening)
  over_limit n a = (λ h. omega (arith, grammar_weight n a), λ h. omega (arith, grammar_weight n a))

  -- room for every entry, and no more from an opening than the list has
  pub rooms_enough : HasRoom (held ws) (rooms ws) × (rooms ws first_context opening ≤ max_entries)
  rooms_enough = (has_room ws ruled acyclic, opening_room ws ruled acyclic)
