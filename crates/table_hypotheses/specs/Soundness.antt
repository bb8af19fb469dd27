-- What the theory asks of the grammar that a table's words hold, in the theory's own words. A sound table has all of it (proofs/, `trusted`).
-- Assumes nothing.
use Rattle.std.specs.Prelude.{ℕ, ◌≤◌, ◌≡◌, Bool, List}
use Rattle.basis.specs.Limits.{max_entries}
use Rattle.basis.specs.Bits.{Bits}
use Rattle.theory.specs.Grammar.{field}
use Rattle.theory.specs.Hypotheses.{Static, Hypotheses}
use Rattle.theory.specs.Weight.{Outweighs, HasRoom}
use Rattle.theory.specs.Scope.{Lexical}
use Rattle.table_layout.specs.Places.{weight_of}
use Rattle.table_layout.specs.Held.{Context, first_context, Values, held, opening}
use Rattle.table_scope.specs.Scope.{store, fresh, scope_of}
use Rattle.run_actions.specs.Stored.{tests_of}

-- each in the theory's own words; above it stands the rule of document 01 that gives it
pub record Trusted (ws : List ℕ) : Type 0 where
  -- FIRST goes by no values, and misses nothing: "a set with a variable counting as `~`", "counts with a variable allowing all"
  pub static : Static (held ws)
  -- 6, 7, 9, 10, and "Opening a run tries 23": no conflict, no empty body, and a step's lookups answer exactly by the grammar's sets
  pub hypotheses : Hypotheses (held ws) (tests_of ws)
  -- 6 and 7: "Variables are local to a rule ...; uses stand in later members."
  pub lexical : Lexical store (scope_of ws) fresh (held ws)
  -- "Weight: ..." and 11: there are weights, and the table's is that "as a use of its start rule"
  pub weight : Context → ℕ → ℕ
  pub outweighs : Outweighs (held ws) weight
  pub weight_stored : weight first_context opening ≡ weight_of ws
  -- 24, "the list is longer than 256": no run from an opening has more entries pending
  pub rooms : Context → ℕ → ℕ
  pub has_room : HasRoom (held ws) rooms
  pub room_most : rooms first_context opening ≤ max_entries
  -- 22, "two u32 words for each frame bit": a field takes at least one bit, so no bit has two captures
  pub one_capture_a_bit : (i : ℕ) {w : Bits → ℕ} {admits : Context → Values → Bits → Bool} {static : Bits → Bool} {binds : Context → Values → Bits → Values}
      → (held ws).node i ≡ field w admits static binds → (s : Bits) → 1 ≤ w s
