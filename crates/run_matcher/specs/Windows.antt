-- "an alternative the branch whose windows hold what comes next"; "between, by go or stop".
-- Assumes nothing.
use Rattle.std.specs.Prelude.{ℕ, ◌≤◌, ◌≡◌, ◌↔◌, true, false, List, length}
use Rattle.basis.specs.Bits.{Bits}
use Rattle.basis.specs.Counts.{Counts}
use Rattle.theory.specs.Grammar.{alternative, repetition, Grammar, ◌∈◌}
use Rattle.theory.specs.Lookahead.{Predicted, Continues, Exits}
use Rattle.theory.specs.Machine.{Tests}

-- What a run looks up are the grammar's windows: a branch's, and go and stop of "a repetition not written `{n}`".
pub record Tells {Context Values : Type 0} (g : Grammar Context Values) (tests : Tests) : Type 0 where
  pub branch : {i b : ℕ} {is : List ℕ} → g.node i ≡ alternative is → b ∈ is → (x : Bits) → length x ≤ 8 → (tests.predicts b x ≡ true) ↔ Predicted g b x
  pub go : {i b : ℕ} {counts : Context → Values → Counts} {static : Counts}
      → g.node i ≡ repetition counts static false b → (x : Bits) → length x ≤ 8 → (tests.continues i x ≡ true) ↔ Continues g i b x
  pub stop : {i b : ℕ} {counts : Context → Values → Counts} {static : Counts}
      → g.node i ≡ repetition counts static false b → (x : Bits) → length x ≤ 8 → (tests.exits i x ≡ true) ↔ Exits g i x
