-- Words that pass the judgement, completed to a sound table.
-- Assumes nothing.
use Rattle.std.specs.Prelude.{ℕ, Result, Ok, Err, ◌+◌, ◌*◌, ◌≤◌, ◌<◌, ◌≡◌, ◌⊎◌, List, length, get_or, drop}
use Rattle.lookahead_slices.specs.Family.{part}
use Rattle.lookahead_slices.specs.Narrow.{StandsAt}
use Rattle.table_layout.specs.Places.{table_words, sets_at}
use Rattle.run_actions.specs.Stored.{prediction_at, follow_at}
use Rattle.table_hypotheses.specs.OneTable.{Alike}
use Rattle.table_judge.specs.Sound.{Sound}
use Rattle.table_judge.specs.declared.Fault.{Fault}

-- the sets of the first n constructs were written, and nothing else
pub record SetsWritten (old new follow prediction : List ℕ) (n : ℕ) : Type 0 where
  pub same_length : length new ≡ length old
  pub prediction_stands : (i : ℕ) → i < n → StandsAt new (prediction_at i) (part i prediction)
  pub follow_stands : (i : ℕ) → i < n → StandsAt new (follow_at i) (part i follow)
  pub others : (k : ℕ) → (k < sets_at) ⊎ (sets_at + 32 * n ≤ k) → get_or new k 0 ≡ get_or old k 0

-- refused, the words are as they were; else the table is sound and holds the grammar that was judged, and "words past 16,384 are neither read nor changed"
abbrev pub Completed : List ℕ → List ℕ → Result ℕ Fault → Type 0
Completed old new (Err fault) = new ≡ old
Completed old new (Ok weight) = Sound new × Alike old new × (length new ≡ length old) × (drop table_words new ≡ drop table_words old)
