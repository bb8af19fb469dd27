-- Refusal 23. "A table is sound when it has 16,384 words, is laid out as the team's docs/ say and its rules pass 5 to 11 where they apply";
-- "Soundness of a table asks the same" of 12 and 13 (Req 06).
-- Assumes nothing.
use Rattle.std.specs.Prelude.{ℕ, ◌≤◌, ◌<◌, ◌≡◌, List, length}
use Rattle.basis.specs.Bits.{Bits}
use Rattle.lookahead.specs.Sets.{Is}
use Rattle.lookahead_slices.specs.Narrow.{StandsAt}
use Rattle.theory.specs.Lookahead.{Follow, Predicted}
use Rattle.table_layout.specs.Places.{table_words, table_of, construct_count, weight_of}
use Rattle.table_layout.specs.Held.{held}
use Rattle.run_actions.specs.Stored.{prediction_at, follow_at}
use Rattle.table_reach.specs.Reaching.{AllReached}
use Rattle.table_judge.specs.Judged.{Passed10, Weighing, None, Valueless}

-- the set of the strings that A names stands in the table's words from a place on
pub record Stands (ws : List ℕ) (at : ℕ) (A : Bits → Type 0) : Type 0 where
  pub set : List ℕ
  pub is : Is set A
  pub there : StandsAt ws at set

-- a construct's prediction set and FOLLOW set
pub record SetsStand (ws : List ℕ) (i : ℕ) : Type 0 where
  pub prediction : Stands ws (prediction_at i) (Predicted (held ws) i)
  pub follow : Stands ws (follow_at i) (Follow (held ws) i)

-- the words judged: unused ones are 0 (`laid`), and sets and weight are those of the grammar that they hold
pub record Sound (ws : List ℕ) : Type 0 where
  pub passed : Passed10 ws
  pub weight : Weighing ws (λ n. n ≡ weight_of ws)
  pub reached : AllReached ws
  pub valued : None (Valueless ws)
  pub sets : (i : ℕ) → i < construct_count ws → SetsStand ws i

-- "Words past 16,384 are neither read nor changed": a caller may lend more words, and the first 16,384 are judged
abbrev pub SoundTable : List ℕ → Type 0
SoundTable ws = (table_words ≤ length ws) × Sound (table_of ws)
