-- The FIRST, FOLLOW and prediction sets (document 01's first and follow windows, and a branch's windows) of the grammar that a table's
-- words hold: sets of eight words, one for each construct and one for the opening use of the start rule.
-- Assumes nothing.
use Rattle.std.specs.Prelude.{ℕ, ◌+◌, ◌*◌, ◌<◌, List}
use Rattle.basis.specs.Limits.{max_constructs}
use Rattle.lookahead.specs.Sets.{Is}
use Rattle.lookahead_slices.specs.Family.{part}
use Rattle.table_layout.specs.Held.{held}
use Rattle.theory.specs.Derivation.{construct}
use Rattle.theory.specs.Lookahead.{First, Follow, Predicted}

-- the constructs and the opening use
abbrev pub sets_held : ℕ
sets_held = max_constructs + 1

abbrev pub family_words : ℕ
family_words = 8 * sets_held

-- set i is exactly FIRST of construct i
abbrev pub FirstSets : List ℕ → List ℕ → Type 0
FirstSets ws words = (i : ℕ) → i < sets_held → Is (part i words) (First (held ws) (construct i ((held ws).node i)))

-- set i is exactly FOLLOW of construct i
abbrev pub FollowSets : List ℕ → List ℕ → Type 0
FollowSets ws words = (i : ℕ) → i < sets_held → Is (part i words) (Follow (held ws) i)

-- set i is exactly the prediction set of construct i
abbrev pub PredictionSets : List ℕ → List ℕ → Type 0
PredictionSets ws words = (i : ℕ) → i < sets_held → Is (part i words) (Predicted (held ws) i)
