-- The fields of every run that was opened are told.
-- Assumes nothing.
use Prim.Native.Nat.{ℕ, ◌≤◌}
use mathlib.Core.Path.{◌≡◌, sym, subst}
use mathlib.Core.List.{List}
use lib.ListN.{length}
use Rattle.basis.specs.Limits.{max_frame_bytes, table_words}
use Rattle.table_layout.specs.Places.{table_of}
use Rattle.table_layout.specs.Constructs.{construct_at}
use Rattle.table_hypotheses.proofs.HeldLocal.{constructs_same}
use Rattle.table_hypotheses.proofs.LongTables.{table_alike}
use Rattle.run_steps.specs.Steps.{Whole, whole, steps_of}
use Rattle.run_grants.specs.Runs.{whole_of, opened_run}
use Rattle.run_matcher.specs.Opening.{Opened}
use Rattle.run_matcher.specs.Conditions.{Grant, granted, OthersRefused, run_kept, reading_kept, start, here, Granted}
use Rattle.run_matcher.proofs.Conditions.{condition_3}
use Rattle.run_readings.specs.Told.{Filled, no_field, Told, FieldsTold}
use Rattle.run_readings.proofs.Filling.{Filling, steps_filling, each_told}

-- of a run that grants brought where condition 3 says, on a table and for a frame of their sizes
module _ (ws fs rs : List ℕ) (gs : List Grant) (needed : ℕ) (long : table_words ≤ length ws) (short : length fs ≤ max_frame_bytes) (g : Granted ws fs rs gs needed) where
  same : (i : ℕ) → construct_at (table_of ws) i ≡ construct_at ws i
  same i = constructs_same (table_alike ws long) i

  run_filled : Filled ws fs (reading_kept (here ws fs rs gs)) (run_kept (here ws fs rs gs)).captures (run_kept (here ws fs rs gs)).position
  run_filled =
      subst (Filling (table_of ws) ws fs same long short) (sym g.state) (steps_filling (table_of ws) ws fs same long short (granted gs) (whole_of rs opened_run) no_field)

  pub told_of : Told ws fs rs gs
  told_of = record { filled = run_filled; not_refused = each_told ws fs (reading_kept (here ws fs rs gs)) run_filled }

pub fields_told : FieldsTold
fields_told ws fs rs o gs r = told_of ws fs rs gs (condition_3 ws fs rs o).needed o.0.0 o.1 ((condition_3 ws fs rs o).granting gs r)
