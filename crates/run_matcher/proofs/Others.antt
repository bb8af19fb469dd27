-- Grants that are turned away whatever the run: so condition 3's lists do hold refused ones.
-- Assumes nothing.
use Prim.Native.Nat.{ℕ, ◌≤◌, ◌<◌}
use native.Mathlib.Omega.{arith}
use borrow.Author.Tests.{le-leb, lt-leb}
use mathlib.Core.Path.{◌∙◌}
use mathlib.Core.Logic.{inl, inr}
use mathlib.Core.List.{List}
use mathlib.Core.Option.{Option}
use lib.ListN.{length, length-take}
use Rattle.basis.specs.Limits.{max_frame_bytes}
use Rattle.table_layout.specs.Places.{table_words, table_of}
use Rattle.run_grants.specs.Runs.{fitting}
use Rattle.run_grants.proofs.Grants.{refusal_told}
use Rattle.run_matcher.specs.Conditions.{Kept, other, run_kept, handed, call, TurnedAway}

module _ (ws fs table frame : List ℕ) (reading : Option (List ℕ)) (n : ℕ) (k : Kept) where
  -- a frame over 1,024 bytes
  pub long_frame : max_frame_bytes < length frame → TurnedAway (other table frame reading n) (call ws fs k (other table frame reading n))
  long_frame l = inl (refusal_told (table_of table) frame (handed k reading) (run_kept k) n ∙ simp (lt-leb (length frame) max_frame_bytes l))

  -- a table shorter than 16,384 words
  pub short_table : length table < table_words → length frame ≤ max_frame_bytes → TurnedAway (other table frame reading n) (call ws fs k (other table frame reading n))
  unfolding fitting
  short_table l s =
      let z : length (table_of table) < table_words = omega (arith, length-take table_words table) in
      inr (refusal_told (table_of table) frame (handed k reading) (run_kept k) n ∙ simp (le-leb (length frame) max_frame_bytes s, lt-leb table_words (length (table_of table)) z))
