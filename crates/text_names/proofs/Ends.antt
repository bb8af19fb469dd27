-- Where the name at a place ends.
-- Assumes nothing.
use Prim.Native.Nat.{ℕ, ◌-◌, ◌≤◌, ◌<◌}
use mathlib.Core.Path.{◌≡◌, sym}
use mathlib.Core.List.{List, []}
use native.Mathlib.Omega.{arith}
use lib.ListN.{length, drop, drop_of_length-le}
use lib.Seq.{take-nil}
use Rattle.text_header.specs.Spans.{span_end}
use Rattle.text_header.specs.declared.Class.{Class}
use Rattle.text_header.proofs.Runs.{span_grows, span_within}
use Rattle.text_names.specs.Names.{name_at}

module _ (xs : List ℕ) (p end : ℕ) (e : end ≡ span_end Class.Name p (drop p xs)) where
  pub end_after : p ≤ end
  end_after = omega (arith, e, span_grows Class.Name p (drop p xs))

  pub end_within : p ≤ length xs → end ≤ length xs
  end_within h = omega (arith, e, span_within Class.Name xs p)

-- past the end of the text there is no name
pub name_past : (xs : List ℕ) (p : ℕ) → length xs < p → [] ≡ name_at xs p
name_past xs p h = let l : length xs ≤ p = omega arith in sym (rw (drop_of_length-le xs l) (take-nil (span_end Class.Name p [] - p)))
