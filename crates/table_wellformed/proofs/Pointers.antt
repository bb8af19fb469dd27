-- Laws of the pointer over the lists of terms, as its loop goes.
-- Assumes nothing.
use Prim.Native.Nat.{ℕ, ◌+◌, ◌-◌, ◌≤◌, ◌<◌}
use mathlib.Core.Path.{◌≡◌}
use mathlib.Core.Bool.{true, false}
use mathlib.Core.List.{List}
use native.Mathlib.Omega.{arith}
use lib.Dec.{eqb}
use Rattle.table_layout.specs.Places.{term_count}
use Rattle.table_wellformed.proofs.Every.{left}
use Rattle.table_wellformed.specs.Lists.{lists_begin, after_lists, lists_from}

module _ (ws : List ℕ) (end i p : ℕ) where
  pub lists_turn : i < end → lists_begin ws i p ≡ true → lists_from (end - i) ws i p ≡ lists_from (end - (i + 1)) ws (i + 1) (after_lists ws i p)
  unfolding lists_from
  lists_turn h e = rw (left end i h, e, lists_from)

  pub lists_stop : i < end → lists_begin ws i p ≡ false → lists_from (end - i) ws i p ≡ false
  unfolding lists_from
  lists_stop h e = rw (left end i h, e, lists_from)

  pub lists_end : end ≤ i → lists_from (end - i) ws i p ≡ eqb p (term_count ws)
  unfolding lists_from
  lists_end h = let z : end - i ≡ 0 = omega arith in rw z
