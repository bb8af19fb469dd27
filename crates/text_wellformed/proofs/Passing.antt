-- Tests that pass: two at once, a number within bounds, words that are all 0.
-- Assumes nothing.
use Prim.Native.Nat.{ℕ, ◌-◌, ◌≤◌, ◌<◌}
use mathlib.Core.Path.{◌≡◌}
use mathlib.Core.Bool.{true}
use mathlib.Core.List.{List}
use borrow.Author.Tests.{le-leb, eq-eqb}
use lib.Dec.{eqb}
use Rattle.basis.proofs.Booleans.{both_pass}
use Rattle.table_layout.specs.Places.{word}
use Rattle.table_wellformed.specs.Checks.{limited, all_zero}
use Rattle.text_wellformed.proofs.Tests.{from_to_all}

pub limited_pass : (low n high : ℕ) → low ≤ n → n ≤ high → limited low n high ≡ true
limited_pass low n high l m = both_pass (le-leb low n l) (le-leb n high m)

pub zeros_pass : (ws : List ℕ) (start end : ℕ) → ((k : ℕ) → start ≤ k → k < end → word ws k ≡ 0) → all_zero ws start end ≡ true
zeros_pass ws start end h = from_to_all start end (λ k. eqb (word ws k) 0) (λ k l m. eq-eqb (word ws k) 0 (h k l m))
