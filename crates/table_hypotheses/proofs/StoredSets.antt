-- A set that stands in a table's words is looked up exactly.
-- Assumes nothing.
use Prim.Native.Nat.{ℕ, ◌≤◌}
use mathlib.Core.Path.{◌≡◌}
use mathlib.Core.Logic.{◌↔◌}
use mathlib.Core.Bool.{true}
use mathlib.Core.List.{List}
use borrow.Author.Tests.{eqb-true, eq-eqb}
use lib.ListN.{length}
use Rattle.basis.specs.Bits.{Bits}
use Rattle.basis.specs.Lookahead.{number}
use Rattle.lookahead.specs.Sets.{bit}
use Rattle.lookahead_slices.specs.Narrow.{member_at}
use Rattle.lookahead_slices.proofs.NarrowLaws.{has_stands}
use Rattle.run_actions.specs.Stored.{stored}
use Rattle.table_judge.specs.Sound.{Stands}

-- a lookup is membership
looked_up : (ws : List ℕ) (at n : ℕ) → (stored ws at n ≡ true) ↔ (member_at ws at n ≡ 1)
unfolding stored member_at bit
looked_up ws at n = ((λ e. eqb-true _ _ e), (λ e. eq-eqb _ _ e))

pub stored_exact : {ws : List ℕ} {at : ℕ} {A : Bits → Type 0} → Stands ws at A → (x : Bits) → length x ≤ 8 → (stored ws at (number x) ≡ true) ↔ A x
stored_exact {ws} {at} s x h =
    let there = has_stands ws at s.set s.there x in
    let strings = s.is.strings x in
    let lookup = looked_up ws at (number x) in
    ((λ e. strings.0 (there.0 (h, lookup.0 e))), (λ a. lookup.1 (there.1 (strings.1 a)).1))
