-- A grammar's weights are at least 1, large enough for the theorems, and room enough: what a construct takes up of the list of pending
-- entries is no more than its weight.
-- Assumes nothing.
use Prim.Native.Nat.{ℕ, ◌+◌, ◌≤◌}
use native.Mathlib.Omega.{arith}
use mathlib.Core.List.{List, [], ◌∷◌}
use mathlib.Core.Option.{none, some}
use lib.ListN.{length}
use Rattle.theory.specs.Grammar.{Node, alternative, concatenation, repetition, switch, use_of, field, eod, Grammar}
use Rattle.theory.specs.Weight.{sum, weigh, Weighs, Outweighs, members_room, room, HasRoom}

-- members that weigh at least 1 each
length_sum : (f : ℕ → ℕ) → ((i : ℕ) → 1 ≤ f i) → (is : List ℕ) → length is ≤ sum f is
unfolding sum
length_sum f p [] = omega arith
length_sum f p (i ∷ is) = omega (arith, p i, length_sum f p is)

members_fit : (f : ℕ → ℕ) → ((i : ℕ) → 1 ≤ f i) → (is : List ℕ) → members_room f is ≤ sum f is
unfolding sum members_room
members_fit f p [] = omega arith
members_fit f p (i ∷ is) = omega (arith, length_sum f p is, members_fit f p is)

module _ {Context Values : Type 0} (weight : Context → ℕ → ℕ) (c : Context) where
  pub weigh_positive : (n : Node Context Values) → 1 ≤ weigh weight c n
  unfolding weigh
  weigh_positive (alternative is) = omega arith
  weigh_positive (concatenation is) = omega arith
  weigh_positive (repetition counts static fixed b) = omega arith
  weigh_positive (switch chosen optional is) = omega arith
  weigh_positive (use_of enters opens closes b) = elim (enters c) as (λ o. 1 ≤ elim o [ none ↦ 1 | some c' ↦ 1 + weight c' b ]) [ none ↦ omega arith | some c' ↦ omega arith ]
  weigh_positive (field w admits static binds) = omega arith
  weigh_positive eod = omega arith

  room_fits : ((i : ℕ) → 1 ≤ weight c i) → (n : Node Context Values) → room weight c n ≤ weigh weight c n
  unfolding weigh room
  room_fits p (alternative is) = omega arith
  room_fits p (concatenation is) = omega (arith, members_fit (weight c) p is)
  room_fits p (repetition counts static fixed b) = omega arith
  room_fits p (switch chosen optional is) = omega arith
  room_fits p (use_of enters opens closes b) =
      elim (enters c) as (λ o. elim o [ none ↦ 0 | some c' ↦ weight c' b ] ≤ elim o [ none ↦ 1 | some c' ↦ 1 + weight c' b ])
      [ none ↦ omega arith | some c' ↦ omega arith ]
  room_fits p (field w admits static binds) = omega arith
  room_fits p eod = omega arith

pub has_room : {Context Values : Type 0} (g : Grammar Context Values) (weight : Context → ℕ → ℕ) → Weighs g weight → HasRoom g weight
has_room g weight w c i = (positive i, omega (arith, w c i, room_fits weight c positive (g.node i)))
  where
    positive : (j : ℕ) → 1 ≤ weight c j
    positive j = omega (arith, w c j, weigh_positive weight c (g.node j))

pub outweighs : {Context Values : Type 0} (g : Grammar Context Values) (weight : Context → ℕ → ℕ) → Weighs g weight → Outweighs g weight
outweighs g weight weighs c i = omega (arith, weighs c i)
