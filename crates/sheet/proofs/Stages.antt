-- The sheet's trees: 5 and 6 are given for none, 7 for K11's alone, and 8 for none of the others.
-- Assumes nothing.
use Prim.Native.Nat.{ℕ}
use mathlib.Core.Path.{◌≡◌, refl}
use mathlib.Core.List.Memᴰ
use mathlib.Core.List.{List}
use mathlib.Core.Option.{none}
use Rattle.text_header.specs.Spans.{starts}
use Rattle.tree.specs.Tree.{Rules}
use Rattle.tree_meaning.specs.Pieces.{pieces, rules_of}
use Rattle.tree_meaning.specs.Counted.{refusal_5}
use Rattle.tree_meaning.specs.Names.{refusal_6}
use Rattle.tree_meaning.specs.Reaching.{used_in, directly, through, Refusal7, Acyclic}
use Rattle.tree_meaning.specs.Sizes.{refusal_8}
use Rattle.tree_meaning.proofs.Building.{bytes}
use Rattle.tree_meaning.proofs.Computing.{judgement}
use Rattle.tree_meaning.proofs.Reached.{uses, uses_in, recursive_at, unused_before, none_before, falling, ranked}
use Rattle.tree_meaning.proofs.Sheet as trees

-- 5 and 6 are not given
pub record Named (t : Rules) : Type 0 where
  pub five : refusal_5 t ≡ none
  pub six : refusal_6 t ≡ none

-- nor 7 and 8
pub record Bounded (t : Rules) : Type 0 where
  pub named : Named t
  pub seven : Acyclic t
  pub eight : refusal_8 t ≡ none

-- one rank serves where no rule is used
abbrev one_rank : List ℕ → ℕ
one_rank x = 0

pub bounded_G : Bounded trees.G
unfolding judgement used_in falling trees.G
bounded_G = record { named = record { five = refl; six = refl }; seven = ranked one_rank trees.G refl; eight = refl }

pub bounded_K5 : Bounded trees.K5
unfolding judgement used_in falling trees.K5
bounded_K5 = record { named = record { five = refl; six = refl }; seven = ranked one_rank trees.K5 refl; eight = refl }

pub bounded_K6 : Bounded trees.K6
unfolding judgement used_in falling trees.K6
bounded_K6 = record { named = record { five = refl; six = refl }; seven = ranked one_rank trees.K6 refl; eight = refl }

pub bounded_K8 : Bounded trees.K8
unfolding judgement used_in falling trees.K8
bounded_K8 = record { named = record { five = refl; six = refl }; seven = ranked one_rank trees.K8 refl; eight = refl }

pub bounded_K9 : Bounded trees.K9
unfolding judgement used_in falling trees.K9
bounded_K9 = record { named = record { five = refl; six = refl }; seven = ranked one_rank trees.K9 refl; eight = refl }

pub bounded_K10 : Bounded trees.K10
unfolding judgement used_in falling trees.K10
bounded_K10 = record { named = record { five = refl; six = refl }; seven = ranked one_rank trees.K10 refl; eight = refl }

pub named_K11 : Named trees.K11
unfolding judgement trees.K11
named_K11 = record { five = refl; six = refl }

-- K11's rules use each other, and a is the first
pub recursive_K11 : Refusal7 trees.K11 0
unfolding trees.K11 bytes starts rules_of pieces used_in uses_in unused_before
recursive_K11 =
    record {
      recursive = recursive_at trees.K11 _ (Memᴰ.head refl) (through (uses {y = bytes "b"} refl) (directly (uses refl)));
      first = none_before trees.K11 0 refl;
    }
