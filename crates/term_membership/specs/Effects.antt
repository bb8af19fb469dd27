-- What a term does to the numbers and tests that wait, whatever value is tried. Values are counted from the least of a width on (`basis` `Patterns`): the
-- natural number u stands for the value u − offset, so that items have natural numbers as ends.
-- Assumes nothing.
use Rattle.std.specs.Prelude.{ℕ, List, ℤ, pos, negsuc, ◌+ℤ◌, Option, Some, None, Result, Ok, Err}
use Rattle.term_words.specs.Numbers.{top_of, pair_of}
use Rattle.term_words.specs.Steps.{operate_of}
use Rattle.term_words.specs.declared.Mode.{Mode}
use Rattle.term_words.specs.declared.Numbers.{Numbers}
use Rattle.term_words.specs.declared.Term.{Term}
use Rattle.term_membership.specs.declared.Effect.{Effect}
use Rattle.term_words.specs.declared.TermError.{TermError}

-- the number itself, 0 for one below
abbrev pub clip : ℤ → ℕ
clip (pos n) = n
clip (negsuc n) = 0

-- ---- items, o the offset

-- from `low` up to a number; none where that is below 0
abbrev pub end_of : ℕ → ℤ → Effect
end_of low (pos n) = Effect.Within low n
end_of low (negsuc n) = Effect.Within 1 0

abbrev pub low_of : ℕ → ℤ → ℕ
low_of o a = clip (a +ℤ pos o)

abbrev pub item_of : ℕ → ℤ → ℤ → Effect
item_of o a b = end_of (low_of o a) (b +ℤ pos o)

abbrev pub equal_turn : ℕ → Option (Numbers × ℤ) → Option (Numbers × Effect)
equal_turn o (Some (rest, a)) = Some (rest, item_of o a a)
equal_turn o None = None

abbrev pub from_turn : ℕ → Option (Numbers × ℤ) → Option (Numbers × Effect)
from_turn o (Some (rest, a)) = Some (rest, Effect.From (low_of o a))
from_turn o None = None

abbrev pub up_to_turn : ℕ → Option (Numbers × ℤ) → Option (Numbers × Effect)
up_to_turn o (Some (rest, b)) = Some (rest, end_of 0 (b +ℤ pos o))
up_to_turn o None = None

abbrev pub pair_turn : ℕ → Option (Numbers × ℤ × ℤ) → Option (Numbers × Effect)
pair_turn o (Some (rest, a, b)) = Some (rest, item_of o a b)
pair_turn o None = None

-- ---- one term

abbrev pub part_turn : Result Numbers TermError → Option (Numbers × Effect)
part_turn (Ok s) = Some (s, Effect.None)
part_turn (Err e) = None

abbrev pub single_turn : ℕ → Result Numbers TermError → Option (Numbers × Effect)
single_turn o (Ok s) = equal_turn o (top_of s)
single_turn o (Err e) = None

abbrev pub turn_of : ℕ → List ℤ → Term → Numbers → Option (Numbers × Effect)
turn_of o env (Term.Part p) s = part_turn (operate_of Mode.Values env p s)
turn_of o env (Term.Single p) s = single_turn o (operate_of Mode.Values env p s)
turn_of o env Term.All s = Some (s, Effect.From 0)
turn_of o env Term.Range s = pair_turn o (pair_of s)
turn_of o env Term.From s = from_turn o (top_of s)
turn_of o env Term.UpTo s = up_to_turn o (top_of s)
turn_of o env Term.Or s = Some (s, Effect.Or)
turn_of o env Term.Except s = Some (s, Effect.Except)
turn_of o env Term.And s = None
turn_of o env (Term.Compare k) s = None
turn_of o env Term.Bad s = None
