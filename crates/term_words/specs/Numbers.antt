-- The stack on which a calculation is worked out.
-- Assumes nothing.
use Rattle.std.specs.Prelude.{ℤ, neg_ℤ, ◌+ℤ◌, ◌-ℤ◌, Option, Some, None, Result, Ok, Err}
use Rattle.term_words.specs.declared.Mode.{Mode}
use Rattle.term_words.specs.declared.Mode.TheVariants.{Values, Sizes}
use Rattle.term_words.specs.declared.Numbers.{Numbers}
use Rattle.term_words.specs.declared.Numbers.TheVariants.{Zero, One, Two, Three, Four}
unfoldable pub use Rattle.term_integers.specs.Wholes.{bounded, equals}
use Rattle.term_words.specs.declared.TermError.{TermError}

-- `a - b`; "sizes added": a size has no sign
abbrev pub difference_of : Mode → ℤ → ℤ → ℤ
difference_of Values a b = a -ℤ b
difference_of Sizes a b = a +ℤ b

-- `-a`, whose size is that of a
abbrev pub opposite_of : Mode → ℤ → ℤ
opposite_of Values a = neg_ℤ a
opposite_of Sizes a = a

-- one number more; a fifth has no room, and no calculation needs it
abbrev pub pushed : Numbers → ℤ → Result Numbers TermError
pushed Zero z = Ok (One z)
pushed (One a) z = Ok (Two a z)
pushed (Two a b) z = Ok (Three a b z)
pushed (Three a b c) z = Ok (Four a b c z)
pushed (Four a b c d) z = Err TermError.Malformed

-- a result, where it is in bounds
abbrev pub kept : Numbers → Option ℤ → Result Numbers TermError
kept s (Some z) = pushed s z
kept s None = Err TermError.Overflow

-- the last number
abbrev pub top_of : Numbers → Option (Numbers × ℤ)
top_of Zero = None
top_of (One a) = Some (Zero, a)
top_of (Two a b) = Some (One a, b)
top_of (Three a b c) = Some (Two a b, c)
top_of (Four a b c d) = Some (Three a b c, d)

-- the last two
abbrev pub pair_of : Numbers → Option (Numbers × ℤ × ℤ)
pair_of Zero = None
pair_of (One a) = None
pair_of (Two a b) = Some (Zero, a, b)
pair_of (Three a b c) = Some (One a, b, c)
pair_of (Four a b c d) = Some (Two a b, c, d)
