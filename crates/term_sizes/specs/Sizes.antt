-- The size rule: refusal 8 is given for "a calculation, or part of one, whose size may pass 2^62 (variables at their widest, sizes added
-- and multiplied)". A size is what a calculation's value is once every minus is a plus: a list of terms in the mode of sizes.
-- Assumes nothing.
use Rattle.std.specs.Prelude.{ℕ, List, ℤ, pos, Result, Ok, Err, Bool, ⊤}
use Rattle.term_evaluation.specs.Meaning.{run, number_of, verdict_of}
use Rattle.term_evaluation.specs.Counts.{tallied}
use Rattle.term_evaluation.specs.declared.Ended.{Ended}
use Rattle.term_words.specs.declared.Kind.{Kind}
use Rattle.term_words.specs.declared.Mode.{Mode}
use Rattle.term_words.specs.declared.Numbers.{Numbers}
use Rattle.term_words.specs.declared.Term.{Term}
use Rattle.term_evaluation.specs.declared.Tally.{Tally}
use Rattle.term_words.specs.declared.TermError.{TermError}
use Rattle.term_evaluation.specs.declared.Allowed.{Allowed}
use Rattle.term_sizes.specs.declared.SizeError.{SizeError}

-- ---- a list that comes to an end passes; one that leaves 2^62 does so at a term, of the whole or of a part

-- what went wrong, at a term
abbrev pub past : TermError → ℕ → Result ⊤ SizeError
past TermError.Malformed at = Err SizeError.Malformed
past TermError.Overflow at = Err (SizeError.Exceeds at)

-- of a calculation
abbrev pub of_calculated : Result ℤ TermError → ℕ → Result ⊤ SizeError
of_calculated (Ok z) at = Ok tt
of_calculated (Err e) at = past e at

-- of a set or a condition
abbrev pub of_tested : Result Bool TermError → ℕ → Result ⊤ SizeError
of_tested (Ok t) at = Ok tt
of_tested (Err e) at = past e at

-- of counts
abbrev pub of_counted : Result Allowed TermError → ℕ → Result ⊤ SizeError
of_counted (Ok n) at = Ok tt
of_counted (Err e) at = past e at

-- by the kind of list
abbrev pub judged : Kind → Result (Numbers × ℕ) TermError → ℕ → Result ⊤ SizeError
judged Kind.Calculation r at = of_calculated (number_of r) at
judged Kind.Set r at = of_tested (verdict_of r) at
judged Kind.Condition r at = of_tested (verdict_of r) at

-- at the term where it ended
abbrev pub judged_end : Kind → Ended → Result ⊤ SizeError
judged_end k e = judged k e.trial e.at

-- of a calculation, or of all the calculations of a set or a condition; `widest` has the size of each variable
unfoldable pub sizes : Kind → List ℤ → ℕ → List Term → Result ⊤ SizeError
sizes k widest i xs = judged_end k (run k Mode.Sizes widest (pos 0) i xs Numbers.Zero 1)

-- of counts
abbrev pub of_tally : Tally → Result ⊤ SizeError
of_tally x = of_counted x.counted x.at

-- of the counts that are the terms from number `start` up to number `end`
unfoldable pub count_sizes : List ℤ → List ℕ → ℕ → ℕ → Result ⊤ SizeError
count_sizes widest ws start end = of_tally (tallied Mode.Sizes widest ws start end)
