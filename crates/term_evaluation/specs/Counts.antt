-- The counts of a repetition: `{n}`, `{a~b}`, `{a~}` or `{~b}`. A list of them ends in its `~`, where it has one.
-- "A repetition's counts are a set of whole numbers from 0: `{length - 8}` with length 5 is the empty set."
-- Assumes nothing.
use Rattle.std.specs.Prelude.{ℕ, ◌-◌, List, cond, ltb, ℤ, pos, Result, Ok, Err}
use Rattle.basis.specs.Counts.{Counts, exactly, at_least, span}
use Rattle.term_words.specs.Words.{term_at, terms}
use Rattle.term_evaluation.specs.Meaning.{run}
use Rattle.term_evaluation.specs.declared.Ended.{Ended}
use Rattle.term_evaluation.specs.declared.Form.{Form}
use Rattle.term_evaluation.specs.declared.Tally.{Tally}
use Rattle.term_words.specs.declared.Kind.{Kind}
use Rattle.term_words.specs.declared.Mode.{Mode}
use Rattle.term_words.specs.declared.Numbers.{Numbers}
use Rattle.term_words.specs.declared.Term.{Term}
use Rattle.term_words.specs.declared.TermError.{TermError}
use Rattle.term_evaluation.specs.declared.Allowed.{Allowed}

-- a set of counts as an answer
abbrev pub shown : Counts → Result Allowed TermError
shown Counts.none = Ok Allowed.None
shown (Counts.from low) = Ok (Allowed.From low)
shown (Counts.within low more) = Ok (Allowed.Within low more)

-- how counts are written, by their last term
abbrev pub form_of : Term → Form
form_of Term.Range = Form.Closed
form_of Term.From = Form.Open
form_of Term.UpTo = Form.UpTo
form_of (Term.Part o) = Form.Exact
form_of (Term.Single o) = Form.Exact
form_of Term.All = Form.Exact
form_of Term.Or = Form.Exact
form_of Term.Except = Form.Exact
form_of Term.And = Form.Exact
form_of (Term.Compare k) = Form.Exact
form_of Term.Bad = Form.Exact

-- where the calculations end, of a list whose last term has number `last`
abbrev pub calculations_end : Form → ℕ → ℕ → ℕ
calculations_end Form.Exact last end = end
calculations_end Form.Open last end = last
calculations_end Form.UpTo last end = last
calculations_end Form.Closed last end = last

-- counts with one number: `{n}`, `{a~}`, `{~b}`
abbrev pub of_one : Form → ℤ → Result Allowed TermError
of_one Form.Exact a = shown (exactly a)
of_one Form.Open a = shown (at_least a)
of_one Form.UpTo a = shown (span (pos 0) a)
of_one Form.Closed a = Err TermError.Malformed

-- counts with two: `{a~b}`
abbrev pub of_two : Form → ℤ → ℤ → Result Allowed TermError
of_two Form.Exact a b = Err TermError.Malformed
of_two Form.Open a b = Err TermError.Malformed
of_two Form.UpTo a b = Err TermError.Malformed
of_two Form.Closed a b = shown (span a b)

-- `{n}`, `{a~}` and `{~b}` of one number, `{a~b}` of two
abbrev pub of_numbers : Form → Numbers → Result Allowed TermError
of_numbers f Numbers.Zero = Err TermError.Malformed
of_numbers f (Numbers.One a) = of_one f a
of_numbers f (Numbers.Two a b) = of_two f a b
of_numbers f (Numbers.Three a b c) = Err TermError.Malformed
of_numbers f (Numbers.Four a b c d) = Err TermError.Malformed

-- counts whose calculations came to an end; one that passed 2^62 has no value
abbrev pub of_trial : Form → Result (Numbers × ℕ) TermError → Result Allowed TermError
of_trial f (Ok (s, t)) = of_numbers f s
of_trial f (Err e) = Err e

-- with the number of the term at which they ended: refusal 8 asks where
abbrev pub tally_end : Form → Ended → Tally
tally_end f e = record { counted = of_trial f e.trial; at = e.at }

-- counts with that form
abbrev pub tallied_by : Form → Mode → List ℤ → List ℕ → ℕ → ℕ → Tally
tallied_by f m env ws start end =
    tally_end f (run Kind.Calculation m env (pos 0) start (terms ws start (calculations_end f (end - 1) end)) Numbers.Zero 1)

-- what the terms from number `start` up to number `end` say, at the values or the sizes of the variables
unfoldable pub tallied : Mode → List ℤ → List ℕ → ℕ → ℕ → Tally
tallied m env ws start end =
    cond (ltb start end) (tallied_by (form_of (term_at ws (end - 1))) m env ws start end)
    (record { counted = Err TermError.Malformed; at = start })

-- the counts that they allow
unfoldable pub counts : List ℤ → List ℕ → ℕ → ℕ → Result Allowed TermError
counts env ws start end = (tallied Mode.Values env ws start end).counted
