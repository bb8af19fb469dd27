-- Membership of a set as a truth.
-- Assumes nothing.
use Rattle.std.specs.Prelude.{ℕ, Bool, true, false, List, ℤ, Result, Ok, Err}
use Rattle.std.proofs.Math.IntN.{sub_ℕ}
use Rattle.term_words.specs.declared.Term.{Term}
use Rattle.term_evaluation.specs.Meaning.{membership}
use Rattle.term_words.specs.declared.TermError.{TermError}

abbrev pub is_yes : Result Bool TermError → Bool
is_yes (Ok false) = false
is_yes (Ok true) = true
is_yes (Err e) = false

-- v is in the set
unfoldable pub holds : List ℤ → ℕ → List Term → ℤ → Bool
holds env i xs v = is_yes (membership env v i xs)

-- the value that is u, counted from −o on, is in the set
abbrev pub holds_from : ℕ → List ℤ → ℕ → List Term → ℕ → Bool
holds_from o env i xs u = holds env i xs (sub_ℕ u o)
