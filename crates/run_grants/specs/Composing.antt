-- One grant and many, over any words: what 24 asks is kept by steps, and grants add up, refused or not.
-- Assumes nothing.
use Rattle.std.specs.Prelude.{ℕ, ◌+◌, ◌≡◌, Bool, true, List, length}
use Rattle.basis.specs.Limits.{max_entries}
use Rattle.run_steps.specs.Steps.{Whole, whole, steps_of}
use Rattle.run_grants.specs.Runs.{whole_of, fitting, After, run_in, reading_in, answer_in, grant_of, number_of, taken_of}
use Rattle.run_grants.specs.declared.Run.{Run}

-- not 24, of a run with its reading
abbrev pub fits : List ℕ → List ℕ → Whole → Bool
fits ws fs (whole cs ps vs rs h) = fitting ws fs (length rs) cs ps h

-- a run by value has two arrays for its list
abbrev pub Arrays : Run → Type 0
Arrays run = (length run.constructs ≡ max_entries) × (length run.passes ≡ max_entries)

-- a run that 24 lets pass passes it after any number of steps, over the same table, frame and reading
abbrev pub FittingKept : Type 0
FittingKept = (ws fs rs : List ℕ) (run : Run) (n : ℕ) → Arrays run → fits ws fs (whole_of rs run) ≡ true → fits ws fs (steps_of ws fs n (whole_of rs run)) ≡ true

-- a further grant to what a grant left
abbrev pub further : List ℕ → List ℕ → After → ℕ → After
further ws fs x n = grant_of ws fs (reading_in x) (run_in x) n

-- a grant that left x and a further one that left y come to z: the same run, the same words and the same number, and the steps taken are added
pub record ComeTo (x y z : After) : Type 0 where
  pub run : run_in y ≡ run_in z
  pub reading : reading_in y ≡ reading_in z
  pub number : number_of (answer_in y) ≡ number_of (answer_in z)
  pub taken : taken_of (answer_in x) + taken_of (answer_in y) ≡ taken_of (answer_in z)

-- a grant of m steps and a further one of n come to one grant of m + n
abbrev pub GrantsCompose : Type 0
GrantsCompose = (ws fs rs : List ℕ) (run : Run) (m n : ℕ) → Arrays run → ComeTo (grant_of ws fs rs run m) (further ws fs (grant_of ws fs rs run m) n) (grant_of ws fs rs run (m + n))
