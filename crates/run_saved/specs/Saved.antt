-- The bytes of a saved run.
-- Assumes nothing.
use Rattle.std.specs.Prelude.{ℕ, zero, suc, ◌+◌, ◌*◌, ◌-◌, ◌^◌, ◌/◌, ◌%◌, List, [], ◌∷◌, ◌++◌, cond, eqb, ltb, ℤ, pos, negsuc, length, drop}
use Rattle.basis.specs.Limits.{max_variables, max_entries}
use Rattle.run_grants.specs.Runs.{closed_run}
use Rattle.run_grants.specs.declared.Run.{Run}

-- where the values, the verdict and the two words of each entry begin, behind four numbers of eight bytes
abbrev pub values_at : ℕ
values_at = 32

abbrev pub verdict_at : ℕ
verdict_at = values_at + 8 * max_variables

abbrev pub entries_at : ℕ
entries_at = verdict_at + 4

abbrev pub passes_at : ℕ
passes_at = entries_at + 4 * max_entries

-- how many bytes a saved run has
abbrev pub saved_bytes : ℕ
saved_bytes = passes_at + 4 * max_entries

-- a number in so many bytes, the lowest first
unfoldable pub bytes : ℕ → ℕ → List ℕ
bytes zero n = []
bytes (suc w) n = n % 256 ∷ bytes w (n / 256)

-- the number that the first so many bytes are
unfoldable pub number : ℕ → List ℕ → ℕ
number zero bs = 0
number (suc w) [] = 0
number (suc w) (b ∷ bs) = b + 256 * number w bs

-- a whole number in two's complement of 64 bits
abbrev pub pattern : ℤ → ℕ
pattern (pos n) = n
pattern (negsuc n) = 2 ^ 64 - suc n

-- and back
abbrev pub whole : ℕ → ℤ
whole n = cond (ltb n (2 ^ 63)) (pos n) (negsuc (2 ^ 64 - suc n))

-- a word is its own pattern
abbrev pub plain : ℕ → ℕ
plain n = n

-- a list's elements one after the other, each in w bytes
unfoldable pub listed : {A : Type 0} → (A → ℕ) → ℕ → List A → List ℕ
listed f w [] = []
listed f w (x ∷ xs) = bytes w (f x) ++ listed f w xs

-- the n elements that stand so
unfoldable pub numbers : {A : Type 0} → (ℕ → A) → ℕ → ℕ → List ℕ → List A
numbers f w zero bs = []
numbers f w (suc n) bs = f (number w bs) ∷ numbers f w n (drop w bs)

-- a run's bytes: what has eight bytes first, so that all is aligned
unfoldable pub encoded : Run → List ℕ
encoded run =
    bytes 8 run.position
    ++ (bytes 8 run.count
    ++ (bytes 8 run.captures
    ++ (bytes 8 run.steps
    ++ (listed pattern 8 run.values
    ++ (bytes 4 run.verdict
    ++ (listed plain 4 run.constructs
    ++ listed plain 4 run.passes))))))

-- and the run that so many bytes are
unfoldable pub decoded : List ℕ → Run
decoded bs =
    record {
      position = number 8 bs;
      count = number 8 (drop 8 bs);
      captures = number 8 (drop 16 bs);
      steps = number 8 (drop 24 bs);
      verdict = number 4 (drop verdict_at bs);
      constructs = numbers plain 4 max_entries (drop entries_at bs);
      passes = numbers plain 4 max_entries (drop passes_at bs);
      values = numbers whole 8 max_variables (drop values_at bs);
    }

-- bytes of any length: a closed run, where they are no saved run
abbrev pub restored : List ℕ → Run
restored bs = cond (eqb (length bs) saved_bytes) (decoded bs) closed_run

-- what a slice of any length then holds: where a saved run doesn't fill it, what it held
abbrev pub stored : Run → List ℕ → List ℕ
stored run out = cond (eqb (length out) saved_bytes) (encoded run) out
