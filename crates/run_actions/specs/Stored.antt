-- What a step looks up in the stored sets (docs/TABLE.md): a set is sixteen words of 32 bits, the string with number n is bit n % 32 of
-- word n / 32.
-- Assumes nothing.
use Rattle.std.specs.Prelude.{ℕ, ◌+◌, ◌*◌, ◌/◌, ◌%◌, ◌^◌, Bool, List, eqb}
use Rattle.basis.specs.Lookahead.{number}
use Rattle.theory.specs.Machine.{Tests}
use Rattle.table_layout.specs.Places.{word, sets_at}

-- the string with number n is in the set whose words begin at `base`
unfoldable pub stored : List ℕ → ℕ → ℕ → Bool
stored ws base n = eqb (word ws (base + n / 32) / 2 ^ (n % 32) % 2) 1

-- the prediction set and the FOLLOW set of construct i
abbrev pub prediction_at : ℕ → ℕ
prediction_at i = sets_at + 32 * i

abbrev pub follow_at : ℕ → ℕ
follow_at i = sets_at + 32 * i + 16

-- a branch's own prediction set; a repetition continues by its body's, and exits by its FOLLOW set
abbrev pub tests_of : List ℕ → Tests
tests_of ws =
    record {
      predicts = λ b x. stored ws (prediction_at b) (number x);
      continues = λ i x. stored ws (prediction_at (i + 1)) (number x);
      exits = λ i x. stored ws (follow_at i) (number x);
    }
