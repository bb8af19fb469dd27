-- The fields of a run from an opening, as `run_fields::field` tells them: none is refused, and they lie one after the other, from the frame's first bit
-- up to the run's position. `proofs/Told.antt` proves it: `Fields-told`.
-- Assumes nothing.
use Rattle.std.specs.Prelude.{ℕ, suc, ◌+◌, ◌≤◌, ◌<◌, ◌≡◌, List}
use Rattle.run_fields.specs.Fields.{field_of, number_of}
use Rattle.run_fields.specs.declared.Answer.{Answer}
use Rattle.run_matcher.specs.Opening.{Opened}
use Rattle.run_matcher.specs.Conditions.{Grant, OthersRefused, run_kept, reading_kept, start, here}

-- "construct number, first bit": the first n fields of a reading fill the bits up to bit p, each found where the ones before it end
pub data Filled (ws fs rs : List ℕ) : (n p : ℕ) → Type 0 where
  no_field : Filled ws fs rs 0 0
  one_more : {n p q : ℕ} (i w v : ℕ) → Filled ws fs rs n p → field_of ws fs rs n ≡ Answer.Found i p w v → 1 ≤ w → q ≡ p + w → Filled ws fs rs (suc n) q

-- of the run and its reading after a list of grants
pub record Told (ws fs rs : List ℕ) (gs : List Grant) : Type 0 where
  pub filled : Filled ws fs (reading_kept (here ws fs rs gs)) (run_kept (here ws fs rs gs)).captures (run_kept (here ws fs rs gs)).position
  pub not_refused : (k : ℕ) → k < (run_kept (here ws fs rs gs)).captures → number_of (field_of ws fs (reading_kept (here ws fs rs gs)) k) ≡ 0

-- of every run that was opened, and every list of grants, with refused ones among them
abbrev pub FieldsTold : Type 0
FieldsTold = (ws fs rs : List ℕ) → Opened ws fs rs → (gs : List Grant) → OthersRefused ws fs gs (start rs) → Told ws fs rs gs
