-- What `admit` promises of any bytes as a text and any words as a table.
-- Assumes nothing.
use Rattle.std.specs.Prelude.{ℕ, ◌≤◌, ◌≡◌, List, length, drop}
use Rattle.basis.specs.Limits.{table_words}
use Rattle.text_admission.specs.Answers.{number_of}
use Rattle.text_admission.specs.Admitted.{Answers}
use Rattle.text_admission.specs.declared.Admission.{Admission}
use Rattle.admission.specs.Refusals.{Exactly}

-- 0, or 1 to 13; "A refused grammar changes no word of the table", "Words past 16,384 are neither read nor changed"
pub record TextAnswered (old new : List ℕ) (answer : Admission) : Type 0 where
  pub number : number_of answer ≤ 13
  pub refused : (number_of answer ≡ 0 → ⊥) → new ≡ old
  pub length_kept : length new ≡ length old
  pub beyond : drop table_words new ≡ drop table_words old

-- a table `old` is lent, and `new` is what is left of it
pub record Promised (text old new : List ℕ) (answer : Admission) : Type 0 where
  -- the page of refusals, said of the text's tree
  pub exactly : Exactly text old answer
  pub leaves : TextAnswered old new answer
  -- and the words of the table: sound, and encoded from what is stored of the text
  pub answers : Answers text old new answer
