-- Which words go to the caller.
-- Assumes nothing.
use Prim.Native.Nat.{ℕ}
use mathlib.Core.Path.{◌≡◌, refl}
use mathlib.Core.Bool.{true, false}
use mathlib.Core.List.{List}
use native.Mathlib.Omega.{arith}
use lib.ListN.{length, take, drop}
use Rattle.basis.specs.Limits.{table_words}
use Rattle.text_admission.specs.Late.{is_admitted, HandedOver}
use Rattle.text_admission.specs.declared.Admission.{Admission}

-- copied where admitted
pub copied : (answer : Admission) (words old new : List ℕ) → is_admitted answer ≡ true
    → (take table_words new ≡ words) × (drop table_words new ≡ drop table_words old) × (length new ≡ length old) → HandedOver answer words old new
copied (Admission.Admitted weight) words old new e c = c
copied (Admission.Refused number place) words old new e c = let z : ◌≡◌ {A = ℕ} 0 1 = cc in absurd (omega arith)
copied (Admission.Conflict place construct clash) words old new e c = let z : ◌≡◌ {A = ℕ} 0 1 = cc in absurd (omega arith)

-- else as they were
pub untouched : (answer : Admission) (words old : List ℕ) → is_admitted answer ≡ false → HandedOver answer words old old
untouched (Admission.Admitted weight) words old e = let z : ◌≡◌ {A = ℕ} 0 1 = cc in absurd (omega arith)
untouched (Admission.Refused number place) words old e = refl
untouched (Admission.Conflict place construct clash) words old e = refl
