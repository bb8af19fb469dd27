-- What an answer to a text carries: its number, its place, of a clash the window, and the five numbers by which a C program is told.
-- Assumes nothing.
use Rattle.std.specs.Prelude.{ℕ, List, [], ◌∷◌}
use Rattle.std.proofs.Math.Option.{Option, none, some}
use Rattle.table_conflicts.specs.declared.Clash.{Clash}
use Rattle.text_admission.specs.declared.Admission.{Admission}

-- document 01's number of it
abbrev pub number_of : Admission → ℕ
number_of (Admission.Admitted weight) = 0
number_of (Admission.Refused number place) = number
number_of (Admission.Conflict place construct clash) = 10

-- the place that it carries
abbrev pub place_in : Admission → ℕ
place_in (Admission.Admitted weight) = 0
place_in (Admission.Refused number place) = place
place_in (Admission.Conflict place construct clash) = place

-- 10: "the answer carries the least common window"
abbrev pub window_in : Clash → Option ℕ
window_in Clash.None = none
window_in (Clash.Branches window first second) = some window
window_in (Clash.Passes window) = some window

-- what is told of an answer, five numbers: the weight or the place; the window of a clash, its construct, and the two branches that share the
-- window (0, 0 where a repetition's going on and stopping do)
abbrev pub told_clash : ℕ → ℕ → Clash → List ℕ
told_clash place construct Clash.None = place ∷ 0 ∷ construct ∷ 0 ∷ 0 ∷ []
told_clash place construct (Clash.Branches window first second) = place ∷ window ∷ construct ∷ first ∷ second ∷ []
told_clash place construct (Clash.Passes window) = place ∷ window ∷ construct ∷ 0 ∷ 0 ∷ []

-- the five of any answer
abbrev pub told : Admission → List ℕ
told (Admission.Admitted weight) = weight ∷ 0 ∷ 0 ∷ 0 ∷ 0 ∷ []
told (Admission.Refused number place) = place ∷ 0 ∷ 0 ∷ 0 ∷ 0 ∷ []
told (Admission.Conflict place construct clash) = told_clash place construct clash
