-- What the bench program needs of an answer.
-- Assumes nothing.
use Rattle.std.specs.Prelude.{◌≤◌}
use Rattle.basis.specs.Limits.{max_weight}
use Rattle.text_admission.specs.declared.Admission.{Admission}

-- an admitted grammar's weight is at most 65,535
abbrev pub Light : Admission → Type 0
Light (Admission.Admitted weight) = weight ≤ max_weight
Light (Admission.Refused number place) = Unit
Light (Admission.Conflict place construct clash) = Unit
