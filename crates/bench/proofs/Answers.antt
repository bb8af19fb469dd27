-- Admission's answer has no greater weight than the program needs.
-- Assumes nothing.
use Prim.Native.Nat.{ℕ}
use mathlib.Core.Path.{◌≡◌}
use mathlib.Core.List.{List}
use native.Mathlib.Omega.{arith}
use Rattle.text_admission.specs.Admitted.{Answers}
use Rattle.text_admission.specs.declared.Admission.{Admission}
use Rattle.bench.specs.Weights.{Light}

pub light : (text old new : List ℕ) (answer : Admission) → Answers text old new answer → Light answer
light text old new (Admission.Admitted weight) (Answers.refused_early number place e r same) = let z : ◌≡◌ {A = ℕ} 0 1 = cc in absurd (omega arith)
light text old new (Admission.Admitted weight) (Answers.by_rules base h passes) = passes.passes.limited
light text old new (Admission.Refused number place) a = tt
light text old new (Admission.Conflict place construct clash) a = tt
