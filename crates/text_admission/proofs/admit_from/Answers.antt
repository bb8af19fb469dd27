use mathlib.Core.Path.{subst}
use Prim.Native.Nat.{ℕ}
use mathlib.Core.List.{List}
use Rattle.text_admission.specs.Admitted.{AnsweredRules}
use Rattle.text_admission.proofs.HeaderPlaces.{rest}
use Rattle.text_admission.proofs.admit_from.Goals as goal

-- src/lib.rt:239:1
pub returns : goal.returns
returns c = subst (λ (xs : List ℕ). AnsweredRules xs c.args.base c.args.table.now c.admit_rules.new.table c.admit_rules.result) (rest c.args.text.now c.args.base) c.admit_rules.ensures
