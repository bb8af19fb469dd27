use Prim.Native.Nat.{ℕ}
use mathlib.Core.Path.{ap, ◌∙◌}
use mathlib.Core.List.{List}
use Rattle.text_admission.specs.Admitted.{form}
use Rattle.text_admission.proofs.HeaderPlaces.{rest}
use Rattle.report_places.specs.Located.{located_in}
use Rattle.report_places.proofs.locate_from.Goals as goal

pub returns : goal.returns
returns c = c.locate_rules.ensures ∙ ap (λ (xs : List ℕ). located_in xs c.args.base c.args.query (form xs)) (rest c.args.text.now c.args.base)
