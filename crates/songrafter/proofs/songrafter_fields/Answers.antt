use mathlib.Core.Path.{ap}
use Rattle.run_grants.specs.declared.Run.{Run}
use Rattle.songrafter.proofs.songrafter_fields.Goals as goal

-- src/lib.rt:216:1
pub returns : goal.returns
returns c = ap (λ (r : Run). r.captures) c.decode.ensures.0
