use mathlib.Core.Path.{ap}
use Rattle.run_grants.specs.declared.Run.{Run}
use Rattle.songrafter.proofs.songrafter_steps.Goals as goal

-- src/lib.rt:209:1
pub returns : goal.returns
returns c = ap (λ (r : Run). r.steps) c.decode.ensures.0
