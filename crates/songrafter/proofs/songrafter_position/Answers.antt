use mathlib.Core.Path.{ap}
use Rattle.run_grants.specs.declared.Run.{Run}
use Rattle.songrafter.proofs.songrafter_position.Goals as goal

-- src/lib.rt:223:1
pub returns : goal.returns
returns c = ap (λ (r : Run). r.position) c.decode.ensures.0
