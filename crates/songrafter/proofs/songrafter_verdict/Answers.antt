use mathlib.Core.Path.{ap}
use Rattle.run_grants.specs.declared.Run.{Run}
use Rattle.songrafter.proofs.songrafter_verdict.Goals as goal

-- src/lib.rt:202:1
pub returns : goal.returns
returns c = ap (λ (r : Run). r.verdict) c.decode.ensures.0
