use mathlib.Core.Path.{subst}
use Rattle.bench.specs.Weights.{Light}
use Rattle.bench.proofs.start.Goals as goal

pub frames-requires : goal.frames-requires
frames-requires c = subst Light c.in-Admitted.is c.requires
