use Prim.Native.Nat.{ℕ}
use mathlib.Core.Path.{ap, ◌∙◌}
use mathlib.Core.List.{List}
use lib.ListN.{set}
use Rattle.songrafter.proofs.put.Reads as put_reads
use Rattle.songrafter.proofs.put_five.Goals as goal

pub returns : goal.returns
returns c = c.put.ensures ∙ ap (λ (x : List ℕ). set x 4 c.args.e) c.put_four.ensures
