use Prim.Native.Nat.{◌≤◌}
use mathlib.Core.Path.{◌≡◌}
use lib.ListN.{drop}
use Rattle.text_literals.specs.Literals.{literal_reach, literal_at}
use Rattle.text_literals.proofs.reach.Given as goal

abbrev pub invariant-loop-i : goal.invariant-loop-i
invariant-loop-i l = (l.count ≤ l.i) × (literal_reach l.quote l.part l.count l.i (drop l.i l.text) ≡ literal_at l.text l.at)
