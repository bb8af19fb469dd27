use Prim.Native.Nat.{◌≤◌}
use mathlib.Core.Path.{◌≡◌}
use Rattle.text_encoding.specs.Numbers.{condition_start}
use Rattle.text_encoding.proofs.areas.terms_before.Given as goal

abbrev pub invariant-loop-i : goal.invariant-loop-i
invariant-loop-i l = (l.q ≡ condition_start l.nodes l.i) × (l.i ≤ l.n)
