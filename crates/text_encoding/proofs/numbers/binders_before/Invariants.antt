use Prim.Native.Nat.{◌≤◌}
use mathlib.Core.Path.{◌≡◌}
use Rattle.text_encoding.specs.Numbers.{binders_before}
use Rattle.text_encoding.proofs.numbers.binders_before.Given as goal

abbrev pub invariant-loop-j : goal.invariant-loop-j
invariant-loop-j l = (l.n ≡ binders_before l.nodes l.j) × (l.n ≤ l.j) × (l.j ≤ l.i)
