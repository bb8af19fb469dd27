use Prim.Native.Nat.{◌≤◌}
use mathlib.Core.Path.{◌≡◌}
use lib.ListN.{drop}
use Rattle.text_tokens.specs.Numbers.{digits_value, capped}
use Rattle.text_tokens.proofs.numbers.digits.Given as goal

abbrev pub invariant-loop-i : goal.invariant-loop-i
invariant-loop-i l = (l.v ≤ 4611686018427387905) × (capped (digits_value l.radix l.v (drop l.i l.text)) ≡ capped (digits_value l.radix 0 (drop l.at l.text)))
