use mathlib.Core.Path.{◌≡◌}
use Rattle.text_encoding.specs.Numbers.{first_at}
use Rattle.text_encoding.proofs.numbers.first_at.Given as goal

abbrev pub invariant-loop-k : goal.invariant-loop-k
invariant-loop-k l = first_at l.rules l.k l.i ≡ first_at l.rules l.count l.i
