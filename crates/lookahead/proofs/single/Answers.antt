use Rattle.lookahead.proofs.SetLaws.{empty_is, single_is}
use native.Mathlib.Omega.{arith}
use Prim.Native.Nat.{◌≤◌}
use mathlib.Core.Path.{◌≡◌}
use lib.ListN.{length}
use Rattle.basis.specs.Bits.{Bits}
use Rattle.basis.specs.Lookahead.{number}
use Rattle.basis.proofs.Numbers.{number_pos, number_small}
use Rattle.lookahead.proofs.single.Goals as goal
use borrow.Author.Rules.{rules}

pub returns-then-n-lt512 : goal.returns-then-n-lt512
returns-then-n-lt512 c = single_is c.args.n (search rules) (search rules)

pub returns-else-n-gt0 : goal.returns-else-n-gt0
returns-else-n-gt0 c = empty_is (λ (s : Bits). (length s ≤ 8) × (number s ≡ c.args.n)) (λ s a. omega (arith, number_small s a.0, number_pos s, a.1, c.else-n-gt0.either))
