use Prim.Native.Nat.{◌+◌, ◌-◌, ◌*◌, ◌≤◌}
use mathlib.Core.Path.{◌≡◌}
use Rattle.lookahead.specs.Inner.{Filled}
use Rattle.table_first_follow.specs.Fields.{Led, Names}
use Rattle.table_first_follow.proofs.fields.leading.Given as goal

abbrev pub invariant-loop-i : goal.invariant-loop-i
invariant-loop-i l = Filled (λ k w. Names (Led l.width l.signed l.words l.start l.end) (64 * k) (64 * k + 64) w) l.i l.out × (l.i ≤ 8)
