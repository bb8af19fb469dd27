use Prim.Native.Nat.{◌-◌, ◌≤◌, max}
use Rattle.lookahead.specs.Sets.{Is}
use Rattle.table_first_follow.specs.Fields.{Numbered, Any}
use Rattle.table_first_follow.proofs.fields.numbered.Given as goal

abbrev pub invariant-loop-n : goal.invariant-loop-n
invariant-loop-n l = Is l.out.words (Numbered l.low l.n Any) × (l.low ≤ l.n) × (l.n ≤ max l.low l.high)
