use Prim.Native.Nat.{◌+◌, ◌*◌, ◌-◌, ◌≤◌}
use Rattle.table_layout.specs.Places.{rules_at}
use Rattle.text_encoding.specs.Encoded.{rule_words}
use Rattle.text_encoding.proofs.Writing.{Writing}
use Rattle.text_encoding.proofs.areas.put_rules.Given as goal

abbrev pub invariant-loop-k : goal.invariant-loop-k
invariant-loop-k l = (l.k ≤ l.r) × Writing l.initial.table rules_at l.r 0 (rule_words l.nodes l.rules) l.table (rules_at + 4 * l.k) (l.r - l.k) l.k
