use Prim.Native.Nat.{◌+◌, ◌*◌, ◌-◌, ◌≤◌}
use Rattle.table_layout.specs.Places.{literals_at}
use Rattle.text_encoding.specs.Encoded.{literal_words}
use Rattle.text_encoding.proofs.Writing.{Writing}
use Rattle.text_encoding.proofs.areas.put_literals.Given as goal

abbrev pub invariant-loop-i : goal.invariant-loop-i
invariant-loop-i l = (l.i ≤ l.n) × Writing l.initial.table literals_at l.n 0 (literal_words l.text l.nodes) l.table (literals_at + 8 * l.i) (l.n - l.i) l.i
