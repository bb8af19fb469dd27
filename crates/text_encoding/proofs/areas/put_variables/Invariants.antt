use Prim.Native.Nat.{◌+◌, ◌*◌, ◌-◌, ◌≤◌}
use mathlib.Core.Path.{◌≡◌}
use Rattle.table_layout.specs.Places.{variables_at}
use Rattle.text_encoding.specs.Numbers.{binders_before}
use Rattle.text_encoding.specs.Encoded.{variable_words}
use Rattle.text_encoding.proofs.Writing.{Writing}
use Rattle.text_encoding.proofs.areas.put_variables.Given as goal

abbrev pub invariant-loop-i : goal.invariant-loop-i
invariant-loop-i l = (l.i ≤ l.n) × (l.x ≡ binders_before l.nodes l.i) × Writing l.initial.table variables_at l.n 0 (variable_words l.text l.nodes) l.table (variables_at + 4 * l.x) (l.n - l.i) l.i
