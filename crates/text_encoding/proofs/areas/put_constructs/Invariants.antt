use Prim.Native.Nat.{◌+◌, ◌*◌, ◌-◌, ◌≤◌}
use mathlib.Core.Path.{◌≡◌}
use Rattle.table_layout.specs.Places.{constructs_at}
use Rattle.text_encoding.specs.Numbers.{condition_start}
use Rattle.text_encoding.specs.Encoded.{construct_words}
use Rattle.text_encoding.proofs.Writing.{Writing}
use Rattle.text_encoding.proofs.areas.put_constructs.Given as goal

abbrev pub invariant-loop-i : goal.invariant-loop-i
invariant-loop-i l = (l.i ≤ l.n) × (l.q ≡ condition_start l.nodes l.i) × Writing l.initial.table constructs_at l.n 0 (construct_words l.text l.nodes l.rules l.r) l.table (constructs_at + 8 * l.i) (l.n - l.i) l.i
