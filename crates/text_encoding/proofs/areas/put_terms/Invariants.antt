use Prim.Native.Nat.{◌+◌, ◌*◌, ◌-◌, ◌≤◌}
use mathlib.Core.Path.{◌≡◌}
use Rattle.table_layout.specs.Places.{terms_at}
use Rattle.text_encoding.specs.Numbers.{condition_start}
use Rattle.text_encoding.specs.Encoded.{lists_words}
use Rattle.text_encoding.proofs.Writing.{Writing}
use Rattle.text_encoding.proofs.areas.put_terms.Given as goal

abbrev pub invariant-loop-i : goal.invariant-loop-i
invariant-loop-i l = (l.i ≤ l.n) × (l.q ≡ condition_start l.nodes l.i) × Writing l.initial.table terms_at l.n 0 (lists_words l.text l.nodes l.terms l.rules l.r) l.table (terms_at + 3 * l.q) (l.n - l.i) l.i
