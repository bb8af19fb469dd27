use Prim.Native.Nat.{◌+◌, ◌*◌, ◌-◌, ◌≤◌}
use Rattle.table_layout.specs.Places.{terms_at}
use Rattle.text_encoding.specs.Encoded.{term_words}
use Rattle.text_encoding.proofs.Writing.{Writing}
use Rattle.text_encoding.proofs.constructs.list.Given as goal

abbrev pub invariant-loop-j : goal.invariant-loop-j
invariant-loop-j l = (l.j ≤ l.n) × Writing l.initial.table (terms_at + 3 * l.q) l.n l.t (term_words l.text l.nodes l.terms l.a l.i) l.table (terms_at + 3 * (l.q + l.j)) (l.n - l.j) (l.t + l.j)
