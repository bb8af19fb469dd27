use Prim.Native.Nat.{◌≤◌}
use lib.ListN.{drop}
use Rattle.text_literals.specs.Literals.{characters, characters_at}
use Rattle.text_literals.proofs.Spelling.{Spelling}
use Rattle.text_literals.proofs.spell.Given as goal

abbrev pub invariant-loop-i : goal.invariant-loop-i
invariant-loop-i l = (l.n ≤ l.i) × Spelling (characters_at l.text l.at) l.bytes l.n (characters l.quote l.part (drop l.i l.text))
