use Prim.Native.Nat.{ℕ, ◌+◌, ◌-◌, ◌^◌, ◌≤◌, ◌<◌}
use mathlib.Core.Bool.{Bool}
use mathlib.Core.List.{List}
use mathlib.Core.Path.{◌≡◌}
use Rattle.basis.specs.Patterns.{offset}
use Rattle.term_prefixes.specs.Prefixes.{Told}
use Rattle.term_words.specs.declared.Term.{Term}
use Rattle.table_first_follow.specs.Fields.{Window, Names}
use Rattle.table_first_follow.proofs.fields.word_of.Given as goal

abbrev pub invariant-loop-n : goal.invariant-loop-n
invariant-loop-n l = ((width : ℕ) (signed : Bool) (i : ℕ) (xs : List Term) → l.strings ≡ 2 ^ (width - (width - 8)) → l.half ≡ offset signed (width - (width - 8)) → Told width signed i xs l.marks → Names (Window width signed i xs) l.n (l.first + 64) l.out) × (l.out < 2 ^ (l.first + 64 - l.n)) × (l.first ≤ l.n) × (l.n ≤ l.first + 64)

abbrev pub decreases-loop-n : goal.decreases-loop-n
decreases-loop-n l = l.n
