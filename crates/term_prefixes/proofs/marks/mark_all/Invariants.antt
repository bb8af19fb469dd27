use mathlib.Core.Path.{◌≡◌}
use Prim.Native.Nat.{ℕ, ◌-◌, ◌≤◌, ◌<◌}
use mathlib.Core.Bool.{Bool}
use lib.Dec.{eqb}
use lib.ListN.{length, get_or}
use Rattle.term_prefixes.specs.Marks.{Sought, Among}
use Rattle.term_prefixes.proofs.marks.mark_all.Given as goal

abbrev pub invariant-loop-j : goal.invariant-loop-j
invariant-loop-j l = ((f : ℕ → Bool) → ((j : ℕ) → j < 64 → f (get_or l.values j 0) ≡ eqb (get_or l.truths j 0) 3) → Sought f l.width (Among l.values l.j) l.initial.marks l.marks) × (length l.marks ≡ 256) × (l.j ≤ 64)
