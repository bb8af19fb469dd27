use Rattle.text_parsing.specs.Symbols.{summands}
use Rattle.text_parsing.specs.Cursors.{left}
use Rattle.text_parsing.proofs.Loops.{Still}
use Prim.Native.Nat.{ℕ}
use mathlib.Core.List.{List, [], ◌∷◌}
use Rattle.text_formulas.proofs.calculations.summands.Given as goal

abbrev pub invariant-loop-tag : goal.invariant-loop-tag
invariant-loop-tag l = (ns : List ℕ) → Still l.text (summands l.o ∷ []) l.initial.c ns l.initial.terms l.c ns l.terms

abbrev pub decreases-loop-tag : goal.decreases-loop-tag
decreases-loop-tag l = left l.text l.c
