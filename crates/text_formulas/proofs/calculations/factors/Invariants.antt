use Rattle.text_parsing.specs.Symbols.{factors}
use Rattle.text_parsing.specs.Cursors.{left}
use Rattle.text_parsing.proofs.Loops.{Still}
use Prim.Native.Nat.{ℕ}
use mathlib.Core.List.{List, [], ◌∷◌}
use Rattle.text_formulas.proofs.calculations.factors.Given as goal

abbrev pub invariant-loop-c : goal.invariant-loop-c
invariant-loop-c l = (ns : List ℕ) → Still l.text (factors l.o ∷ []) l.initial.c ns l.initial.terms l.c ns l.terms

abbrev pub decreases-loop-c : goal.decreases-loop-c
decreases-loop-c l = left l.text l.c
