use Rattle.std.proofs.Common.{[], ◌∷◌, ℕ, ◌+◌, ◌-◌, ◌*◌, List}
use Rattle.text_parsing.specs.Cursors.{left}
use Rattle.text_parsing.specs.Symbols.{alternatives}
use Rattle.text_parsing.proofs.Loops.{Still}
use Rattle.text_formulas.proofs.sets.+alternative_excluded_value_set.Given as goal

abbrev pub decreases-alternative : goal.decreases-alternative
decreases-alternative l = 3 * (17 - l.d) + 1

abbrev pub decreases-excluded : goal.decreases-excluded
decreases-excluded l = 3 * (17 - l.d)

abbrev pub decreases-value_set : goal.decreases-value_set
decreases-value_set l = 3 * (17 - l.d) + 2

abbrev pub invariant-value_set-loop-c : goal.invariant-value_set-loop-c
invariant-value_set-loop-c l = (ns : List ℕ) → Still l.text (alternatives l.d ∷ []) l.initial.c ns l.initial.terms l.c ns l.terms

abbrev pub decreases-value_set-loop-c : goal.decreases-value_set-loop-c
decreases-value_set-loop-c l = left l.text l.c
