use Rattle.std.proofs.Common.{[], ◌∷◌, ◌+◌, ◌-◌, ◌*◌, false}
use Rattle.text_parsing.specs.Cursors.{left}
use Rattle.text_parsing.specs.Symbols.{members, branches, cases}
use Rattle.text_syntax.proofs.Chains.{Moves}
use Rattle.text_syntax.proofs.expressions.+case_concatenation_ending_expression_factor_item_switch.Given as goal

abbrev pub decreases-case : goal.decreases-case
decreases-case l = 8 * (17 - l.d) + 6

abbrev pub decreases-concatenation : goal.decreases-concatenation
decreases-concatenation l = 8 * (17 - l.d) + 4

abbrev pub decreases-ending : goal.decreases-ending
decreases-ending l = 8 * (17 - l.d) + 6

abbrev pub decreases-expression : goal.decreases-expression
decreases-expression l = 8 * (17 - l.d) + 5

abbrev pub decreases-factor : goal.decreases-factor
decreases-factor l = 8 * (17 - l.d) + 3

abbrev pub decreases-item : goal.decreases-item
decreases-item l = 8 * (17 - l.d) + 2

abbrev pub decreases-switch : goal.decreases-switch
decreases-switch l = 8 * (17 - l.d) + 7

abbrev pub invariant-concatenation-loop-c : goal.invariant-concatenation-loop-c
invariant-concatenation-loop-c l = Moves l.text (members l.d l.p l.i false ∷ []) l.initial.c l.initial.nodes l.initial.terms (members l.d l.p l.i l.many ∷ []) l.c l.nodes l.terms

abbrev pub decreases-concatenation-loop-c : goal.decreases-concatenation-loop-c
decreases-concatenation-loop-c l = left l.text l.c

abbrev pub invariant-expression-loop-c : goal.invariant-expression-loop-c
invariant-expression-loop-c l = Moves l.text (branches l.d l.p l.i false ∷ []) l.initial.c l.initial.nodes l.initial.terms (branches l.d l.p l.i l.many ∷ []) l.c l.nodes l.terms

abbrev pub decreases-expression-loop-c : goal.decreases-expression-loop-c
decreases-expression-loop-c l = left l.text l.c

abbrev pub invariant-switch-loop-nodes : goal.invariant-switch-loop-nodes
invariant-switch-loop-nodes l = Moves l.text (cases l.d l.p l.i ∷ []) l.initial.c l.initial.nodes l.initial.terms (cases l.d l.p l.i ∷ []) l.c l.nodes l.terms

abbrev pub decreases-switch-loop-nodes : goal.decreases-switch-loop-nodes
decreases-switch-loop-nodes l = left l.text l.c
