use Rattle.std.proofs.Common.{true, false, sym, ap, ◌∙◌}
use Rattle.term_evaluation.proofs.Using.{variable_past, variable_next, variable_end}
use Rattle.term_evaluation.specs.Variables.{uses_variable}
use Rattle.term_evaluation.proofs.variables.has_variable.Goals as goal

pub returns-then-words-at : goal.returns-then-words-at
returns-then-words-at c = sym (variable_past c.args.words.now c.loop-at.at c.args.end c.if-words-at.true) ∙ c.loop-at.invariant

pub returns-then-uses_variable : goal.returns-then-uses_variable
returns-then-uses_variable c = sym (variable_next c.args.words.now c.loop-at.at c.args.end c.loop-at-test.true true (sym (c.if-uses_variable.ensures ∙ ap uses_variable c.term_at.ensures))) ∙ c.loop-at.invariant

pub loop-at-preserved : goal.loop-at-preserved
loop-at-preserved c = sym (variable_next c.args.words.now c.loop-at.at c.args.end c.loop-at-test.true false (sym (c.if-uses_variable.ensures ∙ ap uses_variable c.term_at.ensures))) ∙ c.loop-at.invariant

pub returns : goal.returns
returns c = sym (variable_end c.args.words.now c.loop-at.at c.args.end c.loop-at-test.false) ∙ c.loop-at.invariant
