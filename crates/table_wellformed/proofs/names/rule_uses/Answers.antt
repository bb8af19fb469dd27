use mathlib.Core.Path.{sym, ◌∙◌}
use Rattle.table_wellformed.proofs.Every.{every_turn, every_stop, every_end}
use Rattle.table_wellformed.specs.Rules.{construct_named}
use Rattle.table_wellformed.proofs.names.rule_uses.Goals as goal

pub loop-i-preserved : goal.loop-i-preserved
loop-i-preserved c = sym (every_turn _ _ (construct_named c.args.table.now c.rule_word-first.result c.rule_end-last.result) c.loop-i-test.true (sym c.construct_visible.ensures ∙ c.if-not-construct_visible.false)) ∙ c.loop-i.invariant

pub returns-then-not-construct_visible : goal.returns-then-not-construct_visible
returns-then-not-construct_visible c = sym (every_stop _ _ (construct_named c.args.table.now c.rule_word-first.result c.rule_end-last.result) c.loop-i-test.true (sym c.construct_visible.ensures ∙ c.if-not-construct_visible.true)) ∙ c.loop-i.invariant ∙ simp (c.rule_word-first.ensures.0, c.rule_end-last.ensures.0, c.rule_end-end.ensures.0, c.rule_word-start.ensures.0)

pub returns : goal.returns
returns c = sym (every_end _ _ (construct_named c.args.table.now c.rule_word-first.result c.rule_end-last.result) c.loop-i-test.false) ∙ c.loop-i.invariant ∙ simp (c.rule_word-first.ensures.0, c.rule_end-last.ensures.0, c.rule_end-end.ensures.0, c.rule_word-start.ensures.0)
