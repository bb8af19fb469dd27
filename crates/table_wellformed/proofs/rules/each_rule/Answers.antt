use Prim.Native.Nat.{ℕ}
use mathlib.Core.Path.{sym, ap, ◌∙◌}
use Rattle.table_wellformed.specs.Checks.{from_to}
use Rattle.table_wellformed.proofs.Every.{every_turn, every_stop, every_end}
use Rattle.table_wellformed.specs.Rules.{rule_laid}
use Rattle.table_wellformed.proofs.rules.each_rule.Goals as goal

pub loop-r-preserved : goal.loop-r-preserved
loop-r-preserved c = sym (every_turn _ _ (rule_laid c.args.table.now) c.loop-r-test.true (sym c.rule.ensures ∙ c.if-not-rule.false)) ∙ c.loop-r.invariant

pub returns-then-not-rule : goal.returns-then-not-rule
returns-then-not-rule c = sym (every_stop _ _ (rule_laid c.args.table.now) c.loop-r-test.true (sym c.rule.ensures ∙ c.if-not-rule.true)) ∙ c.loop-r.invariant ∙ ap (λ (n : ℕ). from_to 0 n (rule_laid c.args.table.now)) c.word-count.ensures.0

pub returns : goal.returns
returns c = sym (every_end _ _ (rule_laid c.args.table.now) c.loop-r-test.false) ∙ c.loop-r.invariant ∙ ap (λ (n : ℕ). from_to 0 n (rule_laid c.args.table.now)) c.word-count.ensures.0
