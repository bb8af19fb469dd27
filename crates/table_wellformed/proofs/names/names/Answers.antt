use Prim.Native.Nat.{ℕ}
use mathlib.Core.Path.{sym, ap, ◌∙◌}
use Rattle.table_wellformed.specs.Checks.{from_to}
use Rattle.table_wellformed.proofs.Every.{every_turn, every_stop, every_end}
use mathlib.Core.Bool.{◌&&◌}
use Rattle.table_wellformed.specs.Rules.{binders_laid, uses_laid}
use Rattle.table_wellformed.proofs.names.names.Goals as goal

pub loop-r-preserved : goal.loop-r-preserved
loop-r-preserved c = sym (every_turn _ _ (λ q. binders_laid c.args.table.now q && uses_laid c.args.table.now q) c.loop-r-test.true (sym c.rule_named.ensures ∙ c.if-not-rule_named.false)) ∙ c.loop-r.invariant

pub returns-then-not-rule_named : goal.returns-then-not-rule_named
returns-then-not-rule_named c = sym (every_stop _ _ (λ q. binders_laid c.args.table.now q && uses_laid c.args.table.now q) c.loop-r-test.true (sym c.rule_named.ensures ∙ c.if-not-rule_named.true)) ∙ c.loop-r.invariant ∙ ap (λ (n : ℕ). from_to 0 n (λ q. binders_laid c.args.table.now q && uses_laid c.args.table.now q)) c.word-count.ensures.0

pub returns : goal.returns
returns c = sym (every_end _ _ (λ q. binders_laid c.args.table.now q && uses_laid c.args.table.now q) c.loop-r-test.false) ∙ c.loop-r.invariant ∙ ap (λ (n : ℕ). from_to 0 n (λ q. binders_laid c.args.table.now q && uses_laid c.args.table.now q)) c.word-count.ensures.0
