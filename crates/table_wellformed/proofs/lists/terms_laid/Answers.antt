use Prim.Native.Nat.{ℕ}
use mathlib.Core.Path.{sym, ap, ◌∙◌}
use Rattle.table_wellformed.specs.Checks.{from_to}
use Rattle.table_wellformed.proofs.Every.{every_turn, every_stop, every_end}
use Rattle.table_wellformed.specs.Lists.{term_laid}
use Rattle.table_wellformed.proofs.lists.terms_laid.Goals as goal

pub loop-t-preserved : goal.loop-t-preserved
loop-t-preserved c = sym (every_turn _ _ (term_laid c.args.table.now) c.loop-t-test.true (sym c.term.ensures ∙ c.if-not-term.false)) ∙ c.loop-t.invariant

pub returns-then-not-term : goal.returns-then-not-term
returns-then-not-term c = sym (every_stop _ _ (term_laid c.args.table.now) c.loop-t-test.true (sym c.term.ensures ∙ c.if-not-term.true)) ∙ c.loop-t.invariant ∙ ap (λ (n : ℕ). from_to 0 n (term_laid c.args.table.now)) c.word-count.ensures.0

pub returns : goal.returns
returns c = sym (every_end _ _ (term_laid c.args.table.now) c.loop-t-test.false) ∙ c.loop-t.invariant ∙ ap (λ (n : ℕ). from_to 0 n (term_laid c.args.table.now)) c.word-count.ensures.0
