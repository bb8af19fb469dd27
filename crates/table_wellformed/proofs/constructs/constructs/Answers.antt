use Prim.Native.Nat.{ℕ}
use mathlib.Core.Path.{sym, ap, ◌∙◌}
use Rattle.table_wellformed.specs.Checks.{from_to}
use Rattle.table_wellformed.proofs.Every.{every_turn, every_stop, every_end}
use Rattle.table_wellformed.specs.Laid.{construct_laid}
use Rattle.table_wellformed.proofs.constructs.constructs.Goals as goal

pub loop-i-preserved : goal.loop-i-preserved
loop-i-preserved c = sym (every_turn _ _ (construct_laid c.args.table.now) c.loop-i-test.true (sym c.construct_laid.ensures ∙ c.if-not-construct_laid.false)) ∙ c.loop-i.invariant

pub returns-then-not-construct_laid : goal.returns-then-not-construct_laid
returns-then-not-construct_laid c = sym (every_stop _ _ (construct_laid c.args.table.now) c.loop-i-test.true (sym c.construct_laid.ensures ∙ c.if-not-construct_laid.true)) ∙ c.loop-i.invariant ∙ ap (λ (n : ℕ). from_to 0 n (construct_laid c.args.table.now)) c.word-count.ensures.0

pub returns : goal.returns
returns c = sym (every_end _ _ (construct_laid c.args.table.now) c.loop-i-test.false) ∙ c.loop-i.invariant ∙ ap (λ (n : ℕ). from_to 0 n (construct_laid c.args.table.now)) c.word-count.ensures.0
