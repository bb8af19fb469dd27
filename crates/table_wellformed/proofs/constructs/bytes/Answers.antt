use mathlib.Core.Path.{sym, ◌∙◌}
use Rattle.table_wellformed.proofs.Every.{every_turn, every_stop, every_end}
use Rattle.table_wellformed.specs.Laid.{byte_laid}
use Rattle.table_wellformed.proofs.constructs.bytes.Goals as goal

pub loop-k-preserved : goal.loop-k-preserved
loop-k-preserved c = sym (every_turn _ _ (byte_laid c.args.table.now c.args.i c.args.n) c.loop-k-test.true (sym c.byte.ensures ∙ c.if-not-byte.false)) ∙ c.loop-k.invariant

pub returns-then-not-byte : goal.returns-then-not-byte
returns-then-not-byte c = sym (every_stop _ _ (byte_laid c.args.table.now c.args.i c.args.n) c.loop-k-test.true (sym c.byte.ensures ∙ c.if-not-byte.true)) ∙ c.loop-k.invariant

pub returns : goal.returns
returns c = sym (every_end _ _ (byte_laid c.args.table.now c.args.i c.args.n) c.loop-k-test.false) ∙ c.loop-k.invariant
