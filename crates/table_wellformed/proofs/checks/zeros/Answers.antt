use mathlib.Core.Path.{sym, ◌∙◌}
use Rattle.table_wellformed.proofs.Every.{every_turn, every_stop, every_end}
use borrow.Author.Tests.{eq-eqb, ne_eqb}
use lib.Dec.{eqb}
use Rattle.table_layout.specs.Places.{word}
use Rattle.table_wellformed.proofs.checks.zeros.Goals as goal

pub loop-k-preserved : goal.loop-k-preserved
loop-k-preserved c = sym (every_turn _ _ (λ j. eqb (word c.args.table.now j) 0) c.loop-k-test.true (eq-eqb _ _ (sym c.word.ensures.0 ∙ c.if-word-ne0.false))) ∙ c.loop-k.invariant

pub returns-then-word-ne0 : goal.returns-then-word-ne0
returns-then-word-ne0 c = sym (every_stop _ _ (λ j. eqb (word c.args.table.now j) 0) c.loop-k-test.true (ne_eqb _ _ (λ e. c.if-word-ne0.true (c.word.ensures.0 ∙ e)))) ∙ c.loop-k.invariant

pub returns : goal.returns
returns c = sym (every_end _ _ (λ j. eqb (word c.args.table.now j) 0) c.loop-k-test.false) ∙ c.loop-k.invariant
