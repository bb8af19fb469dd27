use mathlib.Core.Path.{sym, ◌∙◌}
use borrow.Author.Tests.{eq-eqb, ne_eqb}
use Rattle.text_header.proofs.Runs.{starts_turn, starts_stop, starts_short, starts_end}
use mathlib.Core.Bool.{cond}
use lib.ListN.{get_or}
use Rattle.text_header.specs.Bytes.{lower_case}
use Rattle.text_header.proofs.spans.begins.Goals as goal

pub returns-then-text-k : goal.returns-then-text-k
returns-then-text-k c = sym (starts_short c.args.folded c.args.word.now c.args.text.now c.loop-k.k c.loop-k-test.true c.if-text-k.true) ∙ c.loop-k.invariant

pub loop-k-preserved : goal.loop-k-preserved
loop-k-preserved c = sym (starts_turn c.args.folded c.args.word.now c.args.text.now c.loop-k.k c.loop-k-test.true c.if-text-k.false (eq-eqb _ _ (sym c.cased.ensures ∙ c.if-cased-word.false))) ∙ c.loop-k.invariant

pub returns-then-cased-word : goal.returns-then-cased-word
returns-then-cased-word c = sym (starts_stop c.args.folded c.args.word.now c.args.text.now c.loop-k.k c.loop-k-test.true c.if-text-k.false (ne_eqb (cond c.args.folded (lower_case (get_or c.args.text.now c.loop-k.k 0)) (get_or c.args.text.now c.loop-k.k 0)) (get_or c.args.word.now c.loop-k.k 0) (λ h. c.if-cased-word.true (c.cased.ensures ∙ h)))) ∙ c.loop-k.invariant

pub returns : goal.returns
returns c = sym (starts_end c.args.folded c.args.word.now c.args.text.now c.loop-k.k c.loop-k-test.false) ∙ c.loop-k.invariant
