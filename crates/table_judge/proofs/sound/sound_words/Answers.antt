use mathlib.Core.Path.{sym, subst, ◌∙◌}
use mathlib.Core.Bool.{false≢true}
use borrow.Author.Tests.{eqb-true}
use Rattle.table_judge.specs.Judged.{Judged}
use Rattle.table_structure.proofs.Facts.{facts}
use Rattle.table_judge.proofs.Soundness.{unformed, refused, other_weight, sound_iff}
use borrow.Author.Rules.{rules}
use Rattle.table_judge.proofs.sound.sound_words.Goals as goal

pub returns-then-not-formed : goal.returns-then-not-formed
returns-then-not-formed c = unformed c.args.table.now c.formed.result c.if-not-formed.true c.formed.ensures

pub judge-requires : goal.judge-requires
judge-requires c = (c.formed.ensures.0 c.if-not-formed.false, search rules, search rules, search rules)

pub all_stand-requires : goal.all_stand-requires
all_stand-requires c = let ws = c.args.table.now in let j = c.judge in let f = facts ws (subst (Judged ws) c.in-Ok.is j.ensures.judged).0.passed.passed.passed.laid_out in (f.long, f.counts.constructs, j.auto.follow, j.auto.prediction, j.ensures.follow_sets.0, j.ensures.follow_sets.1)

pub returns-then-weight-word : goal.returns-then-weight-word
returns-then-weight-word c = let ws = c.args.table.now in let q = subst (Judged ws) c.in-Ok.is c.judge.ensures.judged in sound_iff ws _ q (c.if-weight-word.true ∙ c.word.ensures.0) c.all_stand.result c.all_stand.ensures

pub returns-in-Err : goal.returns-in-Err
returns-in-Err c = let ws = c.args.table.now in refused ws _ (subst (Judged ws) c.in-Err.is c.judge.ensures.judged)

pub returns-else-weight-word : goal.returns-else-weight-word
returns-else-weight-word c = let ws = c.args.table.now in let q = subst (Judged ws) c.in-Ok.is c.judge.ensures.judged in ((λ t. absurd (c.if-weight-word.false (eqb-true _ _ t))), (λ s. absurd (false≢true ((other_weight ws _ q (λ z. c.if-weight-word.false (z ∙ sym c.word.ensures.0))).1 s))))
