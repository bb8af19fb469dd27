use mathlib.Core.Path.{subst, ap, ◌∙◌}
use Rattle.std.specs.Prelude.{Err}
use Rattle.table_judge.specs.Judged.{Judged}
use Rattle.table_fill.specs.Completed.{Completed}
use Rattle.text_admission.proofs.Judging.{kept, mark_within, late_body, late_conflict, late_weight, late_reach, late_value, late_pass}
use borrow.Author.Rules.{rules}
use Rattle.text_admission.proofs.judged.Goals as goal

pub least_mark-requires : goal.least_mark-requires
least_mark-requires c = let ns = c.args.nodes.now in let rs = c.args.rules.now in let old = c.args.words.now in let k = c.complete in let new = k.new.table in let t = c.in-Err-EmptyBody.is ∙ ap Err c.in-Err-EmptyBody.field-0-is in let q = kept ns rs old new c.args.base k.new.first c.requires.0.passed.laid_out k.ensures.judged.1 (subst (Completed old new) t k.ensures.completed) in (q.0, k.auto.first, q.1, c.requires.1)

pub refused-requires : goal.refused-requires
refused-requires c = let ns = c.args.nodes.now in let rs = c.args.rules.now in let old = c.args.words.now in let k = c.complete in let new = k.new.table in let t = c.in-Err-EmptyBody.is ∙ ap Err c.in-Err-EmptyBody.field-0-is in (c.requires.3, mark_within ns rs old new c.args.base _ c.least_mark.result (subst (Judged old) t k.ensures.judged.0) (subst (Completed old new) t k.ensures.completed) c.least_mark.ensures c.requires.4)

pub returns-in-Err-EmptyBody : goal.returns-in-Err-EmptyBody
returns-in-Err-EmptyBody c = let ns = c.args.nodes.now in let rs = c.args.rules.now in let old = c.args.words.now in let k = c.complete in let new = k.new.table in let t = c.in-Err-EmptyBody.is ∙ ap Err c.in-Err-EmptyBody.field-0-is in late_body ns rs old new c.args.base _ c.least_mark.result (subst (Judged old) t k.ensures.judged.0) (subst (Completed old new) t k.ensures.completed) c.least_mark.ensures c.refused.result c.refused.ensures

pub returns-in-Err-Conflict : goal.returns-in-Err-Conflict
returns-in-Err-Conflict c = let ns = c.args.nodes.now in let rs = c.args.rules.now in let old = c.args.words.now in let k = c.complete in let new = k.new.table in let t = c.in-Err-Conflict.is ∙ ap Err c.in-Err-Conflict.field-0-is in late_conflict ns rs old new c.args.base _ _ (subst (Judged old) t k.ensures.judged.0) c.conflict.result c.conflict.ensures

pub returns-in-Err-Overweight : goal.returns-in-Err-Overweight
returns-in-Err-Overweight c = let ns = c.args.nodes.now in let rs = c.args.rules.now in let old = c.args.words.now in let k = c.complete in let new = k.new.table in let t = c.in-Err-Overweight.is ∙ ap Err c.in-Err-Overweight.field-0-is in late_weight ns rs old new c.args.base (subst (Judged old) t k.ensures.judged.0) c.refused_at.result c.refused_at.ensures

pub returns-in-Err-Unreached : goal.returns-in-Err-Unreached
returns-in-Err-Unreached c = let ns = c.args.nodes.now in let rs = c.args.rules.now in let old = c.args.words.now in let k = c.complete in let new = k.new.table in let t = c.in-Err-Unreached.is ∙ ap Err c.in-Err-Unreached.field-0-is in late_reach ns rs old new c.args.base _ (subst (Judged old) t k.ensures.judged.0) c.refused_at-in-Err-Unreached.result c.refused_at-in-Err-Unreached.ensures

pub returns-in-Err-NoValue : goal.returns-in-Err-NoValue
returns-in-Err-NoValue c = let ns = c.args.nodes.now in let rs = c.args.rules.now in let old = c.args.words.now in let k = c.complete in let new = k.new.table in let t = c.in-Err-NoValue.is ∙ ap Err c.in-Err-NoValue.field-0-is in late_value ns rs old new c.args.base _ (subst (Judged old) t k.ensures.judged.0) c.refused_in.result c.refused_in.ensures

pub returns-in-Ok : goal.returns-in-Ok
returns-in-Ok c = let ns = c.args.nodes.now in let rs = c.args.rules.now in let old = c.args.words.now in let k = c.complete in let new = k.new.table in let t = c.in-Ok.is in late_pass ns rs old new c.args.base _ (subst (Judged old) t k.ensures.judged.0) (subst (Completed old new) t k.ensures.completed)
