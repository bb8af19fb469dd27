use mathlib.Core.Path.{sym, ap, subst, ◌∙◌}
use Rattle.table_layout.specs.Held.{allowed}
use Rattle.lookahead.specs.Sets.{Has, Is, Repeated}
use Rattle.table_first_follow.proofs.CountLaws.{is_capped, is_no_count}
use Rattle.table_first_follow.proofs.rules.repeated.Goals as goal
use Rattle.std.specs.Prelude.{Result, Ok, None}
use Rattle.term_words.specs.declared.TermError.{TermError}
use Rattle.term_evaluation.specs.declared.Allowed.{Allowed}

pub returns-in-None : goal.returns-in-None
returns-in-None c = is_no_count c.empty-in-None.result.words (Has c.args.body.words) c.args.counts (ap allowed (c.in-Ok.is ∙ ap Ok c.in-None.is)) c.empty-in-None.ensures

pub returns-in-From : goal.returns-in-From
returns-in-From c = subst (λ (k : Result Allowed TermError). Is c.at_least.result.words (Repeated (Has c.args.body.words) (allowed k))) (sym (c.in-Ok.is ∙ ap Ok c.in-From.is)) c.at_least.ensures

pub returns-in-Within : goal.returns-in-Within
returns-in-Within c =
    let a = c.args in
    subst (λ (k : Result Allowed TermError). Is c.within.result.words (Repeated (Has a.body.words) (allowed k))) (sym (c.in-Ok.is ∙ ap Ok c.in-Within.is))
    (is_capped (Has a.body.words) c.within.result.words c.in-Within.low c.in-Within.more c.capped-least.result c.capped.result c.capped-most.result c.capped-least.ensures c.capped.ensures c.capped-most.ensures c.within.ensures)

pub returns-in_default : goal.returns-in_default
returns-in_default c = is_no_count c.empty.result.words (Has c.args.body.words) c.args.counts (ap allowed c.in_default.is) c.empty.ensures
