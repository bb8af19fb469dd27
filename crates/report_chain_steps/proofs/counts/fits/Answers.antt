use mathlib.Core.Bool.{false≢true}
use mathlib.Core.Path.{sym, ap, subst, ◌∙◌}
use Rattle.table_layout.specs.Held.{allowed}
use Rattle.report_chain_steps.specs.Replayed.{Fits}
use Rattle.report_chain_steps.proofs.counts.fits.Goals as goal
use Rattle.std.specs.Prelude.{Result, Ok, None}
use Rattle.term_words.specs.declared.TermError.{TermError}
use Rattle.term_evaluation.specs.declared.Allowed.{Allowed}

pub returns-in-From : goal.returns-in-From
returns-in-From c = λ e. subst (λ (k : Result Allowed TermError). Fits (allowed k) c.args.n) (sym (c.in-Ok.is ∙ ap Ok c.in-From.is)) (c.fits_from.ensures e)

pub returns-in-Within : goal.returns-in-Within
returns-in-Within c = λ e. subst (λ (k : Result Allowed TermError). Fits (allowed k) c.args.n) (sym (c.in-Ok.is ∙ ap Ok c.in-Within.is)) (c.fits_within.ensures e)

pub returns-in_default : goal.returns-in_default
returns-in_default c = λ e. absurd (false≢true e)

pub returns-in-None : goal.returns-in-None
returns-in-None c = λ e. absurd (false≢true e)
