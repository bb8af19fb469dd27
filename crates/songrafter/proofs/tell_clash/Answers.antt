use mathlib.Core.Path.{sym, ap, ◌∙◌}
use lib.Seq.{sets}
use Rattle.table_conflicts.specs.declared.Clash.{Clash}
use Rattle.text_admission.specs.Answers.{told_clash}
use Rattle.songrafter.proofs.tell_clash.Goals as goal

-- src/lib.rt:39:1
pub returns-in-None : goal.returns-in-None
returns-in-None c = c.put_five.ensures ∙ sym (ap (λ (x : Clash). sets c.args.answer.now 0 (told_clash c.args.place c.args.construct x)) c.in-None.is)

-- src/lib.rt:39:1
pub returns-in-Branches : goal.returns-in-Branches
returns-in-Branches c = c.put_five-in-Branches.ensures ∙ sym (ap (λ (x : Clash). sets c.args.answer.now 0 (told_clash c.args.place c.args.construct x)) c.in-Branches.is)

-- src/lib.rt:39:1
pub returns-in-Passes : goal.returns-in-Passes
returns-in-Passes c = c.put_five-in-Passes.ensures ∙ sym (ap (λ (x : Clash). sets c.args.answer.now 0 (told_clash c.args.place c.args.construct x)) c.in-Passes.is)
