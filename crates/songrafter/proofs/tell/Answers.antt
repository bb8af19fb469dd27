use mathlib.Core.Path.{sym, ap, ◌∙◌}
use lib.Seq.{sets}
use Rattle.text_admission.specs.Answers.{number_of}
use Rattle.text_admission.specs.declared.Admission.{Admission}
use Rattle.text_admission.specs.Answers.{told}
use Rattle.songrafter.proofs.tell.Goals as goal

-- src/lib.rt:54:1
pub returns-in-Admitted : goal.returns-in-Admitted
returns-in-Admitted c = (sym (ap number_of c.in-Admitted.is), c.put_five.ensures ∙ sym (ap (λ (x : Admission). sets c.args.answer.now 0 (told x)) c.in-Admitted.is))

-- src/lib.rt:54:1
pub returns-in-Refused : goal.returns-in-Refused
returns-in-Refused c = (sym (ap number_of c.in-Refused.is), c.put_five-in-Refused.ensures ∙ sym (ap (λ (x : Admission). sets c.args.answer.now 0 (told x)) c.in-Refused.is))

-- src/lib.rt:54:1
pub returns-in-Conflict : goal.returns-in-Conflict
returns-in-Conflict c = (sym (ap number_of c.in-Conflict.is), c.tell_clash.ensures ∙ sym (ap (λ (x : Admission). sets c.args.answer.now 0 (told x)) c.in-Conflict.is))
