use mathlib.Core.Path.{sym, ap, ◌∙◌}
use lib.Seq.{sets}
use Rattle.run_fields.specs.Fields.{number_of, told}
use Rattle.run_fields.specs.declared.Answer.{Answer}
use Rattle.songrafter.proofs.tell_field.Goals as goal

-- src/lib.rt:212:1
pub returns-in-Found : goal.returns-in-Found
returns-in-Found c = (sym (ap number_of c.in-Found.is), c.put_four.ensures ∙ sym (ap (λ (x : Answer). sets c.args.field.now 0 (told x)) c.in-Found.is))
