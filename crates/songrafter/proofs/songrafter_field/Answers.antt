use mathlib.Core.Path.{ap, ◌∙◌}
use lib.Seq.{sets}
use Rattle.run_fields.specs.Fields.{number_of, told}
use Rattle.run_fields.specs.declared.Answer.{Answer}
use Rattle.run_fields.proofs.field.Reads as field_reads
use Rattle.songrafter.proofs.songrafter_field.Goals as goal

-- src/lib.rt:232:1
pub returns : goal.returns
returns c = record { number_is = c.tell_field.ensures.0 ∙ ap number_of c.field-found.ensures; told_is = c.tell_field.ensures.1 ∙ ap (λ (x : Answer). sets c.args.field.now 0 (told x)) c.field-found.ensures }
