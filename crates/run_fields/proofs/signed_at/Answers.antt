use mathlib.Core.Path.{ap, ◌∙◌}
use Rattle.table_layout.specs.declared.Attributes.{Attributes}
use Rattle.run_fields.specs.Fields.{field_signed}
use Rattle.run_fields.proofs.signed_at.Goals as goal

pub returns : goal.returns
returns c = ap (λ (x : Attributes). x.signed) c.attributes_of.ensures ∙ ap field_signed c.construct_at.ensures
