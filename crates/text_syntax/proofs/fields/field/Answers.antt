use Rattle.text_syntax.proofs.Atoms.{field_reads}
use Rattle.text_syntax.proofs.fields.field.Goals as goal

-- src/fields.rt:123:1
pub returns : goal.returns
returns c = field_reads c.args.d c.args.p c.open-w.ensures c.want.ensures.0 c.want-r.ensures.0 c.field_set.ensures
