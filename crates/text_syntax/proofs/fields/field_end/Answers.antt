use Rattle.text_syntax.proofs.Atoms.{field_ends, field_end_fault}
use Rattle.text_syntax.proofs.fields.field_end.Goals as goal

-- src/fields.rt:62:9
pub returns-then-c-eq41 : goal.returns-then-c-eq41
returns-then-c-eq41 c = field_ends c.args.p c.args.w c.args.name c.args.how c.args.from c.if-c-eq41.true c.insert_node.ensures.0 c.insert_node.ensures.1 c.passed.ensures

-- src/fields.rt:49:1
pub returns : goal.returns
returns c = field_end_fault c.args.p c.args.w c.args.name c.args.how c.args.from c.if-c-eq41.false c.failed.ensures
