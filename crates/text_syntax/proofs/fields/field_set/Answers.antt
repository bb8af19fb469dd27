use Rattle.text_syntax.proofs.Atoms.{set_binds, set_plain}
use Rattle.text_syntax.proofs.fields.field_set.Goals as goal

-- src/fields.rt:115:9
pub returns-then-c-eq8 : goal.returns-then-c-eq8
returns-then-c-eq8 c = set_binds c.args.d c.args.p c.args.w c.if-c-eq8.true c.passed.ensures c.open-r.ensures c.bound_name.ensures

-- src/fields.rt:101:1
pub returns : goal.returns
returns c = set_plain c.args.d c.args.p c.args.w c.if-c-eq8.false c.value_set-r.ensures c.field_end.ensures
