use Rattle.text_syntax.proofs.Atoms.{bound_reads, bound_fault}
use mathlib.Core.Path.{sym, ◌∙◌}
use Rattle.text_syntax.proofs.fields.bound_name.Goals as goal

-- src/fields.rt:95:9
pub returns-then-name : goal.returns-then-name
returns-then-name c = bound_reads c.args.d c.args.p c.args.w (sym c.name.ensures ∙ c.if-name.true) c.bind.ensures c.passed.ensures c.want-a.ensures.0 c.value_set.ensures c.want-b.ensures.0 c.outside.ensures c.field_end.ensures

-- src/fields.rt:80:1
pub returns : goal.returns
returns c = bound_fault c.args.d c.args.p c.args.w (sym c.name.ensures ∙ c.if-name.false) c.failed.ensures
