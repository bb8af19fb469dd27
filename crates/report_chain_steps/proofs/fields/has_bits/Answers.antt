use Rattle.report_chain_steps.proofs.fields.has_bits.Goals as goal

pub returns-then-is_field : goal.returns-then-is_field
returns-then-is_field c = λ e. let q = c.contains.ensures.0 e in (c.is_field.ensures c.if-is_field.true, c.if-v-lt256.true, (q.0, q.1, (c.set_of.ensures.strings q.0).0 q.2))
