use Rattle.text_syntax.proofs.Atoms.{last_reads, last_fault}
use Rattle.text_syntax.proofs.fields.last_character.Goals as goal

-- src/fields.rt:33:9
pub returns-then-c-eq9 : goal.returns-then-c-eq9
returns-then-c-eq9 c = last_reads c.args.p c.if-c-eq9.true c.leaf.ensures.0 c.leaf.ensures.1 c.passed.ensures

-- src/fields.rt:29:1
pub returns : goal.returns
returns c = last_fault c.args.p c.if-c-eq9.false c.failed.ensures
