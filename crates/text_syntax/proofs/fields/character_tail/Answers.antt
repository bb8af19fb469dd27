use Rattle.text_syntax.proofs.Atoms.{range_reads, character_reads}
use Rattle.text_syntax.proofs.fields.character_tail.Goals as goal

-- src/fields.rt:43:9
pub returns-then-c-eq126 : goal.returns-then-c-eq126
returns-then-c-eq126 c = range_reads c.args.p c.if-c-eq126.true c.passed.ensures c.last_character.ensures

-- src/fields.rt:39:1
pub returns : goal.returns
returns c = character_reads c.args.p c.if-c-eq126.false c.leaf.ensures.0 c.leaf.ensures.1
