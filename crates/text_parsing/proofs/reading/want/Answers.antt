use Rattle.text_parsing.proofs.Steps.{want_reads, want_faults, want_falls, fail_falls}
use Rattle.text_parsing.proofs.reading.want.Goals as goal

pub returns-then-c-code : goal.returns-then-c-code
returns-then-c-code c = (want_reads c.args.text.now c.args.c c.passed.result c.args.code c.requires c.if-c-code.true c.passed.ensures, λ _. want_falls c.args.text.now c.args.c c.passed.result c.args.code c.requires c.if-c-code.true c.passed.ensures)

pub returns-else-c-code : goal.returns-else-c-code
returns-else-c-code c = (want_faults c.args.text.now c.args.c c.failed.result c.args.code c.if-c-code.false c.failed.ensures, fail_falls c.args.text.now c.args.c c.failed.result c.args.code c.failed.ensures)
