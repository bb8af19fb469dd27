use Rattle.text_parsing.specs.Cursors.{state_at}
use Rattle.text_admission.proofs.Stages.{encodable}
use borrow.Author.Rules.{rules}
use Rattle.report_tables.proofs.tables.encode_named.Goals as goal

pub encode-requires : goal.encode-requires
encode-requires c = let s = c in let e = encodable s.args.text.now (state_at s.args.c s.args.nodes.now s.args.terms.now s.args.rules.now) s.requires.1 s.requires.0 in (e.0, e.1, e.2, e.3, e.4, e.5, s.requires.2)
