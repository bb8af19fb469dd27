use Rattle.text_encoding.proofs.Joining.{table_written}
use Rattle.text_encoding.proofs.areas.encode.Goals as goal

pub returns : goal.returns
returns c = table_written c.args.text.now c.args.nodes.now c.args.terms.now c.args.rules.now c.args.n c.args.r c.args.table.now c.put_header.new.table c.put_rules.new.table c.put_variables.new.table c.put_constructs.new.table c.put_terms.new.table c.put_literals.new.table c.requires.6 c.put_header.ensures c.put_rules.ensures c.put_variables.ensures c.put_constructs.ensures c.put_terms.ensures c.put_literals.ensures
