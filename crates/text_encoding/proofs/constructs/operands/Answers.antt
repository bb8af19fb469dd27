use mathlib.Core.Path.{sym, ◌∙◌}
use native.Mathlib.Omega.{arith}
use borrow.Author.Tests.{ne_eqb}
use Rattle.text_encoding.specs.Numbers.{lists_length}
use Rattle.text_encoding.proofs.Joining.{operands_written}
use Rattle.text_encoding.proofs.Sums.{sum_next}
use Rattle.text_encoding.proofs.constructs.operands.Goals as goal

pub end_word-requires : goal.end_word-requires
end_word-requires c = omega (arith, sum_next c.args.i (lists_length c.args.nodes.now))

pub returns-in-3 : goal.returns-in-3
returns-in-3 c = simp (← c.node_word-kind.ensures, c.in-3.is, c.put_four.ensures, c.end_word.ensures, c.start_word.ensures, c.node_word.ensures, c.own_length-n.ensures, c.requires.3)

pub returns-in-5 : goal.returns-in-5
returns-in-5 c = simp (← c.node_word-kind.ensures, c.in-5.is, c.put_four-in-5.ensures, c.rule_number.ensures, c.node_word-p.ensures)

pub returns-in-6 : goal.returns-in-6
returns-in-6 c = simp (← c.node_word-kind.ensures, c.in-6.is, c.put_four-in-6.ensures, c.characters.ensures, c.node_word-p.ensures)

pub returns-in-7 : goal.returns-in-7
returns-in-7 c = simp (← c.node_word-kind.ensures, c.in-7.is, c.put_four-in-7.ensures, c.character-in-7.ensures, c.node_word-in-7.ensures, c.character.ensures, c.node_word-p.ensures)

pub end_word-requires-in-8 : goal.end_word-requires-in-8
end_word-requires-in-8 c = omega (arith, sum_next c.args.i (lists_length c.args.nodes.now))

pub returns-in-8 : goal.returns-in-8
returns-in-8 c = operands_written c.args.text.now c.args.nodes.now c.args.rules.now c.args.count c.args.i c.args.k 8 c.args.table.now c.put_four-in-8.new.table (sym c.in-8.is ∙ c.node_word-kind.ensures) (simp (c.put_four-in-8.ensures, c.binder_word.ensures, c.end_word-in-8.ensures, c.start_word-in-8.ensures, c.width.ensures, c.own_length-n.ensures, c.requires.3))

pub returns-in_default : goal.returns-in_default
returns-in_default c = simp (← c.node_word-kind.ensures, ne_eqb _ _ c.in_default.in_default-own.rest.0.0.0.0.1, ne_eqb _ _ c.in_default.in_default-own.rest.0.0.0.1, ne_eqb _ _ c.in_default.in_default-own.rest.0.0.1, ne_eqb _ _ c.in_default.in_default-own.rest.0.1, ne_eqb _ _ c.in_default.in_default-own.rest.1, c.put_four-in_default.ensures)
