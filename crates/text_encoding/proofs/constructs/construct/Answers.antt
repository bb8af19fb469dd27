use Prim.Native.Nat.{◌+◌, ◌*◌}
use native.Mathlib.Omega.{arith}
use Rattle.table_layout.specs.Places.{constructs_at}
use Rattle.text_encoding.specs.Numbers.{lists_length}
use Rattle.text_encoding.proofs.Sums.{sum_next}
use Rattle.text_encoding.proofs.Joining.{construct_written}
use Rattle.text_encoding.proofs.constructs.construct.Goals as goal

pub overflow_add-start : goal.overflow_add-start
overflow_add-start c = omega (arith, sum_next c.args.i (lists_length c.args.nodes.now))

pub end_word-requires : goal.end_word-requires
end_word-requires c = omega (arith, sum_next c.args.i (lists_length c.args.nodes.now))

pub returns : goal.returns
returns c = construct_written c.args.text.now c.args.nodes.now c.args.rules.now c.args.count c.args.i (constructs_at + 8 * c.args.i) c.args.table.now c.put_two.new.table c.operands.new.table c.put_two-2.new.table (simp (c.put_two.ensures, c.kind_word.ensures, c.node_word.ensures)) c.operands.ensures (simp (c.put_two-2.ensures, c.end_word.ensures, c.start_word.ensures, c.condition_length-n.ensures, c.requires.3))
