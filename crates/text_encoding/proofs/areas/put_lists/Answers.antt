use Prim.Native.Nat.{◌+◌, ◌*◌}
use native.Mathlib.Omega.{arith}
use Rattle.table_layout.specs.Places.{terms_at}
use Rattle.text_store.specs.Words.{own_from, condition_from, node_start}
use Rattle.text_store.proofs.Numbers.{at_own_end, at_condition_end}
use Rattle.text_encoding.specs.Numbers.{condition_length, own_length, lists_length}
use Rattle.text_encoding.specs.Encoded.{list_words}
use Rattle.text_encoding.proofs.Sums.{sum_next}
use Rattle.text_encoding.proofs.Sizes.{list_length}
use Rattle.text_encoding.proofs.Writing.{written_next}
use Rattle.text_encoding.proofs.areas.put_lists.Goals as goal

pub list-requires : goal.list-requires
list-requires c = (c.requires.0, c.requires.1, c.requires.2, omega (arith, sum_next c.args.i (lists_length c.args.nodes.now)), omega (arith, c.shared_slice_known-2-1.given (node_start c.args.i + at_condition_end)))

pub overflow_add-q : goal.overflow_add-q
overflow_add-q c = omega (arith, sum_next c.args.i (lists_length c.args.nodes.now))

pub list-requires-2 : goal.list-requires-2
list-requires-2 c = (c.requires.0, c.requires.1, c.requires.2, omega (arith, sum_next c.args.i (lists_length c.args.nodes.now)), omega (arith, c.shared_slice_known-2-1.given (node_start c.args.i + at_own_end)))

pub returns : goal.returns
returns c = written_next c.args.table.now c.list.new.table c.list-2.new.table (terms_at + 3 * c.args.q) (terms_at + 3 * (c.args.q + c.condition_length-n.result)) (list_words c.args.text.now c.args.nodes.now c.args.terms.now c.args.a c.args.i (condition_from c.args.nodes.now c.args.i) (condition_length c.args.nodes.now c.args.i)) (list_words c.args.text.now c.args.nodes.now c.args.terms.now c.args.a c.args.i (own_from c.args.nodes.now c.args.i) (own_length c.args.nodes.now c.args.i)) (simp (c.list.ensures, c.node_word.ensures, c.condition_length-n.ensures)) (omega (arith, c.condition_length-n.ensures, list_length c.args.text.now c.args.nodes.now c.args.terms.now c.args.a c.args.i (condition_from c.args.nodes.now c.args.i) (condition_length c.args.nodes.now c.args.i))) (simp (c.list-2.ensures, c.node_word-2.ensures, c.own_length-m.ensures))
