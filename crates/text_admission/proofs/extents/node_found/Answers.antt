use native.Mathlib.Omega.{arith}
use Rattle.text_encoding.specs.Numbers.{lists_length}
use Rattle.text_encoding.proofs.Sums.{sum_next}
use Rattle.text_admission.proofs.extents.node_found.Goals as goal

pub overflow_add-q : goal.overflow_add-q
overflow_add-q c = omega (arith, sum_next c.args.i (lists_length c.args.nodes.now))

pub returns : goal.returns
returns c = simp (c.lesser-2.ensures, c.lesser.ensures, c.width_found.ensures, c.list_found-own.ensures, c.own_sizes.ensures, c.condition_length.ensures, c.node_word-2.ensures, c.list_found-tested.ensures, c.condition_sizes.ensures, c.node_word.ensures, c.requires.5)
