use Prim.Native.Nat.{◌+◌, ◌≤◌}
use native.Mathlib.Omega.{arith}
use Rattle.text_encoding.proofs.Sizes.{term_length}
use Rattle.text_encoding.proofs.Writing.{writing_start, writing_turn, writing_end, one_less}
use Rattle.text_encoding.proofs.constructs.list.Goals as goal

pub loop-j-init : goal.loop-j-init
loop-j-init c = ((let z : 0 ≤ c.args.n = omega arith in z), writing_start (omega arith) (omega arith) (omega arith))

pub term-requires : goal.term-requires
term-requires c = (c.requires.0, c.requires.1, c.requires.2, omega arith)

pub loop-j-preserved : goal.loop-j-preserved
loop-j-preserved c = (omega arith, writing_turn c.loop-j.invariant.1 (one_less _ _ c.loop-j-test.true) (omega arith) (omega (arith, term_length c.args.text.now c.args.nodes.now c.args.terms.now c.args.a c.args.i (c.args.t + c.loop-j.j))) c.term.ensures)

pub shape_of-table : goal.shape_of-table
shape_of-table c = c.loop-j.invariant.1.same

pub returns : goal.returns
returns c = writing_end c.loop-j.invariant.1 (omega arith)
