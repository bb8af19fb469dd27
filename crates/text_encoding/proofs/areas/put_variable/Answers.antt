use mathlib.Core.Path.{sym, ◌∙◌}
use native.Mathlib.Omega.{arith}
use native.Mathlib.Nat.{add-zero}
use Rattle.text_encoding.specs.Numbers.{binds_one}
use Rattle.text_encoding.proofs.Sums.{sum_turn, binders_most}
use Rattle.text_encoding.proofs.Writing.{written_nil}
use Rattle.text_encoding.proofs.areas.put_variable.Goals as goal

pub overflow_mul-x : goal.overflow_mul-x
overflow_mul-x c = omega (arith, binders_most c.args.nodes.now c.args.i)

pub overflow_add-x : goal.overflow_add-x
overflow_add-x c = omega (arith, binders_most c.args.nodes.now c.args.i)

pub put_four-requires : goal.put_four-requires
put_four-requires c = omega (arith, binders_most c.args.nodes.now c.args.i)

pub overflow_add-result : goal.overflow_add-result
overflow_add-result c = omega (arith, binders_most c.args.nodes.now c.args.i)

pub returns-then-binder : goal.returns-then-binder
returns-then-binder c = (simp (c.put_four.ensures, c.sign_word.ensures, c.width.ensures, ← c.binder.ensures, c.if-binder.true), sum_turn c.args.i 1 c.args.x (binds_one c.args.nodes.now) c.requires.2 (simp (← c.binder.ensures, c.if-binder.true)))

pub returns : goal.returns
returns c = (simp (← c.binder.ensures, c.if-binder.false, written_nil), sym (add-zero c.args.x) ∙ sum_turn c.args.i 0 c.args.x (binds_one c.args.nodes.now) c.requires.2 (simp (← c.binder.ensures, c.if-binder.false)))
