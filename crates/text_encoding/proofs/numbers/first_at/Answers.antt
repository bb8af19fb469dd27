use Prim.Native.Nat.{◌-◌}
use mathlib.Core.Path.{◌∙◌}
use native.Mathlib.Omega.{arith}
use Rattle.text_encoding.proofs.Sums.{first_at_here, first_at_before, first_at_none}
use Rattle.text_encoding.proofs.numbers.first_at.Goals as goal

pub returns-then-first-i : goal.returns-then-first-i
returns-then-first-i c = (first_at_here c.args.rules.now c.loop-k.k (c.loop-k.k - 1) c.args.i c.rule_word-first.result (omega arith) c.rule_word-first.ensures c.if-first-i.true ∙ c.loop-k.invariant, c.if-first-i.true)

pub loop-k-preserved : goal.loop-k-preserved
loop-k-preserved c = first_at_before c.args.rules.now c.loop-k.k (c.loop-k.k - 1) c.args.i c.rule_word-first.result (omega arith) c.rule_word-first.ensures c.if-first-i.false ∙ c.loop-k.invariant

pub returns : goal.returns
returns c = (first_at_none c.args.rules.now c.loop-k.k c.args.i (omega arith) ∙ c.loop-k.invariant, omega arith)
