use Prim.Native.Nat.{ℕ}
use mathlib.Core.Path.{ap, ◌∙◌}
use Rattle.text_names.specs.Names.{same_name}
use Rattle.text_names.proofs.Loops.{any_start, any_hit, any_miss, any_end}
use Rattle.text_names.proofs.names.named.Goals as goal

pub loop-j-init : goal.loop-j-init
loop-j-init c = any_start

pub returns-then-same : goal.returns-then-same
returns-then-same c = any_hit c.loop-j.invariant c.loop-j-test.true (c.same.ensures ∙ ap (λ (w : ℕ). same_name c.args.text.now w c.args.p) c.rule_word.ensures) c.if-same.true

pub loop-j-preserved : goal.loop-j-preserved
loop-j-preserved c = any_miss c.loop-j.invariant c.loop-j-test.true (c.same.ensures ∙ ap (λ (w : ℕ). same_name c.args.text.now w c.args.p) c.rule_word.ensures) c.if-same.false

pub returns : goal.returns
returns c = any_end c.loop-j.invariant c.loop-j-test.false
