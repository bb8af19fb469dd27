use Rattle.text_syntax.proofs.Ruling.{begin, turn}
use mathlib.Core.Path.{refl, sym, ◌∙◌}
use Rattle.text_syntax.proofs.rules.read.Goals as goal

-- src/rules.rt:70:5
pub loop-any-init : goal.loop-any-init
loop-any-init c = begin c.first-c.ensures refl

-- src/rules.rt:71:9
pub rule-c-requires : goal.rule-c-requires
rule-c-requires c = sym c.name.ensures ∙ c.loop-any-test.true

-- src/rules.rt:70:5
pub loop-any-smaller : goal.loop-any-smaller
loop-any-smaller c = c.rule-c.ensures.falls

-- src/rules.rt:70:5
pub loop-any-preserved : goal.loop-any-preserved
loop-any-preserved c = turn c.loop-any.invariant c.rule-c.ensures

-- src/rules.rt:74:5
pub text_end-requires : goal.text_end-requires
text_end-requires c = sym c.name.ensures ∙ c.loop-any-test.false

-- src/rules.rt:60:1
pub returns : goal.returns
returns c = c.loop-any.invariant.same ∙ c.text_end.ensures _ _ _ _
