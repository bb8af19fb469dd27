use Prim.Native.Nat.{ℕ}
use mathlib.Core.Path.{◌≡◌, refl, ap, ◌∙◌}
use native.Mathlib.Omega.{arith}
use Rattle.text_names.specs.Names.{same_name}
use Rattle.text_encoding.proofs.Writing.{one_less}
use Rattle.text_encoding.proofs.Sums.{seeking_start, seeking_hit, seeking_miss, seeking_end}
use Rattle.text_encoding.proofs.numbers.rule_number.Goals as goal

pub loop-j-init : goal.loop-j-init
loop-j-init c = seeking_start (omega arith) refl

pub returns-then-same : goal.returns-then-same
returns-then-same c = seeking_hit c.loop-j.invariant (one_less _ _ c.loop-j-test.true) (c.same.ensures ∙ ap (λ (q : ℕ). same_name c.args.text.now q c.args.p) c.rule_word.ensures) c.if-same.true

pub loop-j-preserved : goal.loop-j-preserved
loop-j-preserved c = seeking_miss c.loop-j.invariant (one_less _ _ c.loop-j-test.true) (c.same.ensures ∙ ap (λ (q : ℕ). same_name c.args.text.now q c.args.p) c.rule_word.ensures) c.if-same.false

pub returns : goal.returns
returns c = (let z : c.args.count ≡ c.loop-j.j = omega arith in z) ∙ seeking_end c.loop-j.invariant (omega arith)
