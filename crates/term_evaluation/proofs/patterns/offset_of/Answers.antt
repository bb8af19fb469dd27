use Prim.Native.Nat.{ℕ, zero, suc, ◌-◌, ◌^◌, ◌≤◌, ◌<◌}
use mathlib.Core.Path.{◌≡◌, sym, ap, ap₂, ◌∙◌}
use mathlib.Core.Bool.{Bool, true, false}
use mathlib.Core.Logic.{◌⊎◌, inl, inr}
use native.Mathlib.Omega.{arith}
use Rattle.basis.specs.Patterns.{offset}
use Rattle.term_evaluation.proofs.patterns.offset_of.Goals as goal

offset-some : (w : ℕ) (sign : Bool) → 0 < w → sign ≡ true → 2 ^ (w - 1) ≡ offset sign w
offset-some zero sign h e = absurd (omega arith)
offset-some (suc w) sign h e = let z : suc w - 1 ≡ w = omega arith in ap (2 ^◌) z ∙ sym (ap (λ (b : Bool). offset b (suc w)) e)

pub returns-then-width-gt0 : goal.returns-then-width-gt0
returns-then-width-gt0 c = c.power.ensures ∙ offset-some c.args.width c.args.sign c.if-width-gt0.true c.if-sign.true

offset-none : (w : ℕ) (sign : Bool) → ((sign ≡ true) × (w ≤ 0)) ⊎ (sign ≡ false) → 0 ≡ offset sign w
offset-none w sign (inr e) = sym (ap (λ (b : Bool). offset b w) e)
offset-none w sign (inl h) = sym (ap₂ offset h.0 (let e : w ≡ 0 = omega (arith, h.1) in e))

pub returns : goal.returns
returns c = offset-none c.args.width c.args.sign c.else-sign.either
