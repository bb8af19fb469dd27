use borrow.Author.Rules.{rules}
use Rattle.lookahead.proofs.SpanLaws.{Spanned}
use Rattle.lookahead.proofs.SetLaws.{filled_none, filled_more}
use Rattle.lookahead.specs.Inner.{Filled, Stripe}
use Prim.Native.Nat.{ℕ}
use mathlib.Core.Path.{◌≡◌, subst, subst₂}
use native.Mathlib.Omega.{arith}
use Rattle.lookahead.proofs.spans.between.Goals as goal

-- src/spans.rt:50:5
pub loop-i-init : goal.loop-i-init
loop-i-init c = (filled_none _, search rules)

-- src/spans.rt:51:18
pub stripe-requires : goal.stripe-requires
stripe-requires c = omega (arith, c.reach-in-loop-i.ensures)

-- src/spans.rt:50:5
pub loop-i-preserved : goal.loop-i-preserved
loop-i-preserved c = (
  filled_more _ _ _ _ (search rules) c.loop-i.invariant.0 (search rules)
      (subst₂ (λ (l h : ℕ). Stripe l h c.stripe.result) c.reach.ensures c.reach-in-loop-i.ensures c.stripe.ensures),
  search rules,
)

-- src/spans.rt:45:1
pub returns : goal.returns
returns c =
    let a = c.args in
    subst (λ (n : ℕ). Filled (Spanned a.low a.past) n c.loop-i.out) (let e : c.loop-i.i ≡ 8 = omega arith in e) c.loop-i.invariant.0
