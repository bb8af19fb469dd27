use Rattle.lookahead.proofs.SpanLaws.{stripe_is, stripe_none}
use mathlib.Core.Path.{refl}
use Rattle.lookahead.proofs.spans.stripe.Goals as goal

-- src/spans.rt:27:9
pub returns-then-l-h : goal.returns-then-l-h
returns-then-l-h c =
    let a = c.args in
    stripe_is a.l a.h _ c.ones.result c.if-l-h.true c.requires c.ones.ensures refl

-- src/spans.rt:22:1
pub returns : goal.returns
returns c = stripe_none c.args.l c.args.h c.if-l-h.false
