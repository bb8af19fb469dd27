use Rattle.lookahead.proofs.SpanLaws.{span_is}
use native.Mathlib.Omega.{arith}
use Rattle.lookahead.proofs.spans.span.Goals as goal

pub returns : goal.returns
returns c = span_is c.max.result _ c.between.result c.between.ensures c.args.low c.args.high
    (λ n z h. ((λ d. (omega (arith, d.0), omega (arith, d.1))), (λ d. (omega (arith, d.0), omega (arith, d.1))))) (omega arith)
