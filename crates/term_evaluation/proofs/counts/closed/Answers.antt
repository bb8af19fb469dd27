use mathlib.Core.Bool.{true, false}
use mathlib.Core.Path.{◌≡◌}
use native.Mathlib.Omega.{arith}
use lib.IntN.{nat_abs}
use Rattle.term_integers.proofs.Laws.{read₁}
use Rattle.term_evaluation.proofs.Counting.{sign, span_negative, span_in, span_out}
use Rattle.basis.specs.Counts.{least}
use Rattle.term_evaluation.proofs.counts.closed.Goals as goal

pub returns-then-negative : goal.returns-then-negative
returns-then-negative c = span_negative c.args.a c.args.b (sign c.args.b true c.ranges.b.sfits c.negative.ensures c.if-negative.true)

pub returns-then-low-high : goal.returns-then-low-high
returns-then-low-high c =
    let l : c.from_zero-low.result ≡ least c.args.a = read₁ least c.args.a c.ranges.a.sfits c.from_zero-low.ensures in
    let m : c.magnitude-high.result ≡ nat_abs c.args.b = read₁ nat_abs c.args.b c.ranges.b.sfits c.magnitude-high.ensures in
    rw (l, m) (span_in c.args.a c.args.b (sign c.args.b false c.ranges.b.sfits c.negative.ensures c.if-negative.false) (omega (arith, l, m, c.if-low-high.true)))

pub returns : goal.returns
returns c =
    let l : c.from_zero-low.result ≡ least c.args.a = read₁ least c.args.a c.ranges.a.sfits c.from_zero-low.ensures in
    let m : c.magnitude-high.result ≡ nat_abs c.args.b = read₁ nat_abs c.args.b c.ranges.b.sfits c.magnitude-high.ensures in
    span_out c.args.a c.args.b (sign c.args.b false c.ranges.b.sfits c.negative.ensures c.if-negative.false) (omega (arith, l, m, c.if-low-high.false))
