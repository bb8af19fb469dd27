use mathlib.Core.Path.{◌≡◌, sym}
use native.Mathlib.Omega.{arith}
use lib.IntN.{nat_abs, neg_ℤ}
use Rattle.term_integers.proofs.Laws.{back, read₁, fits_bound, bounded_in, bounded_out, nat_abs_neg}
use Rattle.term_integers.proofs.negate.Goals as goal

pub returns-then-magnitude-gt-LIMIT : goal.returns-then-magnitude-gt-LIMIT
returns-then-magnitude-gt-LIMIT c =
    let m : c.magnitude.result ≡ nat_abs c.args.a = read₁ nat_abs c.args.a c.ranges.a.sfits c.magnitude.ensures in
    sym (bounded_out (neg_ℤ c.args.a) (omega (arith, m, nat_abs_neg c.args.a, c.if-magnitude-gt-LIMIT.true)))

pub opposite-requires : goal.opposite-requires
opposite-requires c =
    let m : c.magnitude.result ≡ nat_abs c.args.a = read₁ nat_abs c.args.a c.ranges.a.sfits c.magnitude.ensures in
    rw (back c.args.a c.ranges.a.sfits) (fits_bound (neg_ℤ c.args.a) (omega (arith, m, nat_abs_neg c.args.a, c.if-magnitude-gt-LIMIT.false)))

pub returns : goal.returns
returns c =
    let m : c.magnitude.result ≡ nat_abs c.args.a = read₁ nat_abs c.args.a c.ranges.a.sfits c.magnitude.ensures in
    rw (back c.opposite.result c.opposite.type_inv, read₁ neg_ℤ c.args.a c.ranges.a.sfits c.opposite.ensures) (sym (bounded_in (neg_ℤ c.args.a) (omega (arith, m, nat_abs_neg c.args.a, c.if-magnitude-gt-LIMIT.false))))
