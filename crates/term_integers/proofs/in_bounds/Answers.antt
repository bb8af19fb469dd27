use mathlib.Core.Path.{◌≡◌, sym}
use native.Mathlib.Omega.{arith}
use lib.IntN.{nat_abs}
use Rattle.term_integers.proofs.Laws.{back, read₁, bounded_in, bounded_out}
use Rattle.term_integers.proofs.in_bounds.Goals as goal

pub returns-then-magnitude-le-LIMIT : goal.returns-then-magnitude-le-LIMIT
returns-then-magnitude-le-LIMIT c =
    let m : c.magnitude.result ≡ nat_abs c.args.a = read₁ nat_abs c.args.a c.ranges.a.sfits c.magnitude.ensures in
    rw (back c.args.a c.ranges.a.sfits) (sym (bounded_in c.args.a (omega (arith, m, c.if-magnitude-le-LIMIT.true))))

pub returns-else-magnitude-le-LIMIT : goal.returns-else-magnitude-le-LIMIT
returns-else-magnitude-le-LIMIT c =
    let m : c.magnitude.result ≡ nat_abs c.args.a = read₁ nat_abs c.args.a c.ranges.a.sfits c.magnitude.ensures in
    sym (bounded_out c.args.a (omega (arith, m, c.if-magnitude-le-LIMIT.false)))
