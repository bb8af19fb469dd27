use Prim.Native.Nat.{◌^◌, ◌≤◌, ◌<◌, ◌/◌}
use mathlib.Core.Path.{◌≡◌, sym}
use native.Mathlib.Omega.{arith}
use lib.IntN.{nat_abs, ◌*ℤ◌}
use Rattle.term_integers.proofs.Laws.{back, read₁, read₂, fits_bound, bounded_in, bounded_out, abs_product, product_zero, product_in, product_out}
use Rattle.term_integers.proofs.multiply.Goals as goal

pub returns-then-m-magnitude : goal.returns-then-m-magnitude
returns-then-m-magnitude c =
    let m : c.magnitude-m.result ≡ nat_abs c.args.a = read₁ nat_abs c.args.a c.ranges.a.sfits c.magnitude-m.ensures in
    let n : c.magnitude.result ≡ nat_abs c.args.b = read₁ nat_abs c.args.b c.ranges.b.sfits c.magnitude.ensures in
    let p : 0 < nat_abs c.args.a = omega (arith, m, c.if-m-gt0.true) in
    let k : 2 ^ 62 / nat_abs c.args.a < nat_abs c.args.b = rw (m, n) at c.if-m-magnitude.true in
    sym (bounded_out (c.args.a *ℤ c.args.b) (rw abs_product (product_out (nat_abs c.args.a) (nat_abs c.args.b) (2 ^ 62) p k)))

pub times-requires : goal.times-requires
times-requires c =
    let m : c.magnitude-m.result ≡ nat_abs c.args.a = read₁ nat_abs c.args.a c.ranges.a.sfits c.magnitude-m.ensures in
    let n : c.magnitude.result ≡ nat_abs c.args.b = read₁ nat_abs c.args.b c.ranges.b.sfits c.magnitude.ensures in
    let p : 0 < nat_abs c.args.a = omega (arith, m, c.if-m-gt0.true) in
    let k : nat_abs c.args.b ≤ 2 ^ 62 / nat_abs c.args.a = rw (m, n) at c.if-m-magnitude.false in
    rw (back c.args.a c.ranges.a.sfits, back c.args.b c.ranges.b.sfits) (fits_bound (c.args.a *ℤ c.args.b) (rw abs_product (product_in (nat_abs c.args.a) (nat_abs c.args.b) (2 ^ 62) p k)))

pub returns-then-m-gt0 : goal.returns-then-m-gt0
returns-then-m-gt0 c =
    let m : c.magnitude-m.result ≡ nat_abs c.args.a = read₁ nat_abs c.args.a c.ranges.a.sfits c.magnitude-m.ensures in
    let n : c.magnitude.result ≡ nat_abs c.args.b = read₁ nat_abs c.args.b c.ranges.b.sfits c.magnitude.ensures in
    let p : 0 < nat_abs c.args.a = omega (arith, m, c.if-m-gt0.true) in
    let k : nat_abs c.args.b ≤ 2 ^ 62 / nat_abs c.args.a = rw (m, n) at c.if-m-magnitude.false in
    let r : c.times.result ≡ c.args.a *ℤ c.args.b = read₂ ◌*ℤ◌ c.args.a c.args.b c.ranges.a.sfits c.ranges.b.sfits c.times.ensures in
    rw (back c.times.result c.times.type_inv, r) (sym (bounded_in (c.args.a *ℤ c.args.b) (rw abs_product (product_in (nat_abs c.args.a) (nat_abs c.args.b) (2 ^ 62) p k))))

pub returns : goal.returns
returns c =
    let m : c.magnitude-m.result ≡ nat_abs c.args.a = read₁ nat_abs c.args.a c.ranges.a.sfits c.magnitude-m.ensures in
    sym (product_zero c.args.a c.args.b (omega (arith, m, c.if-m-gt0.false)))
