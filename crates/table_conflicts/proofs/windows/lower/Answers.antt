use borrow.Author.Tests.{eq-eqb, ne_eqb}
use Prim.Native.Nat.{min}
use mathlib.Core.Path.{◌≡◌}
use native.Mathlib.Omega.{arith}
use Rattle.table_conflicts.proofs.windows.lower.Goals as goal

pub returns-then-a-eq0 : goal.returns-then-a-eq0
returns-then-a-eq0 c = simp (eq-eqb _ _ c.if-a-eq0.true)

pub returns-then-b-eq0 : goal.returns-then-b-eq0
returns-then-b-eq0 c = simp (ne_eqb _ _ c.if-a-eq0.false, eq-eqb _ _ c.if-b-eq0.true)

pub returns-then-a-b : goal.returns-then-a-b
returns-then-a-b c = simp (ne_eqb _ _ c.if-a-eq0.false, ne_eqb _ _ c.if-b-eq0.false) (let m : c.args.a ≡ min c.args.a c.args.b = omega (arith, c.if-a-b.true) in m)

pub returns : goal.returns
returns c = simp (ne_eqb _ _ c.if-a-eq0.false, ne_eqb _ _ c.if-b-eq0.false) (let m : c.args.b ≡ min c.args.a c.args.b = omega (arith, c.if-a-b.false) in m)
