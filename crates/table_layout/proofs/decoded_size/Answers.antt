use mathlib.Core.Path.{◌≡◌, sym, ◌∙◌}
use native.Mathlib.Omega.{arith}
use borrow.Author.Tests.{le-leb, lt-leb, eq-eqb, ne_eqb}
use Rattle.table_layout.specs.Constructs.{construct_of}
use Rattle.table_layout.proofs.Sizes.{none_size}
use Rattle.table_layout.proofs.decoded_size.Goals as goal

pub returns-then-size-eq1 : goal.returns-then-size-eq1
unfolding construct_of
returns-then-size-eq1 c = simp (lt-leb _ _ c.if-kind-gt4.true, le-leb 1 c.args.kind (omega arith), eq-eqb _ _ c.if-size-eq1.true) c.leaf_size.ensures

pub returns-then-kind-gt4 : goal.returns-then-kind-gt4
unfolding construct_of
returns-then-kind-gt4 c = simp (lt-leb _ _ c.if-kind-gt4.true, le-leb 1 c.args.kind (omega arith), ne_eqb _ _ c.if-size-eq1.false)

pub returns-then-kind-lt1 : goal.returns-then-kind-lt1
unfolding construct_of
returns-then-kind-lt1 c =
    let a = c.args in
    let z : a.kind ≡ 0 = omega arith in
    simp (lt-leb _ _ c.if-kind-lt1.true) (sym (none_size a.kind a.size a.a a.b a.c a.d z))

pub returns-then-branches : goal.returns-then-branches
unfolding construct_of
returns-then-branches c = simp (sym c.branches.ensures ∙ c.if-branches.true, le-leb _ _ c.if-kind-lt1.false, le-leb _ _ c.if-kind-gt4.false) c.inner_size.ensures

pub returns : goal.returns
unfolding construct_of
returns c = simp (sym c.branches.ensures ∙ c.if-branches.false, le-leb _ _ c.if-kind-lt1.false, le-leb _ _ c.if-kind-gt4.false)
