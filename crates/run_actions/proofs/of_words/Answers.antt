use borrow.Author.Tests.{le-leb, lt-leb, leb-true, eq-eqb, ne_eqb}
use native.Mathlib.Omega.{arith}
use Prim.Native.Nat.{◌+◌}
use mathlib.Core.Path.{◌≡◌, sym, ◌∙◌}
use lib.Dec.{leb}
use Rattle.basis.specs.Limits.{max_constructs}
use Rattle.basis.proofs.Booleans.{both_first, both_second}
use Rattle.table_layout.specs.Constructs.{construct_of}
use Rattle.run_actions.proofs.Told.{no_kind}
use Rattle.run_actions.proofs.of_words.Goals as goal

pub returns-then-size-eq1 : goal.returns-then-size-eq1
unfolding construct_of
returns-then-size-eq1 c = simp (lt-leb _ _ c.if-kind-gt4.true, le-leb 1 c.args.kind (omega arith), eq-eqb _ _ c.if-size-eq1.true) c.of_leaf.ensures

pub returns-then-kind-gt4 : goal.returns-then-kind-gt4
unfolding construct_of
returns-then-kind-gt4 c = simp (lt-leb _ _ c.if-kind-gt4.true, le-leb 1 c.args.kind (omega arith), ne_eqb _ _ c.if-size-eq1.false)

pub returns-then-kind-lt1 : goal.returns-then-kind-lt1
unfolding construct_of
returns-then-kind-lt1 c =
    let a = c.args in
    let z : a.kind ≡ 0 = omega arith in
    simp (lt-leb _ _ c.if-kind-lt1.true) (no_kind a.table.now a.frame.now a.values.now a.p a.i a.k a.kind a.size a.a a.b a.c a.d z)

pub of_inner-requires : goal.of_inner-requires
of_inner-requires c =
    let a = c.args in
    let e = sym c.branches.ensures ∙ c.if-branches.true in
    (omega arith, leb-true 2 a.size (both_first (leb 2 a.size) (leb (a.i + a.size) max_constructs) e), leb-true (a.i + a.size) max_constructs (both_second (leb 2 a.size) (leb (a.i + a.size) max_constructs) e), omega arith, omega arith)

pub returns-then-branches : goal.returns-then-branches
unfolding construct_of
returns-then-branches c = simp (sym c.branches.ensures ∙ c.if-branches.true, le-leb _ _ c.if-kind-lt1.false, le-leb _ _ c.if-kind-gt4.false) c.of_inner.ensures

pub returns : goal.returns
unfolding construct_of
returns c = simp (sym c.branches.ensures ∙ c.if-branches.false, le-leb _ _ c.if-kind-lt1.false, le-leb _ _ c.if-kind-gt4.false)
