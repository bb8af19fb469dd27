use borrow.Author.Tests.{le-ltb, lt-ltb, ne_eqb}
use native.Mathlib.Omega.{arith}
use mathlib.Core.Path.{sym, ap, ◌∙◌}
use mathlib.Core.Bool.{Bool, cond, ◌&&◌}
use lib.Dec.{leb, ltb, eqb}
use Rattle.basis.specs.Limits.{max_literal_bytes}
use Rattle.run_actions.specs.Acts.{uint_act}
use Rattle.run_actions.specs.declared.Act.{Act}
use Rattle.run_actions.proofs.Told.{literals, ranges, numbers, no_number, fits_width}
use Rattle.run_actions.proofs.of_leaf.Goals as goal

pub uint-requires : goal.uint-requires
uint-requires c =
    let a = c.args in
    let f = fits_width a.i a.a a.b a.c a.d (omega arith) (sym c.uint_fits.ensures ∙ c.if-uint_fits.true) in
    (omega arith, omega arith, omega arith, f.0, f.1)

pub returns-then-uint_fits : goal.returns-then-uint_fits
returns-then-uint_fits c =
    let a = c.args in
    c.uint.ensures
    ∙ (ap (λ (t : Bool). cond t (uint_act a.table.now a.frame.now a.values.now a.p (eqb a.kind 12) a.a a.b a.c a.d) Act.Broken) (sym (sym c.uint_fits.ensures ∙ c.if-uint_fits.true))
    ∙ numbers a.table.now a.frame.now a.values.now a.p a.i a.k a.kind a.a a.b a.c a.d (sym c.is_number.ensures ∙ c.if-is_number.true))

pub returns-then-is_number : goal.returns-then-is_number
returns-then-is_number c =
    let a = c.args in
    ap (λ (t : Bool). cond t (uint_act a.table.now a.frame.now a.values.now a.p (eqb a.kind 12) a.a a.b a.c a.d) Act.Broken) (sym (sym c.uint_fits.ensures ∙ c.if-uint_fits.false))
    ∙ numbers a.table.now a.frame.now a.values.now a.p a.i a.k a.kind a.a a.b a.c a.d (sym c.is_number.ensures ∙ c.if-is_number.true)

pub returns-then-a-lt-MAX_RULES : goal.returns-then-a-lt-MAX_RULES
returns-then-a-lt-MAX_RULES c = simp (lt-ltb _ _ c.if-a-lt-MAX_RULES.true, c.if-kind-eq5.true) c.open_rule.ensures

pub returns-then-kind-eq5 : goal.returns-then-kind-eq5
returns-then-kind-eq5 c = simp (le-ltb _ _ c.if-a-lt-MAX_RULES.false, c.if-kind-eq5.true)

pub returns-then-kind-eq6 : goal.returns-then-kind-eq6
returns-then-kind-eq6 c =
    let a = c.args in
    simp c.if-kind-eq6.true (c.of_literal.ensures ∙ literals a.table.now a.frame.now a.values.now a.p a.i a.k a.a (leb 1 a.a && leb a.a max_literal_bytes))

pub returns-then-kind-eq7 : goal.returns-then-kind-eq7
returns-then-kind-eq7 c =
    let a = c.args in
    simp c.if-kind-eq7.true (c.of_range.ensures ∙ ranges a.table.now a.frame.now a.values.now a.p a.i a.k a.a a.b (ltb a.a 128 && ltb a.b 128))

pub returns-then-kind-eq9 : goal.returns-then-kind-eq9
returns-then-kind-eq9 c = simp c.if-kind-eq9.true c.end.ensures

pub returns : goal.returns
returns c =
    let a = c.args in
    let n = no_number (eqb a.kind 8) (eqb a.kind 12) (sym c.is_number.ensures ∙ c.if-is_number.false) in
    simp (n.0, n.1, ne_eqb _ _ c.if-kind-eq9.false, ne_eqb _ _ c.if-kind-eq7.false, ne_eqb _ _ c.if-kind-eq6.false, ne_eqb _ _ c.if-kind-eq5.false)
