use Prim.Native.Nat.{◌+◌, ◌^◌}
use mathlib.Core.Path.{sym, ap, ◌∙◌}
use lib.Dec.{leb}
use lib.IntN.{ℤ, nat_abs, ◌+ℤ◌}
use Rattle.term_integers.proofs.Laws.{back, read₁, read₂, fits_bound, bounded_in, bounded_out, whole_in, whole_out, sum_alike, sum_unlike}
use Rattle.term_integers.specs.Wholes.{bounded, same_sign}
use Rattle.term_integers.proofs.add.Goals as goal

pub plus-requires : goal.plus-requires
plus-requires c =
    rw (back c.args.a c.ranges.a.sfits, back c.args.b c.ranges.b.sfits) (fits_bound (c.args.a +ℤ c.args.b) (whole_in c.args.a c.args.b (c.args.a +ℤ c.args.b) (sum_alike c.args.a c.args.b (sym (read₂ same_sign c.args.a c.args.b c.ranges.a.sfits c.ranges.b.sfits c.alike.ensures) ∙ c.if-alike.true)) (sym (read₂ (λ (x y : ℤ). leb (nat_abs x + nat_abs y) (2 ^ 62)) c.args.a c.args.b c.ranges.a.sfits c.ranges.b.sfits c.together.ensures) ∙ c.if-together.true)))

pub returns-then-together : goal.returns-then-together
returns-then-together c =
    rw (back c.plus.result c.plus.type_inv, read₂ ◌+ℤ◌ c.args.a c.args.b c.ranges.a.sfits c.ranges.b.sfits c.plus.ensures) (sym (bounded_in (c.args.a +ℤ c.args.b) (whole_in c.args.a c.args.b (c.args.a +ℤ c.args.b) (sum_alike c.args.a c.args.b (sym (read₂ same_sign c.args.a c.args.b c.ranges.a.sfits c.ranges.b.sfits c.alike.ensures) ∙ c.if-alike.true)) (sym (read₂ (λ (x y : ℤ). leb (nat_abs x + nat_abs y) (2 ^ 62)) c.args.a c.args.b c.ranges.a.sfits c.ranges.b.sfits c.together.ensures) ∙ c.if-together.true))))

pub returns-then-alike : goal.returns-then-alike
returns-then-alike c = sym (bounded_out (c.args.a +ℤ c.args.b) (whole_out c.args.a c.args.b (c.args.a +ℤ c.args.b) (sum_alike c.args.a c.args.b (sym (read₂ same_sign c.args.a c.args.b c.ranges.a.sfits c.ranges.b.sfits c.alike.ensures) ∙ c.if-alike.true)) (sym (read₂ (λ (x y : ℤ). leb (nat_abs x + nat_abs y) (2 ^ 62)) c.args.a c.args.b c.ranges.a.sfits c.ranges.b.sfits c.together.ensures) ∙ c.if-together.false)))

pub plus-requires-2 : goal.plus-requires-2
plus-requires-2 c =
    rw (back c.args.a c.ranges.a.sfits, back c.args.b c.ranges.b.sfits) (sum_unlike c.args.a c.args.b (sym (read₂ same_sign c.args.a c.args.b c.ranges.a.sfits c.ranges.b.sfits c.alike.ensures) ∙ c.if-alike.false) c.ranges.a.sfits c.ranges.b.sfits)

pub returns : goal.returns
returns c =
    read₁ bounded c.plus-2.result c.plus-2.type_inv c.in_bounds.ensures ∙ ap bounded (read₂ ◌+ℤ◌ c.args.a c.args.b c.ranges.a.sfits c.ranges.b.sfits c.plus-2.ensures)
