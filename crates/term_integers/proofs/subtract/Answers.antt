use Prim.Native.Nat.{◌+◌, ◌^◌}
use mathlib.Core.Path.{sym, ap, ◌∙◌}
use lib.Dec.{leb}
use lib.IntN.{ℤ, nat_abs, ◌-ℤ◌}
use Rattle.term_integers.proofs.Laws.{back, read₁, read₂, fits_bound, bounded_in, bounded_out, whole_in, whole_out, difference_unlike, difference_alike}
use Rattle.term_integers.specs.Wholes.{bounded, same_sign}
use Rattle.term_integers.proofs.subtract.Goals as goal

pub minus-requires : goal.minus-requires
minus-requires c =
    rw (back c.args.a c.ranges.a.sfits, back c.args.b c.ranges.b.sfits) (difference_alike c.args.a c.args.b (sym (read₂ same_sign c.args.a c.args.b c.ranges.a.sfits c.ranges.b.sfits c.alike.ensures) ∙ c.if-alike.true) c.ranges.a.sfits c.ranges.b.sfits)

pub returns-then-alike : goal.returns-then-alike
returns-then-alike c =
    read₁ bounded c.minus.result c.minus.type_inv c.in_bounds.ensures ∙ ap bounded (read₂ ◌-ℤ◌ c.args.a c.args.b c.ranges.a.sfits c.ranges.b.sfits c.minus.ensures)

pub minus-requires-then-together : goal.minus-requires-then-together
minus-requires-then-together c =
    rw (back c.args.a c.ranges.a.sfits, back c.args.b c.ranges.b.sfits) (fits_bound (c.args.a -ℤ c.args.b) (whole_in c.args.a c.args.b (c.args.a -ℤ c.args.b) (difference_unlike c.args.a c.args.b (sym (read₂ same_sign c.args.a c.args.b c.ranges.a.sfits c.ranges.b.sfits c.alike.ensures) ∙ c.if-alike.false)) (sym (read₂ (λ (x y : ℤ). leb (nat_abs x + nat_abs y) (2 ^ 62)) c.args.a c.args.b c.ranges.a.sfits c.ranges.b.sfits c.together.ensures) ∙ c.if-together.true)))

pub returns-then-together : goal.returns-then-together
returns-then-together c =
    rw (back c.minus-then-together.result c.minus-then-together.type_inv, read₂ ◌-ℤ◌ c.args.a c.args.b c.ranges.a.sfits c.ranges.b.sfits c.minus-then-together.ensures) (sym (bounded_in (c.args.a -ℤ c.args.b) (whole_in c.args.a c.args.b (c.args.a -ℤ c.args.b) (difference_unlike c.args.a c.args.b (sym (read₂ same_sign c.args.a c.args.b c.ranges.a.sfits c.ranges.b.sfits c.alike.ensures) ∙ c.if-alike.false)) (sym (read₂ (λ (x y : ℤ). leb (nat_abs x + nat_abs y) (2 ^ 62)) c.args.a c.args.b c.ranges.a.sfits c.ranges.b.sfits c.together.ensures) ∙ c.if-together.true))))

pub returns : goal.returns
returns c = sym (bounded_out (c.args.a -ℤ c.args.b) (whole_out c.args.a c.args.b (c.args.a -ℤ c.args.b) (difference_unlike c.args.a c.args.b (sym (read₂ same_sign c.args.a c.args.b c.ranges.a.sfits c.ranges.b.sfits c.alike.ensures) ∙ c.if-alike.false)) (sym (read₂ (λ (x y : ℤ). leb (nat_abs x + nat_abs y) (2 ^ 62)) c.args.a c.args.b c.ranges.a.sfits c.ranges.b.sfits c.together.ensures) ∙ c.if-together.false)))
