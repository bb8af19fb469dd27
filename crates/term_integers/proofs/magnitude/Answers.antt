use mathlib.Core.Bool.{true, false, not}
use mathlib.Core.Path.{◌≡◌, sym, ap, ◌∙◌}
use native.Mathlib.Omega.{arith}
use lib.Signed.{non_neg, mag}
use lib.IntN.{ℤ, pos, nat_abs, neg_ℤ, suc_ℤ, ◌+ℤ◌, +ℤ_one}
use Rattle.term_integers.proofs.Laws.{negative_next, negative_opposite, negative_abs, positive, back, read₁}
use Rattle.term_integers.proofs.magnitude.Goals as goal

pub plus-requires : goal.plus-requires
plus-requires c =
    let h : not (non_neg c.args.a) ≡ true = sym (read₁ (λ (z : ℤ). not (non_neg z)) c.args.a c.ranges.a.sfits c.negative.ensures) ∙ c.if-negative.true in
    simp (back c.args.a c.ranges.a.sfits, +ℤ_one) (record { sfits = omega (arith, negative_next c.args.a h, c.ranges.a.sfits) })

pub opposite-requires : goal.opposite-requires
opposite-requires c =
    let h : not (non_neg c.args.a) ≡ true = sym (read₁ (λ (z : ℤ). not (non_neg z)) c.args.a c.ranges.a.sfits c.negative.ensures) ∙ c.if-negative.true in
    let p : c.plus.result ≡ suc_ℤ c.args.a = read₁ (λ (z : ℤ). z +ℤ pos 1) c.args.a c.ranges.a.sfits c.plus.ensures ∙ +ℤ_one c.args.a in
    rw (back c.plus.result c.plus.type_inv, p, negative_opposite c.args.a h) (record { sfits = c.ranges.a.sfits })

pub natural-requires : goal.natural-requires
natural-requires c =
    let h : not (non_neg c.args.a) ≡ true = sym (read₁ (λ (z : ℤ). not (non_neg z)) c.args.a c.ranges.a.sfits c.negative.ensures) ∙ c.if-negative.true in
    let p : c.plus.result ≡ suc_ℤ c.args.a = read₁ (λ (z : ℤ). z +ℤ pos 1) c.args.a c.ranges.a.sfits c.plus.ensures ∙ +ℤ_one c.args.a in
    let q : c.opposite.result ≡ pos (mag c.args.a) = read₁ neg_ℤ c.plus.result c.plus.type_inv c.opposite.ensures ∙ ap neg_ℤ p ∙ negative_opposite c.args.a h in
    rw (back c.opposite.result c.opposite.type_inv, q)

pub overflow_add-result : goal.overflow_add-result
overflow_add-result c =
    let h : not (non_neg c.args.a) ≡ true = sym (read₁ (λ (z : ℤ). not (non_neg z)) c.args.a c.ranges.a.sfits c.negative.ensures) ∙ c.if-negative.true in
    let p : c.plus.result ≡ suc_ℤ c.args.a = read₁ (λ (z : ℤ). z +ℤ pos 1) c.args.a c.ranges.a.sfits c.plus.ensures ∙ +ℤ_one c.args.a in
    let q : c.opposite.result ≡ pos (mag c.args.a) = read₁ neg_ℤ c.plus.result c.plus.type_inv c.opposite.ensures ∙ ap neg_ℤ p ∙ negative_opposite c.args.a h in
    let m : c.natural.result ≡ mag c.args.a = read₁ nat_abs c.opposite.result c.opposite.type_inv c.natural.ensures ∙ ap nat_abs q in
    record { fits = omega (arith, m, c.ranges.a.sfits) }

pub natural-requires-else-negative : goal.natural-requires-else-negative
natural-requires-else-negative c =
    let h : not (non_neg c.args.a) ≡ false = sym (read₁ (λ (z : ℤ). not (non_neg z)) c.args.a c.ranges.a.sfits c.negative.ensures) ∙ c.if-negative.false in
    simp (back c.args.a c.ranges.a.sfits, positive c.args.a h)

pub returns-then-negative : goal.returns-then-negative
returns-then-negative c =
    let h : not (non_neg c.args.a) ≡ true = sym (read₁ (λ (z : ℤ). not (non_neg z)) c.args.a c.ranges.a.sfits c.negative.ensures) ∙ c.if-negative.true in
    let p : c.plus.result ≡ suc_ℤ c.args.a = read₁ (λ (z : ℤ). z +ℤ pos 1) c.args.a c.ranges.a.sfits c.plus.ensures ∙ +ℤ_one c.args.a in
    let q : c.opposite.result ≡ pos (mag c.args.a) = read₁ neg_ℤ c.plus.result c.plus.type_inv c.opposite.ensures ∙ ap neg_ℤ p ∙ negative_opposite c.args.a h in
    let m : c.natural.result ≡ mag c.args.a = read₁ nat_abs c.opposite.result c.opposite.type_inv c.natural.ensures ∙ ap nat_abs q in
    omega (arith, m, negative_abs c.args.a h)

pub returns-else-negative : goal.returns-else-negative
returns-else-negative c = read₁ nat_abs c.args.a c.ranges.a.sfits c.natural-else-negative.ensures
