use mathlib.Core.Path.{◌≡◌, sym, ap, ◌∙◌}
use mathlib.Core.Bool.{Bool, true, false, cond}
use lib.IntN.{ℤ, pos}
use lib.Signed.{le_z}
use Rattle.term_integers.proofs.Laws.{read₂}
use Rattle.term_evaluation.proofs.short.between.Goals as goal
use Rattle.std.specs.Prelude.{Ok}

pub returns-then-at_most : goal.returns-then-at_most
returns-then-at_most c =
    let a = c.args in
    let h : le_z (pos a.a) a.value ≡ true = sym (read₂ le_z c.signed.result a.value c.signed.type_inv c.ranges.value.sfits c.at_most.ensures ∙ ap (λ (z : ℤ). le_z z a.value) c.signed.ensures) ∙ c.if-at_most.true in
    let k = read₂ le_z a.value c.signed-then-at_most.result c.ranges.value.sfits c.signed-then-at_most.type_inv c.at_most-then-at_most.ensures ∙ ap (le_z a.value) c.signed-then-at_most.ensures in
    ap Ok (k ∙ sym (ap (λ (t : Bool). cond t (le_z a.value (pos a.b)) false) h))

pub returns-else-at_most : goal.returns-else-at_most
returns-else-at_most c =
    let a = c.args in
    let h : le_z (pos a.a) a.value ≡ false = sym (read₂ le_z c.signed.result a.value c.signed.type_inv c.ranges.value.sfits c.at_most.ensures ∙ ap (λ (z : ℤ). le_z z a.value) c.signed.ensures) ∙ c.if-at_most.false in
    ap Ok (c.if-at_most.false ∙ sym (ap (λ (t : Bool). cond t (le_z a.value (pos a.b)) false) h))
