use lib.ListN.{get_or}
use Prim.Native.Nat.{◌+◌, ◌*◌}
use native.Mathlib.Omega.{arith}
use mathlib.Core.Path.{sym, ◌∙◌}
use lib.IntN.{ℤ, pos}
use Rattle.term_integers.proofs.Laws.{read₁}
use Rattle.term_words.specs.Steps.{compares}
use Rattle.term_evaluation.specs.Short.{comparison_of}
use Rattle.term_evaluation.proofs.FewTerms.{comparing, number_operand, small, compared_in}
use Rattle.term_evaluation.proofs.satisfied.Goals as goal
use Rattle.std.specs.Prelude.{Ok}

pub returns-then-tag-le19 : goal.returns-then-tag-le19
returns-then-tag-le19 c =
    let a = c.args in
    let x = c.variable_at-a.result in
    let n = c.number_at-b.result in
    let t = get_or a.words.now (a.start * 3 + 6) 0 in
    let p = c.variable_at-a.ensures (small x c.within.result c.variable_at-a.type_inv c.within.ensures c.if-within.true) in
    read₁ (λ (z : ℤ). Ok (compares (comparison_of t) z (pos n))) x c.variable_at-a.type_inv c.compared.ensures
    ∙ sym (compared_in a.values.now a.words.now a.start a.end (comparison_of t) x (pos n) (omega arith) p (number_operand a.values.now a.words.now (a.start + 1) c.number_at-b.result (omega arith) (c.number_at-b.ensures c.if-b-le-LIMIT.true) c.if-b-le-LIMIT.true) (comparing a.words.now (a.start + 1 + 1) (a.start * 3 + 6) (omega arith) (omega arith) c.if-tag-ge14.true c.if-tag-le19.true))
