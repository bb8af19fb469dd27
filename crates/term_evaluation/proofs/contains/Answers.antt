use Prim.Native.Nat.{◌+◌, ◌*◌}
use native.Mathlib.Omega.{arith}
use mathlib.Core.Path.{sym, ◌∙◌}
use mathlib.Core.Bool.{false, cond}
use lib.IntN.{ℤ, pos}
use lib.Signed.{le_z}
use Rattle.term_integers.specs.Wholes.{equals}
use Rattle.term_integers.proofs.Laws.{read₁}
use Rattle.term_words.specs.Words.{term_of, terms}
use Rattle.term_evaluation.specs.Meaning.{membership}
use Rattle.term_evaluation.proofs.FewTerms.{tagged, number_operand, item_operand, all_in, item_in, from_in, up_to_in, range_in}
use Rattle.term_evaluation.proofs.contains.Goals as goal
use Rattle.std.specs.Prelude.{Ok}

pub returns-then-words-start-eq7 : goal.returns-then-words-start-eq7
unfolding term_of
returns-then-words-start-eq7 c =
    let a = c.args in
    sym (all_in a.values.now a.value a.words.now a.start a.end (omega arith) (tagged a.words.now a.start (a.start * 3) 7 (omega arith) (omega arith) c.if-words-start-eq7.true))

pub returns-then-a-le-LIMIT : goal.returns-then-a-le-LIMIT
returns-then-a-le-LIMIT c =
    let a = c.args in
    let n = c.number_at-a.result in
    read₁ (λ (v : ℤ). Ok (equals (pos n) v)) a.value c.ranges.value.sfits c.same.ensures
    ∙ sym (item_in a.values.now a.value a.words.now a.start a.end n (omega arith) (item_operand a.words.now a.start n (omega arith) (c.number_at-a.ensures c.if-a-le-LIMIT.true)) c.if-a-le-LIMIT.true)

pub returns-then-b-le-LIMIT : goal.returns-then-b-le-LIMIT
unfolding term_of
returns-then-b-le-LIMIT c =
    let a = c.args in
    let i = c.number_at-a-then-words-start-eq8.result in
    let j = c.number_at-b.result in
    read₁ (λ (v : ℤ). Ok (cond (le_z (pos i) v) (le_z v (pos j)) false)) a.value c.ranges.value.sfits c.between.ensures
    ∙ sym (range_in a.values.now a.value a.words.now a.start a.end (pos i) (pos j) (omega arith) (number_operand a.values.now a.words.now a.start c.number_at-a-then-words-start-eq8.result (omega arith) (c.number_at-a-then-words-start-eq8.ensures c.if-a-le-LIMIT-2.true) c.if-a-le-LIMIT-2.true) (number_operand a.values.now a.words.now (a.start + 1) c.number_at-b.result (omega arith) (c.number_at-b.ensures c.if-b-le-LIMIT.true) c.if-b-le-LIMIT.true) (tagged a.words.now (a.start + 1 + 1) (a.start * 3 + 6) 8 (omega arith) (omega arith) c.if-words-start-eq8.true))

pub returns-then-sign-eq9 : goal.returns-then-sign-eq9
unfolding term_of
returns-then-sign-eq9 c =
    let a = c.args in
    let i = c.number_at-a-then-size-eq2.result in
    read₁ (λ (v : ℤ). Ok (le_z (pos i) v)) a.value c.ranges.value.sfits c.from.ensures
    ∙ sym (from_in a.values.now a.value a.words.now a.start a.end (pos i) (omega arith) (number_operand a.values.now a.words.now a.start c.number_at-a-then-size-eq2.result (omega arith) (c.number_at-a-then-size-eq2.ensures c.if-a-le-LIMIT-3.true) c.if-a-le-LIMIT-3.true) (tagged a.words.now (a.start + 1) (a.start * 3 + 3) 9 (omega arith) (omega arith) c.if-sign-eq9.true))

pub returns-then-sign-eq10 : goal.returns-then-sign-eq10
unfolding term_of
returns-then-sign-eq10 c =
    let a = c.args in
    let i = c.number_at-a-then-size-eq2.result in
    read₁ (λ (v : ℤ). Ok (le_z v (pos i))) a.value c.ranges.value.sfits c.up_to.ensures
    ∙ sym (up_to_in a.values.now a.value a.words.now a.start a.end (pos i) (omega arith) (number_operand a.values.now a.words.now a.start c.number_at-a-then-size-eq2.result (omega arith) (c.number_at-a-then-size-eq2.ensures c.if-a-le-LIMIT-3.true) c.if-a-le-LIMIT-3.true) (tagged a.words.now (a.start + 1) (a.start * 3 + 3) 10 (omega arith) (omega arith) c.if-sign-eq10.true))

pub returns : goal.returns
returns c =
    let a = c.args in
    read₁ (λ (v : ℤ). membership a.values.now v a.start (terms a.words.now a.start a.end)) a.value c.ranges.value.sfits c.contains_at_length.ensures
