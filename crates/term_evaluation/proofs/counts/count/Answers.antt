use Prim.Native.Nat.{◌+◌, ◌*◌}
use native.Mathlib.Omega.{arith}
use mathlib.Core.Path.{sym, ◌∙◌}
use lib.IntN.{ℤ, pos}
use Rattle.term_integers.proofs.Laws.{read₁}
use Rattle.basis.specs.Counts.{exactly, at_least}
use Rattle.term_evaluation.specs.Counts.{shown}
use Rattle.term_words.specs.Words.{term_of}
use Rattle.term_evaluation.proofs.FewTerms.{tagged, number_operand, small, exact_count, open_count, up_to_count, closed_count}
use Rattle.term_evaluation.proofs.counts.count.Goals as goal

pub returns-then-n-le-LIMIT : goal.returns-then-n-le-LIMIT
unfolding exactly
returns-then-n-le-LIMIT c =
    let a = c.args in
    sym (exact_count a.values.now a.words.now a.start a.end (pos c.number_at-n.result) (omega arith) (number_operand a.values.now a.words.now a.start c.number_at-n.result (omega arith) (c.number_at-n.ensures c.if-n-le-LIMIT.true) c.if-n-le-LIMIT.true))

pub returns-then-within : goal.returns-then-within
returns-then-within c =
    let a = c.args in
    let x = c.variable_at-m.result in
    let p = c.variable_at-m.ensures (small x c.within.result c.variable_at-m.type_inv c.within.ensures c.if-within.true) in
    read₁ (λ (z : ℤ). shown (exactly z)) x c.variable_at-m.type_inv c.exact.ensures ∙ sym (exact_count a.values.now a.words.now a.start a.end x (omega arith) p)

pub returns-then-b-le-LIMIT : goal.returns-then-b-le-LIMIT
unfolding term_of
returns-then-b-le-LIMIT c =
    let a = c.args in
    c.spanned.ensures
    ∙ sym (closed_count a.values.now a.words.now a.start a.end (pos c.number_at-a.result) (pos c.number_at-b.result) (omega arith) (number_operand a.values.now a.words.now a.start c.number_at-a.result (omega arith) (c.number_at-a.ensures c.if-a-le-LIMIT.true) c.if-a-le-LIMIT.true) (number_operand a.values.now a.words.now (a.start + 1) c.number_at-b.result (omega arith) (c.number_at-b.ensures c.if-b-le-LIMIT.true) c.if-b-le-LIMIT.true) (tagged a.words.now (a.start + 1 + 1) (a.start * 3 + 6) 8 (omega arith) (omega arith) c.if-words-start-eq8.true))

pub returns-then-sign-eq9 : goal.returns-then-sign-eq9
unfolding term_of at_least
returns-then-sign-eq9 c =
    let a = c.args in
    sym (open_count a.values.now a.words.now a.start a.end (pos c.number_at-a-then-size-eq2.result) (omega arith) (number_operand a.values.now a.words.now a.start c.number_at-a-then-size-eq2.result (omega arith) (c.number_at-a-then-size-eq2.ensures c.if-a-le-LIMIT-2.true) c.if-a-le-LIMIT-2.true) (tagged a.words.now (a.start + 1) (a.start * 3 + 3) 9 (omega arith) (omega arith) c.if-sign-eq9.true))

pub returns-then-sign-eq10 : goal.returns-then-sign-eq10
unfolding term_of
returns-then-sign-eq10 c =
    let a = c.args in
    c.spanned-then-sign-eq10.ensures
    ∙ sym (up_to_count a.values.now a.words.now a.start a.end (pos c.number_at-a-then-size-eq2.result) (omega arith) (number_operand a.values.now a.words.now a.start c.number_at-a-then-size-eq2.result (omega arith) (c.number_at-a-then-size-eq2.ensures c.if-a-le-LIMIT-2.true) c.if-a-le-LIMIT-2.true) (tagged a.words.now (a.start + 1) (a.start * 3 + 3) 10 (omega arith) (omega arith) c.if-sign-eq10.true))
