use Rattle.text_admission.specs.Admitted.{AnsweredRules}
use Prim.Native.Nat.{ℕ}
use mathlib.Core.Path.{refl, sym, ap, subst, ◌∙◌}
use mathlib.Core.List.{List}
use native.Mathlib.Omega.{arith}
use lib.ListN.{length}
use Rattle.text_parsing.specs.Cursors.{state_at}
use Rattle.text_admission.specs.Admitted.{by_size}
use Rattle.text_admission.specs.Extents.{refusal_8}
use Rattle.text_admission.proofs.Stages.{encodable, long_words, place_8, bounded, judgeable}
use Rattle.text_admission.proofs.Answering.{answered}
use borrow.Author.Rules.{rules}
use Rattle.text_admission.proofs.admit_words.Goals as goal

-- src/lib.rt:161:11
pub first_oversized-requires : goal.first_oversized-requires
first_oversized-requires c = let e = encodable c.args.text.now (state_at c.args.c c.args.nodes.now c.args.terms.now c.args.rules.now) c.requires.2 c.requires.0.passed in (e.0, e.1, omega (arith, ap length c.requires.1, long_words c.args.text.now (state_at c.args.c c.args.nodes.now c.args.terms.now c.args.rules.now) c.requires.2), e.3, e.5)

-- src/lib.rt:162:25
pub refused-requires : goal.refused-requires
refused-requires c = (c.requires.3, place_8 c.args.text.now (state_at c.args.c c.args.nodes.now c.args.terms.now c.args.rules.now) c.requires.2 c.requires.0 _ (sym (c.first_oversized.ensures ∙ ap (λ (w : List ℕ). refusal_8 c.args.text.now c.args.nodes.now c.args.terms.now w c.args.c.nodes) c.requires.1) ∙ c.in-At.is))

-- src/lib.rt:164:17
pub judged-answer-requires : goal.judged-answer-requires
judged-answer-requires c = let q = judgeable c.args.text.now (state_at c.args.c c.args.nodes.now c.args.terms.now c.args.rules.now) c.requires.2 c.args.words.now c.requires.1 (bounded c.args.text.now (state_at c.args.c c.args.nodes.now c.args.terms.now c.args.rules.now) c.requires.2 c.requires.0 (sym (c.first_oversized.ensures ∙ ap (λ (w : List ℕ). refusal_8 c.args.text.now c.args.nodes.now c.args.terms.now w c.args.c.nodes) c.requires.1) ∙ c.in-Nothing.is)) in (q.0, q.1, q.2, c.requires.3, q.3)

-- src/lib.rt:165:13
pub handed_over-requires : goal.handed_over-requires
handed_over-requires c = (omega (arith, c.judged-answer.auto.words, ap length c.requires.1, long_words c.args.text.now (state_at c.args.c c.args.nodes.now c.args.terms.now c.args.rules.now) c.requires.2), c.requires.4)

-- src/lib.rt:148:1
pub returns-in-At : goal.returns-in-At
returns-in-At c = subst (AnsweredRules c.args.text.now c.args.base c.args.table.now c.args.table.now) (sym c.refused.ensures) (by_size c.requires.0 (sym (c.first_oversized.ensures ∙ ap (λ (w : List ℕ). refusal_8 c.args.text.now c.args.nodes.now c.args.terms.now w c.args.c.nodes) c.requires.1) ∙ c.in-At.is) refl, refl)

-- src/lib.rt:148:1
pub returns-in-Nothing : goal.returns-in-Nothing
returns-in-Nothing c = answered c.args.text.now (state_at c.args.c c.args.nodes.now c.args.terms.now c.args.rules.now) c.args.base (bounded c.args.text.now (state_at c.args.c c.args.nodes.now c.args.terms.now c.args.rules.now) c.requires.2 c.requires.0 (sym (c.first_oversized.ensures ∙ ap (λ (w : List ℕ). refusal_8 c.args.text.now c.args.nodes.now c.args.terms.now w c.args.c.nodes) c.requires.1) ∙ c.in-Nothing.is)) c.requires.2 c.args.words.now c.judged-answer.new.words c.args.table.now c.handed_over.new.table c.judged-answer.result c.handed_over.result c.requires.1 c.judged-answer.ensures c.handed_over.ensures.0 c.handed_over.ensures.1
