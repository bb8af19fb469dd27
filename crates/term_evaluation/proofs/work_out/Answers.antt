use Rattle.std.proofs.Common.{sym, ap, ◌∙◌, ℤ, to_z, of_z, w64}
use Rattle.term_integers.proofs.Laws.{back}
use Rattle.term_evaluation.proofs.Runs.{goes, stops}
use Rattle.term_words.specs.declared.Term.{Term}
use Rattle.term_words.specs.declared.Numbers.{Numbers}
use Rattle.term_evaluation.specs.Meaning.{run}
use Rattle.term_words.specs.Steps.{step_of}
use Rattle.term_words.specs.Words.{terms}
use Rattle.term_evaluation.proofs.work_out.Goals as goal
use Rattle.std.specs.Prelude.{Ok, Err}

pub returns-in-Err : goal.returns-in-Err
returns-in-Err c =
    sym (goes c.args.kind c.args.mode c.args.values.now (to_z w64 (of_z w64 c.args.value)) c.args.words.now c.loop-at.at c.args.end c.loop-at.numbers c.loop-at.truths c.loop-at-test.true (Err c.in-Err.error) (sym (c.in-Err.ensures ∙ ap (λ (x : Term). step_of c.args.kind c.args.mode c.args.values.now (to_z w64 (of_z w64 c.args.value)) x c.loop-at.numbers c.loop-at.truths) c.term_at.ensures))) ∙ c.loop-at.invariant ∙ ap (λ (v : ℤ). run c.args.kind c.args.mode c.args.values.now v c.args.start (terms c.args.words.now c.args.start c.args.end) Numbers.Zero 1) (back c.args.value c.ranges.value.sfits)

pub loop-at-preserved : goal.loop-at-preserved
loop-at-preserved c =
    sym (goes c.args.kind c.args.mode c.args.values.now (to_z w64 (of_z w64 c.args.value)) c.args.words.now c.loop-at.at c.args.end c.loop-at.numbers c.loop-at.truths c.loop-at-test.true (Ok (c.in-Ok.next, c.in-Ok.more)) (sym (c.in-Ok.ensures ∙ ap (λ (x : Term). step_of c.args.kind c.args.mode c.args.values.now (to_z w64 (of_z w64 c.args.value)) x c.loop-at.numbers c.loop-at.truths) c.term_at.ensures))) ∙ c.loop-at.invariant

pub returns : goal.returns
returns c = sym (stops c.args.kind c.args.mode c.args.values.now (to_z w64 (of_z w64 c.args.value)) c.args.words.now c.loop-at.at c.args.end c.loop-at.numbers c.loop-at.truths c.loop-at-test.false) ∙ c.loop-at.invariant ∙ ap (λ (v : ℤ). run c.args.kind c.args.mode c.args.values.now v c.args.start (terms c.args.words.now c.args.start c.args.end) Numbers.Zero 1) (back c.args.value c.ranges.value.sfits)
