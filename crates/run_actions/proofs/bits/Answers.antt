use mathlib.Core.Path.{◌≡◌, ap, ap₂, ◌∙◌}
use lib.IntN.{ℤ}
use mir.Syntax.{w64}
use mir.Val.{to_z, of_z}
use Rattle.term_integers.proofs.Laws.{back}
use Rattle.term_evaluation.specs.Meaning.{membership}
use Rattle.term_evaluation.specs.Patterns.{clamped}
use Rattle.term_evaluation.proofs.Clamping.{membership_clamped}
use Rattle.table_layout.specs.Held.{terms_of}
use Rattle.run_actions.specs.Acts.{by_set, kept, number_at}
use Rattle.run_actions.proofs.Wholes.{kept_number}
use borrow.Author.Tests.{le-leb, lt-leb}
use Rattle.run_actions.proofs.bits.Goals as goal
use Rattle.std.specs.Prelude.{Result, Bool}
use Rattle.term_words.specs.declared.TermError.{TermError}

pub returns-then-p-width : goal.returns-then-p-width
returns-then-p-width c =
    let a = c.args in
    let h = c.if-p-width.true in
    let n = c.number_at-number in
    let x : ℤ = number_at a.frame.now a.p a.signed a.width in
    let ts = terms_of a.table.now a.start a.end in
    let is : to_z w64 (of_z w64 n.result) ≡ clamped x = back n.result n.type_inv ∙ n.ensures in
    let tested : c.set_holds-tested.result ≡ membership a.values.now x a.start ts =
    c.set_holds-tested.ensures ∙ ap (λ (v : ℤ). membership a.values.now v a.start ts) is ∙ membership_clamped a.values.now x a.start ts in
    let bound : to_z w64 (of_z w64 c.kept.result) ≡ kept a.binder x =
    back c.kept.result c.kept.type_inv ∙ c.kept.ensures ∙ ap (kept a.binder) is ∙ kept_number a.frame.now a.p a.width h a.signed a.binder c.requires.4 in
    simp (le-leb _ _ h) (c.by_set.ensures ∙ ap₂ (λ (t : Result Bool TermError) (v : ℤ). by_set t a.width a.binder v) tested bound)

pub returns : goal.returns
returns c = simp (lt-leb _ _ c.if-p-width.false)
