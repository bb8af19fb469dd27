use Prim.Native.Nat.{ℕ}
use mathlib.Core.Bool.{Bool, cond}
use mathlib.Core.List.{List, []}
use mathlib.Core.Path.{sym, ap, ◌∙◌}
use Rattle.basis.specs.Counts.{zero_or_more}
use Rattle.table_layout.specs.Held.{allowed, term_words}
use Rattle.term_evaluation.specs.Counts.{counts}
use Rattle.term_evaluation.specs.Variables.{has_variable}
use Rattle.term_words.specs.Words.{terms}
use Rattle.report_chain_steps.proofs.counts.counted.Goals as goal

pub returns-then-has_variable : goal.returns-then-has_variable
returns-then-has_variable c =
    let a = c.args in
    sym (ap (λ (b : Bool). cond b zero_or_more (allowed (counts [] (term_words a.table.now) a.start a.end))) (ap (λ (l : List ℕ). has_variable (terms l a.start a.end)) (sym c.term_words-words.ensures) ∙ sym c.has_variable.ensures ∙ c.if-has_variable.true))

pub returns : goal.returns
returns c =
    let a = c.args in
    ap allowed (c.count.ensures ∙ ap (λ (l : List ℕ). counts [] l a.start a.end) c.term_words-words.ensures)
    ∙ sym (ap (λ (b : Bool). cond b zero_or_more (allowed (counts [] (term_words a.table.now) a.start a.end))) (ap (λ (l : List ℕ). has_variable (terms l a.start a.end)) (sym c.term_words-words.ensures) ∙ sym c.has_variable.ensures ∙ c.if-has_variable.false))
