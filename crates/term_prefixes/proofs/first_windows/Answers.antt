use Prim.Native.Nat.{ℕ, ◌^◌, ◌≤◌}
use mathlib.Core.List.{[]}
use mathlib.Core.Path.{sym, subst, ◌∙◌}
use native.Mathlib.Omega.{arith}
use Rattle.basis.specs.Patterns.{offset}
use Rattle.term_words.specs.Words.{terms}
use Rattle.term_membership.specs.Members.{holds_from}
use Rattle.term_prefixes.specs.Prefixes.{ToldBy}
use Rattle.term_prefixes.proofs.Windows.{offset_fits}
use Rattle.term_prefixes.proofs.ToldLaws.{told_variable, told_set}
use Rattle.term_prefixes.proofs.first_windows.Goals as goal

pub returns-then-width-gt64 : goal.returns-then-width-gt64
returns-then-width-gt64 c = λ h. absurd (omega (arith, h, c.if-width-gt64.true))

pub returns-then-has_variable : goal.returns-then-has_variable
returns-then-has_variable c =
    let a = c.args in
    λ h. told_variable a.width a.signed a.start (terms a.words.now a.start a.end) (sym c.has_variable.ensures ∙ c.if-has_variable.true)

pub windows_of-requires : goal.windows_of-requires
windows_of-requires c =
    let a = c.args in
    let h : offset a.signed a.width ≤ 2 ^ 63 = offset_fits a.signed a.width (omega arith) in
    (omega arith, omega (arith, c.offset_of-offset.ensures))

pub returns : goal.returns
returns c =
    let a = c.args in
    let xs = terms a.words.now a.start a.end in
    λ h.
    told_set a.width a.signed a.start xs c.windows_of.result (sym c.has_variable.ensures ∙ c.if-has_variable.false)
    (subst (λ (o : ℕ). ToldBy a.width (holds_from o [] a.start xs) c.windows_of.result) c.offset_of-offset.ensures c.windows_of.ensures)
