use Prim.Native.Nat.{ℕ, suc, ◌-◌, ◌≤◌, ◌<◌}
use mathlib.Core.Path.{◌≡◌, sym, ap, ◌∙◌}
use mathlib.Core.Logic.{inl, inr}
use native.Mathlib.Omega.{arith}
use lib.IntN.{negsuc}
use Rattle.term_integers.proofs.Laws.{back}
use Rattle.basis.specs.Patterns.{offset}
use Rattle.basis.proofs.PatternLaws.{value_low, value_high, offset_double}
use Rattle.term_evaluation.specs.Patterns.{clamped}
use Rattle.term_evaluation.proofs.patterns.value_of.Goals as goal

pub returns-then-pattern-half : goal.returns-then-pattern-half
returns-then-pattern-half c =
    let a = c.args in
    let h : a.pattern < offset a.sign a.width = omega arith in
    back c.up.result c.up.type_inv ∙ c.up.ensures ∙ ap clamped (sym (value_low a.sign a.width a.pattern c.requires.1 (inl h)))

pub overflow_sub-half-then-half-gt0 : goal.overflow_sub-half-then-half-gt0
overflow_sub-half-then-half-gt0 c =
    let a = c.args in
    let d : a.pattern - offset a.sign a.width < offset a.sign a.width = offset_double a.sign a.width a.pattern c.requires.1 (omega arith) in
    omega arith

pub returns-then-half-gt0 : goal.returns-then-half-gt0
returns-then-half-gt0 c =
    let a = c.args in
    let o : ℕ = offset a.sign a.width in
    let e : c.offset_of-half.result ≡ o = c.offset_of-half.ensures in
    let l : o ≤ a.pattern = omega arith in
    let k : a.pattern - o < o = offset_double a.sign a.width a.pattern c.requires.1 (omega arith) in
    let q : c.offset_of-half.result - 1 - (a.pattern - c.offset_of-half.result) ≡ o - suc (a.pattern - o) = omega arith in
    back c.down.result c.down.type_inv ∙ c.down.ensures ∙ ap (λ (n : ℕ). clamped (negsuc n)) q ∙ ap clamped (sym (value_high a.sign a.width a.pattern c.requires.1 l k))

pub returns : goal.returns
returns c =
    let a = c.args in
    let h : offset a.sign a.width ≡ 0 = omega arith in
    back c.up-2.result c.up-2.type_inv ∙ c.up-2.ensures ∙ ap clamped (sym (value_low a.sign a.width a.pattern c.requires.1 (inr h)))
