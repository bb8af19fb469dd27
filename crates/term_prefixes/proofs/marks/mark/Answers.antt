use Prim.Native.Nat.{ℕ, ◌/◌, ◌^◌, ◌<◌}
use mathlib.Core.Path.{◌≡◌, sym, subst, ◌∙◌}
use native.Mathlib.Omega.{arith}
use borrow.Author.Tests.{eq-eqb}
use lib.ListN.{set}
use Rattle.term_prefixes.specs.Marks.{Sought}
use Rattle.term_prefixes.proofs.MarkLaws.{window_less, sought_one, sought_large, sought_absent}
use Rattle.term_prefixes.proofs.marks.mark.Goals as goal

pub bounds-marks-window : goal.bounds-marks-window
bounds-marks-window c =
    let a = c.args in
    subst (λ (y : ℕ). a.value / 2 ^ y < 256) (sym c.requires.3) (window_less a.width a.value (omega (arith, c.requires.2, c.if-value-last.true)))

pub returns-then-value-last : goal.returns-then-value-last
returns-then-value-last c =
    let a = c.args in
    λ f e.
    subst (λ (y : ℕ). Sought f a.width (λ (u : ℕ). a.value ≡ u) a.marks.now (set a.marks.now (a.value / 2 ^ y) 1)) (sym c.requires.3)
    (sought_one f a.width a.value a.marks.now c.requires.1 (e ∙ eq-eqb a.truth 3 c.if-truth-eq3.true) (omega (arith, c.requires.2, c.if-value-last.true)))

pub returns-else-value-last : goal.returns-else-value-last
returns-else-value-last c =
    let a = c.args in
    λ f e. sought_large f a.width a.value a.marks.now c.requires.1 (omega (arith, c.requires.2, c.if-value-last.false))

pub returns-else-truth-eq3 : goal.returns-else-truth-eq3
returns-else-truth-eq3 c = λ f e. sought_absent f c.args.width c.args.value c.args.truth c.args.marks.now c.requires.1 e c.if-truth-eq3.false
