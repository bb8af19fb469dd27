use native.Mathlib.Omega.{arith}
use mathlib.Core.Bool.{false≢true}
use Prim.Native.Nat.{ℕ, ◌<◌}
use mathlib.Core.Path.{◌≡◌, refl, subst}
use mathlib.Core.List.{List, [], ◌∷◌, ◌++◌}
use Rattle.table_first_follow.specs.Parts.{siblings}
use Rattle.report_chain_steps.proofs.Rules.{further_part}
use Rattle.report_chain_steps.proofs.parts.has_part.Goals as goal

pub loop-at-init : goal.loop-at-init
loop-at-init c = ([], refl)

pub returns-then-at-b : goal.returns-then-at-b
returns-then-at-b c =
    let a = c.args in
    λ e. (
      subst (λ (k : ℕ). k < a.end) c.if-at-b.true c.loop-at-test.true,
      subst (λ (k : ℕ). (before : List ℕ) × (siblings a.table.now a.start a.end ≡ before ++ siblings a.table.now k a.end)) c.if-at-b.true c.loop-at.invariant,
    )

pub returns-then-size-eq0 : goal.returns-then-size-eq0
returns-then-size-eq0 c = λ e. absurd (false≢true e)

pub overflow_add-at : goal.overflow_add-at
overflow_add-at c = omega (arith, c.size_at-size.ensures.1, c.loop-at-test.true, c.requires)

pub loop-at-smaller : goal.loop-at-smaller
loop-at-smaller c = omega (arith, c.if-size-eq0.false, c.loop-at-test.true)

pub loop-at-preserved : goal.loop-at-preserved
loop-at-preserved c =
    let a = c.args in
    let l = c.loop-at in
    let b = l.invariant.0 in
    (b ++ l.at ∷ [], further_part a.table.now a.start a.end l.at c.size_at-size.result b c.loop-at-test.true c.size_at-size.ensures.0 c.if-size-eq0.false l.invariant.1)

pub returns : goal.returns
returns c = λ e. absurd (false≢true e)
