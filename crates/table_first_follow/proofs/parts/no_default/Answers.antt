use Prim.Native.Nat.{ℕ, ◌+◌}
use native.Mathlib.Omega.{arith}
use mathlib.Core.List.{[], ◌∷◌}
use mathlib.Core.Path.{◌≡◌, refl, sym, subst, ◌∙◌}
use Rattle.table_first_follow.specs.Parts.{siblings}
use Rattle.table_first_follow.proofs.PartLaws.{default_later, default_here, no_case_left, siblings_done, siblings_first, siblings_last, siblings_next}
use Rattle.table_first_follow.proofs.parts.no_default.Goals as goal

pub returns-then-size-eq0 : goal.returns-then-size-eq0
returns-then-size-eq0 c =
    let a = c.args in
    let l = c.loop-at in
    sym (no_case_left a.table.now [] refl)
    ∙ (sym (default_later a.table.now l.at (siblings a.table.now l.at a.end) [] (siblings_last a.table.now a.end l.at c.loop-at-test.true (sym c.size_at-size.ensures.0 ∙ c.if-size-eq0.true)) (sym c.conditioned.ensures ∙ c.if-not-conditioned.false))
    ∙ l.invariant)

pub loop-at-smaller : goal.loop-at-smaller
loop-at-smaller c = omega (arith, c.if-size-eq0.false)

pub loop-at-preserved : goal.loop-at-preserved
loop-at-preserved c =
    let a = c.args in
    let l = c.loop-at in
    let e : siblings a.table.now l.at a.end ≡ l.at ∷ siblings a.table.now (l.at + c.size_at-size.result) a.end =
    subst (λ (n : ℕ). siblings a.table.now l.at a.end ≡ l.at ∷ siblings a.table.now (l.at + n) a.end) (sym c.size_at-size.ensures.0)
    (siblings_next a.table.now a.end l.at c.loop-at-test.true (λ z. c.if-size-eq0.false (c.size_at-size.ensures.0 ∙ z))) in
    sym (default_later a.table.now l.at (siblings a.table.now l.at a.end) (siblings a.table.now (l.at + c.size_at-size.result) a.end) e (sym c.conditioned.ensures ∙ c.if-not-conditioned.false))
    ∙ l.invariant

pub returns-then-not-conditioned : goal.returns-then-not-conditioned
returns-then-not-conditioned c =
    let a = c.args in
    let l = c.loop-at in
    let x = siblings_first a.table.now a.end l.at c.loop-at-test.true in
    sym (default_here a.table.now l.at (siblings a.table.now l.at a.end) x.0 x.1 (sym c.conditioned.ensures ∙ c.if-not-conditioned.true))
    ∙ l.invariant

pub returns : goal.returns
returns c =
    let a = c.args in
    let l = c.loop-at in
    sym (no_case_left a.table.now (siblings a.table.now l.at a.end) (siblings_done a.table.now a.end l.at c.loop-at-test.false)) ∙ l.invariant
