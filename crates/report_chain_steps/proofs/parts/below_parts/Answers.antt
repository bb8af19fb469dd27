use native.Mathlib.Omega.{arith}
use Prim.Native.Nat.{ℕ}
use mathlib.Core.Path.{◌≡◌, ap, sym, ◌∙◌}
use mathlib.Core.List.{List, [], ◌∷◌, ◌++◌}
use Rattle.table_first_follow.specs.Parts.{siblings}
use Rattle.table_first_follow.proofs.PartLaws.{siblings_done, siblings_last}
use Rattle.report_chain_steps.specs.Replayed.{stack}
use Rattle.report_chain_steps.proofs.Rules.{step_part}
use Rattle.report_chain_steps.proofs.parts.below_parts.Goals as goal

pub loop-at-init : goal.loop-at-init
loop-at-init c = λ h is e. e

pub returns-then-size-eq0 : goal.returns-then-size-eq0
returns-then-size-eq0 c =
    let a = c.args in
    let l = c.loop-at in
    let q = c.below_top-d in
    let rest : List ℕ = stack a.table.now a.items.now q.result in
    let e : siblings a.table.now l.at a.end ≡ l.at ∷ [] = siblings_last a.table.now a.end l.at c.loop-at-test.true (sym c.size_at-size.ensures.0 ∙ c.if-size-eq0.true) in
    λ h. l.invariant (q.ensures h).0 rest ((q.ensures h).1 a.table.now ∙ ap (λ (is : List ℕ). is ++ rest) (sym e))

pub overflow_add-at : goal.overflow_add-at
overflow_add-at c = omega (arith, c.size_at-size.ensures.1, c.loop-at-test.true, c.requires)

pub loop-at-smaller : goal.loop-at-smaller
loop-at-smaller c = omega (arith, c.if-size-eq0.false, c.loop-at-test.true)

pub loop-at-preserved : goal.loop-at-preserved
loop-at-preserved c =
    let a = c.args in
    let l = c.loop-at in
    let q = c.below_top-d in
    let s = step_part a.table.now a.end l.at c.size_at-size.result c.loop-at-test.true c.size_at-size.ensures.0 c.if-size-eq0.false in
    λ h is e. l.invariant (q.ensures h).0 is ((q.ensures h).1 a.table.now ∙ ap (λ (ks : List ℕ). l.at ∷ ks) e ∙ ap (λ (ks : List ℕ). ks ++ is) (sym s))

pub returns : goal.returns
returns c =
    let a = c.args in
    let l = c.loop-at in
    let rest : List ℕ = stack a.table.now a.items.now l.d in
    λ h. l.invariant h rest (ap (λ (is : List ℕ). is ++ rest) (sym (siblings_done a.table.now a.end l.at c.loop-at-test.false)))
