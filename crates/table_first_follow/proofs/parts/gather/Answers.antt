use Prim.Native.Nat.{ℕ, ◌+◌}
use mathlib.Core.List.{[], ◌∷◌}
use mathlib.Core.Path.{◌≡◌, refl, sym, subst, ◌∙◌}
use native.Mathlib.Omega.{arith}
use Rattle.table_first_follow.specs.Parts.{siblings}
use Rattle.table_first_follow.proofs.PartLaws.{gather_none, gather_next, gather_done, gather_set, siblings_done, siblings_last, siblings_next}
use Rattle.table_first_follow.proofs.parts.gather.Goals as goal

pub loop-at-init : goal.loop-at-init
loop-at-init c =
    let a = c.args in
    gather_none a.joined a.family.now (siblings a.table.now a.start a.end) c.neutral-out.result.words c.neutral-out.ensures

pub returns-then-size-eq0 : goal.returns-then-size-eq0
returns-then-size-eq0 c =
    let a = c.args in
    let l = c.loop-at in
    let whole = siblings a.table.now a.start a.end in
    gather_done a.joined a.family.now whole c.combine-out.result.words [] refl
    (gather_next a.joined a.family.now whole l.out.words c.combine-out.result.words l.at [] (siblings a.table.now l.at a.end)
    (siblings_last a.table.now a.end l.at c.loop-at-test.true (sym c.size_at-size.ensures.0 ∙ c.if-size-eq0.true)) l.invariant
    (gather_set a.joined a.family.now whole l.out.words c.set_of.result.words c.combine-out.result.words l.at c.set_of.ensures c.combine-out.ensures))

pub loop-at-smaller : goal.loop-at-smaller
loop-at-smaller c = omega (arith, c.if-size-eq0.false)

pub loop-at-preserved : goal.loop-at-preserved
loop-at-preserved c =
    let a = c.args in
    let l = c.loop-at in
    let whole = siblings a.table.now a.start a.end in
    gather_next a.joined a.family.now whole l.out.words c.combine-out.result.words l.at (siblings a.table.now (l.at + c.size_at-size.result) a.end) (siblings a.table.now l.at a.end)
    (subst (λ (n : ℕ). siblings a.table.now l.at a.end ≡ l.at ∷ siblings a.table.now (l.at + n) a.end) (sym c.size_at-size.ensures.0)
    (siblings_next a.table.now a.end l.at c.loop-at-test.true (λ e. c.if-size-eq0.false (c.size_at-size.ensures.0 ∙ e)))) l.invariant
    (gather_set a.joined a.family.now whole l.out.words c.set_of.result.words c.combine-out.result.words l.at c.set_of.ensures c.combine-out.ensures)

pub returns : goal.returns
returns c =
    let a = c.args in
    let l = c.loop-at in
    gather_done a.joined a.family.now (siblings a.table.now a.start a.end) l.out.words (siblings a.table.now l.at a.end) (siblings_done a.table.now a.end l.at c.loop-at-test.false) l.invariant
