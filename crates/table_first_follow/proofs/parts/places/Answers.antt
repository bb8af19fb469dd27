use Prim.Native.Nat.{ℕ, ◌+◌}
use lib.ListN.{set, length-set}
use mathlib.Core.List.{[], ◌∷◌}
use mathlib.Core.Path.{◌≡◌, refl, sym, subst, ◌∙◌}
use native.Mathlib.Omega.{arith}
use Rattle.table_first_follow.specs.Parts.{siblings}
use Rattle.table_first_follow.proofs.PartLaws.{place_none, place_more, place_done, siblings_done, siblings_last, siblings_next}
use Rattle.table_first_follow.proofs.parts.places.Goals as goal

pub loop-at-init : goal.loop-at-init
loop-at-init c = (place_none (siblings c.args.table.now c.args.start c.args.end) c.args.out.now c.requires.0, omega arith, omega arith)

pub offset_bounds-out-n : goal.offset_bounds-out-n
offset_bounds-out-n c = omega (arith, c.loop-at.invariant.1, c.loop-at-test.true, c.requires.1)

pub bounds-out-n : goal.bounds-out-n
bounds-out-n c = omega (arith, c.loop-at.invariant.0.size, c.loop-at.invariant.1, c.loop-at-test.true, c.requires.1)

pub overflow_add-n : goal.overflow_add-n
overflow_add-n c = omega (arith, c.loop-at.invariant.1, c.loop-at-test.true, c.requires.1)

pub shape_of-out-then-size-eq0 : goal.shape_of-out-then-size-eq0
shape_of-out-then-size-eq0 c = length-set c.loop-at.out c.loop-at.n c.loop-at.at ∙ c.loop-at.invariant.0.size ∙ sym c.requires.0

pub returns-then-size-eq0 : goal.returns-then-size-eq0
returns-then-size-eq0 c =
    let a = c.args in
    let l = c.loop-at in
    let whole = siblings a.table.now a.start a.end in (
      place_done whole (l.n + 1) (set l.out l.n l.at) [] refl
          (place_more whole l.n l.at l.out [] (siblings a.table.now l.at a.end) (omega (arith, l.invariant.1, c.loop-at-test.true, c.requires.1))
          (siblings_last a.table.now a.end l.at c.loop-at-test.true (sym c.size_at-size.ensures.0 ∙ c.if-size-eq0.true)) l.invariant.0),
      omega (arith, l.invariant.1, c.loop-at-test.true, c.requires.1),
    )

pub overflow_add-at : goal.overflow_add-at
overflow_add-at c = omega (arith, c.size_at-size.ensures.1, c.loop-at-test.true, c.requires.1)

pub loop-at-smaller : goal.loop-at-smaller
loop-at-smaller c = omega (arith, c.if-size-eq0.false, c.loop-at-test.true)

pub loop-at-preserved : goal.loop-at-preserved
loop-at-preserved c =
    let a = c.args in
    let l = c.loop-at in
    let whole = siblings a.table.now a.start a.end in (
      place_more whole l.n l.at l.out (siblings a.table.now (l.at + c.size_at-size.result) a.end) (siblings a.table.now l.at a.end) (omega (arith, l.invariant.1, c.loop-at-test.true, c.requires.1))
          (subst (λ (n : ℕ). siblings a.table.now l.at a.end ≡ l.at ∷ siblings a.table.now (l.at + n) a.end) (sym c.size_at-size.ensures.0)
          (siblings_next a.table.now a.end l.at c.loop-at-test.true (λ e. c.if-size-eq0.false (c.size_at-size.ensures.0 ∙ e)))) l.invariant.0,
      omega (arith, l.invariant.1, c.if-size-eq0.false),
      omega (arith, l.invariant.1, c.loop-at-test.true, c.requires.1),
    )

pub shape_of-out : goal.shape_of-out
shape_of-out c = c.loop-at.invariant.0.size ∙ sym c.requires.0

pub returns : goal.returns
returns c =
    let a = c.args in
    let l = c.loop-at in
    (place_done (siblings a.table.now a.start a.end) l.n l.out (siblings a.table.now l.at a.end) (siblings_done a.table.now a.end l.at c.loop-at-test.false) l.invariant.0, l.invariant.2)
