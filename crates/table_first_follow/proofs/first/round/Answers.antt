use Prim.Native.Nat.{ℕ}
use borrow.Author.Rules.{rules}
use mathlib.Core.Path.{◌≡◌, refl, sym, subst, ◌∙◌}
use native.Mathlib.Omega.{arith}
use Rattle.table_first_follow.specs.Rounds.{FirstStep, FirstClosed, From, first_low, first_of}
use Rattle.table_first_follow.proofs.RoundLaws.{round_start, round_turn}
use Rattle.table_first_follow.proofs.first.round.Goals as goal

pub loop-i-init : goal.loop-i-init
loop-i-init c =
    let a = c.args in
    (round_start (first_low a.table.now) (first_of a.table.now) (FirstClosed a.table.now) a.family.now, search rules, c.requires)

pub apply-grew-requires : goal.apply-grew-requires
apply-grew-requires c = (c.loop-i.invariant.2, omega (arith, c.loop-i.invariant.1))

pub loop-i-preserved : goal.loop-i-preserved
loop-i-preserved c =
    let ws = c.args.table.now in
    let l = c.loop-i in (
      round_turn (first_low ws) (first_of ws) (FirstClosed ws) c.args.family.now l.family c.apply-grew.new.family l.i l.grew c.apply-grew.result _ c.loop-i-test.true refl l.invariant.0 c.apply-grew.ensures,
      omega (arith, l.invariant.1),
      c.apply-grew.auto.family ∙ l.invariant.2,
    )

pub shape_of-family : goal.shape_of-family
shape_of-family c = c.loop-i.invariant.2 ∙ sym c.requires

pub returns : goal.returns
returns c =
    let l = c.loop-i in
    subst (λ (n : ℕ). FirstStep c.args.table.now (From (FirstClosed c.args.table.now) n) c.args.family.now l.family l.grew) (let e : l.i ≡ 0 = omega (arith, c.loop-i-test.false) in e) l.invariant.0
