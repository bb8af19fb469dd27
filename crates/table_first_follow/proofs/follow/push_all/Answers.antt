use Prim.Native.Nat.{ℕ, ◌-◌}
use borrow.Author.Rules.{rules}
use mathlib.Core.Path.{◌≡◌, refl, sym, subst, ◌∙◌}
use native.Mathlib.Omega.{arith}
use Rattle.table_layout.specs.Held.{opening}
use Rattle.table_first_follow.specs.Rounds.{FollowStep, FollowClosed, From, follow_low, follow_of}
use Rattle.table_first_follow.proofs.RoundLaws.{round_start, round_turn, step_map, from_turned}
use Rattle.table_first_follow.proofs.follow.push_all.Goals as goal

pub loop-i-init : goal.loop-i-init
loop-i-init c =
    let a = c.args in
    (round_start (follow_low a.table.now) (follow_of a.table.now) (λ n words. FollowClosed a.table.now (opening - n) words) a.family.now, search rules, c.requires.2)

pub push-grew-requires : goal.push-grew-requires
push-grew-requires c = (omega (arith, c.loop-i.invariant.1), c.requires.0, c.requires.1, c.loop-i.invariant.2)

pub loop-i-preserved : goal.loop-i-preserved
loop-i-preserved c =
    let ws = c.args.table.now in
    let l = c.loop-i in (
      round_turn (follow_low ws) (follow_of ws) (λ n words. FollowClosed ws (opening - n) words) c.args.family.now l.family c.push-grew.new.family l.i l.grew c.push-grew.result _ c.loop-i-test.true refl l.invariant.0 c.push-grew.ensures,
      omega (arith, l.invariant.1),
      c.push-grew.ensures.keeps l.invariant.2,
    )

pub shape_of-family : goal.shape_of-family
shape_of-family c = c.loop-i.invariant.2.size ∙ sym c.requires.2.size

pub returns : goal.returns
returns c =
    let ws = c.args.table.now in
    let l = c.loop-i in
    step_map (follow_low ws) (follow_of ws) (From (λ n words. FollowClosed ws (opening - n) words) 0) (From (FollowClosed ws) 0) c.args.family.now l.family l.grew (λ words c. from_turned (FollowClosed ws) words c)
    (subst (λ (n : ℕ). FollowStep ws (From (λ k words. FollowClosed ws (opening - k) words) n) c.args.family.now l.family l.grew) (let e : l.i ≡ 0 = omega (arith, c.loop-i-test.false) in e) l.invariant.0)
