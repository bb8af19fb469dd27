use Prim.Native.Nat.{◌<◌}
use mathlib.Core.Bool.{Bool}
use mathlib.Core.Path.{sym, subst, ◌∙◌}
use Rattle.table_first_follow.specs.Rounds.{follow_low, follow_of, FollowClosed, From}
use Rattle.table_first_follow.proofs.RoundLaws.{Settling, left_to_do, settle_start, settle_more, settle_less, starts_between, follow_done}
use Rattle.table_first_follow.proofs.follow.follow.Goals as goal

pub starts-requires : goal.starts-requires
starts-requires c = c.requires.0

pub pass-requires : goal.pass-requires
pass-requires c =
    let s = c in
    (s.requires.1, s.requires.2, starts_between s.args.table.now c.starts.new.family (c.starts.auto.family ∙ s.requires.0) c.starts.ensures)

pub loop-more-init : goal.loop-more-init
loop-more-init c =
    let ws = c.args.table.now in
    settle_start (follow_low ws) (follow_of ws) (From (FollowClosed ws) 0) c.pass.new.family c.pass.ensures

pub push_all-more-requires : goal.push_all-more-requires
push_all-more-requires c = (c.requires.1, c.requires.2, c.loop-more.invariant.between)

pub loop-more-smaller : goal.loop-more-smaller
loop-more-smaller c =
    let ws = c.args.table.now in
    let l = c.loop-more in
    subst (λ (b : Bool). left_to_do c.push_all-more.new.family c.push_all-more.result < left_to_do l.family b) (sym c.loop-more-test.true) (settle_less (follow_low ws) (follow_of ws) (From (FollowClosed ws) 0) l.family c.push_all-more.new.family c.push_all-more.result c.push_all-more.ensures)

pub loop-more-preserved : goal.loop-more-preserved
loop-more-preserved c =
    let ws = c.args.table.now in
    let l = c.loop-more in
    settle_more (follow_low ws) (follow_of ws) (From (FollowClosed ws) 0) l.family c.push_all-more.new.family c.push_all-more.result
    (subst (λ (b : Bool). Settling (follow_low ws) (follow_of ws) (From (FollowClosed ws) 0) l.family b) c.loop-more-test.true l.invariant) c.push_all-more.ensures

pub shape_of-family : goal.shape_of-family
shape_of-family c = c.loop-more.invariant.between.size ∙ sym c.requires.0

pub returns : goal.returns
returns c =
    let l = c.loop-more in
    follow_done c.args.table.now l.family l.invariant.between (l.invariant.closed c.loop-more-test.false)
