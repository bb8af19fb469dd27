use Prim.Native.Nat.{◌<◌}
use mathlib.Core.Bool.{Bool}
use mathlib.Core.Path.{sym, subst, ◌∙◌}
use Rattle.table_first_follow.specs.Rounds.{first_low, first_of, FirstClosed, From}
use Rattle.table_first_follow.proofs.RoundLaws.{Settling, left_to_do, settle_start, settle_more, settle_less, first_done}
use Rattle.table_first_follow.proofs.first.first_in_order.Goals as goal

pub seeds-requires : goal.seeds-requires
seeds-requires c = c.requires

pub pass-requires : goal.pass-requires
pass-requires c = c.seeds.ensures

pub loop-more-init : goal.loop-more-init
loop-more-init c =
    let ws = c.args.table.now in
    settle_start (first_low ws) (first_of ws) (From (FirstClosed ws) 0) c.pass.new.family c.pass.ensures

pub round-more-requires : goal.round-more-requires
round-more-requires c = c.loop-more.invariant.between.size

pub loop-more-smaller : goal.loop-more-smaller
loop-more-smaller c =
    let ws = c.args.table.now in
    let l = c.loop-more in
    subst (λ (b : Bool). left_to_do c.round-more.new.family c.round-more.result < left_to_do l.family b) (sym c.loop-more-test.true) (settle_less (first_low ws) (first_of ws) (From (FirstClosed ws) 0) l.family c.round-more.new.family c.round-more.result c.round-more.ensures)

pub loop-more-preserved : goal.loop-more-preserved
loop-more-preserved c =
    let ws = c.args.table.now in
    let l = c.loop-more in
    settle_more (first_low ws) (first_of ws) (From (FirstClosed ws) 0) l.family c.round-more.new.family c.round-more.result
    (subst (λ (b : Bool). Settling (first_low ws) (first_of ws) (From (FirstClosed ws) 0) l.family b) c.loop-more-test.true l.invariant) c.round-more.ensures

pub shape_of-family : goal.shape_of-family
shape_of-family c = c.loop-more.invariant.between.size ∙ sym c.requires

pub returns : goal.returns
returns c =
    let l = c.loop-more in
    first_done c.args.table.now l.family l.invariant.between (l.invariant.closed c.loop-more-test.false)
