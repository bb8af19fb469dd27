use Rattle.table_first_follow.proofs.FollowLaws.{predictions}
use Rattle.table_first_follow.proofs.prediction.all.Goals as goal

pub returns : goal.returns
returns c =
    let ws = c.args.table.now in
    let f = c.first_in_order in
    let g = c.follow in
    let p = c.join_all in
    record {
      first_sets = f.ensures;
      follow_sets = g.ensures;
      prediction_sets = predictions ws f.new.family g.new.family p.new.family f.ensures g.ensures p.ensures;
    }
