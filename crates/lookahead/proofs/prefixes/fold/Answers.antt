use Rattle.lookahead.proofs.FoldLaws.{folded}
use Rattle.lookahead.proofs.prefixes.fold.Goals as goal

pub returns : goal.returns
returns c =
    folded c.args.w _ _ _ _ _ _ c.squeeze-a.ensures c.squeeze-b.ensures c.squeeze-c.ensures
    c.squeeze-d.ensures c.squeeze-e.ensures c.squeeze.ensures
