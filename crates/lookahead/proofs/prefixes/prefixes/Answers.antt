use Rattle.lookahead.proofs.PrefixLaws.{prefix_words}
use Rattle.lookahead.proofs.prefixes.prefixes.Goals as goal

pub returns : goal.returns
returns c =
    prefix_words c.args.b.now _ _ _ _ c.fold_pair-p3.ensures c.fold_pair-p2.ensures
    c.fold_pair-p1.ensures c.first_word-p0.ensures
