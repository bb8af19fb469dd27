use Rattle.lookahead.proofs.FoldLaws.{first_word}
use Rattle.lookahead.proofs.prefixes.first_word.Goals as goal

pub returns : goal.returns
returns c =
    let a = c.args in
    first_word a.w a.next _ _ _ _ _ _ c.fold_pair-a.ensures c.deepen-b.ensures c.deepen-c.ensures
    c.deepen-d.ensures c.deepen-e.ensures c.deepen.ensures
