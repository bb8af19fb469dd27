use Rattle.lookahead.proofs.FoldLaws.{folded_pair}
use mathlib.Core.Path.{refl}
use Rattle.lookahead.proofs.prefixes.fold_pair.Goals as goal

pub returns : goal.returns
returns c =
    let a = c.args in
    folded_pair a.w a.low a.high c.fold.result c.fold-2.result _ refl c.fold.ensures c.fold-2.ensures
