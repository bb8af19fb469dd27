use Rattle.lookahead.proofs.SetLaws.{decides_of, empty_string}
use Rattle.lookahead.proofs.has_empty_string.Goals as goal

pub returns : goal.returns
returns c = let x = c.args.set.words in decides_of c.contains.result _ _ c.contains.ensures (empty_string x).0 (empty_string x).1
