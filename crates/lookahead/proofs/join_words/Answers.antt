use borrow.Author.Rules.{rules}
use Rattle.lookahead.proofs.SetLaws.{filled_none, filled_more, cleared}
use Rattle.lookahead.proofs.JoinLaws.{join_is}
use Rattle.lookahead.proofs.join_words.Goals as goal

pub loop-i-init : goal.loop-i-init
loop-i-init c = (filled_none _, search rules)

pub loop-i-preserved : goal.loop-i-preserved
loop-i-preserved c = (filled_more _ _ _ _ (search rules) c.loop-i.invariant.0 (search rules) c.joined_word.ensures, search rules)

pub returns : goal.returns
returns c =
    let a = c.args in
    join_is a.a.words a.b.words _ _ c.loop-i.out c.loop-i.i c.loop-i-test.false
    (cleared a.a.words c.even.result c.even.ensures) c.prefixes-p.ensures c.loop-i.invariant.0
