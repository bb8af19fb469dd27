use Rattle.term_membership.proofs.Rounds.{noted_anew, noted_over}
use Rattle.term_membership.proofs.truths.note.Goals as goal

pub returns-then-count-lt62 : goal.returns-then-count-lt62
returns-then-count-lt62 c = λ b e. noted_anew c.args.masks.now c.args.count c.requires b c.args.test c.if-count-lt62.true e

pub returns : goal.returns
returns c = λ b e. noted_over c.args.masks.now c.args.count c.requires b c.if-count-lt62.false
