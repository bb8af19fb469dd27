use Rattle.term_membership.specs.Members.{holds_from}
use Rattle.term_words.specs.Words.{terms}
use Rattle.term_prefixes.proofs.TryLaws.{offered_waits, offered_tried}
use Rattle.term_prefixes.proofs.tries.offer.Goals as goal

pub returns-then-waiting-lt63 : goal.returns-then-waiting-lt63
returns-then-waiting-lt63 c =
    let a = c.args in
    offered_waits (holds_from a.offset a.variables.now a.start (terms a.words.now a.start a.end)) a.width a.old a.value c.requires.2 c.if-waiting-lt63.true

pub returns : goal.returns
returns c =
    let a = c.args in
    offered_tried (holds_from a.offset a.variables.now a.start (terms a.words.now a.start a.end)) a.width a.old a.value c.requires.2 c.settle.new.marks c.settle.ensures
