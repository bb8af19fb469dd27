use Rattle.term_membership.specs.Members.{holds_from}
use Rattle.term_words.specs.Words.{terms}
use Rattle.term_prefixes.proofs.marks.settle.Goals as goal

pub returns : goal.returns
returns c = let a = c.args in c.mark_all.ensures (holds_from a.offset a.variables.now a.start (terms a.words.now a.start a.end)) c.contains_all-truths.ensures
