use Rattle.basis.specs.Limits.{max_literal_bytes}
use Rattle.text_literals.proofs.Spelling.{zeros}
use borrow.Author.Rules.{rules}
use Rattle.case_text.proofs.literal.Goals as goal

pub spell-requires : goal.spell-requires
spell-requires c = (search rules, search rules, zeros max_literal_bytes)
