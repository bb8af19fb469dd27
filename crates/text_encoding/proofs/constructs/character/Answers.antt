use mathlib.Core.Path.{◌∙◌}
use native.Mathlib.Omega.{arith}
use Rattle.basis.specs.Limits.{max_literal_bytes}
use Rattle.text_literals.proofs.Spelling.{zeros}
use borrow.Author.Rules.{rules}
use Rattle.text_encoding.proofs.constructs.character.Goals as goal

pub spelled-requires : goal.spelled-requires
spelled-requires c = (search rules, zeros max_literal_bytes)

pub returns : goal.returns
returns c = c.byte.ensures.0 ∙ c.spelled.ensures 0 (omega arith)
