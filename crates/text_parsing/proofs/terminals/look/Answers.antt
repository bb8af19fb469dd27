use Rattle.text_parsing.proofs.Steps.{inside_of, look_told, look_end}
use mathlib.Core.Path.{◌∙◌}
use Rattle.text_parsing.proofs.terminals.look.Goals as goal

pub told-requires : goal.told-requires
told-requires c = (c.if-start-end.true, inside_of c.args.text.now c.args.at c.token_at-token.result c.token_at-token.ensures c.if-start-end.true)

pub returns-then-start-end : goal.returns-then-start-end
returns-then-start-end c = c.told.ensures ∙ look_told c.args.text.now c.args.at c.token_at-token.result c.code-code.result c.token_at-token.ensures c.code-code.ensures

pub returns : goal.returns
returns c = look_end c.args.text.now c.args.at c.token_at-token.result c.code-code.result c.token_at-token.ensures c.code-code.ensures c.if-start-end.false
