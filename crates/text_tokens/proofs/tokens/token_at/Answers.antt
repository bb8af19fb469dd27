use Rattle.text_tokens.specs.Tokens.{token_from, token_of}
use mathlib.Core.Path.{sym, ap, ◌∙◌}
use Rattle.text_tokens.proofs.Found.{from_some, from_none}
use Rattle.text_tokens.proofs.tokens.token_at.Goals as goal

pub returns-then-start-rules : goal.returns-then-start-rules
unfolding token_of
returns-then-start-rules c = c.begun.ensures ∙ sym (from_some c.args.rules.now c.gap-start.result c.if-start-rules.true) ∙ ap (token_from c.args.rules.now) c.gap-start.ensures

pub returns : goal.returns
unfolding token_of
returns c = sym (from_none c.args.rules.now c.gap-start.result c.if-start-rules.false) ∙ ap (token_from c.args.rules.now) c.gap-start.ensures
