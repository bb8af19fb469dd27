use mathlib.Core.Path.{sym, ap, ◌∙◌}
use mathlib.Core.List.{List}
use Prim.Native.Nat.{ℕ}
use lib.ListN.{get_or}
use Rattle.text_encoding.proofs.Past.{characters_past}
use Rattle.text_encoding.proofs.constructs.spelled.Goals as goal

pub returns-else-p-text : goal.returns-else-p-text
returns-else-p-text c = λ k h. c.requires.1 k ∙ sym (ap (λ (l : List ℕ). get_or l k 0) (characters_past c.args.text.now c.args.p c.if-p-text.false))
