use Rattle.text_syntax.proofs.Ruling.{ends_right, ends_wrong}
use borrow.Author.Tests.{ne_eqb}
use lib.Dec.{eqb}
use mathlib.Core.Bool.{false, ◌&&◌}
use mathlib.Core.Path.{◌≡◌, refl}
use Rattle.text_syntax.proofs.rules.text_end.Goals.{else-any-via-then-any+else-c-eq5, else-any-via-else-any}
use Rattle.text_syntax.proofs.rules.text_end.Goals as goal

pub returns-then-c-eq5 : goal.returns-then-c-eq5
returns-then-c-eq5 c = ends_right _ _ c.requires c.if-any.true c.if-c-eq5.true

pub returns-else-any : goal.returns-else-any
returns-else-any c =
    let f : (c.args.any && eqb c.args.c.code 5) ≡ false = elim c.else-any.branch [ else-any-via-then-any+else-c-eq5 w ↦ rw w.if-any.true (ne_eqb _ 5 w.if-c-eq5.false) | else-any-via-else-any w ↦ rw w.if-any.false refl ] in
    ends_wrong _ _ c.requires f c.failed.ensures
