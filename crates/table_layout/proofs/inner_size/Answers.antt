use mathlib.Core.Path.{sym}
use borrow.Author.Tests.{ne_eqb}
use Rattle.table_layout.proofs.Sizes.{inner_size}
use Rattle.table_layout.proofs.inner_size.Goals as goal

pub returns-then-kind-eq3 : goal.returns-then-kind-eq3
returns-then-kind-eq3 c = simp c.if-kind-eq3.true c.repetition_size.ensures

pub returns : goal.returns
returns c = sym (inner_size c.args.kind c.args.size c.args.a c.args.b c.args.c (ne_eqb _ _ c.if-kind-eq3.false))
