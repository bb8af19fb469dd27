use Prim.Native.Nat.{◌+◌, ◌*◌}
use mathlib.Core.Path.{refl, ap, ◌∙◌}
use mathlib.Core.List.{[], ◌∷◌}
use borrow.Author.Tests.{eq-eqb, ne_eqb}
use Rattle.table_layout.specs.Places.{literals_at}
use Rattle.basis.specs.Limits.{max_literal_bytes}
use Rattle.text_literals.specs.Literals.{characters_at}
use Rattle.text_encoding.specs.Lists.{written}
use Rattle.text_encoding.proofs.Writing.{written_next, bytes_same}
use Rattle.text_literals.proofs.Spelling.{zeros}
use borrow.Author.Rules.{rules}
use Rattle.text_encoding.proofs.constructs.literal.Goals as goal

pub spelled-requires : goal.spelled-requires
spelled-requires c = (search rules, zeros max_literal_bytes)

pub returns-then-node_word-eq6 : goal.returns-then-node_word-eq6
returns-then-node_word-eq6 c = let e = c.spelled in simp (← c.node_word.ensures, eq-eqb _ _ c.if-node_word-eq6.true, ← c.node_word-then-node_word-eq6.ensures) (c.put_bytes.ensures ∙ ap (written c.args.table.now (literals_at + 8 * c.args.i)) (bytes_same e.new.bytes (characters_at c.args.text.now c.node_word-then-node_word-eq6.result) e.ensures))

pub returns : goal.returns
returns c = simp (← c.node_word.ensures, ne_eqb _ _ c.if-node_word-eq6.false) (written_next c.args.table.now c.put_four.new.table c.put_four-2.new.table (literals_at + 8 * c.args.i) (literals_at + 8 * c.args.i + 4) (0 ∷ 0 ∷ 0 ∷ 0 ∷ []) (0 ∷ 0 ∷ 0 ∷ 0 ∷ []) c.put_four.ensures refl c.put_four-2.ensures)
