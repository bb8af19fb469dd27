use mathlib.Core.Path.{refl}
use mathlib.Core.Logic.{inl, inr}
use native.Mathlib.Omega.{arith}
use Rattle.text_admission.specs.Admitted.{short_table, wrong_size, refused_early}
use Rattle.text_admission.proofs.HeaderPlaces.{rules_inside, wrong_inside, at_header, at_rules}
use Rattle.text_admission.proofs.answer.Goals as goal

-- src/lib.rt:251:9
pub returns-then-table-lt-TABLE_WORDS : goal.returns-then-table-lt-TABLE_WORDS
returns-then-table-lt-TABLE_WORDS c = refused_early 1 0 c.refused.ensures (short_table c.if-table-lt-TABLE_WORDS.true) refl

-- src/lib.rt:254:9
pub returns-then-text-eq0 : goal.returns-then-text-eq0
returns-then-text-eq0 c = refused_early 2 0 c.refused-then-text-eq0.ensures (wrong_size c.if-table-lt-TABLE_WORDS.false (inl c.if-text-eq0.true)) refl

-- src/lib.rt:257:9
pub returns-then-text-gt-MAX_TEXT_BYTES : goal.returns-then-text-gt-MAX_TEXT_BYTES
returns-then-text-gt-MAX_TEXT_BYTES c = refused_early 2 0 c.refused-then-text-gt-MAX_TEXT_BYTES.ensures (wrong_size c.if-table-lt-TABLE_WORDS.false (inr (omega (arith, c.if-text-gt-MAX_TEXT_BYTES.true)))) refl

-- src/lib.rt:260:34
pub refused-requires-in-Wrong : goal.refused-requires-in-Wrong
refused-requires-in-Wrong c = (omega arith, omega (arith, wrong_inside c.args.text.now c.header.result _ c.header.ensures c.in-Wrong.is, c.if-text-gt-MAX_TEXT_BYTES.false))

-- src/lib.rt:261:33
pub admit_from-requires : goal.admit_from-requires
admit_from-requires c = (rules_inside c.args.text.now c.header.result _ c.header.ensures c.in-Rules.is, omega (arith, c.if-text-gt-MAX_TEXT_BYTES.false), c.if-table-lt-TABLE_WORDS.false)

-- src/lib.rt:247:1
pub returns-in-Wrong : goal.returns-in-Wrong
returns-in-Wrong c = at_header c.args.text.now c.args.table.now c.header.result _ c.refused-in-Wrong.result c.header.ensures c.in-Wrong.is c.refused-in-Wrong.ensures c.if-table-lt-TABLE_WORDS.false c.if-text-eq0.false (omega (arith, c.if-text-gt-MAX_TEXT_BYTES.false))

-- src/lib.rt:247:1
pub returns-in-Rules : goal.returns-in-Rules
returns-in-Rules c = at_rules c.args.text.now c.args.table.now c.admit_from.new.table c.header.result _ c.admit_from.result c.header.ensures c.in-Rules.is c.if-table-lt-TABLE_WORDS.false c.if-text-eq0.false (omega (arith, c.if-text-gt-MAX_TEXT_BYTES.false)) c.admit_from.ensures
