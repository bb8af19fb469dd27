use mathlib.Core.Path.{refl}
use Rattle.text_admission.proofs.HeaderPlaces.{rules_inside}
use Rattle.report_places.specs.declared.Located.{Located}
use Rattle.report_places.proofs.Laws.{too_long, short}
use Rattle.report_places.proofs.locate.Goals as goal

pub returns-then-text-gt-MAX_TEXT_BYTES : goal.returns-then-text-gt-MAX_TEXT_BYTES
returns-then-text-gt-MAX_TEXT_BYTES c = too_long c.args.text.now c.args.query c.if-text-gt-MAX_TEXT_BYTES.true

pub locate_from-requires : goal.locate_from-requires
locate_from-requires c = (rules_inside c.args.text.now c.header.result _ c.header.ensures c.in-Rules.is, c.if-text-gt-MAX_TEXT_BYTES.false)

pub returns-in-Wrong : goal.returns-in-Wrong
returns-in-Wrong c = short c.args.text.now c.args.query c.header.result _ Located.Nothing c.header.ensures c.in-Wrong.is c.if-text-gt-MAX_TEXT_BYTES.false refl

pub returns-in-Rules : goal.returns-in-Rules
returns-in-Rules c = short c.args.text.now c.args.query c.header.result _ c.locate_from.result c.header.ensures c.in-Rules.is c.if-text-gt-MAX_TEXT_BYTES.false c.locate_from.ensures
