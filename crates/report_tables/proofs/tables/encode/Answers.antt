use native.Mathlib.Omega.{arith}
use Rattle.text_admission.proofs.HeaderPlaces.{rules_inside}
use Rattle.report_tables.proofs.TableLaws.{wrong_header, text_encoded}
use Rattle.report_tables.proofs.tables.encode.Goals as goal

pub returns-then-text-gt-MAX_TEXT_BYTES : goal.returns-then-text-gt-MAX_TEXT_BYTES
returns-then-text-gt-MAX_TEXT_BYTES c = let s = c in (λ l base e st n. omega (arith, l, c.if-text-gt-MAX_TEXT_BYTES.true), s.requires)

pub encode_from-requires : goal.encode_from-requires
encode_from-requires c = let s = c in (rules_inside s.args.text.now c.header.result _ c.header.ensures c.in-Rules.is, c.if-text-gt-MAX_TEXT_BYTES.false, s.requires)

pub returns-in-Wrong : goal.returns-in-Wrong
returns-in-Wrong c = let s = c in (λ l base e st n. wrong_header s.args.text.now c.header.result _ base c.header.ensures c.in-Wrong.is e, s.requires)

pub returns-in-Rules : goal.returns-in-Rules
returns-in-Rules c = let s = c in text_encoded s.args.text.now c.encode_from.new.words c.header.result _ c.encode_from.result c.if-text-gt-MAX_TEXT_BYTES.false c.header.ensures c.in-Rules.is c.encode_from.ensures
