use native.Mathlib.Omega.{arith}
use Rattle.text_syntax.proofs.Atoms.{atom_literal, atom_eod, atom_use, atom_character, atom_field, atom_fault}
use mathlib.Core.Path.{sym, ◌∙◌}
use Rattle.text_syntax.proofs.fields.simple.Goals as goal

pub returns-in-3 : goal.returns-in-3
returns-in-3 c = atom_literal c.args.d c.in-3.is c.leaf.ensures.0 c.leaf.ensures.1 c.passed.ensures c.args.terms.now

pub returns-in-9 : goal.returns-in-9
returns-in-9 c = atom_character c.args.d c.in-9.is c.passed-in-9.ensures c.character_tail.ensures c.args.terms.now

pub returns-in-6 : goal.returns-in-6
returns-in-6 c = atom_field c.args.d c.in-6.is c.passed-in-6.ensures c.field.ensures

pub returns-in-7 : goal.returns-in-7
returns-in-7 c = atom_eod c.args.d c.in-7.is c.leaf-in-7.ensures.0 c.leaf-in-7.ensures.1 c.passed-in-7.ensures c.args.terms.now

pub returns-in_default : goal.returns-in_default
returns-in_default c = atom_use c.args.d (λ z. omega (arith, z)) (λ z. omega (arith, z)) (sym c.name.ensures ∙ c.if-name.true) c.leaf-in_default.ensures.0 c.leaf-in_default.ensures.1 c.passed-in_default.ensures c.args.terms.now

pub returns-in_default-2 : goal.returns-in_default-2
returns-in_default-2 c = atom_fault c.args.d (λ z. omega (arith, z)) (λ z. omega (arith, z)) (λ z. omega (arith, z)) (λ z. omega (arith, z)) (sym c.name.ensures ∙ c.if-name.false) c.requires.1 c.requires.2 c.failed.ensures
