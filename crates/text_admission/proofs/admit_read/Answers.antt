use mathlib.Core.Path.{refl, sym, subst}
use Rattle.text_parsing.specs.Cursors.{state_at}
use Rattle.text_admission.specs.Admitted.{AnsweredRules}
use Rattle.text_admission.proofs.Stages.{encodable, rule_placed, straight, cyclic}
use borrow.Author.Rules.{rules}
use Rattle.text_admission.proofs.admit_read.Goals as goal

-- src/lib.rt:192:5
pub encode-requires : goal.encode-requires
encode-requires c = let e = encodable c.args.text.now (state_at c.args.c c.args.nodes.now c.args.terms.now c.args.rules.now) c.requires.1 c.requires.0 in (e.0, e.1, e.2, e.3, e.4, e.5, refl)

-- src/lib.rt:194:34
pub refused_at-requires : goal.refused_at-requires
refused_at-requires c = ((encodable c.args.text.now (state_at c.args.c c.args.nodes.now c.args.terms.now c.args.rules.now) c.requires.1 c.requires.0).2, c.requires.2, rule_placed c.args.text.now (state_at c.args.c c.args.nodes.now c.args.terms.now c.args.rules.now) c.requires.1 c.requires.0)

-- src/lib.rt:195:28
pub admit_words-requires : goal.admit_words-requires
admit_words-requires c = (straight c.args.text.now (state_at c.args.c c.args.nodes.now c.args.terms.now c.args.rules.now) c.requires.1 c.encode.new.table c.encode.ensures c.recursive_rule.result c.in-None.is c.recursive_rule.ensures c.requires.0, c.encode.ensures, c.requires.1, c.requires.2, c.requires.3)

-- src/lib.rt:179:1
pub returns-in-Some : goal.returns-in-Some
returns-in-Some c = subst (AnsweredRules c.args.text.now c.args.base c.args.table.now c.args.table.now) (sym c.refused_at.ensures) (cyclic c.args.text.now (state_at c.args.c c.args.nodes.now c.args.terms.now c.args.rules.now) c.requires.1 c.args.base c.encode.new.table c.encode.ensures c.recursive_rule.result _ c.in-Some.is c.recursive_rule.ensures c.requires.0, refl)
