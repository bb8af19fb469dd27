use mathlib.Core.Path.{refl, sym, subst}
use Rattle.text_store.specs.Store.{blank}
use Rattle.text_parsing.specs.Cursors.{state_at}
use Rattle.text_admission.specs.Admitted.{AnsweredRules, by_form}
use Rattle.text_admission.proofs.Facts.{basics}
use Rattle.text_admission.proofs.Stages.{formed, not_formed, form_place}
use Rattle.text_admission.proofs.admit_rules.Goals as goal

-- src/lib.rt:233:9
pub refused-requires : goal.refused-requires
refused-requires c = (c.requires.1, form_place c.args.text.now blank c.requires.0 c.read-c.result.start (not_formed c.args.text.now blank c.requires.0 c.read-c.result c.read-c.new.nodes c.read-c.new.terms c.read-c.new.rules c.read-c.ensures c.if-c-eq0.true))

-- src/lib.rt:233:9
pub returns-then-c-eq0 : goal.returns-then-c-eq0
returns-then-c-eq0 c = subst (AnsweredRules c.args.text.now c.args.base c.args.table.now c.args.table.now) (sym c.refused.ensures) (by_form (not_formed c.args.text.now blank c.requires.0 c.read-c.result c.read-c.new.nodes c.read-c.new.terms c.read-c.new.rules c.read-c.ensures c.if-c-eq0.true) refl, refl)

-- src/lib.rt:235:25
pub slice_bounds-admit_checked-end : goal.slice_bounds-admit_checked-end
slice_bounds-admit_checked-end c = sym (basics c.args.text.now (state_at c.read-c.result c.read-c.new.nodes c.read-c.new.terms c.read-c.new.rules) (formed c.args.text.now blank c.requires.0 c.read-c.result c.read-c.new.nodes c.read-c.new.terms c.read-c.new.rules c.read-c.ensures c.if-c-eq0.false)).node_length

-- src/lib.rt:235:33
pub slice_bounds-admit_checked-end-2 : goal.slice_bounds-admit_checked-end-2
slice_bounds-admit_checked-end-2 c = sym (basics c.args.text.now (state_at c.read-c.result c.read-c.new.nodes c.read-c.new.terms c.read-c.new.rules) (formed c.args.text.now blank c.requires.0 c.read-c.result c.read-c.new.nodes c.read-c.new.terms c.read-c.new.rules c.read-c.ensures c.if-c-eq0.false)).term_length

-- src/lib.rt:235:41
pub slice_bounds-admit_checked-end-3 : goal.slice_bounds-admit_checked-end-3
slice_bounds-admit_checked-end-3 c = sym (basics c.args.text.now (state_at c.read-c.result c.read-c.new.nodes c.read-c.new.terms c.read-c.new.rules) (formed c.args.text.now blank c.requires.0 c.read-c.result c.read-c.new.nodes c.read-c.new.terms c.read-c.new.rules c.read-c.ensures c.if-c-eq0.false)).rule_length

-- src/lib.rt:235:5
pub admit_checked-requires : goal.admit_checked-requires
admit_checked-requires c = ((formed c.args.text.now blank c.requires.0 c.read-c.result c.read-c.new.nodes c.read-c.new.terms c.read-c.new.rules c.read-c.ensures c.if-c-eq0.false), c.requires.0, c.requires.1, c.requires.2)
