use mathlib.Core.Path.{sym, ap, ◌∙◌}
use Rattle.text_store.specs.Store.{blank}
use Rattle.text_parsing.specs.Cursors.{state_at}
use Rattle.text_admission.proofs.Facts.{Basics, basics, within}
use Rattle.text_admission.proofs.Stages.{formed, not_formed}
use Rattle.report_places.specs.Located.{located_in}
use Rattle.report_places.proofs.locate_rules.Goals as goal

pub returns-then-c-eq0 : goal.returns-then-c-eq0
returns-then-c-eq0 c = sym (ap (located_in c.args.text.now c.args.base c.args.query) (not_formed c.args.text.now blank c.requires.0 c.read-c.result c.read-c.new.nodes c.read-c.new.terms c.read-c.new.rules c.read-c.ensures c.if-c-eq0.true))

pub slice_bounds-answer-end : goal.slice_bounds-answer-end
slice_bounds-answer-end c = sym (basics c.args.text.now (state_at c.read-c.result c.read-c.new.nodes c.read-c.new.terms c.read-c.new.rules) (formed c.args.text.now blank c.requires.0 c.read-c.result c.read-c.new.nodes c.read-c.new.terms c.read-c.new.rules c.read-c.ensures c.if-c-eq0.false)).node_length

pub slice_bounds-answer-end-2 : goal.slice_bounds-answer-end-2
slice_bounds-answer-end-2 c = sym (basics c.args.text.now (state_at c.read-c.result c.read-c.new.nodes c.read-c.new.terms c.read-c.new.rules) (formed c.args.text.now blank c.requires.0 c.read-c.result c.read-c.new.nodes c.read-c.new.terms c.read-c.new.rules c.read-c.ensures c.if-c-eq0.false)).term_length

pub slice_bounds-answer-end-3 : goal.slice_bounds-answer-end-3
slice_bounds-answer-end-3 c = sym (basics c.args.text.now (state_at c.read-c.result c.read-c.new.nodes c.read-c.new.terms c.read-c.new.rules) (formed c.args.text.now blank c.requires.0 c.read-c.result c.read-c.new.nodes c.read-c.new.terms c.read-c.new.rules c.read-c.ensures c.if-c-eq0.false)).rule_length

pub answer-requires : goal.answer-requires
answer-requires c = let b : Basics c.args.text.now (state_at c.read-c.result c.read-c.new.nodes c.read-c.new.terms c.read-c.new.rules) = basics c.args.text.now (state_at c.read-c.result c.read-c.new.nodes c.read-c.new.terms c.read-c.new.rules) (formed c.args.text.now blank c.requires.0 c.read-c.result c.read-c.new.nodes c.read-c.new.terms c.read-c.new.rules c.read-c.ensures c.if-c-eq0.false) in (b.node_length, b.term_length, b.rule_length, c.requires.1, λ n. ((within c.args.text.now (state_at c.read-c.result c.read-c.new.nodes c.read-c.new.terms c.read-c.new.rules) b c.requires.0).nodes n).0)

pub returns : goal.returns
returns c = c.answer.ensures ∙ sym (ap (located_in c.args.text.now c.args.base c.args.query) (formed c.args.text.now blank c.requires.0 c.read-c.result c.read-c.new.nodes c.read-c.new.terms c.read-c.new.rules c.read-c.ensures c.if-c-eq0.false).formed)
