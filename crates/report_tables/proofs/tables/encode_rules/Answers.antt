use native.Mathlib.Omega.{arith}
use mathlib.Core.Path.{sym}
use Rattle.text_parsing.specs.Cursors.{state_at}
use Rattle.text_store.specs.Store.{blank}
use Rattle.text_admission.proofs.Facts.{basics}
use Rattle.text_admission.proofs.Stages.{formed, not_formed}
use Rattle.report_tables.proofs.TableLaws.{wrong_form}
use Rattle.report_tables.proofs.tables.encode_rules.Goals as goal

pub returns-then-c-eq0 : goal.returns-then-c-eq0
returns-then-c-eq0 c = let s = c in let r = c.read-c in (wrong_form s.args.text.now r.result.start (not_formed s.args.text.now blank s.requires.0 r.result r.new.nodes r.new.terms r.new.rules r.ensures (omega (arith, c.if-c-eq0.true))), s.requires.1)

pub slice_bounds-encode_checked-end : goal.slice_bounds-encode_checked-end
slice_bounds-encode_checked-end c = sym (basics c.args.text.now (state_at c.read-c.result c.read-c.new.nodes c.read-c.new.terms c.read-c.new.rules) (formed c.args.text.now blank c.requires.0 c.read-c.result c.read-c.new.nodes c.read-c.new.terms c.read-c.new.rules c.read-c.ensures (λ e. c.if-c-eq0.false (omega (arith, e))))).node_length

pub slice_bounds-encode_checked-end-2 : goal.slice_bounds-encode_checked-end-2
slice_bounds-encode_checked-end-2 c = sym (basics c.args.text.now (state_at c.read-c.result c.read-c.new.nodes c.read-c.new.terms c.read-c.new.rules) (formed c.args.text.now blank c.requires.0 c.read-c.result c.read-c.new.nodes c.read-c.new.terms c.read-c.new.rules c.read-c.ensures (λ e. c.if-c-eq0.false (omega (arith, e))))).term_length

pub slice_bounds-encode_checked-end-3 : goal.slice_bounds-encode_checked-end-3
slice_bounds-encode_checked-end-3 c = sym (basics c.args.text.now (state_at c.read-c.result c.read-c.new.nodes c.read-c.new.terms c.read-c.new.rules) (formed c.args.text.now blank c.requires.0 c.read-c.result c.read-c.new.nodes c.read-c.new.terms c.read-c.new.rules c.read-c.ensures (λ e. c.if-c-eq0.false (omega (arith, e))))).rule_length

pub encode_checked-requires : goal.encode_checked-requires
encode_checked-requires c = ((formed c.args.text.now blank c.requires.0 c.read-c.result c.read-c.new.nodes c.read-c.new.terms c.read-c.new.rules c.read-c.ensures (λ e. c.if-c-eq0.false (omega (arith, e)))), c.requires.0, c.requires.1)
