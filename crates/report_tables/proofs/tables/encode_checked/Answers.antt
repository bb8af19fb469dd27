use native.Mathlib.Omega.{arith}
use Rattle.text_parsing.specs.Cursors.{state_at}
use Rattle.text_admission.proofs.Facts.{basics}
use Rattle.text_admission.proofs.Stages.{limited, named}
use Rattle.report_tables.proofs.TableLaws.{past_limit, wrong_name}
use borrow.Author.Rules.{rules}
use Rattle.report_tables.proofs.tables.encode_checked.Goals as goal

pub first_past-past-requires : goal.first_past-past-requires
first_past-past-requires c = let s = c in (basics s.args.text.now (state_at s.args.c s.args.nodes.now s.args.terms.now s.args.rules.now) s.requires.0).rule_length

pub returns-then-past-lt18446744073709551615 : goal.returns-then-past-lt18446744073709551615
returns-then-past-lt18446744073709551615 c = let s = c in (past_limit s.args.text.now (state_at s.args.c s.args.nodes.now s.args.terms.now s.args.rules.now) s.requires.0 c.first_past-past.result c.first_past-past.ensures c.if-past-lt18446744073709551615.true, s.requires.2)

pub first_fault-wrong-requires : goal.first_fault-wrong-requires
first_fault-wrong-requires c = let s = c in let f = basics s.args.text.now (state_at s.args.c s.args.nodes.now s.args.terms.now s.args.rules.now) s.requires.0 in (f.node_length, f.term_length, f.rule_length)

pub returns-then-wrong-lt18446744073709551615 : goal.returns-then-wrong-lt18446744073709551615
returns-then-wrong-lt18446744073709551615 c = let s = c in (wrong_name s.args.text.now (state_at s.args.c s.args.nodes.now s.args.terms.now s.args.rules.now) s.requires.0 c.first_fault-wrong.result c.first_fault-wrong.ensures (omega (arith, c.if-wrong-lt18446744073709551615.true)), s.requires.2)

pub encode_named-requires : goal.encode_named-requires
encode_named-requires c = let s = c in ((named s.args.text.now (state_at s.args.c s.args.nodes.now s.args.terms.now s.args.rules.now) s.requires.1 (limited s.args.text.now (state_at s.args.c s.args.nodes.now s.args.terms.now s.args.rules.now) s.requires.1 s.requires.0 c.first_past-past.result c.first_past-past.ensures c.if-past-lt18446744073709551615.false (omega arith)) c.first_fault-wrong.result c.first_fault-wrong.ensures (omega (arith, c.if-wrong-lt18446744073709551615.false)) (omega arith)), s.requires.1, s.requires.2)

pub returns : goal.returns
returns c = let s = c in record { st = (state_at s.args.c s.args.nodes.now s.args.terms.now s.args.rules.now); named = (named s.args.text.now (state_at s.args.c s.args.nodes.now s.args.terms.now s.args.rules.now) s.requires.1 (limited s.args.text.now (state_at s.args.c s.args.nodes.now s.args.terms.now s.args.rules.now) s.requires.1 s.requires.0 c.first_past-past.result c.first_past-past.ensures c.if-past-lt18446744073709551615.false (omega arith)) c.first_fault-wrong.result c.first_fault-wrong.ensures (omega (arith, c.if-wrong-lt18446744073709551615.false)) (omega arith)); same = c.encode_named.ensures }
