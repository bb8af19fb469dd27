use mathlib.Core.Path.{sym, ◌∙◌}
use mathlib.Core.Bool.{false≢true}
use native.Mathlib.Omega.{arith}
use borrow.Author.Count.{below_more}
use Rattle.table_structure.proofs.Facts.{facts}
use Rattle.table_judge.specs.Judged.{Valueless}
use Rattle.table_judge.proofs.Values.{valueless_iff}
use Rattle.table_judge.proofs.Judging.{least_of, valued}
use Rattle.table_judge.proofs.judge_values.Goals as goal

pub loop-i-init : goal.loop-i-init
loop-i-init c = let s = c in ((λ j h. absurd (omega arith)), omega arith, omega (arith, c.word-count.ensures.0, (facts s.args.table.now s.requires.0.passed.passed.passed.laid_out).counts.constructs))

pub no_value-requires : goal.no_value-requires
no_value-requires c = c.requires.3

pub returns-then-no_value : goal.returns-then-no_value
returns-then-no_value c = let s = c in let ws = s.args.table.now in let l = c.loop-i in let w = c.word-count in let t = c.loop-i-test.true in (s.requires.0, s.requires.1, s.requires.2, least_of ws (Valueless ws) w.result l.i w.ensures.0 t ((valueless_iff ws s.args.first.now s.requires.4 l.i (omega (arith, l.invariant.2, t))).0 (c.no_value.ensures.0 c.if-no_value.true)) l.invariant.0)

pub loop-i-preserved : goal.loop-i-preserved
loop-i-preserved c = let s = c in let l = c.loop-i in let t = c.loop-i-test.true in (below_more _ _ l.invariant.0 (λ n. false≢true (sym c.if-no_value.false ∙ c.no_value.ensures.1 ((valueless_iff s.args.table.now s.args.first.now s.requires.4 l.i (omega (arith, l.invariant.2, t))).1 n))), omega (arith, t), l.invariant.2)

pub returns : goal.returns
returns c = let s = c in let w = c.word-count in valued s.args.table.now s.requires.0 w.result c.loop-i.i w.ensures.0 c.loop-i.invariant.0 c.loop-i-test.false
