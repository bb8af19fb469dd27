use mathlib.Core.Path.{sym, ◌∙◌}
use native.Mathlib.Omega.{arith}
use borrow.Author.Count.{below_more}
use Rattle.table_structure.proofs.Facts.{facts}
use Rattle.table_conflicts.specs.Conflicts.{Conflicting}
use Rattle.table_conflicts.proofs.Meaning.{answered}
use Rattle.table_judge.proofs.Judging.{clash_none, clash_some, least_of, passed10}
use Rattle.table_judge.proofs.judge_conflicts.Goals as goal

pub loop-i-init : goal.loop-i-init
loop-i-init c = let s = c in ((λ j h. absurd (omega arith)), omega arith, omega (arith, c.word-count.ensures.0, (facts s.args.table.now s.requires.0.passed.passed.laid_out).counts.constructs))

pub conflict-clash-requires : goal.conflict-clash-requires
conflict-clash-requires c = let s = c in ((facts s.args.table.now s.requires.0.passed.passed.laid_out).long, s.requires.1, s.requires.2, omega (arith, c.loop-i.invariant.2, c.loop-i-test.true))

pub returns-then-is_clash : goal.returns-then-is_clash
returns-then-is_clash c = let s = c in let ws = s.args.table.now in let l = c.loop-i in let w = c.word-count in let k = c.conflict-clash in let t = c.loop-i-test.true in let a = answered (facts ws s.requires.0.passed.passed.laid_out) l.i (omega (arith, t, w.ensures.0)) s.args.follow.now s.args.prediction.now s.requires.3 s.requires.4 k.result k.ensures in (s.requires.0, least_of ws (Conflicting ws) w.result l.i w.ensures.0 t (clash_some ws l.i k.result a (sym c.is_clash.ensures ∙ c.if-is_clash.true)) l.invariant.0, a)

pub loop-i-preserved : goal.loop-i-preserved
loop-i-preserved c = let s = c in let ws = s.args.table.now in let l = c.loop-i in let w = c.word-count in let k = c.conflict-clash in let t = c.loop-i-test.true in (below_more _ _ l.invariant.0 (clash_none ws l.i k.result (answered (facts ws s.requires.0.passed.passed.laid_out) l.i (omega (arith, t, w.ensures.0)) s.args.follow.now s.args.prediction.now s.requires.3 s.requires.4 k.result k.ensures) (sym c.is_clash.ensures ∙ c.if-is_clash.false)), omega (arith, t), l.invariant.2)

pub returns : goal.returns
returns c = let s = c in let w = c.word-count in passed10 s.args.table.now s.requires.0 w.result c.loop-i.i w.ensures.0 c.loop-i.invariant.0 c.loop-i-test.false
