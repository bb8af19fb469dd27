use mathlib.Core.Path.{sym, ◌∙◌}
use mathlib.Core.Bool.{false≢true}
use native.Mathlib.Omega.{arith}
use borrow.Author.Count.{below_more}
use Rattle.theory.specs.Lookahead.{EmptyBody}
use Rattle.table_layout.specs.Held.{held}
use Rattle.table_structure.proofs.Facts.{facts}
use Rattle.table_conflicts.proofs.Meaning.{empty_iff}
use Rattle.table_judge.proofs.Judging.{least_of, passed9}
use Rattle.table_judge.proofs.judge_bodies.Goals as goal

pub loop-i-init : goal.loop-i-init
loop-i-init c = let s = c in ((λ j h. absurd (omega arith)), omega arith, omega (arith, c.word-count.ensures.0, (facts s.args.table.now s.requires.0.passed.laid_out).counts.constructs))

pub empty_body-requires : goal.empty_body-requires
empty_body-requires c = (c.requires.1, omega (arith, c.loop-i.invariant.2, c.loop-i-test.true))

pub returns-then-empty_body : goal.returns-then-empty_body
returns-then-empty_body c = let s = c in let ws = s.args.table.now in let l = c.loop-i in let w = c.word-count in let t = c.loop-i-test.true in (s.requires.0, least_of ws (EmptyBody (held ws)) w.result l.i w.ensures.0 t ((empty_iff ws s.args.first.now s.requires.2 l.i (omega (arith, l.invariant.2, t))).0 (c.empty_body.ensures.0 c.if-empty_body.true)) l.invariant.0)

pub loop-i-preserved : goal.loop-i-preserved
loop-i-preserved c = let s = c in let l = c.loop-i in let t = c.loop-i-test.true in (below_more _ _ l.invariant.0 (λ b. false≢true (sym c.if-empty_body.false ∙ c.empty_body.ensures.1 ((empty_iff s.args.table.now s.args.first.now s.requires.2 l.i (omega (arith, l.invariant.2, t))).1 b))), omega (arith, t), l.invariant.2)

pub returns : goal.returns
returns c = let s = c in let w = c.word-count in passed9 s.args.table.now s.requires.0 w.result c.loop-i.i w.ensures.0 c.loop-i.invariant.0 c.loop-i-test.false
