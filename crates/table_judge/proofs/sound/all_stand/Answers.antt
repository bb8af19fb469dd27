use mathlib.Core.Path.{refl, sym, ◌∙◌}
use mathlib.Core.Bool.{false≢true}
use native.Mathlib.Omega.{arith}
use borrow.Author.Count.{below_more}
use Rattle.table_judge.proofs.sound.all_stand.Goals as goal

pub loop-i-init : goal.loop-i-init
loop-i-init c = ((λ j h. absurd (omega arith)), omega arith)

pub stands-requires : goal.stands-requires
stands-requires c = let s = c in (s.requires.0, s.requires.2, s.requires.3, s.requires.4, s.requires.5, omega (arith, c.loop-i-test.true, c.word-count.ensures.0, s.requires.1))

pub loop-i-preserved : goal.loop-i-preserved
loop-i-preserved c = (below_more _ _ c.loop-i.invariant.0 (c.stands.ensures.0 c.if-not-stands.false), omega (arith, c.loop-i-test.true))

pub returns-then-not-stands : goal.returns-then-not-stands
returns-then-not-stands c = ((λ t. absurd (false≢true t)), (λ f. absurd (false≢true (sym c.if-not-stands.true ∙ c.stands.ensures.1 (f c.loop-i.i (omega (arith, c.loop-i-test.true, c.word-count.ensures.0)))))))

pub returns : goal.returns
returns c = ((λ t j h. c.loop-i.invariant.0 j (omega (arith, h, c.loop-i-test.false, c.word-count.ensures.0))), (λ f. refl))
