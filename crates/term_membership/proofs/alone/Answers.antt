use mathlib.Core.Path.{◌∙◌, ap}
use Prim.Native.Nat.{ℕ}
use lib.Dec.{eqb}
use Rattle.term_membership.specs.Truths.{waiting}
use Rattle.term_membership.proofs.Rounds.{alone_told, none_told}
use Rattle.term_membership.proofs.alone.Goals as goal

pub returns-then-count-eq1 : goal.returns-then-count-eq1
returns-then-count-eq1 c = λ masks e j h. ap (λ (n : ℕ). eqb (waiting masks n j) 3) c.if-count-eq1.true ∙ alone_told masks c.args.test j _ e (c.spread.ensures j h)

pub returns : goal.returns
returns c = λ masks e j h. none_told masks c.args.count j c.if-count-eq1.false ∙ c.nothing.ensures j h
