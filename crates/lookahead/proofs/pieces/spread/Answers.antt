use Rattle.lookahead.proofs.SpreadLaws.{at_distance, spread_0, spread_1, spread_2, spread_3, spread_4, spread_5}
use native.Mathlib.Omega.{arith}
use Rattle.lookahead.proofs.pieces.spread.Goals as goal

pub returns-then-j-eq0 : goal.returns-then-j-eq0
returns-then-j-eq0 c = at_distance c.args.w c.args.j 0 _ c.if-j-eq0.true c.requires.1 (λ l. spread_0 c.args.w)

pub returns-then-j-eq1 : goal.returns-then-j-eq1
returns-then-j-eq1 c =
    at_distance c.args.w c.args.j 1 _ c.if-j-eq1.true c.requires.1
    (λ l. spread_1 c.args.w _ _ _ _ _ l c.stretch-a.ensures c.stretch-b.ensures c.stretch-c.ensures c.stretch-d.ensures c.stretch.ensures)

pub returns-then-j-eq2 : goal.returns-then-j-eq2
returns-then-j-eq2 c =
    at_distance c.args.w c.args.j 2 _ c.if-j-eq2.true c.requires.1
    (λ l. spread_2 c.args.w _ _ _ _ l c.stretch-a-then-j-eq2.ensures c.stretch-b-then-j-eq2.ensures c.stretch-c-then-j-eq2.ensures c.stretch-then-j-eq2.ensures)

pub returns-then-j-eq3 : goal.returns-then-j-eq3
returns-then-j-eq3 c =
    at_distance c.args.w c.args.j 3 _ c.if-j-eq3.true c.requires.1
    (λ l. spread_3 c.args.w _ _ _ l c.stretch-a-then-j-eq3.ensures c.stretch-b-then-j-eq3.ensures c.stretch-then-j-eq3.ensures)

pub returns-then-j-eq4 : goal.returns-then-j-eq4
returns-then-j-eq4 c =
    at_distance c.args.w c.args.j 4 _ c.if-j-eq4.true c.requires.1
    (λ l. spread_4 c.args.w _ _ l c.stretch-a-then-j-eq4.ensures c.stretch-then-j-eq4.ensures)

pub returns : goal.returns
returns c =
    at_distance c.args.w c.args.j 5 _ (omega arith) c.requires.1
    (λ l. spread_5 c.args.w _ l c.stretch-2.ensures)
