use mathlib.Core.Path.{sym, ◌∙◌}
use mathlib.Core.Bool.{false≢true}
use Rattle.table_judge.proofs.Standing.{both_stand, first_fails}
use Rattle.table_judge.proofs.sound.stands.Goals as goal

pub returns-then-same : goal.returns-then-same
returns-then-same c = let s = c in let a = s.args in both_stand a.table.now a.follow.now a.prediction.now s.requires.3 s.requires.4 a.i s.requires.5 c.load.result.words c.load-then-same.result.words c.same-then-same.result c.load.ensures c.load-then-same.ensures (c.same.ensures.0 c.if-same.true) c.same-then-same.ensures

pub returns : goal.returns
returns c = let s = c in let a = s.args in first_fails a.table.now a.follow.now a.prediction.now s.requires.3 s.requires.4 a.i s.requires.5 c.load.result.words c.load.ensures (λ t. false≢true (sym c.if-same.false ∙ c.same.ensures.1 t))
