use Prim.Native.Nat.{◌+◌}
use native.Mathlib.Omega.{arith}
use Rattle.basis.specs.Bits.{Bits}
use Rattle.lookahead.specs.Sets.{Has}
use Rattle.table_first_follow.specs.Rounds.{strings}
use Rattle.table_conflicts.specs.Clashes.{Common}
use Rattle.table_conflicts.proofs.Lows.{lowest_map}
use Rattle.table_conflicts.proofs.turns.Goals as goal

pub returns-then-window-eq0 : goal.returns-then-window-eq0
returns-then-window-eq0 c = λ x h. (lowest_map (λ (x : Bits). Has c.set_of.result.words x × Has c.set_of-2.result.words x) (Common (strings c.args.prediction.now (c.args.i + 1)) (strings c.args.follow.now c.args.i)) c.shared-window.result (λ x. ((λ h. ((c.set_of.ensures.strings x).0 h.0, (c.set_of-2.ensures.strings x).0 h.1)), (λ h. ((c.set_of.ensures.strings x).1 h.0, (c.set_of-2.ensures.strings x).1 h.1)))) c.shared-window.ensures).none c.if-window-eq0.true x h

pub returns : goal.returns
returns c = (omega (arith, c.if-window-eq0.false), lowest_map (λ (x : Bits). Has c.set_of.result.words x × Has c.set_of-2.result.words x) (Common (strings c.args.prediction.now (c.args.i + 1)) (strings c.args.follow.now c.args.i)) c.shared-window.result (λ x. ((λ h. ((c.set_of.ensures.strings x).0 h.0, (c.set_of-2.ensures.strings x).0 h.1)), (λ h. ((c.set_of.ensures.strings x).1 h.0, (c.set_of-2.ensures.strings x).1 h.1)))) c.shared-window.ensures)
