use mathlib.Core.Path.{sym, ◌∙◌}
use native.Mathlib.Omega.{arith}
use Rattle.term_integers.proofs.Laws.{back}
use Rattle.run_actions.proofs.Wholes.{kept_some, kept_none}
use Rattle.run_actions.proofs.kept.Goals as goal

pub returns-then-binder-gt0 : goal.returns-then-binder-gt0
returns-then-binder-gt0 c = back c.args.number c.ranges.number.sfits ∙ sym (kept_some c.args.binder c.args.number (omega arith))

pub returns-else-binder-gt0 : goal.returns-else-binder-gt0
returns-else-binder-gt0 c = sym (kept_none c.args.binder c.args.number (omega arith))
