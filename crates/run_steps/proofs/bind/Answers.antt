use Prim.Native.Nat.{◌-◌}
use Rattle.term_integers.proofs.Laws.{back}
use mathlib.Core.Path.{sym, ◌∙◌, ap}
use lib.IntN.{ℤ}
use lib.ListN.{set}
use Rattle.run_steps.proofs.Places.{bind_one, bind_none}
use Rattle.run_steps.proofs.bind.Goals as goal

-- src/lib.rt:109:1
pub returns-then-binder-gt0 : goal.returns-then-binder-gt0
returns-then-binder-gt0 c =
    let a = c.args in
    ap (λ (z : ℤ). set a.values.now (a.binder - 1) z) (back a.value c.ranges.value.sfits) ∙ sym (bind_one a.binder a.value a.values.now c.if-binder-gt0.true)

-- src/lib.rt:109:1
pub returns-else-binder-gt0 : goal.returns-else-binder-gt0
returns-else-binder-gt0 c = sym (bind_none c.args.binder c.args.value c.args.values.now c.if-binder-gt0.false)
