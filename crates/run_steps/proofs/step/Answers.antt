use mathlib.Core.Path.{◌≡◌, sym, ◌∙◌}
use native.Mathlib.Omega.{arith}
use borrow.Author.Tests.{ne_eqb}
use Rattle.run_steps.specs.Steps.{step_of}
use Rattle.run_steps.proofs.Bounds.{bound_small}
use Rattle.run_steps.proofs.step.Goals as goal
use Rattle.run_steps.proofs.step.Goals.{else-bounded-via-then-bounded+else-count-gt0, else-bounded-via-else-bounded}

pub returns-then-verdict-ne0 : goal.returns-then-verdict-ne0
unfolding step_of
returns-then-verdict-ne0 c = simp (ne_eqb _ _ c.if-verdict-ne0.true)

pub take_first-requires : goal.take_first-requires
take_first-requires c = (omega arith, omega arith, omega arith, omega arith, omega arith, omega arith, bound_small c.args.table.now c.args.frame.now c.args.head.steps (sym c.bounded.ensures ∙ c.if-bounded.true) (omega arith), omega arith, omega arith)

pub returns-then-count-gt0 : goal.returns-then-count-gt0
unfolding step_of
returns-then-count-gt0 c = simp (c.if-verdict-ne0.false, ← c.bounded.ensures, c.if-bounded.true, ne_eqb c.args.head.count 0 (λ e. omega (arith, e, c.if-count-gt0.true))) c.take_first.ensures

pub returns : goal.returns
unfolding step_of
returns c = elim c.else-bounded.branch [
  | else-bounded-via-then-bounded+else-count-gt0 w ↦ let none : c.args.head.count ≡ 0 = omega (arith, w.if-count-gt0.false) in simp (c.if-verdict-ne0.false, ← c.bounded.ensures, w.if-bounded.true, none, c.broken.ensures)
  | else-bounded-via-else-bounded w ↦ simp (c.if-verdict-ne0.false, ← c.bounded.ensures, w.if-bounded.false, c.broken.ensures)
]
