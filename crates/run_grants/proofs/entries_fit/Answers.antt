use Prim.Native.Nat.{◌-◌, ◌≤◌}
use native.Mathlib.Omega.{arith}
use mathlib.Core.Path.{refl, sym, ◌∙◌}
use Rattle.basis.specs.Limits.{max_entries}
use Rattle.run_grants.proofs.Fitting.{entries_turn, entries_stop, entries_none}
use Rattle.run_grants.proofs.entries_fit.Goals as goal

pub loop-left-init : goal.loop-left-init
loop-left-init c = (c.requires.1, refl)

pub bounds-constructs-left : goal.bounds-constructs-left
bounds-constructs-left c = omega (arith, c.loop-left-test.true, c.loop-left.invariant.0)

pub bounds-passes-left : goal.bounds-passes-left
bounds-passes-left c = omega (arith, c.loop-left-test.true, c.loop-left.invariant.0)

pub returns-then-not-entry_fits : goal.returns-then-not-entry_fits
returns-then-not-entry_fits c = sym (sym c.loop-left.invariant.1 ∙ entries_stop c.args.table.now c.args.bits c.args.constructs.now c.args.passes.now c.loop-left.left c.loop-left-test.true (sym c.entry_fits.ensures ∙ c.if-not-entry_fits.true))

pub loop-left-preserved : goal.loop-left-preserved
loop-left-preserved c = ((let z : c.loop-left.left - 1 ≤ max_entries = omega (arith, c.loop-left.invariant.0) in z), entries_turn c.args.table.now c.args.bits c.args.constructs.now c.args.passes.now c.loop-left.left c.loop-left-test.true (sym c.entry_fits.ensures ∙ c.if-not-entry_fits.false) ∙ c.loop-left.invariant.1)

pub returns : goal.returns
returns c = sym (sym c.loop-left.invariant.1 ∙ entries_none c.args.table.now c.args.bits c.args.constructs.now c.args.passes.now c.loop-left.left (omega (arith, c.loop-left-test.false)))
