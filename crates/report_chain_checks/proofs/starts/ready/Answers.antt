use native.Mathlib.Omega.{arith}
use mathlib.Core.Bool.{false≢true}
use Prim.Native.Nat.{ℕ}
use mathlib.Core.Path.{◌≡◌, subst}
use Rattle.report_chain_steps.specs.Replayed.{row, stack, FirstOf}
use Rattle.report_chain_steps.proofs.Readiness.{none_ready, rows_ready}
use Rattle.report_chain_checks.proofs.starts.ready.Goals as goal

pub loop-d-init : goal.loop-d-init
unfolding stack
loop-d-init c = (omega arith, λ ws s. none_ready ws)

pub returns-then-not-row_ready : goal.returns-then-not-row_ready
returns-then-not-row_ready c = λ e. absurd (false≢true e)

pub loop-d-preserved : goal.loop-d-preserved
loop-d-preserved c =
    let a = c.args in
    let l = c.loop-d in (
      omega (arith, c.loop-d-test.true),
      λ ws s. rows_ready ws a.items.now l.d (subst (λ (k : ℕ). FirstOf ws (row ws k)) c.number_at.ensures (c.row_ready.ensures c.if-not-row_ready.false ws s)) (l.invariant.1 ws s),
    )

pub returns : goal.returns
returns c =
    let a = c.args in
    let l = c.loop-d in
    let z : l.d ≡ a.depth = omega (arith, l.invariant.0, c.loop-d-test.false) in
    λ e ws s. subst (λ (k : ℕ). FirstOf ws (stack ws a.items.now k)) z (l.invariant.1 ws s)
