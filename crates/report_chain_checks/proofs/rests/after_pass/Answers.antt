use native.Mathlib.Omega.{arith}
use Prim.Native.Nat.{ℕ, ◌+◌}
use mathlib.Core.Path.{◌≡◌, sym, ap, ◌∙◌}
use mathlib.Core.List.{List, ◌++◌}
use lib.ListN.{replicate}
use Rattle.report_chain_steps.specs.Replayed.{stack}
use Rattle.report_chain_steps.proofs.Rules.{moved_pass, moved_to, bottom}
use Rattle.report_chain_checks.proofs.rests.after_pass.Goals as goal

pub returns-then-v-eq0 : goal.returns-then-v-eq0
returns-then-v-eq0 c = λ h. absurd (omega (arith, h))

pub returns-then-v-gt8 : goal.returns-then-v-gt8
returns-then-v-gt8 c = λ h. absurd (omega (arith, h))

pub overflow_add-p : goal.overflow_add-p
overflow_add-p c = omega (arith, c.requires)

pub overflow_add-result : goal.overflow_add-result
overflow_add-result c = omega (arith, c.requires)

pub returns-in-Repetition : goal.returns-in-Repetition
returns-in-Repetition c =
    let a = c.args in
    let is = stack a.table.now a.items.now a.depth in
    let q = c.below_copies in
    let z : q.result ≡ 0 = c.if-below_copies-eq0.true in
    λ h.
    moved_to a.table.now is a.p (a.p + 1) (a.p + 2) _ (omega arith)
    (moved_pass a.table.now a.p c.requires is _ _ a.v (sym c.construct_at.ensures ∙ c.in-Repetition.is) (omega (arith, c.if-v-eq0.false)) c.if-v-gt8.false
    (q.ensures (omega (arith, z)) a.table.now ∙ ap (λ (ks : List ℕ). replicate a.v (a.p + 1) ++ ks) (bottom a.table.now a.items.now q.result z)))

pub returns-in_default : goal.returns-in_default
returns-in_default c = λ h. absurd (omega (arith, h))

pub returns-else-below_copies-eq0 : goal.returns-else-below_copies-eq0
returns-else-below_copies-eq0 c = λ h. absurd (omega (arith, h))
