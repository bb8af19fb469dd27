use native.Mathlib.Omega.{arith}
use mathlib.Core.Bool.{false≢true}
use Prim.Native.Nat.{ℕ, ◌+◌}
use mathlib.Core.Path.{◌≡◌, ap, ◌∙◌}
use mathlib.Core.List.{List, ◌++◌}
use borrow.Author.Tests.{eqb-true}
use Rattle.table_first_follow.specs.Parts.{siblings}
use Rattle.report_chain_steps.specs.Replayed.{stack}
use Rattle.report_chain_steps.proofs.Rules.{others, bottom}
use Rattle.report_chain_checks.proofs.rests.others_after.Goals as goal

pub returns-then-size-eq0 : goal.returns-then-size-eq0
returns-then-size-eq0 c = λ e. absurd (false≢true e)

pub overflow_add-m : goal.overflow_add-m
overflow_add-m c = omega (arith, c.size_at-size.ensures.1, c.if-m-lt256.true)

pub returns-then-m-lt256 : goal.returns-then-m-lt256
returns-then-m-lt256 c =
    let a = c.args in
    let q = c.below_parts in
    λ e l.
    let z : q.result ≡ 0 = eqb-true _ _ e in
    others a.table.now a.end a.m c.size_at-size.result (stack a.table.now a.items.now a.depth) l c.size_at-size.ensures.0 c.if-size-eq0.false
    (q.ensures (omega (arith, z)) ∙ ap (λ (ks : List ℕ). siblings a.table.now (a.m + c.size_at-size.result) a.end ++ ks) (bottom a.table.now a.items.now q.result z))

pub returns : goal.returns
returns c = λ e. absurd (false≢true e)
