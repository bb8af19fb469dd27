use native.Mathlib.Omega.{arith}
use Prim.Native.Nat.{ℕ, ◌+◌, ◌-◌}
use mathlib.Core.Path.{◌≡◌, ap, ◌∙◌}
use mathlib.Core.List.{List, ◌∷◌, ◌++◌}
use lib.ListN.{replicate}
use Rattle.report_chain_steps.specs.Replayed.{stack}
use Rattle.report_chain_steps.proofs.Stacks.{one_more}
use Rattle.report_chain_steps.proofs.stack.below_copies.Goals as goal

pub loop-k-init : goal.loop-k-init
loop-k-init c =
    let a = c.args in
    let z : a.n - 0 ≡ a.n = omega arith in
    λ h ws is e. e ∙ ap (λ (k : ℕ). replicate k a.b ++ is) z

pub loop-k-preserved : goal.loop-k-preserved
loop-k-preserved c =
    let a = c.args in
    let l = c.loop-k in
    let q = c.below_top-d.ensures in
    λ h ws is e. l.invariant (q h).0 ws is ((q h).1 ws ∙ ap (λ (ks : List ℕ). a.b ∷ ks) e ∙ one_more (a.n - (l._k + 1)) (a.n - l._k) a.b is (omega (arith, c.loop-k-test.true)))

pub returns : goal.returns
returns c =
    let a = c.args in
    let l = c.loop-k in
    let z : 0 ≡ a.n - l._k = omega (arith, c.loop-k-test.false) in
    λ h ws. l.invariant h ws (stack ws a.items.now l.d) (ap (λ (k : ℕ). replicate k a.b ++ stack ws a.items.now l.d) z)
