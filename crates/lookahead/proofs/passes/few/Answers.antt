use borrow.Author.Rules.{rules}
use Prim.Native.Nat.{ℕ}
use mathlib.Core.Path.{◌≡◌, subst}
use Rattle.lookahead.proofs.PassLaws.{Range, next_pass, range_one, range_more, range_counts, is_map}
use native.Mathlib.Omega.{arith}
use Rattle.lookahead.specs.Sets.{Has, Is}
use Rattle.lookahead.proofs.passes.few.Goals as goal

pub loop-k-init : goal.loop-k-init
loop-k-init c = (c.exactly-last.ensures, range_one _ _ _ c.exactly-last.ensures, search rules, search rules)

pub loop-k-preserved : goal.loop-k-preserved
loop-k-preserved c =
    let a = c.args in
    let t = c.loop-k in
    let p = next_pass (Has a.body.words) c.join-last.result.words a.body.words t.last.words t._k (λ s. ((λ h. h), (λ h. h))) t.invariant.0 c.join-last.ensures in
    (p, range_more (Has a.body.words) c.union-out.result.words t.out.words c.join-last.result.words a.low t._k t.invariant.2 t.invariant.1 p c.union-out.ensures, search rules, search rules)

pub returns : goal.returns
returns c =
    let a = c.args in
    let t = c.loop-k in
    is_map t.out.words (Range (Has a.body.words) a.low a.high) _ (range_counts (Has a.body.words) a.low a.high)
    (subst (λ (n : ℕ). Is t.out.words (Range (Has a.body.words) a.low n)) (let e : t._k ≡ a.high = omega arith in e) t.invariant.1)
