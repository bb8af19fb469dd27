use Prim.Native.Nat.{ℕ, ◌+◌}
use mathlib.Core.List.Memᴰ
use mathlib.Core.List.{[], ◌∷◌}
use mathlib.Core.Path.{◌≡◌, refl, sym, subst, ◌∙◌}
use native.Mathlib.Omega.{arith}
use Rattle.table_first_follow.specs.Rounds.{strings}
use Rattle.table_first_follow.specs.Parts.{siblings}
use Rattle.table_first_follow.proofs.PartLaws.{siblings_done, siblings_last, siblings_next}
use Rattle.table_conflicts.proofs.Walks.{lies, split_all}
use Rattle.table_conflicts.proofs.Lows.{share_none, share_next, share_done}
use Rattle.table_conflicts.proofs.windows.least_shared.Goals as goal

pub loop-at-init : goal.loop-at-init
loop-at-init c = let a = c.args in share_none (strings a.family.now) (siblings a.table.now a.start a.end) c.empty-seen.result.words a.start c.empty-seen.ensures (split_all a.table.now a.start a.end) (λ k m. (lies a.table.now a.end a.start k m).0)

pub returns-then-size-eq0 : goal.returns-then-size-eq0
returns-then-size-eq0 c = let a = c.args in let l = c.loop-at in let F = strings a.family.now in let whole = siblings a.table.now a.start a.end in share_done F whole c.union-seen.result.words c.lower-least.result (l.at + 1) [] refl (share_next F whole l.seen.words l.least l.at (l.at + 1) [] (siblings a.table.now l.at a.end) (siblings_last a.table.now a.end l.at c.loop-at-test.true (sym c.size_at-size.ensures.0 ∙ c.if-size-eq0.true)) l.invariant (omega arith) (λ k m. absurd (Memᴰ.not-nil m)) c.set_of-set.result.words c.union-seen.result.words c.shared.result c.lower-least.result c.set_of-set.ensures c.shared.ensures c.lower-least.ensures c.union-seen.ensures)

pub overflow_add-at : goal.overflow_add-at
overflow_add-at c = omega (arith, c.size_at-size.ensures.1, c.loop-at-test.true, c.requires.1)

pub loop-at-smaller : goal.loop-at-smaller
loop-at-smaller c = omega (arith, c.if-size-eq0.false, c.loop-at-test.true)

pub loop-at-preserved : goal.loop-at-preserved
loop-at-preserved c = let a = c.args in let l = c.loop-at in let F = strings a.family.now in let whole = siblings a.table.now a.start a.end in share_next F whole l.seen.words l.least l.at (l.at + c.size_at-size.result) (siblings a.table.now (l.at + c.size_at-size.result) a.end) (siblings a.table.now l.at a.end) (subst (λ (n : ℕ). siblings a.table.now l.at a.end ≡ l.at ∷ siblings a.table.now (l.at + n) a.end) (sym c.size_at-size.ensures.0) (siblings_next a.table.now a.end l.at c.loop-at-test.true (λ e. c.if-size-eq0.false (c.size_at-size.ensures.0 ∙ e)))) l.invariant (omega (arith, c.if-size-eq0.false)) (λ k m. (lies a.table.now a.end (l.at + c.size_at-size.result) k m).0) c.set_of-set.result.words c.union-seen.result.words c.shared.result c.lower-least.result c.set_of-set.ensures c.shared.ensures c.lower-least.ensures c.union-seen.ensures

pub returns : goal.returns
returns c = let a = c.args in let l = c.loop-at in share_done (strings a.family.now) (siblings a.table.now a.start a.end) l.seen.words l.least l.at (siblings a.table.now l.at a.end) (siblings_done a.table.now a.end l.at c.loop-at-test.false) l.invariant
