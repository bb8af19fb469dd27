use Prim.Native.Nat.{ℕ, ◌+◌}
use mathlib.Core.Bool.{false≢true}
use mathlib.Core.List.Memᴰ
use mathlib.Core.List.{[], ◌∷◌}
use mathlib.Core.Path.{◌≡◌, refl, sym, subst, ◌∙◌}
use native.Mathlib.Omega.{arith}
use Rattle.table_first_follow.specs.Rounds.{strings}
use Rattle.table_first_follow.specs.Parts.{siblings}
use Rattle.table_first_follow.proofs.PartLaws.{siblings_done, siblings_last, siblings_next}
use Rattle.table_conflicts.proofs.Walks.{lies, split_all, parted}
use Rattle.table_conflicts.proofs.Lows.{seek_none, seek_next, seek_found, seek_done}
use Rattle.table_conflicts.proofs.windows.holder.Goals as goal

pub loop-at-init : goal.loop-at-init
loop-at-init c = let a = c.args in seek_none (strings a.family.now) (siblings a.table.now a.start a.end) a.from a.n a.end a.start (split_all a.table.now a.start a.end) (λ k m. (lies a.table.now a.end a.start k m).0)

pub returns-then-holds : goal.returns-then-holds
returns-then-holds c = let a = c.args in let l = c.loop-at in let F = strings a.family.now in let whole = siblings a.table.now a.start a.end in let p = parted a.table.now a.end l.at c.loop-at-test.true in seek_found F whole a.from a.n a.end l.at p.next p.rest (siblings a.table.now l.at a.end) p.split l.invariant p.on p.past c.loop-at-test.true (c.holds.ensures.0 c.if-holds.true)

pub returns-then-size-eq0 : goal.returns-then-size-eq0
returns-then-size-eq0 c = let a = c.args in let l = c.loop-at in let F = strings a.family.now in let whole = siblings a.table.now a.start a.end in seek_done F whole a.from a.n a.end (l.at + 1) [] refl (seek_next F whole a.from a.n a.end l.at (l.at + 1) [] (siblings a.table.now l.at a.end) (siblings_last a.table.now a.end l.at c.loop-at-test.true (sym c.size_at-size.ensures.0 ∙ c.if-size-eq0.true)) l.invariant (omega arith) (λ k m. absurd (Memᴰ.not-nil m)) (λ h. false≢true (sym c.if-holds.false ∙ c.holds.ensures.1 h)))

pub overflow_add-at : goal.overflow_add-at
overflow_add-at c = omega (arith, c.size_at-size.ensures.1, c.loop-at-test.true, c.requires.1)

pub loop-at-smaller : goal.loop-at-smaller
loop-at-smaller c = omega (arith, c.if-size-eq0.false, c.loop-at-test.true)

pub loop-at-preserved : goal.loop-at-preserved
loop-at-preserved c = let a = c.args in let l = c.loop-at in let F = strings a.family.now in let whole = siblings a.table.now a.start a.end in seek_next F whole a.from a.n a.end l.at (l.at + c.size_at-size.result) (siblings a.table.now (l.at + c.size_at-size.result) a.end) (siblings a.table.now l.at a.end) (subst (λ (n : ℕ). siblings a.table.now l.at a.end ≡ l.at ∷ siblings a.table.now (l.at + n) a.end) (sym c.size_at-size.ensures.0) (siblings_next a.table.now a.end l.at c.loop-at-test.true (λ e. c.if-size-eq0.false (c.size_at-size.ensures.0 ∙ e)))) l.invariant (omega (arith, c.if-size-eq0.false)) (λ k m. (lies a.table.now a.end (l.at + c.size_at-size.result) k m).0) (λ h. false≢true (sym c.if-holds.false ∙ c.holds.ensures.1 h))

pub returns : goal.returns
returns c = let a = c.args in let l = c.loop-at in seek_done (strings a.family.now) (siblings a.table.now a.start a.end) a.from a.n a.end l.at (siblings a.table.now l.at a.end) (siblings_done a.table.now a.end l.at c.loop-at-test.false) l.invariant
