use Prim.Native.Nat.{ℕ, ◌+◌, ◌-◌, ◌*◌, ◌^◌, ◌≤◌, ◌<◌}
use mathlib.Core.Path.{◌≡◌, refl, subst}
use native.Mathlib.Omega.{arith}
use Rattle.table_first_follow.specs.Fields.{Window, Names}
use Rattle.table_first_follow.proofs.WordLaws.{names_none, names_more, room_more, room_left, none_below, none_above}
use Rattle.table_first_follow.proofs.fields.word_of.Goals as goal

pub returns-then-first-strings : goal.returns-then-first-strings
returns-then-first-strings c = let a = c.args in λ w s i xs q p t. none_below w s i xs a.strings a.first q c.if-first-strings.true

pub returns-then-strings-first : goal.returns-then-strings-first
returns-then-strings-first c = let a = c.args in λ w s i xs q p t. none_above w s i xs a.strings a.first q c.if-strings-first.true

pub loop-n-init : goal.loop-n-init
loop-n-init c =
    let a = c.args in
    let z : 0 ≡ a.first + 64 - (a.first + 64) = omega arith in (
      (λ w s i xs q p t. names_none (Window w s i xs) (a.first + 64) (a.first + 64) (λ k h. absurd (omega arith))),
      subst (λ (m : ℕ). 0 < 2 ^ m) z (omega arith),
      omega arith,
      omega arith,
    )

pub overflow_mul-out : goal.overflow_mul-out
overflow_mul-out c =
    let a = c.args in
    let l = c.loop-n in
    let r : l.out < 2 ^ 63 = room_left (a.first + 64 - l.n) l.out (omega (arith, l.invariant.2, c.loop-n-test.true)) l.invariant.1 in
    omega arith

pub overflow_add-out : goal.overflow_add-out
overflow_add-out c =
    let a = c.args in
    let l = c.loop-n in
    let r : l.out < 2 ^ 63 = room_left (a.first + 64 - l.n) l.out (omega (arith, l.invariant.2, c.loop-n-test.true)) l.invariant.1 in
    omega arith

pub loop-n-preserved-then-leads : goal.loop-n-preserved-then-leads
loop-n-preserved-then-leads c =
    let a = c.args in
    let l = c.loop-n in
    let g : a.first < l.n = c.loop-n-test.true in
    let y : l.n ≤ a.first + 64 = l.invariant.3 in (
      (λ w s i xs q p t.
          let u = c.leads.ensures w s i xs q p t in
          names_more (Window w s i xs) l.n (a.first + 64) l.out (l.out * 2 + 1) 1 (omega arith) (omega arith) refl ((λ e. u.found c.if-leads.true), (λ e. refl)) (l.invariant.0 w s i xs q p t)),
      room_more (a.first + 64 - (l.n - 1)) (a.first + 64 - l.n) l.out (l.out * 2 + 1) 1 (omega arith) (omega arith) refl l.invariant.1,
      omega arith,
      omega arith,
    )

pub loop-n-preserved : goal.loop-n-preserved
loop-n-preserved c =
    let a = c.args in
    let l = c.loop-n in
    let g : a.first < l.n = c.loop-n-test.true in
    let y : l.n ≤ a.first + 64 = l.invariant.3 in
    let z : l.out * 2 ≡ l.out * 2 + 0 = omega arith in (
      (λ w s i xs q p t.
          let u = c.leads.ensures w s i xs q p t in
          names_more (Window w s i xs) l.n (a.first + 64) l.out (l.out * 2) 0 (omega arith) (omega arith) z ((λ e. absurd (omega arith)), (λ e. let b : ◌≡◌ {A = ℕ} 0 1 = cc (u.all e.0 e.1, c.if-leads.false) in b)) (l.invariant.0 w s i xs q p t)),
      room_more (a.first + 64 - (l.n - 1)) (a.first + 64 - l.n) l.out (l.out * 2) 0 (omega arith) (omega arith) z l.invariant.1,
      omega arith,
      omega arith,
    )

pub returns : goal.returns
returns c =
    let a = c.args in
    let l = c.loop-n in
    let e : l.n ≡ a.first = omega (arith, l.invariant.2, c.loop-n-test.false) in
    λ w s i xs q p t. subst (λ (n : ℕ). Names (Window w s i xs) n (a.first + 64) l.out) e (l.invariant.0 w s i xs q p t)
