-- Walks over the parts of a construct: how a loop goes on from one part to the next.
-- Assumes nothing.
use Prim.Native.Nat.{ℕ, zero, suc, ◌+◌, ◌-◌, ◌≤◌, ◌<◌}
use native.Mathlib.Omega.{arith}
use borrow.Author.Tests.{lt-ltb, le-ltb, eq-eqb, ne_eqb}
use mathlib.Core.Path.{◌≡◌, refl, sym, ◌∙◌, ap}
use mathlib.Core.List.{List}
use native.Mathlib.Decide.{dec_lt, ℕ_discrete}
use Rattle.table_layout.specs.Constructs.{construct_at}
use Rattle.table_layout.specs.Held.{size_of}
use Rattle.run_actions.specs.Acts.{walk}

pub positive : (n : ℕ) → (n ≡ 0 → ⊥) → 1 ≤ n
positive zero e = absurd (e refl)
positive (suc n) e = omega arith

module _ {A : Type 0} (visit : ℕ → A → A) (done broken : A) (ws : List ℕ) (end : ℕ) where
  abbrev size : ℕ → ℕ
  size j = size_of (construct_at ws j)

  -- past the end
  pub walk_end : (most j : ℕ) → end ≤ j → walk visit done broken most ws j end ≡ done
  unfolding walk
  walk_end zero j l = refl
  walk_end (suc most) j l = rw (le-ltb j end l, walk)

  step_missing : (most j : ℕ) → j < end → size j ≡ 0 → walk visit done broken (suc most) ws j end ≡ visit j broken
  unfolding walk
  step_missing most j l e = rw (lt-ltb j end l, eq-eqb (size j) 0 e, walk)

  step_part : (most j : ℕ) → j < end → (size j ≡ 0 → ⊥) → walk visit done broken (suc most) ws j end ≡ visit j (walk visit done broken most ws (j + size j) end)
  unfolding walk
  step_part most j l e = rw (lt-ltb j end l, ne_eqb (size j) 0 e, walk)

  -- more room than parts changes nothing
  walk_same : (m n j : ℕ) → end - j ≤ m → end - j ≤ n → walk visit done broken m ws j end ≡ walk visit done broken n ws j end
  walk_same zero n j l k = walk_end zero j (omega arith) ∙ sym (walk_end n j (omega arith))
  walk_same (suc m) zero j l k = walk_end (suc m) j (omega arith) ∙ sym (walk_end zero j (omega arith))
  walk_same (suc m) (suc n) j l k = elim (dec_lt j end) [
    | no e ↦ walk_end (suc m) j (omega arith) ∙ sym (walk_end (suc n) j (omega arith))
    | yes e ↦ elim (ℕ_discrete (size j) 0) [
      | yes z ↦ step_missing m j e z ∙ sym (step_missing n j e z)
      | no z ↦ (let p : 1 ≤ size j = positive (size j) z in step_part m j e z ∙ (ap (visit j) (walk_same m n (j + size j) (omega arith) (omega arith)) ∙ sym (step_part n j e z)))
    ]
  ]

  -- a missing part, and a part that is there
  pub walk_missing : (j : ℕ) → j < end → size j ≡ 0 → walk visit done broken (end - j) ws j end ≡ visit j broken
  walk_missing j l e = walk_same (end - j) (suc (end - j)) j (omega arith) (omega arith) ∙ step_missing (end - j) j l e

  pub walk_part : (j : ℕ) → j < end → (size j ≡ 0 → ⊥) → walk visit done broken (end - j) ws j end ≡ visit j (walk visit done broken (end - (j + size j)) ws (j + size j) end)
  walk_part j l e =
      walk_same (end - j) (suc (end - j)) j (omega arith) (omega arith)
      ∙ (step_part (end - j) j l e ∙ ap (visit j) (walk_same (end - j) (end - (j + size j)) (j + size j) (omega arith) (omega arith)))

  -- whatever stands after it, the first part is visited
  pub walk_first : (j : ℕ) → j < end → (rest : A) × (walk visit done broken (end - j) ws j end ≡ visit j rest)
  walk_first j l = elim (ℕ_discrete (size j) 0) [ yes z ↦ (broken, walk_missing j l z) | no z ↦ (walk visit done broken (end - (j + size j)) ws (j + size j) end, walk_part j l z) ]
