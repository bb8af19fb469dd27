-- Members put below each other, one at a time; a value bound.
-- Assumes nothing.
use Prim.Native.Nat.{ℕ, zero, suc, ◌+◌, ◌-◌, ◌≤◌, ◌<◌}
use native.Mathlib.Omega.{arith}
use borrow.Author.Tests.{eq-eqb, ne_eqb}
use mathlib.Core.Path.{◌≡◌, refl, ◌∙◌, ap}
use mathlib.Core.Bool.{Bool, cond}
use mathlib.Core.List.{List}
use lib.IntN.{ℤ}
use lib.ListN.{set}
use Rattle.table_layout.specs.Constructs.{construct_at}
use Rattle.table_layout.specs.Held.{size_of}
use Rattle.run_actions.specs.Acts.{walk}
use Rattle.run_actions.proofs.Walks.{walk_end, walk_missing, walk_part, walk_first}
use Rattle.run_steps.specs.Steps.{put, placed, bind}

pub bind_one : (b : ℕ) (n : ℤ) (vs : List ℤ) → 0 < b → bind b n vs ≡ set vs (b - 1) n
bind_one zero n vs l = absurd (omega arith)
bind_one (suc x) n vs l = ap (λ (k : ℕ). set vs k n) (let e : x ≡ suc x - 1 = omega arith in e)

pub bind_none : (b : ℕ) (n : ℤ) (vs : List ℤ) → b ≤ 0 → bind b n vs ≡ vs
bind_none zero n vs l = refl
bind_none (suc x) n vs l = absurd (omega arith)

abbrev Put : Type 0
Put = ℕ → List ℕ → List ℕ

module _ (what : ℕ → ℕ) (ws : List ℕ) (end : ℕ) where
  abbrev size : ℕ → ℕ
  size j = size_of (construct_at ws j)

  abbrev same : Put
  same k xs = xs

  pub placed_end : (j k : ℕ) (xs : List ℕ) → end ≤ j → placed what ws j end k xs ≡ xs
  unfolding placed
  placed_end j k xs l = ap (λ (f : Put). f k xs) (walk_end {A = Put} (put what) same same ws end (end - j) j l)

  pub placed_full : (j k : ℕ) (xs : List ℕ) → j < end → k ≡ 0 → placed what ws j end k xs ≡ xs
  unfolding placed
  placed_full j k xs l z =
      let x = walk_first {A = Put} (put what) same same ws end j l in
      ap (λ (f : Put). f k xs) x.1 ∙ ap (λ (t : Bool). cond t xs (x.0 (k - 1) (set xs (k - 1) (what j)))) (eq-eqb k 0 z)

  pub placed_missing : (j k : ℕ) (xs : List ℕ) → j < end → (k ≡ 0 → ⊥) → size j ≡ 0 → placed what ws j end k xs ≡ set xs (k - 1) (what j)
  unfolding placed
  placed_missing j k xs l n z =
      ap (λ (f : Put). f k xs) (walk_missing {A = Put} (put what) same same ws end j l z) ∙ ap (λ (t : Bool). cond t xs (set xs (k - 1) (what j))) (ne_eqb k 0 n)

  pub placed_next : (j k : ℕ) (xs : List ℕ) → j < end → (k ≡ 0 → ⊥) → (size j ≡ 0 → ⊥) → placed what ws j end k xs ≡ placed what ws (j + size j) end (k - 1) (set xs (k - 1) (what j))
  unfolding placed
  placed_next j k xs l n z =
      ap (λ (f : Put). f k xs) (walk_part {A = Put} (put what) same same ws end j l z)
      ∙ ap (λ (t : Bool). cond t xs (walk {A = Put} (put what) same same (end - (j + size j)) ws (j + size j) end (k - 1) (set xs (k - 1) (what j)))) (ne_eqb k 0 n)
