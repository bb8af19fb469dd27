-- Laws of words that are written one after the other.
-- Assumes nothing.
use Prim.Native.Nat.{ℕ, ◌+◌, ◌≤◌, ◌<◌}
use mathlib.Core.Path.{◌≡◌, refl, sym, ◌∙◌, subst}
use mathlib.Core.Logic.{◌⊎◌, inl, inr, ◌≢◌}
use mathlib.Core.List.{List}
use native.Mathlib.Decide.{ℕ_discrete}
use native.Mathlib.Omega.{arith}
use lib.ListN.{length, get_or, set, length-set}
use lib.Seq.{get_or-set_same, get_or-set_other}

-- the first k words from b on are as f says, and all others as they were
pub record Written (f : ℕ → ℕ) (old : List ℕ) (b k : ℕ) (new : List ℕ) : Type 0 where
  pub same_length : length new ≡ length old
  pub done : (m : ℕ) → m < k → get_or new (b + m) 0 ≡ f m
  pub rest : (n : ℕ) → (n < b) ⊎ (b + k ≤ n) → get_or new n 0 ≡ get_or old n 0

pub written_none : (f : ℕ → ℕ) (old : List ℕ) (b : ℕ) → Written f old b 0 old
written_none f old b = record { same_length = refl; done = λ m h. absurd (omega arith); rest = λ n h. refl }

module _ (f : ℕ → ℕ) (old : List ℕ) (b k : ℕ) (new : List ℕ) (w : Written f old b k new) where
  later : (n : ℕ) → (n < b) ⊎ (b + (k + 1) ≤ n) → get_or new n 0 ≡ get_or old n 0
  later n (inl a) = w.rest n (inl a)
  later n (inr a) = w.rest n (inr (omega arith))

  pub written_kept : get_or new (b + k) 0 ≡ f k → Written f old b (k + 1) new
  written_kept e = record { same_length = w.same_length; done = done; rest = later }
    where
      done : (m : ℕ) → m < k + 1 → get_or new (b + m) 0 ≡ f m
      done m h = elim (ℕ_discrete m k) [
        | yes z ↦ subst (λ (y : ℕ). get_or new (b + y) 0 ≡ f y) (sym z) e
        | no z ↦ w.done m (omega arith)
      ]

  pub written_set : (v : ℕ) → b + k < length old → v ≡ f k → Written f old b (k + 1) (set new (b + k) v)
  written_set v l e = record { same_length = length-set new (b + k) v ∙ w.same_length; done = done; rest = rest }
    where
      done : (m : ℕ) → m < k + 1 → get_or (set new (b + k) v) (b + m) 0 ≡ f m
      done m h = elim (ℕ_discrete m k) [
        | yes z ↦
            subst (λ (y : ℕ). get_or (set new (b + k) v) (b + y) 0 ≡ f y) (sym z) (get_or-set_same new (b + k) v 0 (omega (arith, w.same_length)) ∙ e)
        | no z ↦ get_or-set_other new (b + k) (b + m) v 0 (omega arith) ∙ w.done m (omega arith)
      ]

      apart : (n : ℕ) → (n < b) ⊎ (b + (k + 1) ≤ n) → n ≢ b + k
      apart n (inl a) = omega arith
      apart n (inr a) = omega arith

      rest : (n : ℕ) → (n < b) ⊎ (b + (k + 1) ≤ n) → get_or (set new (b + k) v) n 0 ≡ get_or old n 0
      rest n a = get_or-set_other new (b + k) n v 0 (apart n a) ∙ later n a

-- what no write came before is as it was
pub written_next : (f : ℕ → ℕ) (old : List ℕ) (b k : ℕ) (new : List ℕ) → Written f old b k new → get_or new (b + k) 0 ≡ get_or old (b + k) 0
written_next f old b k new w = w.rest (b + k) (inr (omega arith))
