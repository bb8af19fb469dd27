-- Laws of the loops that sweep.
-- Assumes nothing.
use Prim.Native.Nat.{ℕ, zero, suc, ◌-◌, ◌≤◌, ◌<◌}
use native.Mathlib.Omega.{arith}
use mathlib.Core.Path.{◌≡◌, refl, sym, ap, ◌∙◌}
use mathlib.Core.List.{List, [], ◌∷◌}
use lib.ListN.{length, get_or, set, length-set}
use Rattle.table_weights.specs.Sweeps.{weighed, swept, settled}

pub swept_next : (ws xs : List ℕ) (i v : ℕ) → 0 < i → v ≡ weighed ws xs (i - 1) → swept ws (i - 1) (set xs (i - 1) v) ≡ swept ws i xs
unfolding swept
swept_next ws xs zero v h e = absurd (omega arith)
swept_next ws xs (suc i) v h e = let z : suc i - 1 ≡ i = omega arith in rw (e, z)

-- a weight that is there already
set_own : (xs : List ℕ) (i : ℕ) → set xs i (get_or xs i 0) ≡ xs
set_own [] i = refl
set_own (x ∷ xs) zero = refl
set_own (x ∷ xs) (suc i) = ap (λ (l : List ℕ). x ∷ l) (set_own xs i)

pub swept_kept : (ws xs : List ℕ) (i v : ℕ) → 0 < i → v ≡ weighed ws xs (i - 1) → get_or xs (i - 1) 0 ≡ v → swept ws (i - 1) xs ≡ swept ws i xs
swept_kept ws xs i v h e f = ap (swept ws (i - 1)) (sym (set_own xs (i - 1))) ∙ swept_next ws xs i (get_or xs (i - 1) 0) h (f ∙ e)

pub swept_done : (ws xs : List ℕ) (i : ℕ) → i ≤ 0 → swept ws i xs ≡ xs
unfolding swept
swept_done ws xs zero h = refl
swept_done ws xs (suc i) h = absurd (omega arith)

pub swept_length : (ws : List ℕ) (n : ℕ) (xs : List ℕ) → length (swept ws n xs) ≡ length xs
unfolding swept
swept_length ws zero xs = refl
swept_length ws (suc i) xs = swept_length ws i (set xs i (weighed ws xs i)) ∙ length-set xs i (weighed ws xs i)

pub settled_next : (ws xs : List ℕ) (n k : ℕ) → 0 < k → settled ws n (k - 1) (swept ws n xs) ≡ settled ws n k xs
unfolding settled
settled_next ws xs n zero h = absurd (omega arith)
settled_next ws xs n (suc k) h = let z : suc k - 1 ≡ k = omega arith in rw z

pub settled_done : (ws xs : List ℕ) (n k : ℕ) → k ≤ 0 → settled ws n k xs ≡ xs
unfolding settled
settled_done ws xs n zero h = refl
settled_done ws xs n (suc k) h = absurd (omega arith)

-- after a sweep that changes nothing no other does
pub settled_kept : (ws xs : List ℕ) (n k : ℕ) → swept ws n xs ≡ xs → settled ws n k xs ≡ xs
unfolding settled
settled_kept ws xs n zero e = refl
settled_kept ws xs n (suc k) e = ap (settled ws n k) e ∙ settled_kept ws xs n k e
