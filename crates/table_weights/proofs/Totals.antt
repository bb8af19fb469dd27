-- Totals over the numbers below n at which f is 1: more of them, a larger total.
-- Assumes nothing.
use Prim.Native.Nat.{ℕ, zero, suc, ◌+◌, ◌≤◌, ◌<◌}
use native.Mathlib.Decide.{dec_lt}
use native.Mathlib.Omega.{arith}
use mathlib.Core.Path.{◌≡◌, refl, ap}

-- x where the number is not 0
abbrev pub gate : ℕ → ℕ → ℕ
gate zero x = 0
gate (suc n) x = x

unfoldable pub total : ℕ → (ℕ → ℕ) → (ℕ → ℕ) → ℕ
total zero f g = 0
total (suc n) f g = gate (f n) (g n) + total n f g

gate_mono : (a b x : ℕ) → a ≤ b → gate a x ≤ gate b x
gate_mono zero b x h = omega arith
gate_mono (suc a) zero x h = absurd (omega arith)
gate_mono (suc a) (suc b) x h = omega arith

gate_open : (a b x : ℕ) → a ≡ 0 → b ≡ 1 → gate a x + x ≤ gate b x
gate_open zero zero x e f = absurd (omega arith)
gate_open zero (suc b) x e f = omega arith
gate_open (suc a) b x e f = absurd (omega arith)

module _ (f h g : ℕ → ℕ) where
  pub total_mono : (n : ℕ) → ((q : ℕ) → q < n → f q ≤ h q) → total n f g ≤ total n h g
  unfolding total
  total_mono zero l = omega arith
  total_mono (suc n) l = omega (arith, gate_mono (f n) (h n) (g n) (l n (omega arith)), total_mono n (λ q k. l q (omega arith)))

  -- one more
  pub total_more : (n p : ℕ) → p < n → f p ≡ 0 → h p ≡ 1 → ((q : ℕ) → q < n → f q ≤ h q) → total n f g + g p ≤ total n h g
  unfolding total
  total_more zero p k a b l = absurd (omega arith)
  total_more (suc n) p k a b l = elim (dec_lt p n) [
    | yes m ↦ omega (arith, gate_mono (f n) (h n) (g n) (l n (omega arith)), total_more n p m a b (λ q k. l q (omega arith)))
    | no m ↦
        let e : p ≡ n = omega arith in
        let x : f n ≡ 0 = rw (← e) a in
        let y : h n ≡ 1 = rw (← e) b in
        let z : g p ≡ g n = ap g e in
        omega (arith, gate_open (f n) (h n) (g n) x y, total_mono n (λ q k. l q (omega arith)))
  ]

-- all of them
abbrev pub all : ℕ → ℕ
all q = 1

pub total_ones : (n : ℕ) → total n all (λ q. 1) ≡ n
unfolding total
total_ones zero = refl
total_ones (suc n) = omega (arith, total_ones n)
