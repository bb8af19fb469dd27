-- Warshall's closure is reachability.
-- Assumes nothing.
use Prim.Native.Nat.{ℕ, zero, suc, ◌≤◌, ◌<◌}
use native.Mathlib.Decide.{dec_lt}
use native.Mathlib.Omega.{arith}
use mathlib.Core.Path.{◌≡◌, sym, subst}
use mathlib.Core.Logic.{◌⊎◌, inl, inr}
use Rattle.table_reach.specs.Closure.{closure}

-- a chain from r to q whose inner numbers are below k
pub data Chain (u : ℕ → ℕ → ℕ) (k : ℕ) : ℕ → ℕ → Type 0 where
  link : {r q : ℕ} → u r q ≡ 1 → Chain u k r q
  longer : {r p q : ℕ} → u r p ≡ 1 → p < k → Chain u k p q → Chain u k r q

-- inner numbers below k + 1: none is k, or the chain goes through k
split_cases : (u : ℕ → ℕ → ℕ) (k : ℕ) {r p q : ℕ} → u r p ≡ 1 → p < suc k → Chain u k p q ⊎ (Chain u k p k × Chain u k k q) → Chain u k r q ⊎ (Chain u k r k × Chain u k k q)
split_cases u k {r} {p} {q} e h x = elim (dec_lt p k) [
  | yes l ↦ elim x [ inl d ↦ inl (Chain.longer e l d) | inr d ↦ inr (Chain.longer e l d.0, d.1) ]
  | no l ↦ let z : p ≡ k = omega arith in let f : u r k ≡ 1 = rw (sym z) e in elim x [ inl d ↦ inr (Chain.link f, subst (λ (x : ℕ). Chain u k x q) z d) | inr d ↦ inr (Chain.link f, d.1) ]
]

split : (u : ℕ → ℕ → ℕ) (k : ℕ) {r q : ℕ} → Chain u (suc k) r q → Chain u k r q ⊎ (Chain u k r k × Chain u k k q)
split u k (Chain.link e) = inl (Chain.link e)
split u k (Chain.longer e h d) = split_cases u k e h (split u k d)

module _ (u : ℕ → ℕ → ℕ) (binary : (r q : ℕ) → u r q ≤ 1) where
  pub closure_binary : (k r q : ℕ) → closure u k r q ≤ 1
  unfolding closure
  closure_binary zero r q = binary r q
  closure_binary (suc k) r q = omega (arith, closure_binary k r q, closure_binary k r k, closure_binary k k q)

  pub chain_closure : (k : ℕ) {r q : ℕ} → Chain u k r q → closure u k r q ≡ 1
  unfolding closure
  chain_closure zero (Chain.link e) = e
  chain_closure zero (Chain.longer e h d) = absurd (omega arith)
  chain_closure (suc k) {r} {q} d = elim (split u k d) [
    | inl a ↦ omega (arith, chain_closure k a, closure_binary k r k, closure_binary k k q, closure_binary k r q)
    | inr a ↦ omega (arith, chain_closure k a.0, chain_closure k a.1, closure_binary k r q)
  ]

-- a relation that holds u and is transitive at numbers below n holds the closure by way of those
module _ (u : ℕ → ℕ → ℕ) (binary : (r q : ℕ) → u r q ≤ 1) (R : ℕ → ℕ → Type 0) (n : ℕ) (holds : (r q : ℕ) → u r q ≡ 1 → R r q)
    (joins : (r p q : ℕ) → p < n → R r p → R p q → R r q) where
  pub closure_least : (k r q : ℕ) → k ≤ n → closure u k r q ≡ 1 → R r q
  unfolding closure
  closure_least zero r q h e = holds r q e
  closure_least (suc k) r q h e = elim (dec_lt (closure u k r q) 1) [
    | no l ↦ closure_least k r q (omega arith) (omega (arith, closure_binary u binary k r q))
    | yes l ↦
        joins r k q (omega arith) (closure_least k r k (omega arith) (omega (arith, closure_binary u binary k r k, closure_binary u binary k k q)))
        (closure_least k k q (omega arith) (omega (arith, closure_binary u binary k r k, closure_binary u binary k k q)))
  ]
