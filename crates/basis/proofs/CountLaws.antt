-- The sets of counts are what they are written as: whole numbers from 0, between ends that may lie below 0.
-- Assumes nothing.
use Prim.Native.Nat.{ℕ, ◌-◌, ◌≤◌}
use native.Mathlib.Omega.{arith}
use borrow.Author.Tests.{leb-true, leb-false}
use mathlib.Core.Path.{◌≡◌, refl, ap}
use mathlib.Core.Logic.{◌↔◌}
use mathlib.Core.Bool.{Bool, true, false}
use lib.Dec.{leb, leb→le, le→leb}
use lib.IntN.{ℤ, pos, negsuc}
use lib.Signed.{◌≤ℤ◌}
use Rattle.basis.specs.Counts.{Allows, least, between, exactly, at_least, span}

-- `{n}` is n alone, and no number where n is below 0
pub exactly_allows : (n : ℤ) (k : ℕ) → Allows (exactly n) k ↔ (n ≡ pos k)
unfolding exactly
exactly_allows (pos n) k = (λ a. ap pos (omega arith), λ e. let z : n ≡ k = cc in omega arith)
exactly_allows (negsuc n) k = (λ a. absurd a, λ e. let z : ◌≡◌ {A = ℕ} 0 1 = cc in absurd (omega arith))

-- the order of a whole number and a count
pub least_iff : (a : ℤ) (k : ℕ) → (least a ≤ k) ↔ (a ≤ℤ pos k)
least_iff (pos n) k = (λ l. record { le = le→leb n k l }, λ l. leb→le n k l.le)
least_iff (negsuc n) k = (λ l. record { le = tt }, λ l. omega arith)

-- `{a~}`
pub at_least_allows : (a : ℤ) (k : ℕ) → Allows (at_least a) k ↔ (a ≤ℤ pos k)
unfolding at_least
at_least_allows a k = least_iff a k

pub allows_between : (low high k : ℕ) → Allows (between low high) k ↔ ((low ≤ k) × (k ≤ high))
unfolding between
allows_between low high k = either (leb low high) refl
  where
    either : (b : Bool) → leb low high ≡ b → Allows (between low high) k ↔ ((low ≤ k) × (k ≤ high))
    either true e = let l = leb-true low high e in rw (e, between) (λ a. (a.0, omega arith), λ a. (a.0, omega arith))
    either false e = let l = leb-false low high e in rw (e, between) (λ a. absurd a, λ a. omega arith)

-- `{a~b}`
pub span_allows : (a b : ℤ) (k : ℕ) → Allows (span a b) k ↔ ((a ≤ℤ pos k) × (pos k ≤ℤ b))
unfolding span
span_allows a (pos b) k =
    let x = allows_between (least a) b k in
    let y = least_iff a k in
    (λ z. (y.0 (x.0 z).0, record { le = le→leb k b (x.0 z).1 }), λ z. x.1 (y.1 z.0, leb→le k b z.1.le))
span_allows a (negsuc b) k = (λ z. absurd z, λ z. z.1.le)
