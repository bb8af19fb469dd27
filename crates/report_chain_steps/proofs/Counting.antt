-- Which passes fit a repetition's counts.
-- Assumes nothing.
use Prim.Native.Nat.{ℕ, ◌-◌, ◌≤◌, ◌<◌, min}
use mathlib.Core.Path.{◌≡◌, ap, ◌∙◌, subst}
use mathlib.Core.List.{List, ◌++◌}
use native.Mathlib.Omega.{arith}
use native.Mathlib.Decide.{ℕ_discrete}
use borrow.Author.Tests.{eq-eqb, ne_eqb}
use lib.ListN.{replicate}
use Rattle.basis.specs.Counts.{Counts, from, within, Allows}
use Rattle.report_chain_steps.specs.Replayed.{passes_of, Fits}

pub from_many : (low n : ℕ) → n ≡ 8 → Fits (from low) n
from_many low n e = (omega arith, rw (eq-eqb n 8 e) (omega arith))

pub from_few : (low n : ℕ) → n < 8 → low ≤ n → Fits (from low) n
from_few low n h l = (omega arith, rw (ne_eqb n 8 (λ e. omega arith)) l)

pub within_large : (low more n : ℕ) → n ≡ 8 → n < low → Fits (within low more) n
within_large low more n e h = (omega arith, rw (eq-eqb n 8 e) (omega arith, omega arith))

pub within_few : (low more n : ℕ) → n ≤ 8 → low ≤ n → n - low ≤ more → Fits (within low more) n
within_few low more n a b d = (a, elim (ℕ_discrete n 8) [ yes e ↦ rw (eq-eqb n 8 e) (omega arith, omega arith) | no e ↦ rw (ne_eqb n 8 e) (omega arith, omega arith) ])

capped : (counts : Counts) (n : ℕ) → n ≤ 8 → n ≡ min 8 (passes_of counts n)
capped counts n h = elim (ℕ_discrete n 8) [ yes e ↦ rw (eq-eqb n 8 e) (omega arith) | no e ↦ rw (ne_eqb n 8 e) (omega arith) ]

-- the passes that n stands for
pub passes_fit : (C D E : Counts) (n b : ℕ) (is js : List ℕ) → Fits C n → C ≡ D → E ≡ D → is ≡ replicate (passes_of E n) b ++ js
    → (k : ℕ) × Allows D k × (n ≡ min 8 k) × (is ≡ replicate k b ++ js)
passes_fit C D E n b is js f e q s =
    let g : Fits D n = subst (λ (x : Counts). Fits x n) e f in
    (passes_of D n, g.1, capped D n g.0, s ∙ ap (λ (x : Counts). replicate (passes_of x n) b ++ js) q)
