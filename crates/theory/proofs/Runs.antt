-- Runs granted steps: grants add up, and a path of steps is what a grant does.
-- Assumes nothing.
use Prim.Native.Nat.{ℕ, zero, suc, ◌+◌, ◌-◌, ◌≤◌, ◌<◌}
use native.Mathlib.Omega.{arith}
use native.Mathlib.Nat.{add-zero, zero-add}
use mathlib.Core.Path.{◌≡◌, refl, ◌∙◌, ap}
use mathlib.Core.Logic.{◌⊎◌, inl, inr, ◌≢◌}
use mathlib.Core.List.{[], ◌∷◌}
use mathlib.Core.Option.{Option, none, some}
use Rattle.theory.specs.Grammar.{Grammar}
use Rattle.theory.specs.Machine.{Tests, State, state, Verdict, undecided, matched, unmatched, verdict, Run, run, verdict_of, taken_of, step, stepped, granted, taken}
use Rattle.theory.specs.Theorems.{AdditiveTheorem}
use Rattle.theory.proofs.Steps.{Goes, Stuck, Path}

module _ {Context Values : Type 0} (g : Grammar Context Values) (tests : Tests) where
  -- a run is undecided or decided
  pub settle : (d : Verdict) → (d ≡ undecided) ⊎ (d ≢ undecided)
  settle undecided = inl refl
  settle matched = inr (λ e. let z : ◌≡◌ {A = ℕ} 0 1 = cc in omega arith)
  settle unmatched = inr (λ e. let z : ◌≡◌ {A = ℕ} 0 1 = cc in omega arith)

  stepped_decided : (r : Run Context Values) → verdict_of r ≢ undecided → stepped g tests r ≡ r
  unfolding stepped
  stepped_decided (run σ n undecided) u = absurd (u refl)
  stepped_decided (run σ n matched) u = refl
  stepped_decided (run σ n unmatched) u = refl

  pub granted_decided : (n : ℕ) (r : Run Context Values) → verdict_of r ≢ undecided → granted g tests n r ≡ r
  unfolding granted
  granted_decided zero r u = refl
  granted_decided (suc n) r u = ap (granted g tests n) (stepped_decided r u) ∙ granted_decided n r u

  pub granted_sum : (m n : ℕ) (r : Run Context Values) → granted g tests (m + n) r ≡ granted g tests n (granted g tests m r)
  unfolding granted
  granted_sum zero n r = rw zero-add
  granted_sum (suc m) n r = let z : suc m + n ≡ suc (m + n) = omega arith in rw z (granted_sum m n (stepped g tests r))

  -- an stepped takes a step or leaves the run as it is
  stepped_grows : (r : Run Context Values) → taken_of r ≤ taken_of (stepped g tests r)
  unfolding stepped
  stepped_grows (run (state es s p v cs) n undecided) = one_more (step g tests (state es s p v cs)) refl
    where
      one_more : (o : Option (State Context Values)) → step g tests (state es s p v cs) ≡ o → n ≤ taken_of (stepped g tests (run (state es s p v cs) n undecided))
      one_more none e = rw (e, stepped) (omega arith)
      one_more (some τ) e = rw (e, stepped) (omega arith)
  stepped_grows (run σ n matched) = omega arith
  stepped_grows (run σ n unmatched) = omega arith

  pub granted_grows : (n : ℕ) (r : Run Context Values) → taken_of r ≤ taken_of (granted g tests n r)
  unfolding granted
  granted_grows zero r = omega arith
  granted_grows (suc n) r = let a = stepped_grows r in let b = granted_grows n (stepped g tests r) in omega arith

  pub additive : AdditiveTheorem g tests
  unfolding taken
  additive =
      record {
        granted_sum = granted_sum;
        taken_sum =
            λ m n r.
            let a = granted_grows m r in let b = granted_grows n (granted g tests m r) in rw (granted_sum m n r) (omega arith);
        decided_stays = λ n r u. (granted_decided n r u, rw (granted_decided n r u) (omega arith));
      }

  -- a state that is stepped on is undecided
  goes_undecided : {σ τ : State Context Values} → Goes g tests σ τ → verdict σ ≡ undecided
  unfolding verdict step
  goes_undecided {σ = state [] s p v cs} (Goes.goes e) = let z : ◌≡◌ {A = ℕ} 0 1 = cc in absurd (omega arith)
  goes_undecided {σ = state (x ∷ es) s p v cs} (Goes.goes e) = refl

  stepped_goes : {σ τ : State Context Values} (n : ℕ) → Goes g tests σ τ → stepped g tests (run σ n undecided) ≡ run τ (suc n) (verdict τ)
  unfolding stepped
  stepped_goes n (Goes.goes e) = rw (e, stepped)

  pub stepped_stuck : {σ : State Context Values} (n : ℕ) → Stuck g tests σ → stepped g tests (run σ n undecided) ≡ run σ (suc n) unmatched
  unfolding stepped
  stepped_stuck n (Stuck.stuck e) = rw (e, stepped)

  pub path_runs : {P : State Context Values → Type 0} {n : ℕ} {σ τ : State Context Values} (m : ℕ) → Path g tests P n σ τ → granted g tests n (run σ m (verdict σ)) ≡ run τ (m + n) (verdict τ)
  unfolding granted
  path_runs {σ = σ} m Path.here = rw add-zero
  path_runs {n = suc n} {σ = σ} {τ = τ} m (Path.next {ρ = ρ} p e q) =
      rw (goes_undecided e, stepped_goes m e) (path_runs (suc m) q ∙ (let z : suc m + n ≡ m + suc n = omega arith in rw z))

  -- before a path's end the run is undecided, and the path's invariant holds
  pub path_before : {P : State Context Values → Type 0} {n : ℕ} {σ τ : State Context Values} (m k : ℕ) → Path g tests P n σ τ → k < n
      → (ρ : State Context Values) × P ρ × (granted g tests k (run σ m (verdict σ)) ≡ run ρ (m + k) undecided)
  unfolding granted
  path_before m k Path.here l = absurd (omega arith)
  path_before {σ = σ} m zero (Path.next p e q) l = (σ, p, rw (goes_undecided e, add-zero))
  path_before {σ = σ} m (suc k) (Path.next p e q) l =
      let x = path_before (suc m) k q (omega arith) in
      (x.0, x.1, rw (goes_undecided e, stepped_goes m e) (x.2 ∙ (let z : suc m + k ≡ m + suc k = omega arith in rw z)))
