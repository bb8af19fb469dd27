-- Members put in the place of the first entry are the theory's entries of them.
-- Assumes nothing.
use Prim.Native.Nat.{ℕ, zero, suc, ◌+◌, ◌-◌, ◌≤◌, ◌<◌}
use native.Mathlib.Omega.{arith}
use mathlib.Core.Path.{◌≡◌, ◌∙◌, ap, ap₂}
use mathlib.Core.List.{List, ◌∷◌, ◌++◌}
use lib.ListN.{length, get_or, set, length-set}
use lib.Seq.{get_or-set_same, get_or-set_other}
use Rattle.theory.specs.Machine.{entry, entries}
use Rattle.table_layout.specs.Held.{first_context}
use Rattle.table_wellformed.specs.Checks.{size_at}
use Rattle.run_steps.specs.Steps.{placed}
use Rattle.run_steps.proofs.Places.{placed_end, placed_next}
use Rattle.run_refinement.specs.Runs.{HeldEntry, pending}
use Rattle.run_refinement.proofs.Pending.{alike_set, pending_alike}
use Rattle.run_refinement.proofs.Walks.{Row}

-- the first of some members stands on top, the others below it
placed_part : (what : ℕ → ℕ) (ws : List ℕ) (end j k n : ℕ) (xs : List ℕ) → j < end → (size_at ws j ≡ 0 → ⊥) → k ≡ j + size_at ws j
    → placed what ws j end (suc n) xs ≡ placed what ws k end n (set xs n (what j))
placed_part what ws end j k n xs l z e =
    let y : suc n - 1 ≡ n = omega arith in
    placed_next what ws end j (suc n) xs l (λ x. omega arith) z ∙ (rw (y, e))

-- nothing is put above
placed_above : (what : ℕ → ℕ) {ws : List ℕ} {end j : ℕ} {js : List ℕ} → Row ws end j js
    → (n : ℕ) (xs : List ℕ) (i : ℕ) → length js ≤ n → n ≤ i → get_or (placed what ws j end n xs) i 0 ≡ get_or xs i 0
placed_above what {ws} {end} {j} (Row.past l) n xs i h m = ap (λ (ys : List ℕ). get_or ys i 0) (placed_end what ws end j n xs l)
placed_above what {ws} {end} {j} (Row.part l z e r) zero xs i h m = absurd (omega arith)
placed_above what {ws} {end} {j} (Row.part {k = k} {js = js} l z e r) (suc n) xs i h m =
    ap (λ (ys : List ℕ). get_or ys i 0) (placed_part what ws end j k n xs l z e)
    ∙ (placed_above what r n (set xs n (what j)) i (omega arith) (omega arith) ∙ get_or-set_other xs n i (what j) 0 (λ x. omega arith))

tops : (x y : List ℕ) (m j k : ℕ) → get_or x m 0 ≡ j → get_or y m 0 ≡ k → pending x y (suc m) ≡ entry j first_context k ∷ pending x y m
unfolding pending
tops x y m j k u v = ap₂ (λ (p q : ℕ). entry p first_context q ∷ pending x y m) u v

abbrev pub construct_put : ℕ → ℕ
construct_put j = j

abbrev pub passes_put : ℕ → ℕ
passes_put j = 0

-- n entries stand below the members
pub placed_pending : {ws : List ℕ} {end j : ℕ} {js : List ℕ} → Row ws end j js → (n : ℕ) (cs ps : List ℕ) → n + length js ≤ length cs → n + length js ≤ length ps
    → pending (placed construct_put ws j end (n + length js) cs) (placed passes_put ws j end (n + length js) ps) (n + length js) ≡ entries first_context js ++ pending cs ps n
placed_pending {ws} {end} {j} (Row.past l) n cs ps a b =
    let z : n + 0 ≡ n = omega arith in
    rw z (ap₂ (λ (x y : List ℕ). pending x y n) (placed_end construct_put ws end j n cs l) (placed_end passes_put ws end j n ps l))
placed_pending {ws} {end} {j} (Row.part {k = k} {js = js} l z e r) n cs ps a b =
    let m : ℕ = n + length js in
    let s : n + suc (length js) ≡ suc m = omega arith in
    let lc : m < length cs = omega arith in
    let lp : m < length ps = omega arith in
    let cs' : List ℕ = set cs m j in
    let ps' : List ℕ = set ps m 0 in
    let ec : length cs' ≡ length cs = length-set cs m j in
    let ep : length ps' ≡ length ps = length-set ps m 0 in
    let x : List ℕ = placed construct_put ws k end m cs' in
    let y : List ℕ = placed passes_put ws k end m ps' in
    let top : pending x y (suc m) ≡ entry j first_context 0 ∷ pending x y m = tops x y m j 0
    (placed_above construct_put r m cs' m (omega arith) (omega arith) ∙ get_or-set_same cs m j 0 lc)
    (placed_above passes_put r m ps' m (omega arith) (omega arith) ∙ get_or-set_same ps m 0 0 lp) in
    ap (λ (q : ℕ). pending (placed construct_put ws j end q cs) (placed passes_put ws j end q ps) q) s
    ∙ (ap₂ (λ (u v : List ℕ). pending u v (suc m)) (placed_part construct_put ws end j k m cs l z e) (placed_part passes_put ws end j k m ps l z e)
    ∙ (top
    ∙ ap (λ (es : List HeldEntry). entry j first_context 0 ∷ es)
    (placed_pending r n cs' ps' (omega arith) (omega arith)
    ∙ ap (λ (es : List HeldEntry). entries first_context js ++ es) (pending_alike n cs' cs ps' ps (alike_set n cs m j (omega arith)) (alike_set n ps m 0 (omega arith))))))
