-- The two arrays of a run as a list of pending entries, and the words of its reading as fields: what writing does to them.
-- Assumes nothing.
use Prim.Native.Nat.{ℕ, zero, suc, ◌+◌, ◌*◌, ◌-◌, ◌≤◌, ◌<◌}
use native.Mathlib.Omega.{arith}
use mathlib.Core.Path.{◌≡◌, refl, ◌∙◌, ap, ap₂}
use mathlib.Core.List.{List, [], ◌∷◌, ◌++◌}
use lib.ListN.{length, get_or, set, length-set, length-append}
use lib.Seq.{get_or-set_same, get_or-set_other}
use Rattle.theory.specs.Machine.{entry}
use Rattle.table_layout.specs.Held.{first_context}
use Rattle.run_refinement.specs.Runs.{pending, recorded}

-- lists that agree up to n give the same entries, and the same fields
abbrev pub Alike : ℕ → List ℕ → List ℕ → Type 0
Alike n xs ys = (k : ℕ) → k < n → get_or xs k 0 ≡ get_or ys k 0

pub alike_set : (n : ℕ) (xs : List ℕ) (i a : ℕ) → n ≤ i → Alike n (set xs i a) xs
alike_set n xs i a l k m = get_or-set_other xs i k a 0 (λ e. omega arith)

pub pending_alike : (n : ℕ) (cs cs' ps ps' : List ℕ) → Alike n cs cs' → Alike n ps ps' → pending cs ps n ≡ pending cs' ps' n
unfolding pending
pending_alike zero cs cs' ps ps' a b = refl
pending_alike (suc n) cs cs' ps ps' a b =
    ap₂ ◌∷◌ (ap₂ (λ (x y : ℕ). entry x first_context y) (a n (omega arith)) (b n (omega arith)))
    (pending_alike n cs cs' ps ps' (λ k l. a k (omega arith)) (λ k l. b k (omega arith)))

pub recorded_alike : (n : ℕ) (rs rs' : List ℕ) → Alike (2 * n) rs rs' → recorded rs n ≡ recorded rs' n
unfolding recorded
recorded_alike zero rs rs' a = refl
recorded_alike (suc n) rs rs' a =
    ap₂ ◌++◌ (recorded_alike n rs rs' (λ k l. a k (omega arith)))
    (ap₂ (λ (x y : ℕ). record { construct = x; first_bit = y } ∷ []) (a (2 * n) (omega arith)) (a (2 * n + 1) (omega arith)))

-- the first entry, and those after it
pub pending_first : (cs ps : List ℕ) (n : ℕ) → 0 < n → pending cs ps n ≡ entry (get_or cs (n - 1) 0) first_context (get_or ps (n - 1) 0) ∷ pending cs ps (n - 1)
unfolding pending
pending_first cs ps zero l = absurd (omega arith)
pending_first cs ps (suc n) l = let z : suc n - 1 ≡ n = omega arith in rw z

pub pending_length : (cs ps : List ℕ) (n : ℕ) → length (pending cs ps n) ≡ n
unfolding pending
pending_length cs ps zero = refl
pending_length cs ps (suc n) = ap suc (pending_length cs ps n)

pub recorded_length : (rs : List ℕ) (n : ℕ) → length (recorded rs n) ≡ n
unfolding recorded
recorded_length rs zero = refl
recorded_length rs (suc n) = simp (length-append, recorded_length rs n) (omega arith)

-- one entry written over the first, or put above it
pub pending_top : (cs ps : List ℕ) (n i k : ℕ) → n < length cs → n < length ps → pending (set cs n i) (set ps n k) (suc n) ≡ entry i first_context k ∷ pending cs ps n
unfolding pending
pending_top cs ps n i k l m =
    ap₂ ◌∷◌ (ap₂ (λ (x y : ℕ). entry x first_context y) (get_or-set_same cs n i 0 l) (get_or-set_same ps n k 0 m))
    (pending_alike n (set cs n i) cs (set ps n k) ps (alike_set n cs n i (omega arith)) (alike_set n ps n k (omega arith)))

-- one more field
pub recorded_more : (rs : List ℕ) (n i p : ℕ) → 2 * n + 2 ≤ length rs
    → recorded (set (set rs (2 * n) i) (2 * n + 1) p) (suc n) ≡ recorded rs n ++ (record { construct = i; first_bit = p } ∷ [])
unfolding recorded
recorded_more rs n i p l =
    let xs : List ℕ = set rs (2 * n) i in
    let l₁ : 2 * n < length rs = omega arith in
    let l₂ : 2 * n + 1 < length xs = (let e : length xs ≡ length rs = length-set rs (2 * n) i in omega arith) in
    let a : get_or (set xs (2 * n + 1) p) (2 * n) 0 ≡ i = get_or-set_other xs (2 * n + 1) (2 * n) p 0 (λ e. omega arith) ∙ get_or-set_same rs (2 * n) i 0 l₁ in
    let b : get_or (set xs (2 * n + 1) p) (2 * n + 1) 0 ≡ p = get_or-set_same xs (2 * n + 1) p 0 l₂ in
    ap₂ ◌++◌
    (recorded_alike n (set xs (2 * n + 1) p) rs (λ k m. get_or-set_other xs (2 * n + 1) k p 0 (λ e. omega arith) ∙ get_or-set_other rs (2 * n) k i 0 (λ e. omega arith)))
    (ap₂ (λ (x y : ℕ). record { construct = x; first_bit = y } ∷ []) a b)
