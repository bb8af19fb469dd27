-- Sums of numbers one after the other, and the first number that passes a test.
-- Assumes nothing.
use Prim.Native.Nat.{ℕ, zero, suc, ◌+◌, ◌-◌, ◌≤◌, ◌<◌}
use mathlib.Core.Path.{◌≡◌, refl, sym, ap, ap₂, ◌∙◌}
use mathlib.Core.Bool.{Bool, true, false, cond}
use mathlib.Core.List.{List}
use native.Mathlib.Omega.{arith}
use lib.Dec.{leb}
use borrow.Author.Tests.{le-leb, lt-leb}
use Rattle.text_store.specs.Words.{is_binder, first_node}
use Rattle.text_encoding.specs.Lists.{sum, first_of}
use Rattle.text_encoding.specs.Numbers.{first_at, binds_one, binders_before}

-- ---- sums

sum_more : (n i : ℕ) (f : ℕ → ℕ) → sum (suc n) i f ≡ sum n i f + f (i + n)
unfolding sum
sum_more zero i f = let e : f i ≡ f (i + 0) = ap f (let z : i ≡ i + 0 = omega arith in z) in omega (arith, e)
sum_more (suc n) i f =
    let e : f (i + 1 + n) ≡ f (i + suc n) = ap f (let z : i + 1 + n ≡ i + suc n = omega arith in z) in
    let h : sum (suc n) (i + 1) f ≡ sum n (i + 1) f + f (i + 1 + n) = sum_more n (i + 1) f in
    omega (arith, e, h)

pub sum_next : (n : ℕ) (f : ℕ → ℕ) → sum (n + 1) 0 f ≡ sum n 0 f + f n
sum_next n f = (λ t. sum ((let z : n + 1 ≡ suc n = omega arith in z) t) 0 f) ∙ sum_more n 0 f ∙ ap (sum n 0 f +◌) (ap f (let z : 0 + n ≡ n = omega arith in z))

pub sum_none : (f : ℕ → ℕ) → 0 ≡ sum 0 0 f
unfolding sum
sum_none f = refl

sum_adds : (m n : ℕ) (f : ℕ → ℕ) → sum n 0 f ≤ sum (n + m) 0 f
sum_adds zero n f = let e : sum n 0 f ≡ sum (n + 0) 0 f = ap (λ (k : ℕ). sum k 0 f) (let z : n ≡ n + 0 = omega arith in z) in omega arith
sum_adds (suc m) n f =
    let e : sum (n + m + 1) 0 f ≡ sum (n + suc m) 0 f = ap (λ (k : ℕ). sum k 0 f) (let z : n + m + 1 ≡ n + suc m = omega arith in z) in
    omega (arith, e, sum_adds m n f, sum_next (n + m) f)

-- a sum of fewer is no more
pub sum_grows : (m n : ℕ) (f : ℕ → ℕ) → m ≤ n → sum m 0 f ≤ sum n 0 f
sum_grows m n f h =
    let e : sum (m + (n - m)) 0 f ≡ sum n 0 f = ap (λ (k : ℕ). sum k 0 f) (let z : m + (n - m) ≡ n = omega arith in z) in
    omega (arith, e, sum_adds (n - m) m f)

-- one of the numbers goes into the sum
pub sum_holds : (i n : ℕ) (f : ℕ → ℕ) → i < n → sum i 0 f + f i ≤ sum n 0 f
sum_holds i n f h = omega (arith, sum_next i f, sum_grows (i + 1) n f (let z : i + 1 ≤ n = omega arith in z))

-- one number more
pub sum_turn : (i a s : ℕ) (f : ℕ → ℕ) → s ≡ sum i 0 f → a ≡ f i → s + a ≡ sum (i + 1) 0 f
sum_turn i a s f e g = ap₂ ◌+◌ e g ∙ sym (sum_next i f)

-- numbers that are 0 or 1
sum_most : (n i : ℕ) (f : ℕ → ℕ) → ((j : ℕ) → f j ≤ 1) → sum n i f ≤ n
unfolding sum
sum_most zero i f h = omega arith
sum_most (suc n) i f h = omega (arith, h i, sum_most n (i + 1) f h)

bit : (b : Bool) → cond b 1 0 ≤ 1
bit true = omega arith
bit false = omega arith

pub binders_most : (ns : List ℕ) (i : ℕ) → binders_before ns i ≤ i
binders_most ns i = sum_most i 0 (binds_one ns) (λ j. bit (is_binder ns j))

-- ---- the first that passes

-- none so far
pub record Seeking (n first : ℕ) (f : ℕ → Bool) (left i : ℕ) : Type 0 where
  pub whole : first_of left i f ≡ first_of n first f

pub seeking_start : {n first left i : ℕ} {f : ℕ → Bool} → left ≡ n → i ≡ first → Seeking n first f left i
seeking_start {f} l s = record { whole = λ t. first_of (l t) (s t) f }

first_next : (left left' i : ℕ) (f : ℕ → Bool) → left ≡ suc left' → first_of left i f ≡ elim (f i) [ true ↦ i | false ↦ first_of left' (i + 1) f ]
unfolding first_of
first_next left left' i f l = λ t. first_of (l t) i f

pub seeking_hit : {n first left left' i : ℕ} {f : ℕ → Bool} {b : Bool} → Seeking n first f left i → left ≡ suc left' → b ≡ f i → b ≡ true → i ≡ first_of n first f
seeking_hit {left} {left'} {i} {f} h l e t = let q : f i ≡ true = sym e ∙ t in sym (first_next left left' i f l ∙ rw q refl) ∙ h.whole

pub seeking_miss : {n first left left' i : ℕ} {f : ℕ → Bool} {b : Bool} → Seeking n first f left i → left ≡ suc left' → b ≡ f i → b ≡ false → Seeking n first f left' (i + 1)
seeking_miss {left} {left'} {i} {f} h l e t = let q : f i ≡ false = sym e ∙ t in record { whole = sym (first_next left left' i f l ∙ rw q refl) ∙ h.whole }

pub seeking_end : {n first left i : ℕ} {f : ℕ → Bool} → Seeking n first f left i → left ≡ 0 → i ≡ first_of n first f
unfolding first_of
seeking_end {i} {f} h l = (λ t. first_of (sym l t) i f) ∙ h.whole

-- ---- the rule that a node is in, from the last rule down

first_at_next : (rs : List ℕ) (k k' i : ℕ) → k ≡ suc k' → first_at rs k i ≡ elim (leb (first_node rs k') i) [ true ↦ first_node rs k' | false ↦ first_at rs k' i ]
unfolding first_at
first_at_next rs k k' i e = λ t. first_at rs (e t) i

module _ (rs : List ℕ) (k k' i first : ℕ) (e : k ≡ suc k') (w : first ≡ first_node rs k') where
  pub first_at_here : first ≤ i → first ≡ first_at rs k i
  first_at_here h = let q : leb (first_node rs k') i ≡ true = le-leb (first_node rs k') i (omega arith) in w ∙ sym (first_at_next rs k k' i e ∙ rw q refl)

  pub first_at_before : i < first → first_at rs k' i ≡ first_at rs k i
  first_at_before h = let q : leb (first_node rs k') i ≡ false = lt-leb (first_node rs k') i (omega arith) in sym (first_at_next rs k k' i e ∙ rw q refl)

pub first_at_none : (rs : List ℕ) (k i : ℕ) → k ≡ 0 → 0 ≡ first_at rs k i
unfolding first_at
first_at_none rs k i e = λ t. first_at rs (sym e t) i
