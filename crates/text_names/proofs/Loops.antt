-- Loops over numbers: the least place so far, and a test that no number passed so far.
-- Assumes nothing.
use Prim.Native.Nat.{ℕ, zero, suc, ◌+◌, ◌-◌, ◌≤◌, ◌<◌, min}
use mathlib.Core.Path.{◌≡◌, refl, sym, ◌∙◌}
use mathlib.Core.Bool.{Bool, true, false}
use native.Mathlib.Omega.{arith}
use Rattle.text_names.specs.Counting.{nowhere, least_of, least_between, any_of, any_between}

less_by : (i end : ℕ) → i < end → end - i ≡ suc (end - (i + 1))
less_by i end h = omega arith

-- ---- the least place

least_next : (i end : ℕ) (f : ℕ → ℕ) → i < end → least_between i end f ≡ min (f i) (least_between (i + 1) end f)
unfolding least_of
least_next i end f h = rw (less_by i end h)

least_none : (i end : ℕ) (f : ℕ → ℕ) → end ≤ i → least_between i end f ≡ nowhere
unfolding least_of
least_none i end f h = let z : end - i ≡ 0 = omega arith in rw z

at_most : (n i : ℕ) (f : ℕ → ℕ) → least_of n i f ≤ nowhere
unfolding least_of
at_most zero i f = omega arith
at_most (suc n) i f = let h : least_of n (i + 1) f ≤ nowhere = at_most n (i + 1) f in omega arith

-- what is least so far, and of those to come
pub record Least (start end : ℕ) (f : ℕ → ℕ) (least i : ℕ) : Type 0 where
  pub small : least ≤ nowhere
  pub whole : min least (least_between i end f) ≡ least_between start end f

pub least_start : {start end : ℕ} {f : ℕ → ℕ} → Least start end f nowhere start
least_start {start} {end} {f} = record { small = omega arith; whole = omega (arith, at_most (end - start) start f) }

pub least_turn : {start end : ℕ} {f : ℕ → ℕ} {least i p next : ℕ} → Least start end f least i → i < end → p ≡ f i → next ≡ min least p → Least start end f next (i + 1)
least_turn {end} {f} {i} h l e n = record { small = omega arith; whole = omega (arith, h.whole, least_next i end f l) }

pub least_end : {start end : ℕ} {f : ℕ → ℕ} {least i : ℕ} → Least start end f least i → end ≤ i → least ≡ least_between start end f
least_end {end} {f} {i} h l = omega (arith, h.whole, least_none i end f l)

-- ---- a test

any_next : (i end : ℕ) (f : ℕ → Bool) → i < end → any_between i end f ≡ elim (f i) [ true ↦ true | false ↦ any_between (i + 1) end f ]
unfolding any_of
any_next i end f h = rw (less_by i end h)

-- none so far
pub record NoneYet (start end : ℕ) (f : ℕ → Bool) (i : ℕ) : Type 0 where
  pub whole : any_between i end f ≡ any_between start end f

pub any_start : {start end : ℕ} {f : ℕ → Bool} → NoneYet start end f start
any_start = record { whole = refl }

pub any_hit : {start end : ℕ} {f : ℕ → Bool} {i : ℕ} {b : Bool} → NoneYet start end f i → i < end → b ≡ f i → b ≡ true → true ≡ any_between start end f
any_hit {end} {f} {i} h l e t = let q : f i ≡ true = sym e ∙ t in sym (any_next i end f l ∙ rw q refl) ∙ h.whole

pub any_miss : {start end : ℕ} {f : ℕ → Bool} {i : ℕ} {b : Bool} → NoneYet start end f i → i < end → b ≡ f i → b ≡ false → NoneYet start end f (i + 1)
any_miss {end} {f} {i} h l e t = let q : f i ≡ false = sym e ∙ t in record { whole = sym (any_next i end f l ∙ rw q refl) ∙ h.whole }

pub any_end : {start end : ℕ} {f : ℕ → Bool} {i : ℕ} → NoneYet start end f i → end ≤ i → false ≡ any_between start end f
unfolding any_of
any_end {end} {i} h l = let z : end - i ≡ 0 = omega arith in rw z at h.whole
