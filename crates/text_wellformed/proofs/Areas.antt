-- Laws of lists that are written into words, and of lists one after the other.
-- Assumes nothing.
use Prim.Native.Nat.{ℕ, zero, suc, ◌+◌, ◌*◌, ◌-◌, ◌≤◌, ◌<◌}
use mathlib.Core.Path.{◌≡◌, refl, ap, ◌∙◌}
use mathlib.Core.Logic.{inl, inr}
use mathlib.Core.List.{List, map}
use native.Mathlib.Omega.{arith}
use native.Mathlib.Nat.{mul-le-mul_left}
use borrow.Author.Tests.{ltb-true, ltb-false}
use lib.Dec.{ltb}
use lib.ListN.{length, get_or, length-append, length-map, get_or-append, get_or-map}
use lib.Seq.{get_or-append-add}
use Rattle.basis.proofs.Booleans.{which}
use Rattle.table_layout.specs.Places.{word}
use Rattle.text_store.proofs.StoreLaws.{sets_below, sets_above, sets_at}
use Rattle.text_encoding.specs.Lists.{flat, sum, narrow, written}

-- ---- a list written into words

pub written_below : (ws : List ℕ) (k : ℕ) (list : List ℕ) (j : ℕ) → j < k → word (written ws k list) j ≡ word ws j
unfolding written
written_below ws k list j h = sets_below (map narrow list) ws k j h

pub written_above : (ws : List ℕ) (k : ℕ) (list : List ℕ) (j : ℕ) → k + length list ≤ j → word (written ws k list) j ≡ word ws j
unfolding written
written_above ws k list j h = sets_above (map narrow list) ws k j (rw length-map h)

pub written_at : (ws : List ℕ) (k : ℕ) (list : List ℕ) (j : ℕ) → k + length list ≤ length ws → j < length list → word (written ws k list) (k + j) ≡ narrow (get_or list j 0)
unfolding written
written_at ws k list j h i = sets_at (map narrow list) ws k j (rw length-map h) (rw length-map i) ∙ get_or-map narrow list j 0

-- ---- sums

pub sum_ones : (n i : ℕ) → sum n i (λ k. 1) ≡ n
unfolding sum
sum_ones zero i = refl
sum_ones (suc n) i = omega (arith, sum_ones n (i + 1))

-- one number more
pub sum_next : (f : ℕ → ℕ) (n i : ℕ) → sum (n + 1) i f ≡ sum n i f + f (i + n)
unfolding sum
sum_next f zero i = let e : i + 0 ≡ i = omega arith in rw e (omega arith)
sum_next f (suc n) i =
    let e : i + suc n ≡ i + 1 + n = omega arith in
    let s : suc n + 1 ≡ suc (n + 1) = omega arith in
    rw (e, s) (omega (arith, sum_next f n (i + 1)))

-- those before number k, and it, are a part of the whole
pub sum_part : (f : ℕ → ℕ) (n k i : ℕ) → k < n → sum k i f + f (i + k) ≤ sum n i f
unfolding sum
sum_part f zero k i h = absurd (omega arith)
sum_part f (suc n) zero i h = let e : i + 0 ≡ i = omega arith in rw e (omega arith)
sum_part f (suc n) (suc k) i h =
    let e : i + suc k ≡ i + 1 + k = omega arith in
    let p : sum k (i + 1) f + f (i + 1 + k) ≤ sum n (i + 1) f = sum_part f n k (i + 1) (omega arith) in
    rw e (omega arith)

-- which of n numbers from i on a place of their sum is in: number i + k, with so many places before it there
pub record Found (f : ℕ → ℕ) (n i q : ℕ) : Type 0 where
  pub k : ℕ
  pub below : k < n
  pub offset : ℕ
  pub inside : offset < f (i + k)
  pub place : q ≡ sum k i f + offset

pub find : (f : ℕ → ℕ) (n i q : ℕ) → q < sum n i f → Found f n i q
unfolding sum
find f zero i q h = absurd (omega arith)
find f (suc n) i q h =
    elim (which (ltb q (f i))) [
      | inl t ↦ let e : i + 0 ≡ i = omega arith in record { k = 0; below = omega arith; offset = q; inside = rw e (ltb-true q (f i) t); place = omega arith }
      | inr t ↦
          let l : f i ≤ q = ltb-false q (f i) t in
          let r = find f n (i + 1) (q - f i) (omega arith) in
          let e : i + suc r.k ≡ i + 1 + r.k = omega arith in
          record { k = suc r.k; below = omega (arith, r.below); offset = r.offset; inside = rw e r.inside; place = omega (arith, r.place) }
    ]

-- ---- lists one after the other, of w times so many words

module _ (w : ℕ) (f : ℕ → List ℕ) (g : ℕ → ℕ) (each : (k : ℕ) → length (f k) ≡ w * g k) where
  pub flat_length : (n i : ℕ) → length (flat n i f) ≡ w * sum n i g
  unfolding flat sum
  flat_length zero i = omega arith
  flat_length (suc n) i = omega (arith, length-append (f i) (flat n (i + 1) f), each i, flat_length n (i + 1))

  -- word j of the list of number i + k stands behind those of the k before it
  pub flat_at : (n i k j : ℕ) → k < n → j < w * g (i + k) → get_or (flat n i f) (w * sum k i g + j) 0 ≡ get_or (f (i + k)) j 0
  unfolding flat sum
  flat_at zero i k j h l = absurd (omega arith)
  flat_at (suc n) i zero j h l =
      let e : i + 0 ≡ i = omega arith in
      let m : j < length (f i) = omega (arith, each i, ap (λ (z : ℕ). w * g z) e) in
      let z : w * 0 + j ≡ j = omega arith in
      rw (e, z) (get_or-append (f i) (flat n (i + 1) f) 0 j m)
  flat_at (suc n) i (suc k) j h l =
      let e : i + suc k ≡ i + 1 + k = omega arith in
      let m : j < w * g (i + 1 + k) = omega (arith, ap (λ (z : ℕ). w * g z) e) in
      let z : w * (g i + sum k (i + 1) g) + j ≡ length (f i) + (w * sum k (i + 1) g + j) = omega (arith, each i) in
      rw (e, z) (get_or-append-add (f i) (flat n (i + 1) f) (w * sum k (i + 1) g + j) 0 ∙ flat_at n (i + 1) k j (omega arith) m)

  -- the same in words
  pub written_flat : (ws : List ℕ) (a n i j q : ℕ) → a + w * sum n 0 g ≤ length ws → i < n → j < w * g i → q ≡ a + w * sum i 0 g + j → word (written ws a (flat n 0 f)) q ≡ narrow (get_or (f i) j 0)
  written_flat ws a n i j q room h l e =
      let p : 0 + i ≡ i = omega arith in
      let s : q ≡ a + (w * sum i 0 g + j) = omega arith in
      let m : w * sum i 0 g + j < length (flat n 0 f) = omega (arith, flat_length n 0, mul-le-mul_left w (sum_part g n i 0 h), ap (λ (z : ℕ). w * g z) p) in
      rw s (written_at ws a (flat n 0 f) (w * sum i 0 g + j) (omega (arith, flat_length n 0)) m ∙ ap narrow (flat_at n 0 i j h (rw p l) ∙ ap (λ (z : ℕ). get_or (f z) j 0) p))
