-- Laws of patterns and the whole numbers that they are, once for every width: each whole number of the range is one pattern's value, and no other
-- number is.
-- Assumes nothing.
use Prim.Native.Nat.{ℕ, zero, suc, ◌+◌, ◌*◌, ◌-◌, ◌/◌, ◌%◌, ◌^◌, ◌≤◌, ◌<◌}
use mathlib.Core.Path.{◌≡◌, refl, sym, ap, ap₂, subst, ◌∙◌}
use mathlib.Core.Bool.{Bool, true, false, not, cond, false≢true}
use mathlib.Core.Logic.{◌⊎◌, inl, inr}
use mathlib.Core.List.{[], ◌∷◌}
use native.Mathlib.Omega.{arith}
use native.Mathlib.Nat.{pow-succ', mod-eq_of_lt, div-eq_of_lt}
use borrow.Author.Tests.{lt-ltb, le-ltb, ltb-true, ltb-false, le-leb, lt-leb, leb-true, ne_eqb, eq-eqb}
use lib.Dec.{leb, ltb, eqb}
use lib.IntN.{ℤ, pos, negsuc, sub_ℕ}
use lib.ListN.{length}
use lib.Pow.{pow_pos, high, low}
use lib.Signed.{le_z}
use Rattle.basis.specs.Bits.{Bits, digit, bits_of, append_digits, value}
use Rattle.basis.specs.Patterns.{pattern_value, pattern_of, offset, least_value, greatest_value, turned, place, halves_swapped}
use Rattle.basis.proofs.Booleans.{which}
use Rattle.basis.proofs.Values.{length_bits_of, value_bits_of, append_value, value_less, bits_of_value}

-- ---- differences of natural numbers

pub difference_not_below : (a b : ℕ) → b ≤ a → sub_ℕ a b ≡ pos (a - b)
difference_not_below a b h = rw (le-ltb a b h)

pub difference_below : (a b : ℕ) → a < b → sub_ℕ a b ≡ negsuc (b - suc a)
difference_below a b h = rw (lt-ltb a b h)

pub difference_zero : (a : ℕ) → sub_ℕ a 0 ≡ pos a
difference_zero a = difference_not_below a 0 (omega arith) ∙ (let e : a - 0 ≡ a = omega arith in ap pos e)

-- a difference stays where both numbers grow alike
pub difference_more : (a b k : ℕ) → sub_ℕ (a + k) (b + k) ≡ sub_ℕ a b
difference_more a b k = go (ltb a b) refl
  where
    go : (t : Bool) → ltb a b ≡ t → sub_ℕ (a + k) (b + k) ≡ sub_ℕ a b
    go true e =
        let h : a < b = ltb-true a b e in
        let q : b + k - suc (a + k) ≡ b - suc a = omega arith in
        difference_below (a + k) (b + k) (omega arith) ∙ ap negsuc q ∙ sym (difference_below a b h)
    go false e =
        let h : b ≤ a = ltb-false a b e in
        let q : a + k - (b + k) ≡ a - b = omega arith in
        difference_not_below (a + k) (b + k) (omega arith) ∙ ap pos q ∙ sym (difference_not_below a b h)

pub difference_up : (a k : ℕ) → sub_ℕ (a + k) k ≡ pos a
difference_up a k = difference_not_below (a + k) k (omega arith) ∙ (let e : a + k - k ≡ a = omega arith in ap pos e)

pub difference_down : (n k : ℕ) → n < k → sub_ℕ (k - suc n) k ≡ negsuc n
difference_down n k h = difference_below (k - suc n) k (omega arith) ∙ (let e : k - suc (k - suc n) ≡ n = omega arith in ap negsuc e)

-- differences from one number are in the order of what they are taken from
pub difference_order : (a b o : ℕ) → le_z (sub_ℕ a o) (sub_ℕ b o) ≡ leb a b
difference_order a b o = go (ltb a o) (ltb b o) refl refl
  where
    both : (x y : ℕ) → (x ≤ y → a ≤ b) → (a ≤ b → x ≤ y) → leb x y ≡ leb a b
    both x y f g = step (leb a b) refl
      where
        step : (t : Bool) → leb a b ≡ t → leb x y ≡ leb a b
        step true e = le-leb x y (g (leb-true a b e)) ∙ sym e
        step false e = other (leb x y) refl
          where
            other : (u : Bool) → leb x y ≡ u → leb x y ≡ leb a b
            other true d = d ∙ sym (le-leb a b (f (leb-true x y d)))
            other false d = d ∙ sym e

    go : (s t : Bool) → ltb a o ≡ s → ltb b o ≡ t → le_z (cond s (negsuc (o - suc a)) (pos (a - o))) (cond t (negsuc (o - suc b)) (pos (b - o))) ≡ leb a b
    go true true p q =
        let h : a < o = ltb-true a o p in
        let k : b < o = ltb-true b o q in
        both (o - suc b) (o - suc a) (λ x. omega arith) (λ x. omega arith)
    go true false p q =
        let h : a < o = ltb-true a o p in
        let k : o ≤ b = ltb-false b o q in
        sym (le-leb a b (omega arith))
    go false true p q =
        let h : o ≤ a = ltb-false a o p in
        let k : b < o = ltb-true b o q in
        sym (lt-leb a b (omega arith))
    go false false p q =
        let h : o ≤ a = ltb-false a o p in
        let k : o ≤ b = ltb-false b o q in
        both (a - o) (b - o) (λ x. omega arith) (λ x. omega arith)

-- ---- a pattern's value by its bits

-- unsigned, it is the number that the bits are
pub unsigned_value : (s : Bits) → pattern_value false s ≡ pos (value s)
unfolding pattern_value
unsigned_value s = refl

-- the first bit and the others
value_first : (b : Bool) (s : Bits) → value (b ∷ s) ≡ digit b * 2 ^ length s + value s
unfolding append_digits
value_first true s = append_value s 1
value_first false s = let z : 0 * 2 ^ length s ≡ 0 = omega arith in omega arith

-- signed, it is that number, and 2^width less where the first bit is 1
pub signed_value : (b : Bool) (s : Bits) → pattern_value true (b ∷ s) ≡ sub_ℕ (value (b ∷ s)) (digit b * 2 ^ suc (length s))
unfolding pattern_value
signed_value b s =
    let e : value (b ∷ s) ≡ value s + digit b * 2 ^ length s = value_first b s ∙ omega arith in
    let d : digit b * 2 ^ suc (length s) ≡ digit b * 2 ^ length s + digit b * 2 ^ length s = ap (λ (x : ℕ). digit b * x) (pow-succ' 2 (length s)) ∙ omega arith in
    sym (ap₂ sub_ℕ e d ∙ difference_more (value s) (digit b * 2 ^ length s) (digit b * 2 ^ length s))

-- ---- the values of a width in their order

pub length_turned : (signed : Bool) (s : Bits) → length (turned signed s) ≡ length s
length_turned false s = refl
length_turned true [] = refl
length_turned true (b ∷ s) = refl

pub turned_twice : (signed : Bool) (s : Bits) → turned signed (turned signed s) ≡ s
turned_twice false s = refl
turned_twice true [] = refl
turned_twice true (true ∷ s) = refl
turned_twice true (false ∷ s) = refl

pub place_less : (signed : Bool) (s : Bits) → place signed s < 2 ^ length s
place_less signed s = subst (λ (n : ℕ). place signed s < 2 ^ n) (length_turned signed s) (value_less (turned signed s))

-- a value is its place, counted from the least value on
pub value_place : (signed : Bool) (s : Bits) → pattern_value signed s ≡ sub_ℕ (place signed s) (offset signed (length s))
unfolding pattern_value append_digits
value_place false s = sym (difference_zero (value s))
value_place true [] = refl
value_place true (true ∷ s) =
    let z : 1 * 2 ^ length s ≡ 2 ^ length s = omega arith in
    ap (sub_ℕ (value s)) z
value_place true (false ∷ s) =
    let z : 0 * 2 ^ length s ≡ 0 = omega arith in
    let e : value (true ∷ s) ≡ value s + 2 ^ length s = value_first true s ∙ omega arith in
    ap (sub_ℕ (value s)) z ∙ difference_zero (value s) ∙ sym (ap (λ (x : ℕ). sub_ℕ x (2 ^ length s)) e ∙ difference_up (value s) (2 ^ length s))

-- ---- the range

module _ (signed : Bool) (s : Bits) where
  abbrev Least : Type 0
  Least = le_z (least_value signed (length s)) (pattern_value signed s) ≡ true

  abbrev Greatest : Type 0
  Greatest = le_z (pattern_value signed s) (greatest_value signed (length s)) ≡ true

  pub in_range : Least × Greatest
  in_range =
      let h : place signed s < 2 ^ length s = place_less signed s in
      rw value_place (
        difference_order 0 (place signed s) (offset signed (length s)) ∙ le-leb 0 (place signed s) (omega arith),
        difference_order (place signed s) (2 ^ length s - 1) (offset signed (length s)) ∙ le-leb (place signed s) (2 ^ length s - 1) (omega arith),
      )

-- ---- a pattern is that of its value, so two patterns of a width have two values

pub of_value : (signed : Bool) (s : Bits) → pattern_of (length s) (pattern_value signed s) ≡ s
unfolding pattern_of pattern_value append_digits
of_value false s = bits_of_value s
of_value true [] = bits_of_value []
of_value true (false ∷ s) =
    let z : 0 * 2 ^ length s ≡ 0 = omega arith in
    ap (λ (n : ℕ). pattern_of (suc (length s)) (sub_ℕ (value s) n)) z ∙ ap (pattern_of (suc (length s))) (difference_zero (value s)) ∙ bits_of_value (false ∷ s)
of_value true (true ∷ s) =
    let h : value s < 2 ^ length s = value_less s in
    let z : 1 * 2 ^ length s ≡ 2 ^ length s = omega arith in
    let d : 2 ^ suc (length s) ≡ 2 * 2 ^ length s = pow-succ' 2 (length s) in
    let e : value (true ∷ s) ≡ 1 * 2 ^ length s + value s = value_first true s in
    let q : 2 ^ suc (length s) - suc (2 ^ length s - suc (value s)) ≡ value (true ∷ s) = omega arith in
    ap (λ (n : ℕ). pattern_of (suc (length s)) (sub_ℕ (value s) n)) z ∙ ap (pattern_of (suc (length s))) (difference_below (value s) (2 ^ length s) h) ∙ ap (bits_of (suc (length s))) q ∙ bits_of_value (true ∷ s)

pub one_pattern : (signed : Bool) (s t : Bits) → length s ≡ length t → pattern_value signed s ≡ pattern_value signed t → s ≡ t
one_pattern signed s t l e = sym (of_value signed s) ∙ ap₂ pattern_of l e ∙ of_value signed t

-- ---- each whole number of the range has a pattern

pub length_pattern : (w : ℕ) (z : ℤ) → length (pattern_of w z) ≡ w
unfolding pattern_of
length_pattern w (pos n) = length_bits_of w n
length_pattern w (negsuc n) = length_bits_of w (2 ^ w - suc n)

abbrev pub InRange : Bool → ℕ → ℤ → Type 0
InRange signed w z = (le_z (least_value signed w) z ≡ true) × (le_z z (greatest_value signed w) ≡ true)

pub offset_small : (signed : Bool) (w : ℕ) → offset signed w ≤ 2 ^ w
offset_small false w = omega arith
offset_small true zero = omega arith
offset_small true (suc w) = omega arith

-- the place of a number of the range
below_zero : (o n : ℕ) → le_z (sub_ℕ 0 o) (negsuc n) ≡ true → n < o
below_zero zero n h = absurd (false≢true h)
below_zero (suc o) n h =
    let k : n ≤ suc o - 1 = leb-true n (suc o - 1) (ap (λ (x : ℤ). le_z x (negsuc n)) (sym (difference_below 0 (suc o) (omega arith))) ∙ h) in
    omega arith

placed : (signed : Bool) (w : ℕ) (z : ℤ) → InRange signed w z → (u : ℕ) × (u < 2 ^ w) × (sub_ℕ u (offset signed w) ≡ z)
placed signed w (pos n) (l, g) =
    let o : ℕ = offset signed w in
    let e : sub_ℕ (n + o) o ≡ pos n = difference_up n o in
    let p : 1 ≤ 2 ^ w = pow_pos w in
    let k : n + o ≤ 2 ^ w - 1 = leb-true (n + o) (2 ^ w - 1) (sym (difference_order (n + o) (2 ^ w - 1) o) ∙ ap (λ (x : ℤ). le_z x (sub_ℕ (2 ^ w - 1) o)) e ∙ g) in
    (n + o, omega arith, e)
placed signed w (negsuc n) (l, g) =
    let o : ℕ = offset signed w in
    let h : n < o = below_zero (offset signed w) n l in
    let k : o ≤ 2 ^ w = offset_small signed w in
    (o - suc n, omega arith, difference_down n o h)

pub value_of : (signed : Bool) (w : ℕ) (z : ℤ) → InRange signed w z → pattern_value signed (pattern_of w z) ≡ z
value_of signed w z r = ap (λ (x : ℤ). pattern_value signed (pattern_of w x)) (sym e) ∙ ap (pattern_value signed) same ∙ e
  where
    u : ℕ
    u = (placed signed w z r).0

    t : Bits
    t = turned signed (bits_of w u)

    wide : length t ≡ w
    wide = length_turned signed (bits_of w u) ∙ length_bits_of w u

    at : place signed t ≡ u
    at = ap value (turned_twice signed (bits_of w u)) ∙ value_bits_of w u ∙ mod-eq_of_lt (placed signed w z r).1

    e : pattern_value signed t ≡ z
    e = value_place signed t ∙ ap₂ (λ (x n : ℕ). sub_ℕ x (offset signed n)) at wide ∙ (placed signed w z r).2

    same : pattern_of w (pattern_value signed t) ≡ t
    same = ap (λ (n : ℕ). pattern_of n (pattern_value signed t)) (sym wide) ∙ of_value signed t

-- ---- patterns by their numbers

pub swapped_low : (half n : ℕ) → n < half → halves_swapped half n ≡ n + half
unfolding halves_swapped
swapped_low half n h = rw (lt-ltb n half h)

pub swapped_high : (half n : ℕ) → half ≤ n → halves_swapped half n ≡ n - half
unfolding halves_swapped
swapped_high half n h = rw (le-ltb n half h)

-- the first bit, and the others
first_low : (w v : ℕ) → v < 2 ^ w → eqb (v / 2 ^ w % 2) 1 ≡ false
first_low w v h = let q : v / 2 ^ w ≡ 0 = div-eq_of_lt h in ne_eqb (v / 2 ^ w % 2) 1 (λ e. omega arith)

upper : (w v : ℕ) → 2 ^ w ≤ v → 1 * 2 ^ w + (v - 2 ^ w) ≡ v
upper w v h = omega arith

first_high : (w v : ℕ) → 2 ^ w ≤ v → v - 2 ^ w < 2 ^ w → eqb (v / 2 ^ w % 2) 1 ≡ true
first_high w v h l =
    let q : v / 2 ^ w ≡ 1 = ap (λ (x : ℕ). x / 2 ^ w) (sym (upper w v h)) ∙ high 1 w l in
    eq-eqb (v / 2 ^ w % 2) 1 (omega arith)

pub place_bits_of : (signed : Bool) (w v : ℕ) → v < 2 ^ w → place signed (bits_of w v) ≡ halves_swapped (offset signed w) v
unfolding bits_of
place_bits_of false w v h = value_bits_of w v ∙ mod-eq_of_lt h ∙ (let e : v ≡ v - 0 = omega arith in e ∙ sym (swapped_high 0 v (omega arith)))
place_bits_of true zero v h = value_bits_of 0 v ∙ mod-eq_of_lt h ∙ (let e : v ≡ v - 0 = omega arith in e ∙ sym (swapped_high 0 v (omega arith)))
place_bits_of true (suc w) v h = go (ltb v (2 ^ w)) refl
  where
    others : value (bits_of w v) ≡ v % 2 ^ w
    others = value_bits_of w v

    go : (t : Bool) → ltb v (2 ^ w) ≡ t → place true (bits_of (suc w) v) ≡ halves_swapped (2 ^ w) v
    go true e =
        let l : v < 2 ^ w = ltb-true v (2 ^ w) e in
        let n : length (bits_of w v) ≡ w = length_bits_of w v in
        let m : v % 2 ^ w ≡ v = mod-eq_of_lt l in
        let z : 1 * 2 ^ w + v ≡ v + 2 ^ w = omega arith in
        ap (λ (b : Bool). value (not b ∷ bits_of w v)) (first_low w v l) ∙ value_first true (bits_of w v) ∙ ap₂ (λ (x y : ℕ). 1 * 2 ^ x + y) n (others ∙ m) ∙ z ∙ sym (swapped_low (2 ^ w) v l)
    go false e =
        let l : 2 ^ w ≤ v = ltb-false v (2 ^ w) e in
        let k : v - 2 ^ w < 2 ^ w = omega arith in
        let n : length (bits_of w v) ≡ w = length_bits_of w v in
        let m : v % 2 ^ w ≡ v - 2 ^ w = ap (λ (x : ℕ). x % 2 ^ w) (sym (upper w v l)) ∙ low 1 w k in
        let z : 0 * 2 ^ w + (v - 2 ^ w) ≡ v - 2 ^ w = omega arith in
        ap (λ (b : Bool). value (not b ∷ bits_of w v)) (first_high w v l k) ∙ value_first false (bits_of w v) ∙ ap₂ (λ (x y : ℕ). 0 * 2 ^ x + y) n (others ∙ m) ∙ z ∙ sym (swapped_high (2 ^ w) v l)

-- a value by the number that its pattern is
pub value_bits : (signed : Bool) (w v : ℕ) → v < 2 ^ w → pattern_value signed (bits_of w v) ≡ sub_ℕ (halves_swapped (offset signed w) v) (offset signed w)
value_bits signed w v h = value_place signed (bits_of w v) ∙ ap₂ (λ (x n : ℕ). sub_ℕ x (offset signed n)) (place_bits_of signed w v h) (length_bits_of w v)

module _ (signed : Bool) (w v : ℕ) (h : v < 2 ^ w) where
  -- where the first bit is 0, or the pattern unsigned
  pub value_low : (v < offset signed w) ⊎ (offset signed w ≡ 0) → pattern_value signed (bits_of w v) ≡ pos v
  value_low (inl l) = value_bits signed w v h ∙ ap (λ (x : ℕ). sub_ℕ x (offset signed w)) (swapped_low (offset signed w) v l) ∙ difference_up v (offset signed w)
  value_low (inr e) =
      let z : v - 0 ≡ v = omega arith in
      value_bits signed w v h ∙ ap (λ (x : ℕ). sub_ℕ (halves_swapped x v) x) e ∙ ap (λ (x : ℕ). sub_ℕ x 0) (swapped_high 0 v (omega arith) ∙ z) ∙ difference_zero v

  -- where it is 1
  pub value_high : offset signed w ≤ v → v - offset signed w < offset signed w → pattern_value signed (bits_of w v) ≡ negsuc (offset signed w - suc (v - offset signed w))
  value_high l k = value_bits signed w v h ∙ ap (λ (x : ℕ). sub_ℕ x (offset signed w)) (swapped_high (offset signed w) v l) ∙ difference_below (v - offset signed w) (offset signed w) k

-- there are as many values below 0 as others
pub offset_double : (signed : Bool) (w v : ℕ) → v < 2 ^ w → 0 < offset signed w → v - offset signed w < offset signed w
offset_double false w v h k = absurd (omega arith)
offset_double true zero v h k = absurd (omega arith)
offset_double true (suc w) v h k = omega arith
