-- A turn of each loop over bytes.
-- Assumes nothing.
use Prim.Native.Nat.{ℕ, zero, suc, ◌+◌, ◌*◌, ◌-◌, ◌^◌, ◌/◌, ◌%◌, ◌≤◌, ◌<◌}
use native.Mathlib.Omega.{arith}
use native.Mathlib.Nat.{pow-suc, pow-le-pow_right}
use mathlib.Core.Path.{◌≡◌, refl, sym, ap, ap₂, subst, ◌∙◌}
use mathlib.Core.List.{List, [], ◌∷◌, ◌++◌, append-nil}
use lib.ListN.{length, get_or, set, drop, length-append, drop_of_length-le}
use lib.Seq.{sets, drop-cons, drop-drop, sets-eq}
use Rattle.run_saved.specs.Saved.{bytes, number, listed, numbers}

-- one byte more, below those read
pub read_turn : (bs : List ℕ) (at width left n : ℕ) → 0 < left → left ≤ width → at + width ≤ length bs → n ≡ number (width - left) (drop (at + left) bs)
    → 256 * n + get_or bs (at + (left - 1)) 0 ≡ number (width - (left - 1)) (drop (at + (left - 1)) bs)
unfolding number
read_turn bs at width left n l m k e =
    let w : suc (width - left) ≡ width - (left - 1) = omega arith in
    let p : at + left ≡ suc (at + (left - 1)) = omega arith in
    let q : at + (left - 1) < length bs = omega arith in
    let b : ℕ = get_or bs (at + (left - 1)) 0 in
    let s : 256 * n + b ≡ b + 256 * n = omega arith in
    s ∙ ap (λ (x : ℕ). b + 256 * x) (e ∙ ap (λ (x : ℕ). number (width - left) (drop x bs)) p)
    ∙ sym (ap (number (suc (width - left))) (drop-cons bs (at + (left - 1)) 0 q))
    ∙ ap (λ (x : ℕ). number x (drop (at + (left - 1)) bs)) w

-- and it is small
pub read_small : (width left n b : ℕ) → 0 < left → left ≤ width → width ≤ 8 → n < 256 ^ (width - left) → b < 256 → (256 * n + b < 256 ^ (width - (left - 1))) × (256 * n + b < 2 ^ 64)
read_small width left n b l m k h g =
    let w : width - (left - 1) ≡ suc (width - left) = omega arith in
    let p : 256 ^ (width - (left - 1)) ≡ 256 ^ (width - left) * 256 = ap (λ (x : ℕ). 256 ^ x) w ∙ pow-suc 256 (width - left) in
    let q : 256 ^ (width - (left - 1)) ≤ 256 ^ 8 = pow-le-pow_right (let z : 0 < 256 = omega arith in z) (let z : width - (left - 1) ≤ 8 = omega arith in z) in
    let r : 256 * n + b < 256 ^ (width - (left - 1)) = omega arith in
    (r, (let z : 256 * n + b < 2 ^ 64 = omega arith in z))

-- before any byte, and after all
pub read_none : (w : ℕ) (bs : List ℕ) → w ≡ 0 → (0 ≡ number w bs) × (0 < 256 ^ w)
unfolding number
read_none zero bs e = (refl, (let z : 0 < 256 ^ 0 = omega arith in z))
read_none (suc w) bs e = absurd (omega arith)

pub read_all : (bs : List ℕ) (at width left n : ℕ) → left ≤ 0 → n ≡ number (width - left) (drop (at + left) bs) → n < 256 ^ (width - left) → (n ≡ number width (drop at bs)) × (n < 256 ^ width)
read_all bs at width left n l e h =
    let w : width - left ≡ width = omega arith in
    let p : at + left ≡ at = omega arith in
    (e ∙ ap₂ (λ (x y : ℕ). number x (drop y bs)) w p, subst (λ (x : ℕ). n < 256 ^ x) w h)

-- one byte is written
pub write_turn : (out : List ℕ) (at width i n : ℕ) → i < width → sets out (at + i) (bytes (width - i) n) ≡ sets (set out (at + i) (n % 256)) (at + (i + 1)) (bytes (width - (i + 1)) (n / 256))
unfolding bytes
write_turn out at width i n l =
    let w : width - i ≡ suc (width - (i + 1)) = omega arith in
    let p : suc (at + i) ≡ at + (i + 1) = omega arith in
    ap (λ (x : ℕ). sets out (at + i) (bytes x n)) w ∙ ap (λ (x : ℕ). sets (set out (at + i) (n % 256)) x (bytes (width - (i + 1)) (n / 256))) p

pub write_start : (out : List ℕ) (at width n : ℕ) → sets out at (bytes width n) ≡ sets out (at + 0) (bytes (width - 0) n)
write_start out at width n =
    let p : at ≡ at + 0 = omega arith in
    let w : width ≡ width - 0 = omega arith in
    ap₂ (λ (x y : ℕ). sets out x (bytes y n)) p w

pub write_end : (out : List ℕ) (at n w : ℕ) → w ≡ 0 → sets out at (bytes w n) ≡ out
unfolding bytes
write_end out at n w e = ap (λ (x : ℕ). sets out at (bytes x n)) e

pub bytes_length : (w n : ℕ) → length (bytes w n) ≡ w
unfolding bytes
bytes_length zero n = refl
bytes_length (suc w) n = ap suc (bytes_length w (n / 256))

module _ {A : Type 0} where
  -- stores one after the other
  pub sets_append : (xs ys out : List A) (at : ℕ) → sets out at (xs ++ ys) ≡ sets (sets out at xs) (at + length xs) ys
  sets_append [] ys out at = ap (λ (n : ℕ). sets out n ys) (let z : at ≡ at + 0 = omega arith in z)
  sets_append (x ∷ xs) ys out at = sets_append xs ys (set out at x) (suc at) ∙ ap (λ (n : ℕ). sets (sets (set out at x) (suc at) xs) n ys) (let z : suc at + length xs ≡ at + suc (length xs) = omega arith in z)

  pub sets_next : (xs ys out w : List A) (at n : ℕ) → w ≡ sets out at xs → at + length xs ≡ n → sets out at (xs ++ ys) ≡ sets w n ys
  sets_next xs ys out w at n e m = sets_append xs ys out at ∙ ap₂ (λ (x : List A) (k : ℕ). sets x k ys) (sym e) m

  -- what is stored over a whole list takes its place
  pub sets_whole : (xs out : List A) → length out ≡ length xs → sets out 0 xs ≡ xs
  sets_whole xs out e =
      let l : 0 + length xs ≤ length out = omega arith in
      sets-eq xs out 0 l ∙ ap (λ (ys : List A). xs ++ ys) (drop_of_length-le out (let z : length out ≤ 0 + length xs = omega arith in z)) ∙ append-nil xs

module _ {A : Type 0} where
  -- an element's bytes are written
  pub list_turn : (f : A → ℕ) (w : ℕ) (xs : List A) (d : A) (out : List ℕ) (at i : ℕ) → i < length xs
      → sets out (at + w * i) (listed f w (drop i xs)) ≡ sets (sets out (at + w * i) (bytes w (f (get_or xs i d)))) (at + w * (i + 1)) (listed f w (drop (i + 1) xs))
  unfolding listed
  list_turn f w xs d out at i l =
      let one : suc i ≡ i + 1 = omega arith in
      let p : at + w * i + w ≡ at + w * (i + 1) = omega arith in
      ap (λ (ys : List A). sets out (at + w * i) (listed f w ys)) (drop-cons xs i d l)
      ∙ sets_append (bytes w (f (get_or xs i d))) (listed f w (drop (suc i) xs)) out (at + w * i)
      ∙ ap₂ (λ (n m : ℕ). sets (sets out (at + w * i) (bytes w (f (get_or xs i d)))) n (listed f w (drop m xs))) (ap (at + w * i +◌) (bytes_length w (f (get_or xs i d))) ∙ p) one

  pub list_start : (f : A → ℕ) (w : ℕ) (xs : List A) (out : List ℕ) (at : ℕ) → sets out at (listed f w xs) ≡ sets out (at + w * 0) (listed f w (drop 0 xs))
  list_start f w xs out at = ap (λ (n : ℕ). sets out n (listed f w xs)) (let z : at ≡ at + w * 0 = omega arith in z)

  pub list_end : (f : A → ℕ) (w : ℕ) (xs : List A) (out : List ℕ) (at i : ℕ) → length xs ≤ i → sets out at (listed f w (drop i xs)) ≡ out
  unfolding listed
  list_end f w xs out at i l = ap (λ (ys : List A). sets out at (listed f w ys)) (drop_of_length-le xs l)

  pub listed_length : (f : A → ℕ) (w : ℕ) (xs : List A) → length (listed f w xs) ≡ w * length xs
  unfolding listed
  listed_length f w [] = omega arith
  listed_length f w (x ∷ xs) = length-append (bytes w (f x)) (listed f w xs) ∙ ap₂ ◌+◌ (bytes_length w (f x)) (listed_length f w xs) ∙ (let z : w + w * length xs ≡ w * suc (length xs) = omega arith in z)

  -- an element is read into its place
  pub numbers_turn : (f : ℕ → A) (w : ℕ) (bs : List ℕ) (out : List A) (at i n : ℕ) → i < n
      → sets out i (numbers f w (n - i) (drop (at + w * i) bs)) ≡ sets (set out i (f (number w (drop (at + w * i) bs)))) (i + 1) (numbers f w (n - (i + 1)) (drop (at + w * (i + 1)) bs))
  unfolding numbers
  numbers_turn f w bs out at i n l =
      let m : n - i ≡ suc (n - (i + 1)) = omega arith in
      let one : suc i ≡ i + 1 = omega arith in
      let p : at + w * i + w ≡ at + w * (i + 1) = omega arith in
      let now : List A = set out i (f (number w (drop (at + w * i) bs))) in
      ap (λ (x : ℕ). sets out i (numbers f w x (drop (at + w * i) bs))) m
      ∙ ap₂ (λ (x : ℕ) (ys : List ℕ). sets now x (numbers f w (n - (i + 1)) ys)) one (drop-drop w (at + w * i) bs ∙ ap (λ (x : ℕ). drop x bs) p)

  pub numbers_length : (f : ℕ → A) (w n : ℕ) (bs : List ℕ) → length (numbers f w n bs) ≡ n
  unfolding numbers
  numbers_length f w zero bs = refl
  numbers_length f w (suc n) bs = ap suc (numbers_length f w n (drop w bs))

  pub numbers_start : (f : ℕ → A) (w : ℕ) (bs : List ℕ) (out : List A) (at n : ℕ) → length out ≡ n → numbers f w n (drop at bs) ≡ sets out 0 (numbers f w (n - 0) (drop (at + w * 0) bs))
  numbers_start f w bs out at n e =
      let p : at ≡ at + w * 0 = omega arith in
      let m : n ≡ n - 0 = omega arith in
      sym (sets_whole (numbers f w n (drop at bs)) out (e ∙ sym (numbers_length f w n (drop at bs))))
      ∙ ap₂ (λ (x y : ℕ). sets out 0 (numbers f w x (drop y bs))) m p

  pub numbers_end : (f : ℕ → A) (w : ℕ) (bs : List ℕ) (out : List A) (i n : ℕ) → n ≡ 0 → sets out i (numbers f w n bs) ≡ out
  unfolding numbers
  numbers_end f w bs out i n e = ap (λ (x : ℕ). sets out i (numbers f w x bs)) e
