-- Numbers and lists of numbers to bytes and back, for any width.
-- Assumes nothing.
use Prim.Native.Nat.{ℕ, zero, suc, ◌+◌, ◌*◌, ◌^◌, ◌/◌, ◌%◌, ◌≤◌, ◌<◌}
use native.Mathlib.Omega.{arith}
use native.Mathlib.Nat.{pow-suc}
use mathlib.Core.Path.{◌≡◌, refl, sym, ap, ap₂, subst, ◌∙◌}
use mathlib.Core.List.{List, [], ◌∷◌, ◌++◌, append_assoc}
use lib.ListN.{length, get_or, drop, length-drop}
use lib.Seq.{drop-drop, drop_at, get_or-drop}
use Rattle.run_saved.specs.Saved.{bytes, number, listed, numbers}
use Rattle.run_saved.proofs.Bytes.{bytes_length}

-- what a list of bytes is; past its end it reads 0
abbrev pub Small : List ℕ → Type 0
Small bs = (i : ℕ) → get_or bs i 0 < 256

pub small_drop : (n : ℕ) (bs : List ℕ) → Small bs → Small (drop n bs)
small_drop n bs h i = subst (λ (x : ℕ). x < 256) (sym (get_or-drop n bs i 0)) (h (n + i))

-- ---- one number

pub number_bytes : (w n : ℕ) (rest : List ℕ) → n < 256 ^ w → number w (bytes w n ++ rest) ≡ n
unfolding number bytes
number_bytes zero n rest h = let z : n < 1 = h in omega arith
number_bytes (suc w) n rest h =
    let p : 256 ^ suc w ≡ 256 ^ w * 256 = pow-suc 256 w in
    let l : n / 256 < 256 ^ w = omega arith in
    ap (λ (x : ℕ). n % 256 + 256 * x) (number_bytes w (n / 256) rest l) ∙ (let z : n % 256 + 256 * (n / 256) ≡ n = omega arith in z)

pub number_small : (w : ℕ) (bs : List ℕ) → Small bs → number w bs < 256 ^ w
unfolding number
number_small zero bs h = let z : 0 < 1 = omega arith in z
number_small (suc w) [] h = let p : 256 ^ suc w ≡ 256 ^ w * 256 = pow-suc 256 w in let z : number w [] < 256 ^ w = number_small w [] h in omega arith
number_small (suc w) (b ∷ bs) h =
    let p : 256 ^ suc w ≡ 256 ^ w * 256 = pow-suc 256 w in
    let z : number w bs < 256 ^ w = number_small w bs (λ i. h (suc i)) in
    let y : b < 256 = h 0 in
    omega arith

pub bytes_number : (w : ℕ) (bs : List ℕ) → w ≤ length bs → Small bs → bytes w (number w bs) ++ drop w bs ≡ bs
unfolding number bytes
bytes_number zero bs l h = refl
bytes_number (suc w) [] l h = absurd (omega arith)
bytes_number (suc w) (b ∷ bs) l h =
    let y : b < 256 = h 0 in
    let m : (b + 256 * number w bs) % 256 ≡ b = omega arith in
    let d : (b + 256 * number w bs) / 256 ≡ number w bs = omega arith in
    ap₂ (λ (x n : ℕ). x ∷ (bytes w n ++ drop w bs)) m d ∙ ap (b ∷◌) (bytes_number w bs (omega arith) (λ i. h (suc i)))

-- ---- a list of numbers

module _ {A : Type 0} (f : A → ℕ) (g : ℕ → A) (w : ℕ) where
  pub numbers_listed : (xs : List A) (d : A) (rest : List ℕ) → ((i : ℕ) → (g (f (get_or xs i d)) ≡ get_or xs i d) × (f (get_or xs i d) < 256 ^ w)) → numbers g w (length xs) (listed f w xs ++ rest) ≡ xs
  unfolding numbers listed
  numbers_listed [] d rest h = refl
  numbers_listed (x ∷ xs) d rest h =
      let e : (bytes w (f x) ++ listed f w xs) ++ rest ≡ bytes w (f x) ++ (listed f w xs ++ rest) = append_assoc (bytes w (f x)) (listed f w xs) rest in
      ap (λ (bs : List ℕ). g (number w bs) ∷ numbers g w (length xs) (drop w bs)) e
      ∙ ap₂ (λ (n : ℕ) (bs : List ℕ). g n ∷ numbers g w (length xs) bs) (number_bytes w (f x) (listed f w xs ++ rest) (h 0).1) (drop_at (bytes w (f x)) (listed f w xs ++ rest) w (bytes_length w (f x)))
      ∙ ap₂ ◌∷◌ (h 0).0 (numbers_listed xs d rest (λ i. h (suc i)))

  pub listed_numbers : (n : ℕ) (bs : List ℕ) → w * n ≤ length bs → Small bs → ((m : ℕ) → m < 256 ^ w → f (g m) ≡ m) → listed f w (numbers g w n bs) ++ drop (w * n) bs ≡ bs
  unfolding numbers listed
  listed_numbers zero bs l h k = ap (λ (x : ℕ). drop x bs) (let z : w * 0 ≡ 0 = omega arith in z)
  listed_numbers (suc n) bs l h k =
      let s : w * suc n ≡ w + w * n = omega arith in
      let v : ℕ = number w bs in
      let more : List ℕ = listed f w (numbers g w n (drop w bs)) in
      let room : w * n ≤ length (drop w bs) = omega (arith, length-drop w bs) in
      let few : w ≤ length bs = omega arith in
      ap₂ (λ (x y : ℕ). (bytes w x ++ more) ++ drop y bs) (k v (number_small w bs h)) s
      ∙ append_assoc (bytes w v) more (drop (w + w * n) bs)
      ∙ ap (λ (y : List ℕ). bytes w v ++ (more ++ y)) (sym (drop-drop (w * n) w bs))
      ∙ ap (bytes w v ++◌) (listed_numbers n (drop w bs) room (small_drop w bs h) k)
      ∙ bytes_number w bs few h

-- what is true of each number of w bytes is true of each element
pub numbers_each : {A : Type 0} (g : ℕ → A) (w : ℕ) (P : A → Type 0) (d : A) → P d → ((m : ℕ) → m < 256 ^ w → P (g m)) → (n : ℕ) (bs : List ℕ) → Small bs → (i : ℕ) → P (get_or (numbers g w n bs) i d)
unfolding numbers
numbers_each g w P d q k zero bs h i = q
numbers_each g w P d q k (suc n) bs h zero = k (number w bs) (number_small w bs h)
numbers_each g w P d q k (suc n) bs h (suc i) = numbers_each g w P d q k n (drop w bs) (small_drop w bs h) i
