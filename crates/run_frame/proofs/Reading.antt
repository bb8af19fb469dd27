-- Bytes of a frame as one number, and a run of bits in them by two shifts.
-- Assumes nothing.
use Prim.Native.Nat.{ℕ, suc, ◌+◌, ◌-◌, ◌*◌, ◌/◌, ◌%◌, ◌^◌, ◌≤◌, ◌<◌}
use native.Mathlib.Omega.{arith}
use native.Mathlib.Nat.{add_comm, add-zero}
use mathlib.Core.Path.{◌≡◌, sym, ap, ap₂, subst, ◌∙◌}
use mathlib.Core.List.{List}
use lib.ListN.{length, take, drop, get_or}
use lib.Pow.{field, shr-shr, shl-shr}
use Rattle.basis.specs.Bits.{value, frame_bits}
use Rattle.basis.proofs.Frames.{bytes_value, bytes_none, bytes_more, bits_in_bytes}

-- one byte more
pub byte_more : (fs : List ℕ) (q n v x : ℕ) → q + n < length fs → v ≡ bytes_value fs q n → x ≡ get_or fs (q + n) 0 → x < 256 → v * 256 + x ≡ bytes_value fs q (suc n)
byte_more fs q n v x l e is h =
    ap₂ (λ (a b : ℕ). a * 256 + b) e is ∙ sym (bytes_more fs q n l (subst (λ (b : ℕ). b < 256) is h))

-- a byte
pub byte_one : (fs : List ℕ) (q x : ℕ) → q < length fs → x ≡ get_or fs q 0 → x < 256 → x ≡ bytes_value fs q 1
byte_one fs q x l is h =
    let z : x ≡ 0 * 256 + x = omega arith in
    z ∙ byte_more fs q 0 0 x (omega arith) (sym (bytes_none fs q)) (is ∙ ap (λ (k : ℕ). get_or fs k 0) (sym (add-zero q))) h

shifted : (y r w m : ℕ) → y * 2 ^ r % 2 ^ (w + (m + r)) / 2 ^ (m + r) ≡ y % 2 ^ (w + m) / 2 ^ m
shifted y r w m =
    field (y * 2 ^ r) w (m + r)
    ∙ (ap (λ (x : ℕ). x % 2 ^ w) (ap (λ (e : ℕ). y * 2 ^ r / 2 ^ e) (add_comm m r) ∙ (sym (shr-shr (y * 2 ^ r) r m) ∙ ap (λ (x : ℕ). x / 2 ^ m) (shl-shr y r)))
    ∙ sym (field y w m))

-- w bits of eight bytes behind the first r: what stands before them leaves the word by the first shift, what stands behind them by the second
pub bits_in_eight : (fs : List ℕ) (p y w : ℕ) → p / 8 + 8 ≤ length fs → p % 8 + w ≤ 64 → y ≡ bytes_value fs (p / 8) 8
    → y * 2 ^ (p % 8) % 2 ^ 64 / 2 ^ (64 - w) ≡ value (take w (drop p (frame_bits fs)))
bits_in_eight fs p y w l h e =
    let q = p / 8 in
    let r = p % 8 in
    let m = 64 - r - w in
    let a : 64 ≡ w + (m + r) = omega arith in
    let b : 64 - w ≡ m + r = omega arith in
    let c : w + m ≡ 64 - r = omega arith in
    let place : 8 * q + r ≡ p = omega arith in
    ap₂ (λ (i j : ℕ). y * 2 ^ r % 2 ^ i / 2 ^ j) a b
    ∙ (shifted y r w m
    ∙ (ap₂ (λ (v i : ℕ). v % 2 ^ i / 2 ^ m) e c
    ∙ (sym (bits_in_bytes fs q r 8 w l h) ∙ ap (λ (x : ℕ). value (take w (drop x (frame_bits fs)))) place)))

-- 8 bits are a byte
pub octet_in_one : (fs : List ℕ) (p y : ℕ) → p / 8 < length fs → p % 8 ≡ 0 → y < 256 → y ≡ bytes_value fs (p / 8) 1 → y ≡ value (take 8 (drop p (frame_bits fs)))
octet_in_one fs p y l z h e =
    let q = p / 8 in
    let place : 8 * q + 0 ≡ p = omega arith in
    let s : y ≡ y % 256 / 1 = omega arith in
    s ∙ (ap (λ (v : ℕ). v % 256 / 1) e ∙ (sym (bits_in_bytes fs q 0 1 8 (omega arith) (omega arith)) ∙ ap (λ (x : ℕ). value (take 8 (drop x (frame_bits fs)))) place))

-- or parts of two
pub octet_in_two : (fs : List ℕ) (p y : ℕ) → p / 8 + 2 ≤ length fs → y ≡ bytes_value fs (p / 8) 2 → y / 2 ^ (8 - p % 8) % 256 ≡ value (take 8 (drop p (frame_bits fs)))
octet_in_two fs p y l e =
    let q = p / 8 in
    let r = p % 8 in
    let place : 8 * q + r ≡ p = omega arith in
    let a : 8 + (8 - r) ≡ 16 - r = omega arith in
    let b : 8 - r ≡ 16 - r - 8 = omega arith in
    sym (field y 8 (8 - r))
    ∙ (ap₂ (λ (i j : ℕ). y % 2 ^ i / 2 ^ j) a b
    ∙ (ap (λ (v : ℕ). v % 2 ^ (16 - r) / 2 ^ (16 - r - 8)) e
    ∙ (sym (bits_in_bytes fs q r 2 8 l (omega arith)) ∙ ap (λ (x : ℕ). value (take 8 (drop x (frame_bits fs)))) place)))
