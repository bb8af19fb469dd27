-- A frame's bits, byte by byte: where they stand and what number a run of them is.
-- Assumes nothing.
use Prim.Native.Nat.{ℕ, zero, suc, ◌+◌, ◌-◌, ◌*◌, ◌/◌, ◌%◌, ◌^◌, ◌≤◌, ◌<◌}
use native.Mathlib.Omega.{arith}
use native.Mathlib.Nat.{mod-eq_of_lt, zero-add, suc-add}
use mathlib.Core.Path.{◌≡◌, refl, sym, ap, ap₂, ◌∙◌}
use mathlib.Core.List.{List, [], ◌∷◌, ◌++◌, append-nil, append_assoc}
use lib.ListN.{length, take, drop, get_or, length-append, length-take, length-drop, take-append-drop}
use lib.Seq.{take_all, take_at, drop_at, take-suc, take-add, take-take, drop-drop, take-nil, get_or-drop, length-take-le}
use lib.Pow.{high, low, pow_mono}
use Rattle.basis.specs.Bits.{Bits, bits_of, append_digits, value, frame_bits}
use Rattle.basis.proofs.Values.{length_bits_of, value_bits_of, append_value, value_less}
use Rattle.basis.specs.Lookahead.{lookahead, number}
use Rattle.basis.proofs.Numbers.{append_append, number_value}

-- the number of one string after another
pub value_append : (a b : Bits) → value (a ++ b) ≡ value a * 2 ^ length b + value b
value_append a b = append_append 0 a b ∙ append_value b (value a)

-- the numbers of a string's front and of its end
pub value_take : (k : ℕ) (s : Bits) → value (take k s) ≡ value s / 2 ^ length (drop k s)
value_take k s =
    sym
    (ap (λ (t : Bits). value t / 2 ^ length (drop k s)) (sym (take-append-drop k s))
    ∙ (ap (λ (n : ℕ). n / 2 ^ length (drop k s)) (value_append (take k s) (drop k s)) ∙ high (value (take k s)) (length (drop k s)) (value_less (drop k s))))

pub value_drop : (k : ℕ) (s : Bits) → value (drop k s) ≡ value s % 2 ^ length (drop k s)
value_drop k s =
    sym
    (ap (λ (t : Bits). value t % 2 ^ length (drop k s)) (sym (take-append-drop k s))
    ∙ (ap (λ (n : ℕ). n % 2 ^ length (drop k s)) (value_append (take k s) (drop k s)) ∙ low (value (take k s)) (length (drop k s)) (value_less (drop k s))))

pub frame_length : (fs : List ℕ) → length (frame_bits fs) ≡ 8 * length fs
unfolding frame_bits
frame_length [] = refl
frame_length (b ∷ fs) = length-append (bits_of 8 b) (frame_bits fs) ∙ (let x = length_bits_of 8 b in let y = frame_length fs in omega arith)

pub frame_append : (xs ys : List ℕ) → frame_bits (xs ++ ys) ≡ frame_bits xs ++ frame_bits ys
unfolding frame_bits
frame_append [] ys = refl
frame_append (b ∷ xs) ys = ap (bits_of 8 b ++◌) (frame_append xs ys) ∙ sym (append_assoc (bits_of 8 b) (frame_bits xs) (frame_bits ys))

-- whole bytes of a frame are whole bytes of its bits
front_length : (q : ℕ) (fs : List ℕ) → q ≤ length fs → length (frame_bits (take q fs)) ≡ 8 * q
front_length q fs l = frame_length (take q fs) ∙ ap (8 *◌) (length-take-le q fs l)

frame_split : (q : ℕ) (fs : List ℕ) → frame_bits fs ≡ frame_bits (take q fs) ++ frame_bits (drop q fs)
frame_split q fs = ap frame_bits (sym (take-append-drop q fs)) ∙ frame_append (take q fs) (drop q fs)

pub frame_drop : (q : ℕ) (fs : List ℕ) → q ≤ length fs → drop (8 * q) (frame_bits fs) ≡ frame_bits (drop q fs)
frame_drop q fs l = ap (drop (8 * q)) (frame_split q fs) ∙ drop_at (frame_bits (take q fs)) (frame_bits (drop q fs)) (8 * q) (front_length q fs l)

pub frame_take : (q : ℕ) (fs : List ℕ) → q ≤ length fs → take (8 * q) (frame_bits fs) ≡ frame_bits (take q fs)
frame_take q fs l = ap (take (8 * q)) (frame_split q fs) ∙ take_at (frame_bits (take q fs)) (frame_bits (drop q fs)) (8 * q) (front_length q fs l)

-- one byte more
pub frame_snoc : (xs : List ℕ) (b : ℕ) → b < 256 → value (frame_bits (xs ++ b ∷ [])) ≡ value (frame_bits xs) * 256 + b
unfolding frame_bits
frame_snoc xs b l =
    ap value (frame_append xs (b ∷ []))
    ∙ (value_append (frame_bits xs) (bits_of 8 b ++ [])
    ∙ (let e : bits_of 8 b ++ [] ≡ bits_of 8 b = append-nil (bits_of 8 b) in
    let n : length (bits_of 8 b) ≡ 8 = length_bits_of 8 b in
    let m : value (bits_of 8 b) ≡ b = value_bits_of 8 b ∙ mod-eq_of_lt l in rw (e, n, m)))

-- the bytes from q on, n of them, as a number
abbrev pub bytes_value : List ℕ → ℕ → ℕ → ℕ
bytes_value fs q n = value (frame_bits (take n (drop q fs)))

pub bytes_none : (fs : List ℕ) (q : ℕ) → bytes_value fs q 0 ≡ 0
unfolding frame_bits append_digits
bytes_none fs q = refl

pub bytes_more : (fs : List ℕ) (q n : ℕ) → q + n < length fs → get_or fs (q + n) 0 < 256 → bytes_value fs q (suc n) ≡ bytes_value fs q n * 256 + get_or fs (q + n) 0
bytes_more fs q n l b =
    let i : n < length (drop q fs) = simp length-drop (omega arith) in
    let e : get_or (drop q fs) n 0 ≡ get_or fs (q + n) 0 = get_or-drop q fs n 0 in
    ap (λ (t : List ℕ). value (frame_bits t)) (take-suc (drop q fs) n 0 i)
    ∙ (ap (λ (x : ℕ). value (frame_bits (take n (drop q fs) ++ x ∷ []))) e ∙ frame_snoc (take n (drop q fs)) (get_or fs (q + n) 0) b)

drop_take : (r k : ℕ) (s : Bits) → drop r (take (r + k) s) ≡ take k (drop r s)
drop_take zero k s = ap (λ (n : ℕ). take n s) (zero-add k)
drop_take (suc r) k [] = ap (drop (suc r)) (take-nil (suc r + k)) ∙ sym (take-nil k)
drop_take (suc r) k (b ∷ s) = ap (λ (n : ℕ). drop (suc r) (take n (b ∷ s))) (suc-add r k) ∙ drop_take r k s

-- w bits from bit 8 q + r on lie in the n bytes from byte q on
same_bits : (fs : List ℕ) (q r n w : ℕ) → q + n ≤ length fs → r + w ≤ 8 * n → take w (drop (8 * q + r) (frame_bits fs)) ≡ take w (drop r (frame_bits (take n (drop q fs))))
same_bits fs q r n w l h =
    let i : n ≤ length (drop q fs) = simp length-drop (omega arith) in
    let k = 8 * n - r in
    let z : 8 * n ≡ r + k = omega arith in
    ap (take w) (sym (drop-drop r (8 * q) (frame_bits fs)) ∙ ap (drop r) (frame_drop q fs (omega arith)))
    ∙ (sym (take-take w k (drop r (frame_bits (drop q fs))) (omega arith))
    ∙ ap (take w) (sym (drop_take r k (frame_bits (drop q fs))) ∙ ap (drop r) (ap (λ (m : ℕ). take m (frame_bits (drop q fs))) (sym z) ∙ frame_take n (drop q fs) i)))

pub bits_in_bytes : (fs : List ℕ) (q r n w : ℕ) → q + n ≤ length fs → r + w ≤ 8 * n
    → value (take w (drop (8 * q + r) (frame_bits fs))) ≡ bytes_value fs q n % 2 ^ (8 * n - r) / 2 ^ (8 * n - r - w)
bits_in_bytes fs q r n w l h =
    let b = frame_bits (take n (drop q fs)) in
    let i : n ≤ length (drop q fs) = simp length-drop (omega arith) in
    let m : length b ≡ 8 * n = frame_length (take n (drop q fs)) ∙ ap (8 *◌) (length-take-le n (drop q fs) i) in
    let x : length (drop r b) ≡ 8 * n - r = length-drop r b ∙ ap (◌- r) m in
    let y : length (drop w (drop r b)) ≡ 8 * n - r - w = length-drop w (drop r b) ∙ ap (◌- w) x in
    ap value (same_bits fs q r n w l h)
    ∙ (value_take w (drop r b) ∙ (ap (λ (e : ℕ). value (drop r b) / 2 ^ e) y ∙ ap (λ (v : ℕ). v / 2 ^ (8 * n - r - w)) (value_drop r b ∙ ap (λ (e : ℕ). value b % 2 ^ e) x)))

-- two runs of bits, one after the other
pub bits_in_two : (fs : List ℕ) (p a b : ℕ) → p + a + b ≤ 8 * length fs
    → value (take (a + b) (drop p (frame_bits fs))) ≡ value (take a (drop p (frame_bits fs))) * 2 ^ b + value (take b (drop (p + a) (frame_bits fs)))
bits_in_two fs p a b h =
    let s = drop p (frame_bits fs) in
    let d : drop a s ≡ drop (p + a) (frame_bits fs) = drop-drop a p (frame_bits fs) in
    let n : length (drop (p + a) (frame_bits fs)) ≡ 8 * length fs - (p + a) = length-drop (p + a) (frame_bits fs) ∙ ap (◌- (p + a)) (frame_length fs) in
    let l : length (take b (drop a s)) ≡ b = ap (λ (t : Bits). length (take b t)) d ∙ length-take-le b (drop (p + a) (frame_bits fs)) (omega arith) in
    ap value (take-add a b s) ∙ value_append (take a s) (take b (drop a s)) ∙ ap₂ (λ (k : ℕ) (t : Bits). value (take a s) * 2 ^ k + value (take b t)) l d

pub value_take_less : (w : ℕ) (s : Bits) → value (take w s) < 2 ^ w
value_take_less w s =
    let l : length (take w s) ≤ w = simp length-take (omega arith) in
    let z : 2 ^ length (take w s) ≤ 2 ^ w = pow_mono l in
    let v = value_less (take w s) in
    omega arith

-- the number of what comes next at bit p, where fewer than 8 bits are left, and where there are 8
pub ahead_short : (fs : List ℕ) (p left : ℕ) → left + p ≡ 8 * length fs → left < 8
    → 2 ^ left + value (take left (drop p (frame_bits fs))) ≡ number (lookahead (drop p (frame_bits fs)))
ahead_short fs p left e l =
    let s = drop p (frame_bits fs) in
    let n : length s ≡ left = length-drop p (frame_bits fs) ∙ (let x = frame_length fs in omega arith) in
    let t : take left s ≡ s = take_all left s (omega arith) in
    let u : take 8 s ≡ s = take_all 8 s (omega arith) in
    rw (t, u) (ap (λ (k : ℕ). 2 ^ k + value s) (sym n) ∙ sym (number_value s))

pub ahead_long : (fs : List ℕ) (p : ℕ) → p + 8 ≤ 8 * length fs → 256 + value (take 8 (drop p (frame_bits fs))) ≡ number (lookahead (drop p (frame_bits fs)))
ahead_long fs p l =
    let s = drop p (frame_bits fs) in
    let n : length s ≡ 8 * length fs - p = length-drop p (frame_bits fs) ∙ ap (◌- p) (frame_length fs) in
    let m : length (take 8 s) ≡ 8 = length-take-le 8 s (omega arith) in
    ap (λ (k : ℕ). 2 ^ k + value (take 8 s)) (sym m) ∙ sym (number_value (take 8 s))
