-- Laws of the pieces that make a word of a join.
-- Assumes nothing.
use Prim.Native.Nat.{ℕ, ◌+◌, ◌-◌, ◌*◌, ◌/◌, ◌%◌, ◌^◌, ◌≤◌, ◌<◌, max}
use mathlib.Core.Path.{◌≡◌, sym, ap, ap₂, ◌∙◌, subst}
use mathlib.Core.Logic.{◌⊎◌, inl, inr, ◌↔◌}
use mathlib.Core.List.{List}
use native.Mathlib.Nat.{mod-lt, div-add-mod', div-lt_iff_lt-mul, one-mul, zero-mul, mul-le-mul_right}
use native.Mathlib.Decide.{ℕ_discrete}
use native.Mathlib.Omega.{arith}
use lib.ListN.{get_or}
use lib.Arith.{digits_div, digits_mod, digits_lt}
use lib.Bits.{bit_and, bit_or, and_mask}
use lib.Pow.{pow-add, pow_pos, pow_mono, shr-shr, mod-pow-add}
use Rattle.lookahead.specs.Sets.{bit, member}
use Rattle.lookahead.specs.Inner.{Run, Product, split_at, Piece, Splits}
use Rattle.lookahead.proofs.BitLaws.{bit_lt, bit-or, bit_none, bit_first, bit_mod, bit_shr, shifted_one}
use Rattle.lookahead.proofs.SetLaws.{member_at, max_one}
use Rattle.lookahead.proofs.SpreadLaws.{whole_word}

-- ---- runs of bits

-- a bound on a power is given as a numeral, which omega reads
pub power_le : (e m : ℕ) → e ≤ m → 2 ^ e ≤ 2 ^ m
power_le e m h = pow_mono h

pub whole_index : (x e : ℕ) → e ≡ 6 → x * 2 ^ e < 512 → x < 8
whole_index x e z l = let u : x * 2 ^ 6 < 512 = subst (λ (i : ℕ). x * 2 ^ i < 512) z l in omega arith

pub first_small : (r e : ℕ) → r < 8 → e ≤ 6 → r * 2 ^ e < 512
first_small r e h l =
    let p : 2 ^ e ≤ 64 = power_le e 6 l in
    let m : r * 2 ^ e ≤ 7 * 2 ^ e = mul-le-mul_right (2 ^ e) (let u : r ≤ 7 = omega arith in u) in
    omega arith

-- the number of words of strings of 6 + e bits, as it is computed
pub size_of : (e : ℕ) → e ≤ 2 → (1 * 2 ^ e % 2 ^ 64 ≡ 2 ^ e) × (2 ^ e ≤ 4) × (0 < 2 ^ e)
size_of e h =
    (shifted_one e 64 (omega arith), power_le e 2 h, pow_pos e)

-- a run of 2 ^ e numbers from a multiple of 2 ^ e lies in one word
run_place : (x e i : ℕ) → e ≤ 6 → i < 2 ^ e → ((x * 2 ^ e + i) / 64 ≡ x * 2 ^ e / 64) × ((x * 2 ^ e + i) % 64 ≡ x * 2 ^ e % 64 + i)
run_place x e i h l =
    let P = 2 ^ (6 - e) in
    let Q = 2 ^ e in
    let w : 2 ^ (6 - e) * 2 ^ e ≡ 64 = whole_word e h in
    let s : x / 2 ^ (6 - e) * 2 ^ (6 - e) + x % 2 ^ (6 - e) ≡ x = div-add-mod' x (2 ^ (6 - e)) in
    let m : x % 2 ^ (6 - e) < 2 ^ (6 - e) = mod-lt x (pow_pos (6 - e)) in
    let b : x % 2 ^ (6 - e) * 2 ^ e + i < 2 ^ (6 - e) * 2 ^ e = digits_lt m l in
    let t : (x / 2 ^ (6 - e) * 2 ^ (6 - e) + x % 2 ^ (6 - e)) * 2 ^ e ≡ x / 2 ^ (6 - e) * (2 ^ (6 - e) * 2 ^ e) + x % 2 ^ (6 - e) * 2 ^ e = omega arith in
    let u : x * 2 ^ e ≡ x / 2 ^ (6 - e) * 64 + x % 2 ^ (6 - e) * 2 ^ e =
    ap (λ (y : ℕ). y * 2 ^ e) (sym s) ∙ t ∙ ap (λ (y : ℕ). x / 2 ^ (6 - e) * y + x % 2 ^ (6 - e) * 2 ^ e) w in
    (omega arith, omega arith)

pub run_whole : (set : List ℕ) (x e r : ℕ) → e ≡ 6 → r < 2 ^ 64 → r ≡ get_or set x 0 → Run set x e r
run_whole set x e r z s q = subst (λ (i : ℕ). Run set x i r) (sym z) record {
  small = s;
  at = λ i h. ap (λ (v : ℕ). bit v i) q ∙ sym (member_at set x i h) ∙ ap (member set) (let u : 64 * x + i ≡ x * 64 + i = omega arith in u);
}

-- the mask of 2 ^ e bits, as it is computed
pub mask_of : (e : ℕ) → e ≤ 5 → (1 * 2 ^ e % 2 ^ 32 ≡ 2 ^ e) × (1 * 2 ^ (2 ^ e) % 2 ^ 64 ≡ 2 ^ (2 ^ e)) × (2 ^ e < 64)
mask_of e h =
    let a : 2 ^ e ≤ 2 ^ 5 = pow_mono {j = 5} h in
    (shifted_one e 32 (omega arith), shifted_one (2 ^ e) 64 (omega arith), omega arith)

pub run_part : (set : List ℕ) (x e r first count : ℕ) → e ≤ 5 → first ≡ x * 2 ^ e → count ≡ 2 ^ (2 ^ e)
    → r ≡ bit_and (get_or set (first / 64) 0 / 2 ^ (first % 64)) (count - 1) → Run set x e r
unfolding member
run_part set x e r first count h p c q = record { small = rw eq (mod-lt _ (pow_pos (2 ^ e))); at = at }
  where
    v : ℕ
    v = get_or set (x * 2 ^ e / 64) 0 / 2 ^ (x * 2 ^ e % 64)

    eq : r ≡ get_or set (x * 2 ^ e / 64) 0 / 2 ^ (x * 2 ^ e % 64) % 2 ^ (2 ^ e)
    eq =
        q ∙ ap₂ (λ (y z : ℕ). bit_and (get_or set (y / 64) 0 / 2 ^ (y % 64)) (z - 1)) p c
        ∙ and_mask (get_or set (x * 2 ^ e / 64) 0 / 2 ^ (x * 2 ^ e % 64)) (2 ^ e)

    at : (i : ℕ) → i < 2 ^ e → bit r i ≡ member set (x * 2 ^ e + i)
    at i l =
        let o = run_place x e i (omega arith) l in
        ap (λ (y : ℕ). bit y i) eq ∙ bit_mod (get_or set (x * 2 ^ e / 64) 0 / 2 ^ (x * 2 ^ e % 64)) (2 ^ e) i l
        ∙ bit_shr (get_or set (x * 2 ^ e / 64) 0) (x * 2 ^ e % 64) i
        ∙ sym (ap₂ (λ (y z : ℕ). bit (get_or set y 0) z) o.0 o.1)

-- ---- pieces

pub narrow_piece : (a b : List ℕ) (r j A B w : ℕ) → j ≤ 6 → Run a r (6 - j) A → Run b 1 j B → Product A B j w → Piece a b r j w
narrow_piece a b r j A B w h p q m k l =
    let P = 2 ^ (6 - j) in
    let z : 2 ^ (6 - j) * 2 ^ j ≡ 64 = whole_word j h in
    let d : k / 2 ^ j < 2 ^ (6 - j) = (div-lt_iff_lt-mul (pow_pos j)).1 (omega arith) in
    let n : k % 2 ^ j < 2 ^ j = mod-lt k (pow_pos j) in
    let s : k / 2 ^ j * 2 ^ j + k % 2 ^ j ≡ k = div-add-mod' k (2 ^ j) in
    let t : (r * 2 ^ (6 - j) + k / 2 ^ j) * 2 ^ j + k % 2 ^ j ≡ r * (2 ^ (6 - j) * 2 ^ j) + (k / 2 ^ j * 2 ^ j + k % 2 ^ j) = omega arith in
    let u : 64 * r + k ≡ (r * 2 ^ (6 - j) + k / 2 ^ j) * 2 ^ j + k % 2 ^ j =
    sym (t ∙ ap₂ (λ (x y : ℕ). r * x + y) z s ∙ omega arith) in
    m k l
    ∙ ap₂ (λ (x y : ℕ). x * y)
    (p.at (k / 2 ^ j) d ∙ ap (member a) (sym (ap (λ (y : ℕ). y / 2 ^ j) u ∙ digits_div (r * 2 ^ (6 - j) + k / 2 ^ j) n)))
    (q.at (k % 2 ^ j) n
    ∙ ap (member b) (ap₂ (λ (x y : ℕ). x + y) (one-mul (2 ^ j)) (sym (ap (λ (y : ℕ). y % 2 ^ j) u ∙ digits_mod (r * 2 ^ (6 - j) + k / 2 ^ j) n))))

-- from 6 bits on, strings of the second set fill 2 ^ e words
module _ (a b : List ℕ) (r e v : ℕ) (p : Run a (r / 2 ^ e) 0 v) where
  wide_left : (k : ℕ) → k < 64 → (64 * r + k) / 2 ^ (6 + e) ≡ r / 2 ^ e
  wide_left k h = sym (shr-shr (64 * r + k) 6 e) ∙ ap (λ (y : ℕ). y / 2 ^ e) (let u : (64 * r + k) / 2 ^ 6 ≡ r = omega arith in u)

  wide_right : (k : ℕ) → k < 64 → 2 ^ (6 + e) + (64 * r + k) % 2 ^ (6 + e) ≡ 64 * (2 ^ e + r % 2 ^ e) + k
  wide_right k h =
      let c : 2 ^ (6 + e) ≡ 64 * 2 ^ e = pow-add 2 6 e in
      let m : (64 * r + k) % 2 ^ (e + 6) ≡ (64 * r + k) / 2 ^ 6 % 2 ^ e * 2 ^ 6 + (64 * r + k) % 2 ^ 6 = mod-pow-add (64 * r + k) e 6 in
      let s : e + 6 ≡ 6 + e = omega arith in
      let n : (64 * r + k) % 2 ^ (6 + e) ≡ (64 * r + k) / 2 ^ 6 % 2 ^ e * 2 ^ 6 + (64 * r + k) % 2 ^ 6 = ap (λ (y : ℕ). (64 * r + k) % 2 ^ y) (sym s) ∙ m in
      let d : (64 * r + k) / 2 ^ 6 % 2 ^ e ≡ r % 2 ^ e = ap (λ (y : ℕ). y % 2 ^ e) (let u : (64 * r + k) / 2 ^ 6 ≡ r = omega arith in u) in
      let f : (64 * r + k) % 2 ^ 6 ≡ k = omega arith in
      omega arith

  there : v < 2 → member a (r / 2 ^ e) ≡ v
  there l =
      sym (ap (member a) (let u : r / 2 ^ e * 1 + 0 ≡ r / 2 ^ e = omega arith in u)) ∙ sym (p.at 0 (omega arith)) ∙ bit_first v ∙ omega arith

  pub wide_piece : (w : ℕ) → 0 < v → w ≡ get_or b (2 ^ e + r % 2 ^ e) 0 → Piece a b r (6 + e) w
  wide_piece w z q k h =
      ap (λ (y : ℕ). bit y k) q ∙ sym (member_at b (2 ^ e + r % 2 ^ e) k h) ∙ ap (member b) (sym (wide_right k h))
      ∙ sym (ap (λ (y : ℕ). y * member b (2 ^ (6 + e) + (64 * r + k) % 2 ^ (6 + e))) (ap (member a) (wide_left k h) ∙ there p.small ∙ omega (arith, p.small))
      ∙ one-mul (member b (2 ^ (6 + e) + (64 * r + k) % 2 ^ (6 + e))))

  pub wide_none : v ≡ 0 → Piece a b r (6 + e) 0
  wide_none z k h =
      bit_none k
      ∙ sym (ap (λ (y : ℕ). y * member b (2 ^ (6 + e) + (64 * r + k) % 2 ^ (6 + e))) (ap (member a) (wide_left k h) ∙ there p.small ∙ z)
      ∙ zero-mul (member b (2 ^ (6 + e) + (64 * r + k) % 2 ^ (6 + e))))

-- ---- the or of the pieces

-- the pieces for strings of fewer than j bits
abbrev pub Word-to : List ℕ → List ℕ → ℕ → ℕ → ℕ → Type 0
Word-to a b r j w = (k : ℕ) → k < 64 → (bit w k ≡ 1) ↔ Splits a b j (64 * r + k)

pub word_none : (a b : List ℕ) (r : ℕ) → Word-to a b r 0 0
word_none a b r k h = ((λ e. absurd (omega (arith, bit_none k, e))), (λ s. absurd (omega (arith, s.1))))

pub word_more : (a b : List ℕ) (r j w p : ℕ) → Word-to a b r j w → Piece a b r j p → Word-to a b r (j + 1) (bit_or w p)
word_more a b r j w p f q k h = (to, back)
  where
    n : ℕ
    n = 64 * r + k

    here : bit (bit_or w p) k ≡ max (bit w k) (bit p k)
    here = bit-or w p k

    sort : (bit w k ≡ 1) ⊎ (bit p k ≡ 1) → Splits a b (j + 1) (64 * r + k)
    sort (inl e) = let s = (f k h).0 e in (s.0, omega (arith, s.1), s.2)
    sort (inr e) = (j, omega arith, sym (q k h) ∙ e)

    to : bit (bit_or w p) k ≡ 1 → Splits a b (j + 1) (64 * r + k)
    to e = sort (max_one (bit w k) (bit p k) (bit_lt w k) (bit_lt p k) (sym here ∙ e))

    back : Splits a b (j + 1) (64 * r + k) → bit (bit_or w p) k ≡ 1
    back s = elim (ℕ_discrete s.0 j) [
      | yes e ↦
          let z : bit p k ≡ 1 = q k h ∙ ap (split_at a b (64 * r + k)) (sym e) ∙ s.2 in
          omega (arith, here, bit_lt w k)
      | no e ↦
          let z : bit w k ≡ 1 = (f k h).1 (s.0, omega (arith, s.1, e), s.2) in
          omega (arith, here, bit_lt p k)
    ]
