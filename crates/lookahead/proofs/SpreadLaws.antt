-- Laws of bits that are spread apart, and of a product with them: a copy of the other factor for each bit.
-- Assumes nothing.
use Prim.Native.Nat.{ℕ, zero, suc, ◌+◌, ◌-◌, ◌*◌, ◌/◌, ◌%◌, ◌^◌, ◌≤◌, ◌<◌, min, max}
use mathlib.Core.Path.{◌≡◌, refl, sym, ap, ap₂, ◌∙◌, subst}
use mathlib.Core.Logic.{◌⊎◌, inl, inr}
use native.Mathlib.Nat.{mod-lt, div-add-mod', div-mul-le_self, one-mul, zero-mul, add-zero, suc-mul}
use native.Mathlib.Decide.{dec_lt}
use native.Mathlib.Omega.{arith}
use lib.Arith.{digits_div, digits_mod, digits_lt}
use lib.Bits.{bit_and, bit_or}
use lib.Dec.{T}
use lib.Pow.{pow-add, pow_pos, shr_lt, split}
use Rattle.lookahead.specs.Sets.{bit}
use Rattle.lookahead.specs.Inner.{Fields, Product}
use Rattle.lookahead.proofs.BitLaws.{bit_lt, bit-or, bit-and, bit_none, bit_first, bit_above, bit_low, bit_high, bit_mod, bit_shr, bit_shl, bit_shl_low, bit_ext}
use Rattle.lookahead.proofs.FoldLaws.{striped, stripe_in, stripe_out}

-- ---- opening fields

-- r is w opened by s under the mask
abbrev Opened : ℕ → ℕ → ℕ → ℕ → Type 0
Opened w s mask r = r ≡ bit_and (bit_or w (w * 2 ^ s % 2 ^ 64)) mask

half : (f : ℕ) → (q : ℕ) × ((f ≡ 2 * q) ⊎ (f ≡ 2 * q + 1))
half f = (f / 2, elim (dec_lt (f % 2) 1) [ yes h ↦ inl (omega arith) | no h ↦ inr (omega arith) ])

module _ (g : ℕ → ℕ) (h d w s mask r : ℕ) (l : 2 * h ≤ d) (c : s + h ≡ d) (t : T (striped h d mask)) (e : Opened w s mask r) (F : Fields g (2 * h) (2 * d) w) where
  opened_at : (p : ℕ) → p < 64 → bit r p ≡ min (max (bit w p) (bit (w * 2 ^ s) p)) (bit mask p)
  opened_at p b =
      ap (λ (v : ℕ). bit v p) e ∙ bit-and (bit_or w (w * 2 ^ s % 2 ^ 64)) mask p
      ∙ ap (λ (v : ℕ). min v (bit mask p)) (bit-or w (w * 2 ^ s % 2 ^ 64) p ∙ ap (max (bit w p)) (bit_mod (w * 2 ^ s) 64 p b))

  -- the lower half of a field stays, and nothing comes into it
  lower : (q i : ℕ) → i < h → q * (2 * d) + i < 64 → bit (w * 2 ^ s) (q * (2 * d) + i) ≡ 0
  lower zero i a b = bit_shl_low w s (0 * (2 * d) + i) (omega arith)
  lower (suc q) i a b =
      let z : suc q * (2 * d) + i ≡ s + (q * (2 * d) + (d + h + i)) = omega arith in
      ap (bit (w * 2 ^ s)) z ∙ bit_shl w s (q * (2 * d) + (d + h + i))
      ∙ F.between q (d + h + i) (omega arith) (omega arith) (omega arith)

  opened_here : (f i : ℕ) → i < h → f * d + i < 64 → bit r (f * d + i) ≡ g (f * h + i)
  opened_here f i a b = go (half f).0 (half f).1
    where
      m : bit mask (f * d + i) ≡ 1
      m = stripe_in h d mask t f i a (omega arith) b

      go : (q : ℕ) → (f ≡ 2 * q) ⊎ (f ≡ 2 * q + 1) → bit r (f * d + i) ≡ g (f * h + i)
      go q (inl z) =
          let zd : f * d ≡ q * (2 * d) = ap (λ (x : ℕ). x * d) z ∙ omega arith in
          let zh : f * h ≡ q * (2 * h) = ap (λ (x : ℕ). x * h) z ∙ omega arith in
          let x : bit w (f * d + i) ≡ g (f * h + i) =
          ap (λ (y : ℕ). bit w (y + i)) zd ∙ F.here q i (omega arith) (omega arith) ∙ ap (λ (y : ℕ). g (y + i)) (sym zh) in
          let y : bit (w * 2 ^ s) (f * d + i) ≡ 0 = ap (λ (y : ℕ). bit (w * 2 ^ s) (y + i)) zd ∙ lower q i a (omega arith) in
          let o = opened_at (f * d + i) b in
          let v : bit w (f * d + i) < 2 = bit_lt w (f * d + i) in
          omega (arith, m)
      go q (inr z) =
          let zd : f * d ≡ q * (2 * d) + d = ap (λ (x : ℕ). x * d) z ∙ omega arith in
          let zh : f * h ≡ q * (2 * h) + h = ap (λ (x : ℕ). x * h) z ∙ omega arith in
          let x : bit w (f * d + i) ≡ 0 =
          ap (bit w) (let u : f * d + i ≡ q * (2 * d) + (d + i) = omega arith in u) ∙ F.between q (d + i) (omega arith) (omega arith) (omega arith) in
          let y : bit (w * 2 ^ s) (f * d + i) ≡ g (f * h + i) =
          ap (bit (w * 2 ^ s)) (let u : f * d + i ≡ s + (q * (2 * d) + (h + i)) = omega arith in u) ∙ bit_shl w s (q * (2 * d) + (h + i))
          ∙ F.here q (h + i) (omega arith) (omega arith) ∙ ap g (omega arith) in
          let o = opened_at (f * d + i) b in
          let v : bit (w * 2 ^ s) (f * d + i) < 2 = bit_lt (w * 2 ^ s) (f * d + i) in
          omega (arith, m)

  fields_open : Fields g h d r
  fields_open = record {
    here = opened_here;
    between = λ f i a b k. let m : bit mask (f * d + i) ≡ 0 = stripe_out h d mask t f i a b k in let o = opened_at (f * d + i) k in omega arith;
  }

fields_whole : (w h : ℕ) → w < 2 ^ h → Fields (bit w) h 64 w
fields_whole w h l = record {
  here = λ f i a b. ap (bit w) (first f i b);
  between = λ f i a b c. ap (bit w) (first' f i c) ∙ bit_above w h i l a;
}
  where
    first : (f i : ℕ) → f * 64 + i < 64 → f * 64 + i ≡ f * h + i
    first zero i b = omega arith
    first (suc f) i b = absurd (omega arith)

    first' : (f i : ℕ) → f * 64 + i < 64 → f * 64 + i ≡ i
    first' zero i b = omega arith
    first' (suc f) i b = absurd (omega arith)

-- ---- the chains of masks, for each distance

pub spread_0 : (w : ℕ) → Fields (bit w) 1 1 w
spread_0 w = record { here = λ f i a b. refl; between = λ f i a b c. absurd (omega arith) }

pub spread_1 : (w a b c d r : ℕ) → w < 2 ^ 32 → Opened w 16 0x0000_ffff_0000_ffff a → Opened a 8 0x00ff_00ff_00ff_00ff b → Opened b 4 0x0f0f_0f0f_0f0f_0f0f c
    → Opened c 2 0x3333_3333_3333_3333 d → Opened d 1 0x5555_5555_5555_5555 r → Fields (bit w) 1 2 r
spread_1 w a b c d r l pa pb pc pd pr =
    fields_open (bit w) 1 2 d 1 _ r (omega arith) refl tt pr (fields_open (bit w) 2 4 c 2 _ d (omega arith) refl tt pd (fields_open (bit w) 4 8 b 4 _ c (omega arith) refl tt pc
    (fields_open (bit w) 8 16 a 8 _ b (omega arith) refl tt pb (fields_open (bit w) 16 32 w 16 _ a (omega arith) refl tt pa (fields_whole w 32 l)))))

pub spread_2 : (w a b c r : ℕ) → w < 2 ^ 16 → Opened w 24 0x0000_00ff_0000_00ff a → Opened a 12 0x000f_000f_000f_000f b → Opened b 6 0x0303_0303_0303_0303 c
    → Opened c 3 0x1111_1111_1111_1111 r → Fields (bit w) 1 4 r
spread_2 w a b c r l pa pb pc pr =
    fields_open (bit w) 1 4 c 3 _ r (omega arith) refl tt pr (fields_open (bit w) 2 8 b 6 _ c (omega arith) refl tt pc
    (fields_open (bit w) 4 16 a 12 _ b (omega arith) refl tt pb (fields_open (bit w) 8 32 w 24 _ a (omega arith) refl tt pa (fields_whole w 16 l))))

pub spread_3 : (w a b r : ℕ) → w < 2 ^ 8 → Opened w 28 0x0000_000f_0000_000f a → Opened a 14 0x0003_0003_0003_0003 b → Opened b 7 0x0101_0101_0101_0101 r
    → Fields (bit w) 1 8 r
spread_3 w a b r l pa pb pr =
    fields_open (bit w) 1 8 b 7 _ r (omega arith) refl tt pr (fields_open (bit w) 2 16 a 14 _ b (omega arith) refl tt pb
    (fields_open (bit w) 4 32 w 28 _ a (omega arith) refl tt pa (fields_whole w 8 l)))

pub spread_4 : (w a r : ℕ) → w < 2 ^ 4 → Opened w 30 0x0000_0003_0000_0003 a → Opened a 15 0x0001_0001_0001_0001 r → Fields (bit w) 1 16 r
spread_4 w a r l pa pr =
    fields_open (bit w) 1 16 a 15 _ r (omega arith) refl tt pr (fields_open (bit w) 2 32 w 30 _ a (omega arith) refl tt pa (fields_whole w 4 l))

pub spread_5 : (w r : ℕ) → w < 2 ^ 2 → Opened w 31 0x0000_0001_0000_0001 r → Fields (bit w) 1 32 r
spread_5 w r l pr = fields_open (bit w) 1 32 w 31 _ r (omega arith) refl tt pr (fields_whole w 2 l)

-- ---- a product with bits that are d apart

-- x has bits only at multiples of d
abbrev Sparse : ℕ → ℕ → Type 0
Sparse d x = (f i : ℕ) → 0 < i → i < d → bit x (f * d + i) ≡ 0

-- below its first 2 ^ d, such a number is one bit
lowest_bit : (d x : ℕ) → Sparse d x → x % 2 ^ d ≡ x % 2 ^ d % 2
lowest_bit d x f = bit_ext d (x % 2 ^ d) (x % 2 ^ d % 2) (mod-lt x (pow_pos d)) small same
  where
    low : ℕ
    low = x % 2 ^ d

    small : x % 2 ^ d % 2 < 2 ^ d
    small = let a : x % 2 ^ d < 2 ^ d = mod-lt x (pow_pos d) in omega arith

    same : (k : ℕ) → k < d → bit (x % 2 ^ d) k ≡ bit (x % 2 ^ d % 2) k
    same zero h = bit_first (x % 2 ^ d) ∙ (let z : x % 2 ^ d % 2 ≡ x % 2 ^ d % 2 % 2 = omega arith in z) ∙ sym (bit_first (x % 2 ^ d % 2))
    same (suc k) h =
        bit_mod x d (suc k) h ∙ ap (bit x) (let z : suc k ≡ 0 * d + suc k = omega arith in z) ∙ f 0 (suc k) (omega arith) h
        ∙ sym (bit_above (x % 2 ^ d % 2) 1 (suc k) (omega arith) (omega arith))

-- one bit times b
one_copy : (o b k : ℕ) → o < 2 → bit (o * b) k ≡ o * bit b k
one_copy zero b k h = ap (λ (v : ℕ). bit v k) (zero-mul b) ∙ bit_none k ∙ sym (zero-mul (bit b k))
one_copy (suc zero) b k h = ap (λ (v : ℕ). bit v k) (one-mul b) ∙ sym (one-mul (bit b k))
one_copy (suc (suc o)) b k h = absurd (omega arith)

one_small : (o b p : ℕ) → o < 2 → b < p → o * b < p
one_small zero b p h l = omega arith
one_small (suc zero) b p h l = omega arith
one_small (suc (suc o)) b p h l = absurd (omega arith)

record Copies (n d x b : ℕ) : Type 0 where
  small : x * b < 2 ^ (n * d)
  at : (k : ℕ) → bit (x * b) k ≡ bit x (k / d * d) * bit b (k % d)

copies : (n d x b : ℕ) → 0 < d → b < 2 ^ d → x < 2 ^ (n * d) → Sparse d x → Copies n d x b
copies zero d x b z l h f =
    let x0 : x ≡ 0 = (let u : x < 2 ^ 0 = subst (λ (m : ℕ). x < 2 ^ m) (zero-mul d) h in omega arith) in
    record {
      small = rw (x0, zero-mul b) (pow_pos (0 * d));
      at = λ k. rw (x0, zero-mul b, bit_none k, bit_none (k / d * d)) (sym (zero-mul (bit b (k % d))));
    }
copies (suc n) d x b z l h f = go (copies n d (x / 2 ^ d) b z l high_lt gaps)
  where
    hi : ℕ
    hi = x / 2 ^ d

    o : ℕ
    o = x % 2 ^ d

    o_lt : x % 2 ^ d < 2
    o_lt = omega (arith, lowest_bit d x f)

    high_lt : x / 2 ^ d < 2 ^ (n * d)
    high_lt = shr_lt (n * d) d (subst (λ (m : ℕ). x < 2 ^ m) (let u : suc n * d ≡ n * d + d = suc-mul n d in u) h)

    gaps : Sparse d (x / 2 ^ d)
    gaps g i a c = bit_shr x d (g * d + i) ∙ ap (bit x) (let u : d + (g * d + i) ≡ suc g * d + i = omega arith in u) ∙ f (suc g) i a c

    sum : x * b ≡ x / 2 ^ d * b * 2 ^ d + x % 2 ^ d * b
    sum =
        let u : x / 2 ^ d * 2 ^ d + x % 2 ^ d ≡ x = split x d in
        let v : (x / 2 ^ d * 2 ^ d + x % 2 ^ d) * b ≡ x / 2 ^ d * b * 2 ^ d + x % 2 ^ d * b = omega arith in
        ap (λ (y : ℕ). y * b) (sym u) ∙ v

    part : x % 2 ^ d * b < 2 ^ d
    part = one_small (x % 2 ^ d) b (2 ^ d) o_lt l

    bit_0 : x % 2 ^ d ≡ bit x 0
    bit_0 = lowest_bit d x f ∙ sym (bit_first (x % 2 ^ d)) ∙ bit_mod x d 0 z

    go : Copies n d (x / 2 ^ d) b → Copies (suc n) d x b
    go c = record {
      small = rw (sum, suc-mul n d, pow-add 2 (n * d) d) (digits_lt c.small part);
      at = at;
    }
      where
        near : (k : ℕ) → k < d → bit (x * b) k ≡ bit x (k / d * d) * bit b (k % d)
        near k a =
            let q : k / d ≡ 0 = ap (λ (y : ℕ). y / d) (let u : k ≡ 0 * d + k = omega arith in u) ∙ digits_div 0 a in
            let m : k % d ≡ k = ap (λ (y : ℕ). y % d) (let u : k ≡ 0 * d + k = omega arith in u) ∙ digits_mod 0 a in
            ap (λ (y : ℕ). bit y k) sum ∙ bit_low (x / 2 ^ d * b) d (x % 2 ^ d * b) k a ∙ one_copy (x % 2 ^ d) b k o_lt
            ∙ ap₂ (λ (y v : ℕ). y * bit b v) (bit_0 ∙ ap (bit x) (sym (ap (λ (y : ℕ). y * d) q ∙ zero-mul d))) (sym m)

        far : (j : ℕ) → bit (x * b) (d + j) ≡ bit x ((d + j) / d * d) * bit b ((d + j) % d)
        far j =
            let u : d + j ≡ suc (j / d) * d + j % d = (let v : j / d * d + j % d ≡ j = div-add-mod' j d in let w : suc (j / d) * d ≡ j / d * d + d = suc-mul (j / d) d in omega arith) in
            let r : j % d < d = mod-lt j z in
            let q : (d + j) / d ≡ suc (j / d) = ap (λ (y : ℕ). y / d) u ∙ digits_div (suc (j / d)) r in
            let m : (d + j) % d ≡ j % d = ap (λ (y : ℕ). y % d) u ∙ digits_mod (suc (j / d)) r in
            ap (λ (y : ℕ). bit y (d + j)) sum ∙ bit_high (x / 2 ^ d * b) d (x % 2 ^ d * b) j part ∙ c.at j
            ∙ ap₂ (λ (y v : ℕ). y * bit b v)
            (bit_shr x d (j / d * d) ∙ ap (bit x) (sym (ap (λ (y : ℕ). y * d) q ∙ (let w : suc (j / d) * d ≡ j / d * d + d = suc-mul (j / d) d in omega arith))))
            (sym m)

        at : (k : ℕ) → bit (x * b) k ≡ bit x (k / d * d) * bit b (k % d)
        at k = elim (dec_lt k d) [
          | yes a ↦ near k a
          | no a ↦ subst (λ (y : ℕ). bit (x * b) y ≡ bit x (y / d * d) * bit b (y % d)) (let u : d + (k - d) ≡ k = omega arith in u) (far (k - d))
        ]

-- ---- a copy of b for each bit of a

pub whole_word : (j : ℕ) → j ≤ 6 → 2 ^ (6 - j) * 2 ^ j ≡ 64
whole_word j h = sym (pow-add 2 (6 - j) j) ∙ ap (λ (m : ℕ). 2 ^ m) (let u : 6 - j + j ≡ 6 = omega arith in u)

module _ (a b j x : ℕ) (h : j ≤ 5) (l : b < 2 ^ (2 ^ j)) (s : x < 2 ^ 64) (F : Fields (bit a) 1 (2 ^ j) x) where
  all_copies : Copies (2 ^ (6 - j)) (2 ^ j) x b
  all_copies = copies (2 ^ (6 - j)) (2 ^ j) x b (pow_pos j) l (subst (λ (m : ℕ). x < 2 ^ m) (sym (whole_word j (omega arith))) s) sparse
    where
      sparse : Sparse (2 ^ j) x
      sparse f i c d = elim (dec_lt (f * 2 ^ j + i) 64) [
        | yes k ↦ F.between f i c d k
        | no k ↦ bit_above x 64 (f * 2 ^ j + i) s (omega arith)
      ]

  pub product_small : x * b < 2 ^ 64
  product_small = subst (λ (m : ℕ). x * b < 2 ^ m) (whole_word j (omega arith)) all_copies.small

  pub product_spread : Product a b j (x * b)
  product_spread k c =
      let m : k / 2 ^ j * 2 ^ j ≤ k = div-mul-le_self k (2 ^ j) in
      let u : bit x (k / 2 ^ j * 2 ^ j + 0) ≡ bit a (k / 2 ^ j * 1 + 0) = F.here (k / 2 ^ j) 0 (omega arith) (omega arith) in
      all_copies.at k
      ∙ ap (λ (y : ℕ). y * bit b (k % 2 ^ j))
      (ap (bit x) (sym (add-zero (k / 2 ^ j * 2 ^ j))) ∙ u ∙ ap (bit a) (let v : k / 2 ^ j * 1 + 0 ≡ k / 2 ^ j = omega arith in v))

-- at distance 64 there is one bit
pub product_whole : (a b j : ℕ) → 5 < j → j ≤ 6 → a < 2 ^ (2 ^ (6 - j)) → 0 < a → Product a b j b
product_whole a b j p q s z = subst (λ (i : ℕ). a < 2 ^ (2 ^ (6 - i)) → Product a b i b) (let u : 6 ≡ j = omega arith in u) at s
  where
    at : a < 2 ^ (2 ^ (6 - 6)) → Product a b 6 b
    at t k h =
        let o : a ≡ 1 = omega arith in
        let d : k / 2 ^ 6 ≡ 0 = omega arith in
        let m : k % 2 ^ 6 ≡ k = omega arith in
        sym (ap₂ (λ (y v : ℕ). y * bit b v) (ap₂ bit o d ∙ bit_first 1) m ∙ one-mul (bit b k))

pub product_none : (a b j : ℕ) → a ≡ 0 → Product a b j 0
product_none a b j z k h = bit_none k ∙ sym (ap (λ (y : ℕ). y * bit b (k % 2 ^ j)) (ap (λ (y : ℕ). bit y (k / 2 ^ j)) z ∙ bit_none (k / 2 ^ j)) ∙ zero-mul (bit b (k % 2 ^ j)))

pub at_distance : (w j i r : ℕ) → j ≡ i → w < 2 ^ (2 ^ (6 - j)) → (w < 2 ^ (2 ^ (6 - i)) → Fields (bit w) 1 (2 ^ i) r) → Fields (bit w) 1 (2 ^ j) r
at_distance w j i r e l f =
    subst (λ (m : ℕ). Fields (bit w) 1 (2 ^ m) r) (sym e) (f (subst (λ (m : ℕ). w < 2 ^ (2 ^ (6 - m))) e l))
