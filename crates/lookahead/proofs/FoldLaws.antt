-- Laws of folding neighbouring bits of words, and of the prefixes of a set's strings.
-- Assumes nothing.
use Prim.Native.Nat.{ℕ, zero, suc, ◌+◌, ◌-◌, ◌*◌, ◌/◌, ◌%◌, ◌^◌, ◌≤◌, ◌<◌, min, max}
use mathlib.Core.Path.{◌≡◌, refl, sym, ap, ap₂, ◌∙◌, subst}
use mathlib.Core.Bool.{Bool, true, false, ◌&&◌}
use native.Mathlib.Nat.{mul-le-mul_right, mod-eq_of_lt}
use native.Mathlib.Decide.{dec_lt}
use native.Mathlib.Omega.{arith}
use lib.Bits.{bit_and, bit_or, mask_lt}
use lib.Dec.{T, eqb, ltb, leb, eqb→eq}
use lib.Arith.{digits_mod}
use lib.Pow.{shl_lt}
use borrow.Author.Tests.{lt-ltb, le-ltb, le-leb, lt-leb}
use Rattle.lookahead.specs.Sets.{bit}
use Rattle.lookahead.specs.Inner.{either, Fields, Folded, FoldedPair, Deepened, FirstWord}
use Rattle.lookahead.proofs.BitLaws.{bit_lt, bit-or, bit-and, bit_shr, bit_none, bit_above, bit_shl, bit_shl_low}

-- ---- masks: a test that antt computes at each bit

abbrev one_if : Bool → ℕ
one_if true = 1
one_if false = 0

abbrev every : (ℕ → Bool) → ℕ → Bool
every f zero = true
every f (suc n) = f n && every f n

every_at : (f : ℕ → Bool) (n : ℕ) → T (every f n) → (k : ℕ) → k < n → T (f k)
every_at f zero t k h = absurd (omega arith)
every_at f (suc n) t k h = go (f n) refl t (λ u. every_at f n u k)
  where
    go : (b : Bool) → f n ≡ b → T (b && every f n) → (T (every f n) → k < n → T (f k)) → T (f k)
    go true e u ih = elim (dec_lt k n) [
      | yes l ↦ ih u l
      | no l ↦ let q : k ≡ n = omega arith in subst (λ (m : ℕ). T (f m)) (sym q) (subst T (sym e) tt)
    ]
    go false e u ih = absurd u

-- fields of h set bits, each d after the one before it
abbrev pub striped : ℕ → ℕ → ℕ → Bool
striped h d mask = every (λ p. eqb (mask / 2 ^ p % 2) (one_if (ltb (p % d) h))) 64

module _ (h d mask : ℕ) (t : T (striped h d mask)) where
  stripe_at : (f i : ℕ) → i < d → f * d + i < 64 → bit mask (f * d + i) ≡ one_if (ltb i h)
  unfolding bit
  stripe_at f i b l =
      eqb→eq _ _ (every_at (λ p. eqb (mask / 2 ^ p % 2) (one_if (ltb (p % d) h))) 64 t (f * d + i) l)
      ∙ ap (λ (m : ℕ). one_if (ltb m h)) (digits_mod f b)

  pub stripe_in : (f i : ℕ) → i < h → i < d → f * d + i < 64 → bit mask (f * d + i) ≡ 1
  stripe_in f i b c l = stripe_at f i c l ∙ ap one_if (lt-ltb i h b)

  pub stripe_out : (f i : ℕ) → h ≤ i → i < d → f * d + i < 64 → bit mask (f * d + i) ≡ 0
  stripe_out f i a b l = stripe_at f i b l ∙ ap one_if (le-ltb i h a)

-- ---- one squeeze

squeezed : (w h mask r k : ℕ) → r ≡ bit_and (bit_or w (w / 2 ^ h)) mask → bit r k ≡ min (max (bit w k) (bit w (h + k))) (bit mask k)
squeezed w h mask r k e =
    ap (λ (v : ℕ). bit v k) e ∙ bit-and (bit_or w (w / 2 ^ h)) mask k
    ∙ ap (λ (v : ℕ). min v (bit mask k)) (bit-or w (w / 2 ^ h) k ∙ ap (max (bit w k)) (bit_shr w h k))

fields_first : (w mask r : ℕ) → T (striped 1 2 mask) → r ≡ bit_and (bit_or w (w / 2 ^ 1)) mask → Fields (either w) 1 2 r
fields_first w mask r t e = record { here = here; between = between }
  where
    here : (f i : ℕ) → i < 1 → f * 2 + i < 64 → bit r (f * 2 + i) ≡ either w (f * 1 + i)
    here f i b l =
        let s : bit r (f * 2 + i) ≡ min (max (bit w (f * 2 + i)) (bit w (1 + (f * 2 + i)))) (bit mask (f * 2 + i)) = squeezed w 1 mask r (f * 2 + i) e in
        let m : bit mask (f * 2 + i) ≡ 1 = stripe_in 1 2 mask t f i b (omega arith) l in
        let x : bit w (f * 2 + i) < 2 = bit_lt w (f * 2 + i) in
        let y : bit w (1 + (f * 2 + i)) < 2 = bit_lt w (1 + (f * 2 + i)) in
        let p : bit w (f * 2 + i) ≡ bit w (2 * (f * 1 + i)) = ap (bit w) (omega arith) in
        let q : bit w (1 + (f * 2 + i)) ≡ bit w (2 * (f * 1 + i) + 1) = ap (bit w) (omega arith) in
        omega arith

    between : (f i : ℕ) → 1 ≤ i → i < 2 → f * 2 + i < 64 → bit r (f * 2 + i) ≡ 0
    between f i a b l =
        let s : bit r (f * 2 + i) ≡ min (max (bit w (f * 2 + i)) (bit w (1 + (f * 2 + i)))) (bit mask (f * 2 + i)) = squeezed w 1 mask r (f * 2 + i) e in
        let m : bit mask (f * 2 + i) ≡ 0 = stripe_out 1 2 mask t f i a b l in
        omega arith

-- whole groups: where a group begins below the end, it ends there
group : (f d q : ℕ) → f * d < q * d → f * d + d ≤ q * d
group f d q l = elim (dec_lt f q) [
  | yes h ↦ let m : suc f * d ≤ q * d = mul-le-mul_right d h in omega arith
  | no h ↦ let m : q * d ≤ f * d = mul-le-mul_right d (let z : q ≤ f = omega arith in z) in absurd (omega arith)
]

fields_close : (g : ℕ → ℕ) (h q w mask r : ℕ) → q * (4 * h) ≡ 64 → T (striped (2 * h) (2 * (2 * h)) mask) → r ≡ bit_and (bit_or w (w / 2 ^ h)) mask
    → Fields g h (2 * h) w → Fields g (2 * h) (2 * (2 * h)) r
fields_close g h q w mask r z t e w-fields = record { here = here; between = between }
  where
    at : (p : ℕ) → bit r p ≡ min (max (bit w p) (bit w (h + p))) (bit mask p)
    at p = squeezed w h mask r p e

    inside : (f i : ℕ) → i < 2 * h → f * (2 * (2 * h)) + i < 64 → h + (f * (2 * (2 * h)) + i) < 64
    inside f i b l =
        let g : f * (4 * h) + 4 * h ≤ q * (4 * h) = group f (4 * h) q (omega arith) in
        omega arith

    here : (f i : ℕ) → i < 2 * h → f * (2 * (2 * h)) + i < 64 → bit r (f * (2 * (2 * h)) + i) ≡ g (f * (2 * h) + i)
    here f i b l =
        let m : bit mask (f * (2 * (2 * h)) + i) ≡ 1 = stripe_in (2 * h) (2 * (2 * h)) mask t f i b (omega arith) l in
        let s = at (f * (2 * (2 * h)) + i) in
        let n = inside f i b l in
        elim (dec_lt i h) [
          | yes c ↦
              let x : bit w (f * (2 * (2 * h)) + i) ≡ g (f * (2 * h) + i) =
              ap (bit w) (let u : f * (2 * (2 * h)) + i ≡ 2 * f * (2 * h) + i = omega arith in u) ∙ w-fields.here (2 * f) i c (omega arith) ∙ ap g (omega arith) in
              let y : bit w (h + (f * (2 * (2 * h)) + i)) ≡ 0 =
              ap (bit w) (let u : h + (f * (2 * (2 * h)) + i) ≡ 2 * f * (2 * h) + (h + i) = omega arith in u)
              ∙ w-fields.between (2 * f) (h + i) (omega arith) (omega arith) (omega arith) in
              let v : bit w (f * (2 * (2 * h)) + i) < 2 = bit_lt w (f * (2 * (2 * h)) + i) in
              omega arith
          | no c ↦
              let x : bit w (f * (2 * (2 * h)) + i) ≡ 0 =
              ap (bit w) (let u : f * (2 * (2 * h)) + i ≡ 2 * f * (2 * h) + i = omega arith in u)
              ∙ w-fields.between (2 * f) i (omega arith) b (omega arith) in
              let y : bit w (h + (f * (2 * (2 * h)) + i)) ≡ g (f * (2 * h) + i) =
              ap (bit w) (let u : h + (f * (2 * (2 * h)) + i) ≡ (2 * f + 1) * (2 * h) + (i - h) = omega arith in u)
              ∙ w-fields.here (2 * f + 1) (i - h) (omega arith) (omega arith) ∙ ap g (omega arith) in
              let v : bit w (h + (f * (2 * (2 * h)) + i)) < 2 = bit_lt w (h + (f * (2 * (2 * h)) + i)) in
              omega arith
        ]

    between : (f i : ℕ) → 2 * h ≤ i → i < 2 * (2 * h) → f * (2 * (2 * h)) + i < 64 → bit r (f * (2 * (2 * h)) + i) ≡ 0
    between f i a b l =
        let m : bit mask (f * (2 * (2 * h)) + i) ≡ 0 = stripe_out (2 * h) (2 * (2 * h)) mask t f i a b l in
        let s = at (f * (2 * (2 * h)) + i) in
        omega arith

-- r is w squeezed by h under the mask
abbrev Squeezed : ℕ → ℕ → ℕ → ℕ → Type 0
Squeezed w h mask r = r ≡ bit_and (bit_or w (w / 2 ^ h)) mask

pub folded : (w a b c d e r : ℕ) → Squeezed w 1 0x5555_5555_5555_5555 a → Squeezed a 1 0x3333_3333_3333_3333 b → Squeezed b 2 0x0f0f_0f0f_0f0f_0f0f c
    → Squeezed c 4 0x00ff_00ff_00ff_00ff d → Squeezed d 8 0x0000_ffff_0000_ffff e → Squeezed e 16 0x0000_0000_ffff_ffff r → Folded w r
folded w a b c d e r pa pb pc pd pe pr = record {
  small = rw pr (mask_lt (bit_or e (e / 2 ^ 16)) 32);
  at = λ k h. ap (bit r) (let z : k ≡ 0 * 64 + k = omega arith in z) ∙ all.here 0 k h (omega arith) ∙ ap (either w) (let z : 0 * 32 + k ≡ k = omega arith in z);
}
  where
    all : Fields (either w) 32 64 r
    all =
        fields_close (either w) 16 1 e _ r refl tt pr (fields_close (either w) 8 2 d _ e refl tt pe (fields_close (either w) 4 4 c _ d refl tt pd
        (fields_close (either w) 2 8 b _ c refl tt pc (fields_close (either w) 1 16 a _ b refl tt pb (fields_first w _ a tt pa)))))

-- ---- a word folded into itself

-- the set bits from h up to 2 h, of the lower 32
abbrev banded : ℕ → ℕ → Bool
banded h mask = every (λ k. eqb (mask / 2 ^ k % 2) (one_if (leb h k && ltb k (2 * h)))) 32

band_at : (h mask : ℕ) → T (banded h mask) → (k : ℕ) → k < 32 → bit mask k ≡ one_if (leb h k && ltb k (2 * h))
unfolding bit
band_at h mask t k l = eqb→eq _ _ (every_at (λ k. eqb (mask / 2 ^ k % 2) (one_if (leb h k && ltb k (2 * h)))) 32 t k l)

band_in : (h mask : ℕ) → T (banded h mask) → (k : ℕ) → k < 32 → h ≤ k → k < 2 * h → bit mask k ≡ 1
band_in h mask t k l a b = band_at h mask t k l ∙ ap₂ (λ (x y : Bool). one_if (x && y)) (le-leb h k a) (lt-ltb k (2 * h) b)

band_below : (h mask : ℕ) → T (banded h mask) → (k : ℕ) → k < 32 → k < h → bit mask k ≡ 0
band_below h mask t k l a = band_at h mask t k l ∙ ap (λ (x : Bool). one_if (x && ltb k (2 * h))) (lt-leb h k a)

band_above : (h mask : ℕ) → T (banded h mask) → (k : ℕ) → k < 32 → h ≤ k → 2 * h ≤ k → bit mask k ≡ 0
band_above h mask t k l a b = band_at h mask t k l ∙ ap₂ (λ (x y : Bool). one_if (x && y)) (le-leb h k a) (le-ltb k (2 * h) b)

either_lt : (w k : ℕ) → either w k < 2
either_lt w k = omega (arith, bit_lt w (2 * k), bit_lt w (2 * k + 1))

pub deepened : (w f mask r : ℕ) → r ≡ bit_or w (bit_and f mask) → Folded w f → Deepened w mask r
deepened w f mask r e d = record {
  at_low = λ k h. at k ∙ ap (λ (v : ℕ). max (bit w k) (min v (bit mask k))) (d.at k h);
  at_high = λ k h. let z : bit f k ≡ 0 = bit_above f 32 k d.small h in let a = at k in omega arith;
}
  where
    at : (k : ℕ) → bit r k ≡ max (bit w k) (min (bit f k) (bit mask k))
    at k = ap (λ (v : ℕ). bit v k) e ∙ bit-or w (bit_and f mask) k ∙ ap (max (bit w k)) (bit-and f mask k)

pub folded_pair : (w low high f g r : ℕ) → r ≡ bit_or w (bit_or f (g * 2 ^ 32 % 2 ^ 64)) → Folded low f → Folded high g → FoldedPair w low high r
folded_pair w low high f g r e p q = record { at_low = at_low; at_high = at_high }
  where
    at : (k : ℕ) → bit r k ≡ max (bit w k) (max (bit f k) (bit (g * 2 ^ 32) k))
    at k =
        ap (λ (v : ℕ). bit v k) (e ∙ ap (λ (v : ℕ). bit_or w (bit_or f v)) (mod-eq_of_lt (shl_lt 32 32 q.small)))
        ∙ bit-or w (bit_or f (g * 2 ^ 32)) k ∙ ap (max (bit w k)) (bit-or f (g * 2 ^ 32) k)

    at_low : (k : ℕ) → k < 32 → bit r k ≡ max (bit w k) (either low k)
    at_low k h = let a = at k in let b : bit (g * 2 ^ 32) k ≡ 0 = bit_shl_low g 32 k h in let c : bit f k ≡ either low k = p.at k h in omega arith

    at_high : (k : ℕ) → k < 32 → bit r (32 + k) ≡ max (bit w (32 + k)) (either high k)
    at_high k h =
        let a = at (32 + k) in
        let b : bit (g * 2 ^ 32) (32 + k) ≡ bit g k = bit_shl g 32 k in
        let c : bit g k ≡ either high k = q.at k h in
        let d : bit f (32 + k) ≡ 0 = bit_above f 32 (32 + k) p.small (omega arith) in
        omega arith

-- x is w with what the bits from h on fold into, and as u from bit 32 on
record Deep (w u h x : ℕ) : Type 0 where
  done : (k : ℕ) → h ≤ k → k < 32 → bit x k ≡ max (bit w k) (either x k)
  rest : (k : ℕ) → k < h → bit x k ≡ bit w k
  upper : (k : ℕ) → 32 ≤ k → bit x k ≡ bit u k

deep_start : (w next u : ℕ) → FoldedPair w 0 next u → Deep w u 32 u
deep_start w next u f = record {
  done = λ k a b. absurd (omega arith);
  rest = λ k h. f.at_low k h ∙ (let a : bit 0 (2 * k) ≡ 0 = bit_none (2 * k) in let b : bit 0 (2 * k + 1) ≡ 0 = bit_none (2 * k + 1) in omega arith);
  upper = λ k h. refl;
}

deep_more : (w u h x mask y : ℕ) → 2 * h ≤ 32 → T (banded h mask) → Deepened x mask y → Deep w u (2 * h) x → Deep w u h y
deep_more w u h x mask y l t d p = record { done = done; rest = rest; upper = λ k a. d.at_high k a ∙ p.upper k a }
  where
    kept : (k : ℕ) → 2 * h ≤ k → bit y k ≡ bit x k
    kept k a = elim (dec_lt k 32) [
      | yes b ↦ let m : bit mask k ≡ 0 = band_above h mask t k b (omega arith) a in let e = d.at_low k b in omega arith
      | no b ↦ d.at_high k (omega arith)
    ]

    same : (k : ℕ) → h ≤ k → either y k ≡ either x k
    same k a = ap₂ max (kept (2 * k) (omega arith)) (kept (2 * k + 1) (omega arith))

    done : (k : ℕ) → h ≤ k → k < 32 → bit y k ≡ max (bit w k) (either y k)
    done k a b = elim (dec_lt k (2 * h)) [
      | yes c ↦
          let m : bit mask k ≡ 1 = band_in h mask t k b a c in
          let e = d.at_low k b in
          let r : bit x k ≡ bit w k = p.rest k c in
          let s : either y k ≡ either x k = same k a in
          let z : either x k < 2 = either_lt x k in
          omega arith
      | no c ↦ kept k (omega arith) ∙ p.done k (omega arith) b ∙ ap (max (bit w k)) (sym (same k a))
    ]

    rest : (k : ℕ) → k < h → bit y k ≡ bit w k
    rest k a =
        let m : bit mask k ≡ 0 = band_below h mask t k (omega arith) a in
        let e = d.at_low k (omega arith) in
        let r : bit x k ≡ bit w k = p.rest k (omega arith) in
        omega arith

pub first_word : (w next a b c d e r : ℕ) → FoldedPair w 0 next a → Deepened a 0xffff_0000 b → Deepened b 0xff00 c → Deepened c 0xf0 d → Deepened d 0xc e
    → Deepened e 0x2 r → FirstWord w next r
first_word w next a b c d e r pa pb pc pd pe pr = record {
  at_low = λ k l h. all.done k l h;
  at_high = λ k h. all.upper (32 + k) (omega arith) ∙ pa.at_high k h;
}
  where
    all : Deep w a 1 r
    all =
        deep_more w a 1 e 0x2 r (omega arith) tt pr (deep_more w a 2 d 0xc e (omega arith) tt pe (deep_more w a 4 c 0xf0 d (omega arith) tt pd
        (deep_more w a 8 b 0xff00 c (omega arith) tt pc (deep_more w a 16 a 0xffff_0000 b (omega arith) tt pb (deep_start w next a pa)))))
