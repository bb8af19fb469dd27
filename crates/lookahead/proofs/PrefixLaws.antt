-- The folded words are the set of the prefixes of a set's strings.
-- Assumes nothing.
use Prim.Native.Nat.{ℕ, zero, suc, ◌+◌, ◌-◌, ◌*◌, ◌/◌, ◌%◌, ◌^◌, ◌≤◌, ◌<◌, max}
use mathlib.Core.Path.{◌≡◌, refl, sym, ap, ap₂, ◌∙◌, subst}
use mathlib.Core.Bool.{Bool, true, false}
use mathlib.Core.Logic.{◌⊎◌, inl, inr, ◌↔◌}
use mathlib.Core.List.{List, [], ◌∷◌, ◌++◌, append_assoc, append-nil}
use native.Mathlib.Decide.{dec_le, dec_lt}
use native.Mathlib.Omega.{arith}
use lib.ListN.{length, get_or, length-append}
use lib.Pow.{pow_mono}
use Rattle.basis.specs.Bits.{Bits, digit, append_digits}
use Rattle.basis.specs.Lookahead.{number}
use Rattle.basis.proofs.Numbers.{append_append, number_pos, number_ge, number_lt, number_small}
use Rattle.lookahead.specs.Sets.{bit, member, Has}
use Rattle.lookahead.specs.Inner.{either, FoldedPair, FirstWord, Prefixes}
use Rattle.lookahead.proofs.SetLaws.{member_at, member_lt, max_one}

-- a string of 8 bits is its own prefix; a shorter one is a prefix where it is there, or where it is one with a bit more
record Steps (b p : List ℕ) : Type 0 where
  top : (n : ℕ) → 256 ≤ n → n < 512 → member p n ≡ member b n
  step : (n : ℕ) → 0 < n → n < 256 → member p n ≡ max (member b n) (max (member p (2 * n)) (member p (2 * n + 1)))

-- ---- from words to numbers

module _ (b p : List ℕ) where
  -- word i of p at bit k, with the bits below it in word j from bit m on
  below : (i k j m : ℕ) → k < 64 → m < 32 → 2 * (64 * i + k) ≡ 64 * j + 2 * m → bit (get_or p i 0) k ≡ max (bit (get_or b i 0) k) (either (get_or p j 0) m)
      → member p (64 * i + k) ≡ max (member b (64 * i + k)) (max (member p (2 * (64 * i + k))) (member p (2 * (64 * i + k) + 1)))
  below i k j m h l e f =
      member_at p i k h ∙ f
      ∙ ap₂ max (sym (member_at b i k h))
      (ap₂ max (sym (ap (member p) e ∙ member_at p j (2 * m) (omega arith)))
      (sym (ap (member p) (let z : 2 * (64 * i + k) + 1 ≡ 64 * j + (2 * m + 1) = omega arith in z) ∙ member_at p j (2 * m + 1) (omega arith))))

  -- the strings of word i with a bit more are in words j and j + 1
  halves : (i k j : ℕ) → k < 64 → j ≡ 2 * i → (k < 32 → bit (get_or p i 0) k ≡ max (bit (get_or b i 0) k) (either (get_or p j 0) k))
      → ((m : ℕ) → m < 32 → bit (get_or p i 0) (32 + m) ≡ max (bit (get_or b i 0) (32 + m)) (either (get_or p (j + 1) 0) m))
      → member p (64 * i + k) ≡ max (member b (64 * i + k)) (max (member p (2 * (64 * i + k))) (member p (2 * (64 * i + k) + 1)))
  halves i k j h d low high = elim (dec_lt k 32) [
    | yes l ↦ below i k j k h l (omega arith) (low l)
    | no l ↦
        let e : 32 + (k - 32) ≡ k = omega arith in
        below i k (j + 1) (k - 32) h (omega arith) (omega arith)
        (subst (λ (q : ℕ). bit (get_or p i 0) q ≡ max (bit (get_or b i 0) q) (either (get_or p (j + 1) 0) (k - 32))) e (high (k - 32) (omega arith)))
  ]

  steps : ((i : ℕ) → 4 ≤ i → i < 8 → get_or p i 0 ≡ get_or b i 0) → ((i : ℕ) → 0 < i → i < 4 → FoldedPair (get_or b i 0) (get_or p (2 * i) 0) (get_or p (2 * i + 1) 0) (get_or p i 0))
      → FirstWord (get_or b 0 0) (get_or p 1 0) (get_or p 0 0) → Steps b p
  unfolding member
  steps same pairs first = record { top = λ n l h. ap (λ (w : ℕ). bit w (n % 64)) (same (n / 64) (omega arith) (omega arith)); step = step }
    where
      Step : ℕ → Type 0
      Step n = member p n ≡ max (member b n) (max (member p (2 * n)) (member p (2 * n + 1)))

      step : (n : ℕ) → 0 < n → n < 256 → Step n
      step n z h =
          let e : 64 * (n / 64) + n % 64 ≡ n = omega arith in
          elim (dec_lt n 64) [
            | yes l ↦ subst Step (let q : 64 * 0 + n ≡ n = omega arith in q) (halves 0 n 0 l refl (first.at_low n z) first.at_high)
            | no l ↦ subst Step e (let f = pairs (n / 64) (omega arith) (omega arith) in halves (n / 64) (n % 64) (2 * (n / 64)) (omega arith) refl (f.at_low (n % 64)) f.at_high)
          ]

-- ---- from numbers to strings

number_snoc : (s : Bits) (c : Bool) → number (s ++ (c ∷ [])) ≡ number s * 2 + digit c
unfolding append_digits
number_snoc s c = append_append 1 s (c ∷ [])

module _ (b p : List ℕ) (f : Steps b p) where
  -- the law for the strings with one bit more
  abbrev Next : Bits → Type 0
  Next s = (c : Bool) → Has p (s ++ (c ∷ [])) ↔ ((t : Bits) × Has b ((s ++ (c ∷ [])) ++ t))

  full_to : (s : Bits) → length s ≡ 8 → Has p s → (t : Bits) × Has b (s ++ t)
  full_to s l h =
      let g : 2 ^ 8 ≤ number s = subst (λ (n : ℕ). 2 ^ n ≤ number s) l (number_ge s) in
      ([], rw append-nil (h.0, sym (f.top (number s) (omega arith) (number_small s h.0)) ∙ h.1))

  full_back : (s t : Bits) → length s ≡ 8 → Has b (s ++ t) → Has p s
  full_back s [] l h =
      let g : 2 ^ 8 ≤ number s = subst (λ (n : ℕ). 2 ^ n ≤ number s) l (number_ge s) in
      let k : Has b s = rw append-nil at h in
      (k.0, f.top (number s) (omega arith) (number_small s k.0) ∙ k.1)
  full_back s (c ∷ t) l h = absurd (omega (arith, length-append s (c ∷ t), h.0))

  below_256 : (s : Bits) → length s < 8 → number s < 256
  below_256 s l =
      let a : number s < 2 ^ suc (length s) = number_lt s in
      let m : 2 ^ suc (length s) ≤ 2 ^ 8 = pow_mono {j = 8} l in
      omega arith

  with_bit : (s : Bits) (c : Bool) → length s < 8 → member p (number s * 2 + digit c) ≡ 1 → Has p (s ++ (c ∷ []))
  with_bit s c l e = (rw length-append (omega arith), ap (member p) (number_snoc s c) ∙ e)

  short_to : (s : Bits) → length s < 8 → Next s → Has p s → (t : Bits) × Has b (s ++ t)
  short_to s l ih h = sort (max_one (member b n) _ (member_lt b n) (omega (arith, member_lt p (2 * n), member_lt p (2 * n + 1))) (sym (f.step n (number_pos s) (below_256 s l)) ∙ h.1))
    where
      n : ℕ
      n = number s

      more : (c : Bool) → Has p (s ++ (c ∷ [])) → (t : Bits) × Has b (s ++ t)
      more c q = let r = (ih c).0 q in (c ∷ r.0, rw append_assoc at r.1)

      two : (member p (2 * n) ≡ 1) ⊎ (member p (2 * n + 1) ≡ 1) → (t : Bits) × Has b (s ++ t)
      two (inl e) = more false (with_bit s false l (ap (member p) (let z : n * 2 + 0 ≡ 2 * n = omega arith in z) ∙ e))
      two (inr e) = more true (with_bit s true l (ap (member p) (let z : n * 2 + 1 ≡ 2 * n + 1 = omega arith in z) ∙ e))

      sort : (member b n ≡ 1) ⊎ (max (member p (2 * n)) (member p (2 * n + 1)) ≡ 1) → (t : Bits) × Has b (s ++ t)
      sort (inl e) = ([], rw append-nil (h.0, e))
      sort (inr e) = two (max_one _ _ (member_lt p (2 * n)) (member_lt p (2 * n + 1)) e)

  short_back : (s t : Bits) → length s < 8 → Next s → Has b (s ++ t) → Has p s
  short_back s [] l ih h =
      let k : Has b s = rw append-nil at h in
      let e = f.step (number s) (number_pos s) (below_256 s l) in
      (k.0, omega (arith, e, k.1, member_lt p (2 * number s), member_lt p (2 * number s + 1)))
  short_back s (c ∷ t) l ih h =
      let q : Has p (s ++ (c ∷ [])) = (ih c).1 (t, rw append_assoc h) in
      let e = f.step (number s) (number_pos s) (below_256 s l) in
      (omega arith, go c (sym (ap (member p) (number_snoc s c)) ∙ q.1) e)
    where
      go : (c : Bool) → member p (number s * 2 + digit c) ≡ 1
          → member p (number s) ≡ max (member b (number s)) (max (member p (2 * number s)) (member p (2 * number s + 1))) → member p (number s) ≡ 1
      go false d e =
          let z : member p (2 * number s) ≡ 1 = ap (member p) (let z : 2 * number s ≡ number s * 2 + 0 = omega arith in z) ∙ d in
          omega (arith, member_lt p (2 * number s + 1), member_lt b (number s))
      go true d e =
          let z : member p (2 * number s + 1) ≡ 1 = ap (member p) (let z : 2 * number s + 1 ≡ number s * 2 + 1 = omega arith in z) ∙ d in
          omega (arith, member_lt p (2 * number s), member_lt b (number s))

  prefix : (d : ℕ) (s : Bits) → length s + d ≡ 8 → Has p s ↔ ((t : Bits) × Has b (s ++ t))
  prefix zero s l = (full_to s (omega arith), λ q. full_back s q.0 (omega arith) q.1)
  prefix (suc d) s l =
      let ih : Next s = λ c. prefix d (s ++ (c ∷ [])) (rw length-append (omega arith)) in
      (short_to s (omega arith) ih, λ q. short_back s q.0 (omega arith) ih q.1)

  prefixes : Prefixes b p
  prefixes s = elim (dec_le (length s) 8) [
    | yes h ↦ prefix (8 - length s) s (omega arith)
    | no h ↦ ((λ q. absurd (omega (arith, q.0))), (λ q. absurd (omega (arith, q.1.0, length-append s q.0))))
  ]

-- ---- the words that are computed

prefix_list : List ℕ → ℕ → ℕ → ℕ → ℕ → List ℕ
prefix_list b p0 p1 p2 p3 = p0 ∷ p1 ∷ p2 ∷ p3 ∷ get_or b 4 0 ∷ get_or b 5 0 ∷ get_or b 6 0 ∷ get_or b 7 0 ∷ []

pub prefix_words : (b : List ℕ) (p0 p1 p2 p3 : ℕ) → FoldedPair (get_or b 3 0) (get_or b 6 0) (get_or b 7 0) p3 → FoldedPair (get_or b 2 0) (get_or b 4 0) (get_or b 5 0) p2
    → FoldedPair (get_or b 1 0) p2 p3 p1 → FirstWord (get_or b 0 0) p1 p0
    → Prefixes b (p0 ∷ p1 ∷ p2 ∷ p3 ∷ get_or b 4 0 ∷ get_or b 5 0 ∷ get_or b 6 0 ∷ get_or b 7 0 ∷ [])
unfolding prefix_list
prefix_words b p0 p1 p2 p3 f3 f2 f1 f0 = prefixes b p (steps b p same pairs f0)
  where
    p : List ℕ
    p = prefix_list b p0 p1 p2 p3

    same : (i : ℕ) → 4 ≤ i → i < 8 → get_or p i 0 ≡ get_or b i 0
    same zero l h = absurd (omega arith)
    same (suc zero) l h = absurd (omega arith)
    same (suc (suc zero)) l h = absurd (omega arith)
    same (suc (suc (suc zero))) l h = absurd (omega arith)
    same (suc (suc (suc (suc zero)))) l h = refl
    same (suc (suc (suc (suc (suc zero))))) l h = refl
    same (suc (suc (suc (suc (suc (suc zero)))))) l h = refl
    same (suc (suc (suc (suc (suc (suc (suc zero))))))) l h = refl
    same (suc (suc (suc (suc (suc (suc (suc (suc i)))))))) l h = absurd (omega arith)

    pairs : (i : ℕ) → 0 < i → i < 4 → FoldedPair (get_or b i 0) (get_or p (2 * i) 0) (get_or p (2 * i + 1) 0) (get_or p i 0)
    pairs zero l h = absurd (omega arith)
    pairs (suc zero) l h = f1
    pairs (suc (suc zero)) l h = f2
    pairs (suc (suc (suc zero))) l h = f3
    pairs (suc (suc (suc (suc i)))) l h = absurd (omega arith)
