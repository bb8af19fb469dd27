-- Laws of sets of words: word by word to number by number, and number by number to string by string.
-- Assumes nothing.
use Prim.Native.Nat.{ℕ, zero, suc, ◌+◌, ◌-◌, ◌*◌, ◌/◌, ◌%◌, ◌^◌, ◌≤◌, ◌<◌, max}
use mathlib.Core.Path.{◌≡◌, refl, sym, ap, ap₂, ◌∙◌}
use mathlib.Core.Bool.{Bool, true, false}
use mathlib.Core.Logic.{◌⊎◌, inl, inr, ◌↔◌, ◌≢◌}
use mathlib.Core.List.{List, [], ◌∷◌}
use native.Mathlib.Nat.{one-mul, add-zero, mod-eq_of_lt}
use native.Mathlib.Decide.{dec_le, dec_lt, ℕ_discrete}
use native.Mathlib.Omega.{arith}
use lib.ListN.{length, get_or, set, replicate, length-set, get_or-replicate, get_or-eq_default}
use lib.Seq.{get_or-set_same, get_or-set_other, ext_get_or}
use lib.Bits.{bit_or}
use lib.Pow.{pow-lt}
use lib.Dec.{eqb}
use borrow.Author.Tests.{eqb-true, eq-eqb}
use Rattle.basis.specs.Bits.{Bits, append_digits}
use Rattle.basis.specs.Lookahead.{number}
use Rattle.basis.proofs.Numbers.{number_pos, number_small, named}
use Rattle.lookahead.specs.Sets.{bit, member, Has, Proper, Is, Decides, Union, SameWords}
use Rattle.lookahead.specs.Inner.{Filled, Cleared}
use Rattle.lookahead.proofs.BitLaws.{bit_lt, bit-or, bit_none, bit_first, bit_half, bit_shl, bit_shl_low, bit_ext, bit_above}

-- ---- numbers and words

pub member_at : (x : List ℕ) (i k : ℕ) → k < 64 → member x (64 * i + k) ≡ bit (get_or x i 0) k
unfolding member
member_at x i k h =
    let d : (64 * i + k) / 64 ≡ i = omega arith in
    let m : (64 * i + k) % 64 ≡ k = omega arith in
    ap₂ (λ (a b : ℕ). bit (get_or x a 0) b) d m

pub member_lt : (x : List ℕ) (n : ℕ) → member x n < 2
unfolding member
member_lt x n = bit_lt (get_or x (n / 64) 0) (n % 64)

-- what is not there is 0
pub absent : (v : ℕ) → v < 2 → (v ≡ 1 → ⊥) → v ≡ 0
absent zero l f = refl
absent (suc zero) l f = absurd (f refl)
absent (suc (suc v)) l f = absurd (omega arith)

-- the bit that names no string, cleared
abbrev pub evened : List ℕ → List ℕ
evened x = set x 0 (get_or x 0 0 / 2 * 2)

evened_bit : (x : List ℕ) (i k : ℕ) → 0 < i + k → bit (get_or (evened x) i 0) k ≡ bit (get_or x i 0) k
evened_bit [] i k h = refl
evened_bit (w ∷ x) zero zero h = absurd (omega arith)
evened_bit (w ∷ x) zero (suc k) h =
    let e : w / 2 * 2 / 2 ≡ w / 2 = omega arith in
    sym (bit_half (w / 2 * 2) k) ∙ ap (λ (v : ℕ). bit v k) e ∙ bit_half w k
evened_bit (w ∷ x) (suc i) k h = refl

pub evened_member : (x : List ℕ) (n : ℕ) → 0 < n → member (evened x) n ≡ member x n
unfolding member
evened_member x n h = evened_bit x (n / 64) (n % 64) (omega arith)

pub evened_unused : (x : List ℕ) → member (evened x) 0 ≡ 0
unfolding member
evened_unused [] = bit_none 0
evened_unused (w ∷ x) = let e : w / 2 * 2 % 2 ≡ 0 = omega arith in bit_first (w / 2 * 2) ∙ e

pub cleared : (a : List ℕ) (v : ℕ) → v ≡ get_or a 0 0 / 2 * 2 → Cleared a (set a 0 v)
cleared a v e = rw e record { same = evened_member a; unused = evened_unused a }

-- ---- words filled one after the other

abbrev pub zeros : List ℕ
zeros = replicate {A = ℕ} 8 0

zeros_at : (i : ℕ) → get_or zeros i 0 ≡ 0
zeros_at i = elim (dec_lt i 8) [
  | yes h ↦ get_or-replicate {A = ℕ} 8 i 0 0 h
  | no h ↦ get_or-eq_default zeros 0 {n = i} (omega arith)
]

pub filled_none : (P : ℕ → ℕ → Type 0) → Filled P 0 zeros
filled_none P = record { eight = refl; fit = λ i. rw zeros_at (omega arith); at = λ i h. absurd (omega arith) }

set_fit : (x : List ℕ) (n w : ℕ) → n < length x → w < 2 ^ 64 → ((i : ℕ) → get_or x i 0 < 2 ^ 64) → (i : ℕ) → get_or (set x n w) i 0 < 2 ^ 64
set_fit x n w l h f i = elim (ℕ_discrete i n) [
  | yes e ↦ rw (e, get_or-set_same x n w 0 l) h
  | no e ↦ rw (get_or-set_other x n i w 0 e) (f i)
]

pub filled_more : (P : ℕ → ℕ → Type 0) (n : ℕ) (x : List ℕ) (w : ℕ) → n < 8 → Filled P n x → w < 2 ^ 64 → P n w → Filled P (n + 1) (set x n w)
filled_more P n x w l f h p = record {
  eight = length-set x n w ∙ f.eight;
  fit = set_fit x n w (omega (arith, f.eight)) h f.fit;
  at = go;
}
  where
    inside : n < length x
    inside = omega (arith, f.eight)

    go : (i : ℕ) → i < n + 1 → P i (get_or (set x n w) i 0)
    go i b = elim (ℕ_discrete i n) [
      | yes e ↦ rw (e, get_or-set_same x n w 0 inside) p
      | no e ↦ rw (get_or-set_other x n i w 0 e) (f.at i (omega arith))
    ]

pub evened_proper : (P : ℕ → ℕ → Type 0) (n : ℕ) (x : List ℕ) → Filled P n x → Proper (evened x)
evened_proper P n x f = record {
  eight = length-set x 0 (get_or x 0 0 / 2 * 2) ∙ f.eight;
  fit = set_fit x 0 (get_or x 0 0 / 2 * 2) (omega (arith, f.eight)) (omega (arith, f.fit 0)) f.fit;
  unused = evened_unused x;
}

-- ---- strings

pub max_one : (a b : ℕ) → a < 2 → b < 2 → max a b ≡ 1 → (a ≡ 1) ⊎ (b ≡ 1)
max_one zero b p q e = inr (omega arith)
max_one (suc zero) b p q e = inl refl
max_one (suc (suc a)) b p q e = absurd (omega arith)

-- a string is in a set or it is not
pub has_decided : (x : List ℕ) (s : Bits) → Dec (Has x s)
has_decided x s = go (dec_le (length s) 8) (ℕ_discrete (member x (number s)) 1)
  where
    go : Dec (length s ≤ 8) → Dec (member x (number s) ≡ 1) → Dec (Has x s)
    go (yes a) (yes b) = yes (a, b)
    go (yes a) (no b) = no (λ h. b h.1)
    go (no a) b = no (λ h. a h.0)

-- sets with the same numbers have the same strings
pub has_same : (x y : List ℕ) → ((n : ℕ) → 0 < n → n < 512 → member x n ≡ member y n) → (s : Bits) → Has x s → Has y s
has_same x y f s h = (h.0, sym (f (number s) (number_pos s) (number_small s h.0)) ∙ h.1)

pub same_strings : (x y : List ℕ) → SameWords x y → (s : Bits) → Has x s → Has y s
unfolding member
same_strings x y f = has_same x y (λ n p h. ap (λ (w : ℕ). bit w (n % 64)) (f (n / 64) (omega arith)))

pub has_union : (x y z : List ℕ) → ((n : ℕ) → 0 < n → n < 512 → member z n ≡ max (member x n) (member y n)) → (s : Bits) → Has z s ↔ Union (Has x) (Has y) s
has_union x y z f s = (to, back)
  where
    here : length s ≤ 8 → member z (number s) ≡ max (member x (number s)) (member y (number s))
    here l = f (number s) (number_pos s) (number_small s l)

    sort : length s ≤ 8 → (member x (number s) ≡ 1) ⊎ (member y (number s) ≡ 1) → Union (Has x) (Has y) s
    sort l (inl e) = inl (l, e)
    sort l (inr e) = inr (l, e)

    to : Has z s → Union (Has x) (Has y) s
    to h = sort h.0 (max_one (member x (number s)) (member y (number s)) (member_lt x (number s)) (member_lt y (number s)) (sym (here h.0) ∙ h.1))

    back : Union (Has x) (Has y) s → Has z s
    back (inl h) = (h.0, (let a = here h.0 in let p : member y (number s) < 2 = member_lt y (number s) in omega (arith, h.1)))
    back (inr h) = (h.0, (let a = here h.0 in let p : member x (number s) < 2 = member_lt x (number s) in omega (arith, h.1)))

pub union_is : (x y z : List ℕ) (i v : ℕ) → 8 ≤ i → Filled (λ i w. w ≡ bit_or (get_or x i 0) (get_or y i 0)) i z → v ≡ get_or z 0 0 / 2 * 2
    → Is (set z 0 v) (Union (Has x) (Has y))
unfolding member
union_is x y z i v g f e = rw e record { strings = has_union x y (evened z) numbers; proper = evened_proper (λ i w. w ≡ bit_or (get_or x i 0) (get_or y i 0)) i z f }
  where
    numbers : (n : ℕ) → 0 < n → n < 512 → member (evened z) n ≡ max (member x n) (member y n)
    numbers n p h =
        evened_member z n p
        ∙ ap (λ (w : ℕ). bit w (n % 64)) (f.at (n / 64) (omega arith))
        ∙ bit-or (get_or x (n / 64) 0) (get_or y (n / 64) 0) (n % 64)

-- ---- no string, one string

none_member : (n : ℕ) → member zeros n ≡ 0
unfolding member
none_member n = ap (λ (w : ℕ). bit w (n % 64)) (zeros_at (n / 64)) ∙ bit_none (n % 64)

none_proper : Proper zeros
none_proper = record { eight = refl; fit = (filled_none (λ i w. Unit {0})).fit; unused = none_member 0 }

-- no string of A has a number
pub empty_is : (A : Bits → Type 0) → ((s : Bits) → A s → ⊥) → Is zeros A
empty_is A f = record { strings = λ s. ((λ h. absurd (let e : member zeros (number s) ≡ 0 = none_member (number s) in omega (arith, h.1))), (λ a. absurd (f s a))); proper = none_proper }

power_here : (s : ℕ) → bit (1 * 2 ^ s) s ≡ 1
power_here s = ap (bit (1 * 2 ^ s)) (sym (add-zero s)) ∙ bit_shl 1 s 0 ∙ bit_first 1

power_there : (s k : ℕ) → (k ≡ s → ⊥) → bit (1 * 2 ^ s) k ≡ 0
power_there s k f = elim (dec_lt k s) [
  | yes h ↦ bit_shl_low 1 s k h
  | no h ↦
      let e : s + (k - s) ≡ k = omega arith in
      ap (bit (1 * 2 ^ s)) (sym e) ∙ bit_shl 1 s (k - s) ∙ bit_above 1 1 (k - s) (omega arith) (let z : k ≢ s = f in omega arith)
]

one_word : ℕ → List ℕ
one_word n = set zeros (n / 64) (1 * 2 ^ (n % 64))

one_here : (n : ℕ) → n < 512 → member (one_word n) n ≡ 1
unfolding member one_word
one_here n h = ap (λ (w : ℕ). bit w (n % 64)) (get_or-set_same zeros (n / 64) (1 * 2 ^ (n % 64)) 0 (omega arith)) ∙ power_here (n % 64)

one_there : (n m : ℕ) → n < 512 → (m ≡ n → ⊥) → member (one_word n) m ≡ 0
unfolding member one_word
one_there n m h f = elim (ℕ_discrete (m / 64) (n / 64)) [
  | yes e ↦
      ap (λ (i : ℕ). bit (get_or (set zeros (n / 64) (1 * 2 ^ (n % 64))) i 0) (m % 64)) e
      ∙ ap (λ (w : ℕ). bit w (m % 64)) (get_or-set_same zeros (n / 64) (1 * 2 ^ (n % 64)) 0 (omega arith))
      ∙ power_there (n % 64) (m % 64) (λ q. f (omega arith))
  | no e ↦ ap (λ (w : ℕ). bit w (m % 64)) (get_or-set_other zeros (n / 64) (m / 64) (1 * 2 ^ (n % 64)) 0 e) ∙ none_member m
]

pub single_is : (n : ℕ) → 0 < n → n < 512 → Is (set zeros (n / 64) (1 * 2 ^ (n % 64) % 2 ^ 64)) (λ (s : Bits). (length s ≤ 8) × (number s ≡ n))
unfolding one_word
single_is n p h = rw (mod-eq_of_lt small) record { strings = λ s. (to s, back s); proper = record { eight = length-set zeros (n / 64) (1 * 2 ^ (n % 64)); fit = fits; unused = one_there n 0 h (λ e. omega arith) } }
  where
    to : (s : Bits) → Has (one_word n) s → (length s ≤ 8) × (number s ≡ n)
    to s q = (
      q.0,
      elim (ℕ_discrete (number s) n) [
        | yes e ↦ e
        | no e ↦ absurd (let z : member (one_word n) (number s) ≡ 0 = one_there n (number s) h e in omega (arith, q.1))
      ],
    )

    back : (s : Bits) → (length s ≤ 8) × (number s ≡ n) → Has (one_word n) s
    back s q = (q.0, ap (member (one_word n)) q.1 ∙ one_here n h)

    small : 1 * 2 ^ (n % 64) < 2 ^ 64
    small = rw one-mul (pow-lt {i = n % 64} {j = 64} (omega arith))

    fits : (i : ℕ) → get_or (set zeros (n / 64) (1 * 2 ^ (n % 64))) i 0 < 2 ^ 64
    fits = set_fit zeros (n / 64) (1 * 2 ^ (n % 64)) (omega arith) small (filled_none (λ i w. Unit {0})).fit

-- ---- one string more

module _ (x : List ℕ) (n : ℕ) (p : Proper x) where
  abbrev One : Bits → Type 0
  One s = (length s ≤ 8) × (number s ≡ n)

  abbrev one : List ℕ
  one = set zeros (n / 64) (1 * 2 ^ (n % 64) % 2 ^ 64)

  -- a number that is no string's adds none
  pub insert_none : ((s : Bits) → One s → ⊥) → Is x (Union (Has x) One)
  insert_none f = record { strings = λ s. ((λ h. inl h), (λ u. elim u [ inl h ↦ h | inr q ↦ absurd (f s q) ])); proper = p }

  pub insert_is : (w : ℕ) → 0 < n → n < 512 → w ≡ bit_or (get_or x (n / 64) 0) (1 * 2 ^ (n % 64) % 2 ^ 64) → w < 2 ^ 64 → Is (set x (n / 64) w) (Union (Has x) One)
  unfolding member
  insert_is w z h e l = record { strings = λ s. (to s, back s); proper = record { eight = length-set x (n / 64) w ∙ p.eight; fit = set_fit x (n / 64) w inside l p.fit; unused = none } }
    where
      inside : n / 64 < length x
      inside = omega (arith, p.eight)

      alone : Is one One
      alone = single_is n z h

      numbers : (m : ℕ) → member (set x (n / 64) w) m ≡ max (member x m) (member one m)
      numbers m = elim (ℕ_discrete (m / 64) (n / 64)) [
        | yes q ↦
            let a : get_or (set x (n / 64) w) (m / 64) 0 ≡ w = ap (λ (i : ℕ). get_or (set x (n / 64) w) i 0) q ∙ get_or-set_same x (n / 64) w 0 inside in
            let b : get_or one (m / 64) 0 ≡ 1 * 2 ^ (n % 64) % 2 ^ 64 = ap (λ (i : ℕ). get_or one i 0) q ∙ get_or-set_same zeros (n / 64) (1 * 2 ^ (n % 64) % 2 ^ 64) 0 (omega arith) in
            ap (λ (v : ℕ). bit v (m % 64)) (a ∙ e) ∙ bit-or (get_or x (n / 64) 0) (1 * 2 ^ (n % 64) % 2 ^ 64) (m % 64)
            ∙ ap₂ (λ (u v : ℕ). max (bit u (m % 64)) (bit v (m % 64))) (ap (λ (i : ℕ). get_or x i 0) (sym q)) (sym b)
        | no q ↦
            let b : bit (get_or one (m / 64) 0) (m % 64) ≡ 0 =
            ap (λ (v : ℕ). bit v (m % 64)) (get_or-set_other zeros (n / 64) (m / 64) (1 * 2 ^ (n % 64) % 2 ^ 64) 0 q ∙ zeros_at (m / 64)) ∙ bit_none (m % 64) in
            ap (λ (v : ℕ). bit v (m % 64)) (get_or-set_other x (n / 64) (m / 64) w 0 q) ∙ omega (arith, b)
      ]

      none : member (set x (n / 64) w) 0 ≡ 0
      none = numbers 0 ∙ ap₂ max p.unused alone.proper.unused

      union : (s : Bits) → Has (set x (n / 64) w) s ↔ Union (Has x) (Has one) s
      union s = has_union x one (set x (n / 64) w) (λ m u v. numbers m) s

      to : (s : Bits) → Has (set x (n / 64) w) s → Union (Has x) One s
      to s a = elim ((union s).0 a) [ inl b ↦ inl b | inr b ↦ inr ((alone.strings s).0 b) ]

      back : (s : Bits) → Union (Has x) One s → Has (set x (n / 64) w) s
      back s a = (union s).1 (elim a [ inl b ↦ inl b | inr b ↦ inr ((alone.strings s).1 b) ])

-- ---- answers

pub decides_true : (A : Type 0) → A → Decides true A
decides_true A a = ((λ e. a), (λ x. refl))

pub decides_false : (A : Type 0) → (A → ⊥) → Decides false A
decides_false A f = ((λ e. absurd (let z : ◌≡◌ {A = ℕ} 0 1 = cc in omega arith)), (λ a. absurd (f a)))

pub decides_of : (r : Bool) (A B : Type 0) → Decides r A → (A → B) → (B → A) → Decides r B
decides_of r A B d f g = ((λ e. f (d.0 e)), (λ b. d.1 (g b)))

-- ---- a number and its string

pub number_in : (x : List ℕ) (n : ℕ) → 0 < n → n < 512 → member x n ≡ 1 → (s : Bits) × (number s ≡ n) × Has x s
number_in x n p h e = let r = named 8 n p h in (r.0, r.2, (r.1, ap (member x) r.2 ∙ e))

-- a test of a number, whatever the words: member of eight, or of sixteen halves
pub decides_number : (P : ℕ → ℕ) (n : ℕ) → 0 < n → n < 512 → Decides (eqb (P n) 1) ((s : Bits) × (number s ≡ n) × ((length s ≤ 8) × (P (number s) ≡ 1)))
decides_number P n p h = (
  (λ e. let r = named 8 n p h in (r.0, r.2, (r.1, ap P r.2 ∙ eqb-true (P n) 1 e))),
  (λ q. eq-eqb (P n) 1 (sym (ap P q.1) ∙ q.2.1)),
)

-- a number that is no string's
pub no_number : (n : ℕ) → (n ≡ 0) ⊎ (512 ≤ n) → (s : Bits) → number s ≡ n → length s ≤ 8 → ⊥
no_number n (inl e) s q l = omega (arith, number_pos s)
no_number n (inr e) s q l = omega (arith, number_small s l)

-- the empty string has number 1
pub empty_string : (x : List ℕ) → ((s : Bits) × (number s ≡ 1) × Has x s) ↔ Has x []
unfolding append_digits
empty_string x = (
  (λ q. (omega arith, sym (ap (member x) q.1) ∙ q.2.1)),
  (λ h. ([], refl, h)),
)

-- ---- two sets of one form with the same strings have the same words
pub same_words : (x y : List ℕ) → Proper x → Proper y → ((s : Bits) → Has x s ↔ Has y s) → SameWords x y
same_words x y p q f i h = bit_ext 64 (get_or x i 0) (get_or y i 0) (p.fit i) (q.fit i) (λ k l. sym (member_at x i k l) ∙ numbers (64 * i + k) (omega arith) ∙ member_at y i k l)
  where
    one : (u v : List ℕ) → ((s : Bits) → Has u s → Has v s) → (n : ℕ) → 0 < n → n < 512 → member u n ≡ 1 → member v n ≡ 1
    one u v g n z b e = let r = number_in u n z b e in sym (ap (member v) r.1) ∙ (g r.0 r.2).1

    bits : (a b : ℕ) → a < 2 → b < 2 → (a ≡ 1 → b ≡ 1) → (b ≡ 1 → a ≡ 1) → a ≡ b
    bits zero zero l m g k = refl
    bits zero (suc zero) l m g k = k refl
    bits (suc zero) b l m g k = sym (g refl)
    bits zero (suc (suc b)) l m g k = absurd (omega arith)
    bits (suc (suc a)) b l m g k = absurd (omega arith)

    numbers : (n : ℕ) → n < 512 → member x n ≡ member y n
    numbers zero b = p.unused ∙ sym q.unused
    numbers (suc n) b =
        bits (member x (suc n)) (member y (suc n)) (member_lt x (suc n)) (member_lt y (suc n))
        (one x y (λ s. (f s).0) (suc n) (omega arith) b) (one y x (λ s. (f s).1) (suc n) (omega arith) b)

-- and so the same list
pub same_list : (x y : List ℕ) → Proper x → Proper y → SameWords x y → x ≡ y
same_list x y p q f = ext_get_or 0 x y (p.eight ∙ sym q.eight) (λ i h. f i (omega (arith, p.eight)))
