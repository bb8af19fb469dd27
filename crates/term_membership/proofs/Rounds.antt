-- Laws of the tests that wait for 64 values, a word for each test.
-- Assumes nothing.
use Prim.Native.Nat.{ℕ, zero, suc, ◌+◌, ◌-◌, ◌*◌, ◌/◌, ◌%◌, ◌^◌, ◌≤◌, ◌<◌, min, max}
use mathlib.Core.Path.{◌≡◌, refl, sym, ap, ap₂, subst, ◌∙◌}
use mathlib.Core.Bool.{Bool, true, false, cond}
use mathlib.Core.List.{List}
use native.Mathlib.Omega.{arith}
use native.Mathlib.Nat.{pow-suc}
use native.Mathlib.Decide.{dec_lt, ℕ_discrete}
use borrow.Author.Tests.{lt-ltb, le-ltb, ne_eqb}
use lib.Dec.{eqb}
use lib.Bits.{bit_xor, differ, xor_step, xor_shr}
use lib.ListN.{length, get_or, set, length-set}
use lib.Pow.{pow_mono, pow_pos}
use lib.Seq.{get_or-set_same, get_or-set_other}
use Rattle.basis.specs.Bits.{digit}
use Rattle.lookahead.specs.Sets.{bit}
use Rattle.lookahead.proofs.BitLaws.{bit_lt, bit_first, bit_half}
use Rattle.term_words.specs.Tests.{joins}
use Rattle.term_words.specs.declared.Joint.{Joint}
use Rattle.term_membership.specs.Truths.{noted, joined, applied, passes, Tested, tests, waiting, Anew}
use Rattle.term_membership.specs.declared.Effect.{Effect}

-- words from n on do not matter
pub tests_set : (ms : List ℕ) (n k w j : ℕ) → n ≤ k → tests (set ms k w) n j ≡ tests ms n j
tests_set ms zero k w j h = refl
tests_set ms (suc n) k w j h =
    ap₂ (λ (a b : ℕ). a * 2 + bit b j) (tests_set ms n k w j (omega arith)) (get_or-set_other ms k n w 0 (λ e. omega arith))

-- n tests are a number of n digits after the 1
pub tests_least : (ms : List ℕ) (n j : ℕ) → 2 ^ n ≤ tests ms n j
tests_least ms zero j = omega arith
tests_least ms (suc n) j =
    let p : 2 ^ suc n ≡ 2 ^ n * 2 = pow-suc 2 n in
    let h : 2 ^ n ≤ tests ms n j = tests_least ms n j in
    omega arith

pub tests_most : (ms : List ℕ) (n j : ℕ) → tests ms n j < 2 ^ suc n
tests_most ms zero j = omega arith
tests_most ms (suc n) j =
    let p : 2 ^ suc (suc n) ≡ 2 ^ suc n * 2 = pow-suc 2 (suc n) in
    let h : tests ms n j < 2 ^ suc n = tests_most ms n j in
    let b : bit (get_or ms n 0) j < 2 = bit_lt (get_or ms n 0) j in
    omega arith

pub waits : (ms : List ℕ) (n j : ℕ) → n < 63 → waiting ms n j ≡ tests ms n j
waits ms n j h = ap (λ (b : Bool). cond b (tests ms n j) 0) (lt-ltb n 63 h)

pub waits_none : (ms : List ℕ) (n j : ℕ) → 63 ≤ n → waiting ms n j ≡ 0
waits_none ms n j h = ap (λ (b : Bool). cond b (tests ms n j) 0) (le-ltb n 63 h)

noted_room : (t : ℕ) (b : Bool) → 0 < t → t < 2 ^ 62 → noted t b ≡ t * 2 + digit b
unfolding noted
noted_room t b p h = simp (lt-ltb 0 t p, lt-ltb t (2 ^ 62) h)

noted_full : (t : ℕ) (b : Bool) → 2 ^ 62 ≤ t → noted t b ≡ 0
unfolding noted
noted_full t b h = simp (lt-ltb 0 t (omega arith), le-ltb t (2 ^ 62) h)

noted_none : (b : Bool) → noted 0 b ≡ 0
unfolding noted
noted_none b = refl

module _ (ms : List ℕ) (n : ℕ) (l : length ms ≡ 64) where
  -- one test more
  pub noted_anew : (b : ℕ → Bool) (w : ℕ) → n < 62 → ((j : ℕ) → j < 64 → bit w j ≡ digit (b j)) → Anew (λ j t. noted t (b j)) ms n (set ms n w) (n + 1)
  noted_anew b w h e = (
    length-set ms n w ∙ l,
    (λ j i.
        let t = tests ms n j in
        let p : 2 ^ n ≤ t = tests_least ms n j in
        let q : t < 2 ^ suc n = tests_most ms n j in
        let u : 2 ^ suc n ≤ 2 ^ 62 = pow_mono {i = suc n} {j = 62} (omega arith) in
        let z : 1 ≤ 2 ^ n = pow_mono {i = 0} {j = n} (omega arith) in
        waits (set ms n w) (n + 1) j (omega arith)
        ∙ ap (λ (k : ℕ). tests (set ms n w) k j) (let k : n + 1 ≡ suc n = omega arith in k)
        ∙ ap₂ (λ (x y : ℕ). x * 2 + y) (tests_set ms n n w j (omega arith)) (ap (λ (x : ℕ). bit x j) (get_or-set_same ms n w 0 (omega arith)) ∙ e j i)
        ∙ sym (ap (λ (x : ℕ). noted x (b j)) (waits ms n j (omega arith)) ∙ noted_room t (b j) (omega arith) (omega arith))),
  )

  -- no room
  pub noted_over : (b : ℕ → Bool) → 62 ≤ n → Anew (λ j t. noted t (b j)) ms n ms 63
  noted_over b h = (
    l,
    λ j i. sym (elim (dec_lt n 63) [
      | yes k ↦
          let p : 2 ^ n ≤ tests ms n j = tests_least ms n j in
          let u : 2 ^ 62 ≤ 2 ^ n = pow_mono {i = 62} {j = n} h in
          ap (λ (x : ℕ). noted x (b j)) (waits ms n j k) ∙ noted_full (tests ms n j) (b j) (omega arith)
      | no k ↦ ap (λ (x : ℕ). noted x (b j)) (waits_none ms n j (omega arith)) ∙ noted_none (b j)
    ]),
  )

joined_few : (g : Joint) (t : ℕ) → t < 4 → joined g t ≡ 0
unfolding joined
joined_few g t h = simp (lt-ltb t 4 h)

joined_two : (g : Joint) (t a x y : ℕ) → t ≡ (a * 2 + x) * 2 + y → 0 < a → a < 2 ^ 62 → x < 2 → y < 2 → joined g t ≡ a * 2 + digit (joins g (eqb x 1) (eqb y 1))
unfolding joined
joined_two g t a x y e p h u v =
    let q : t / 4 ≡ a = omega arith in
    let r : t / 2 % 2 ≡ x = omega arith in
    let s : t % 2 ≡ y = omega arith in
    ap (λ (b : Bool). cond b 0 (noted (t / 4) (joins g (eqb (t / 2 % 2) 1) (eqb (t % 2) 1)))) (le-ltb t 4 (omega arith))
    ∙ ap (λ (m : ℕ). noted m (joins g (eqb (t / 2 % 2) 1) (eqb (t % 2) 1))) q
    ∙ ap₂ (λ (m k : ℕ). noted a (joins g (eqb m 1) (eqb k 1))) r s
    ∙ noted_room a (joins g (eqb x 1) (eqb y 1)) p h

module _ (ms : List ℕ) (l : length ms ≡ 64) (g : Joint) where
  pub joined_none : (n : ℕ) → (n < 2) → Anew (λ j t. joined g t) ms n ms 63
  joined_none n h = (
    l,
    λ j i.
        let q : tests ms n j < 2 ^ suc n = tests_most ms n j in
        let u : 2 ^ suc n ≤ 2 ^ 2 = pow_mono {i = suc n} {j = 2} (omega arith) in
        sym (ap (joined g) (waits ms n j (omega arith)) ∙ joined_few g (tests ms n j) (omega arith)),
  )

  pub joined_over : (n : ℕ) → 62 < n → Anew (λ j t. joined g t) ms n ms 63
  joined_over n h = (l, λ j i. sym (ap (joined g) (waits_none ms n j (omega arith)) ∙ joined_few g 0 (omega arith)))

  joined_at : (n w : ℕ) → suc (suc n) ≤ 62 → ((j : ℕ) → bit w j ≡ digit (joins g (eqb (bit (get_or ms n 0) j) 1) (eqb (bit (get_or ms (suc n) 0) j) 1)))
      → (j : ℕ) → waiting (set ms n w) (suc n) j ≡ joined g (waiting ms (suc (suc n)) j)
  joined_at n w h e j =
      let a = tests ms n j in
      let p : 2 ^ n ≤ a = tests_least ms n j in
      let q : a < 2 ^ suc n = tests_most ms n j in
      let u : 2 ^ suc n ≤ 2 ^ 62 = pow_mono {i = suc n} {j = 62} (omega arith) in
      let z : 1 ≤ 2 ^ n = pow_mono {i = 0} {j = n} (omega arith) in
      waits (set ms n w) (suc n) j (omega arith)
      ∙ ap₂ (λ (x y : ℕ). x * 2 + y) (tests_set ms n n w j (omega arith)) (ap (λ (x : ℕ). bit x j) (get_or-set_same ms n w 0 (omega arith)) ∙ e j)
      ∙ sym (ap (joined g) (waits ms (suc (suc n)) j (omega arith))
      ∙ joined_two g (tests ms (suc (suc n)) j) a (bit (get_or ms n 0) j) (bit (get_or ms (suc n) 0) j) refl (omega arith) (omega arith) (bit_lt (get_or ms n 0) j) (bit_lt (get_or ms (suc n) 0) j))

  pub joined_anew : (n w : ℕ) → 2 ≤ n → n ≤ 62 → ((j : ℕ) → bit w j ≡ digit (joins g (eqb (bit (get_or ms (n - 2) 0) j) 1) (eqb (bit (get_or ms (n - 1) 0) j) 1)))
      → Anew (λ j t. joined g t) ms n (set ms (n - 2) w) (n - 1)
  joined_anew n w h k e =
      let a : suc (suc (n - 2)) ≡ n = omega arith in
      let b : suc (n - 2) ≡ n - 1 = omega arith in (
        length-set ms (n - 2) w ∙ l,
        (λ j i.
            ap (λ (m : ℕ). waiting (set ms (n - 2) w) m j) (sym b)
            ∙ joined_at (n - 2) w (omega arith) (subst (λ (m : ℕ). (x : ℕ) → bit w x ≡ digit (joins g (eqb (bit (get_or ms (n - 2) 0) x) 1) (eqb (bit (get_or ms m 0) x) 1))) (sym b) e) j
            ∙ ap (λ (m : ℕ). joined g (waiting ms m j)) a),
      )

-- ---- a word of tests

digit_lt : (b : Bool) → digit b < 2
digit_lt true = omega arith
digit_lt false = omega arith

-- two bits become one
pub or_digit : (a b : ℕ) → a < 2 → b < 2 → max a b ≡ digit (joins Joint.Or (eqb a 1) (eqb b 1))
or_digit zero zero h k = refl
or_digit zero (suc zero) h k = refl
or_digit (suc zero) zero h k = refl
or_digit (suc zero) (suc zero) h k = refl
or_digit (suc (suc a)) b h k = absurd (omega arith)
or_digit zero (suc (suc b)) h k = absurd (omega arith)
or_digit (suc zero) (suc (suc b)) h k = absurd (omega arith)

pub and_digit : (a b : ℕ) → a < 2 → b < 2 → min a b ≡ digit (joins Joint.And (eqb a 1) (eqb b 1))
and_digit zero zero h k = refl
and_digit zero (suc zero) h k = refl
and_digit (suc zero) zero h k = refl
and_digit (suc zero) (suc zero) h k = refl
and_digit (suc (suc a)) b h k = absurd (omega arith)
and_digit zero (suc (suc b)) h k = absurd (omega arith)
and_digit (suc zero) (suc (suc b)) h k = absurd (omega arith)

pub except_digit : (a b : ℕ) → a < 2 → b < 2 → differ a (min a b) ≡ digit (joins Joint.Except (eqb a 1) (eqb b 1))
except_digit zero zero h k = refl
except_digit zero (suc zero) h k = refl
except_digit (suc zero) zero h k = refl
except_digit (suc zero) (suc zero) h k = refl
except_digit (suc (suc a)) b h k = absurd (omega arith)
except_digit zero (suc (suc b)) h k = absurd (omega arith)
except_digit (suc zero) (suc (suc b)) h k = absurd (omega arith)

differ_lt : (a b : ℕ) → a < 2 → b < 2 → differ a b % 2 ≡ differ a b
differ_lt zero zero h k = refl
differ_lt zero (suc zero) h k = refl
differ_lt (suc zero) zero h k = refl
differ_lt (suc zero) (suc zero) h k = refl
differ_lt (suc (suc a)) b h k = absurd (omega arith)
differ_lt zero (suc (suc b)) h k = absurd (omega arith)
differ_lt (suc zero) (suc (suc b)) h k = absurd (omega arith)

pub bit-xor : (a b k : ℕ) → bit (bit_xor a b) k ≡ differ (bit a k) (bit b k)
unfolding bit
bit-xor a b k =
    let d = differ (a / 2 ^ k % 2) (b / 2 ^ k % 2) in
    let r = bit_xor (a / 2 ^ k / 2) (b / 2 ^ k / 2) in
    let z : (r * 2 + d) % 2 ≡ d % 2 = omega arith in
    ap (λ (x : ℕ). x % 2) (xor_shr a b k ∙ xor_step (a / 2 ^ k) (b / 2 ^ k)) ∙ z ∙ differ_lt (a / 2 ^ k % 2) (b / 2 ^ k % 2) (omega arith) (omega arith)

-- the tests of the values from j on are in the word's lowest bits
pub record Testing (e : Effect) (values : List ℕ) (j out : ℕ) : Type 0 where
  pub small : out < 2 ^ (64 - j)
  pub bits : Tested e values j (64 - j) out
  pub most : j ≤ 64

module _ (e : Effect) (values : List ℕ) where
  pub testing_none : Testing e values 64 0
  testing_none = record { small = pow_pos (64 - 64); bits = λ k h. absurd (omega arith); most = omega arith }

  pub testing_room : (j out : ℕ) → 0 < j → Testing e values j out → out < 2 ^ 63
  testing_room j out h t = let p : 2 ^ (64 - j) ≤ 2 ^ 63 = pow_mono {i = 64 - j} {j = 63} (omega (arith, t.most)) in omega (arith, t.small)

  pub testing_more : (j out r : ℕ) (b : Bool) → 0 < j → Testing e values j out → b ≡ passes e (get_or values (j - 1) 0) → r ≡ out * 2 + digit b → Testing e values (j - 1) r
  testing_more j out r b h t q p = record { small = small; bits = bits; most = omega (arith, t.most) }
    where
      d : digit b < 2
      d = digit_lt b

      small : r < 2 ^ (64 - (j - 1))
      small =
          let m : 64 - (j - 1) ≡ suc (64 - j) = omega (arith, t.most) in
          subst (λ (n : ℕ). r < 2 ^ n) (sym m) (let z : 2 ^ suc (64 - j) ≡ 2 ^ (64 - j) * 2 = pow-suc 2 (64 - j) in omega (arith, t.small, p, d))

      bits : Tested e values (j - 1) (64 - (j - 1)) r
      bits zero k = ap (λ (x : ℕ). bit x 0) p ∙ bit_first (out * 2 + digit b) ∙ (let z : (out * 2 + digit b) % 2 ≡ digit b = omega (arith, d) in z) ∙ ap digit q
          ∙ ap (λ (x : ℕ). digit (passes e (get_or values x 0))) (let z : j - 1 ≡ j - 1 + 0 = omega arith in z)
      bits (suc m) k =
          ap (λ (x : ℕ). bit x (suc m)) p ∙ sym (bit_half (out * 2 + digit b) m)
          ∙ ap (λ (x : ℕ). bit x m) (let z : (out * 2 + digit b) / 2 ≡ out = omega (arith, d) in z)
          ∙ t.bits m (omega arith)
          ∙ ap (λ (x : ℕ). digit (passes e (get_or values x 0))) (let z : j + m ≡ j - 1 + suc m = omega arith in z)

-- ---- the answers

pub record Spreading (test j : ℕ) (out : List ℕ) : Type 0 where
  pub all : length out ≡ 64
  pub done : (k : ℕ) → k < j → get_or out k 0 ≡ 2 + bit test k
  pub most : j ≤ 64

pub spreading_more : (test j w : ℕ) (out : List ℕ) → j < 64 → Spreading test j out → w ≡ 2 + test / 2 ^ j % 2 → Spreading test (j + 1) (set out j w)
unfolding bit
spreading_more test j w out h s e = record { all = length-set out j w ∙ s.all; done = done; most = omega arith }
  where
    done : (k : ℕ) → k < j + 1 → get_or (set out j w) k 0 ≡ 2 + bit test k
    done k l = elim (ℕ_discrete k j) [
      | yes q ↦ rw (q, get_or-set_same out j w 0 (omega (arith, s.all))) e
      | no q ↦ get_or-set_other out j k w 0 q ∙ s.done k (omega arith)
    ]

-- one test
pub alone_told : (masks : List ℕ) (test j r : ℕ) → get_or masks 0 0 ≡ test → r ≡ 2 + bit test j → eqb (waiting masks 1 j) 3 ≡ eqb r 3
alone_told masks test j r e q = ap (λ (x : ℕ). eqb x 3) (waits masks 1 j (omega arith) ∙ ap (λ (w : ℕ). 1 * 2 + bit w j) e ∙ (let z : 1 * 2 + bit test j ≡ 2 + bit test j = omega arith in z) ∙ sym q)

-- none, or more
pub none_told : (masks : List ℕ) (n j : ℕ) → (n ≡ 1 → ⊥) → eqb (waiting masks n j) 3 ≡ false
none_told masks n j h = elim (dec_lt n 63) [
  | yes k ↦ ne_eqb (waiting masks n j) 3 (λ e. few n h k (sym (waits masks n j k) ∙ e))
  | no k ↦ ne_eqb (waiting masks n j) 3 (λ e. let z : waiting masks n j ≡ 0 = waits_none masks n j (omega arith) in omega arith)
]
  where
    few : (m : ℕ) → (m ≡ 1 → ⊥) → m < 63 → tests masks m j ≡ 3 → ⊥
    few zero f k e = omega arith
    few (suc zero) f k e = f refl
    few (suc (suc m)) f k e =
        let p : 2 ^ suc (suc m) ≤ tests masks (suc (suc m)) j = tests_least masks (suc (suc m)) j in
        let q : 2 ^ 2 ≤ 2 ^ suc (suc m) = pow_mono {i = 2} {j = suc (suc m)} (omega arith) in
        omega arith

-- ---- effects

pub within_applied : (effect : Effect) (a b : ℕ) → effect ≡ Effect.Within a b → (t v : ℕ) → noted t (passes effect v) ≡ applied effect t v
within_applied effect a b q t v = subst (λ (e : Effect). noted t (passes e v) ≡ applied e t v) (sym q) refl

pub from_applied : (effect : Effect) (a : ℕ) → effect ≡ Effect.From a → (t v : ℕ) → noted t (passes effect v) ≡ applied effect t v
from_applied effect a q t v = subst (λ (e : Effect). noted t (passes e v) ≡ applied e t v) (sym q) refl

pub tested_first : (e : Effect) (values : List ℕ) (word : ℕ) → Tested e values 0 64 word → (j : ℕ) → j < 64 → bit word j ≡ digit (passes e (get_or values j 0))
tested_first e values word t j h = t j h ∙ ap (λ (k : ℕ). digit (passes e (get_or values k 0))) (let z : 0 + j ≡ j = omega arith in z)
