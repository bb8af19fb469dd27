-- Lists that are written one after the other, and a loop that writes them.
-- Assumes nothing.
use Prim.Native.Nat.{ℕ, zero, suc, ◌+◌, ◌*◌, ◌-◌, ◌<◌}
use mathlib.Core.Path.{◌≡◌, refl, sym, ap, ap₂, ◌∙◌}
use mathlib.Core.List.{List, [], ◌∷◌, ◌++◌, map}
use native.Mathlib.Omega.{arith}
use lib.ListN.{length, get_or, set, length-append}
use lib.Seq.{length-sets}
use Rattle.basis.specs.Limits.{max_literal_bytes}
use Rattle.text_encoding.specs.Lists.{flat, narrow, written}
use Rattle.text_encoding.specs.Encoded.{packed}

-- a list's first word, then the rest
pub written_cons : (ws : List ℕ) (k a : ℕ) (xs : List ℕ) → written ws k (a ∷ xs) ≡ written (set ws k (narrow a)) (k + 1) xs
unfolding written
written_cons ws k a xs = ap (λ (n : ℕ). written (set ws k (narrow a)) n xs) (let z : suc k ≡ k + 1 = omega arith in z)

pub written_nil : (ws : List ℕ) (k : ℕ) → written ws k [] ≡ ws
unfolding written
written_nil ws k = refl

pub written_append : (ws : List ℕ) (k : ℕ) (xs ys : List ℕ) → written ws k (xs ++ ys) ≡ written (written ws k xs) (k + length xs) ys
written_append ws k [] ys = ap₂ (λ (l : List ℕ) (n : ℕ). written l n ys) (sym (written_nil ws k)) (let z : k ≡ k + 0 = omega arith in z)
written_append ws k (x ∷ xs) ys =
    let one : List ℕ = set ws k (narrow x) in
    written_cons ws k x (xs ++ ys) ∙ written_append one (k + 1) xs ys
    ∙ ap₂ (λ (l : List ℕ) (n : ℕ). written l n ys) (sym (written_cons ws k x xs)) (let z : k + 1 + length xs ≡ k + suc (length xs) = omega arith in z)

pub written_length : (ws : List ℕ) (k : ℕ) (xs : List ℕ) → length (written ws k xs) ≡ length ws
unfolding written
written_length ws k xs = length-sets ws k (map narrow xs)

-- a list, and then another where it ends
pub written_next : (ws w v : List ℕ) (k n : ℕ) (xs ys : List ℕ) → w ≡ written ws k xs → n ≡ k + length xs → v ≡ written w n ys → v ≡ written ws k (xs ++ ys)
written_next ws w v k n xs ys e l f = f ∙ ap₂ (λ (x : List ℕ) (m : ℕ). written x m ys) e l ∙ sym (written_append ws k xs ys)

-- ---- a loop

pub one_less : (i n : ℕ) → i < n → n - i ≡ suc (n - (i + 1))
one_less i n h = omega arith

-- the lists to come, from here on, over what is there are all lists over what was there
pub record Writing (start : List ℕ) (at n first : ℕ) (f : ℕ → List ℕ) (now : List ℕ) (k left i : ℕ) : Type 0 where
  pub same : length now ≡ length start
  pub whole : written now k (flat left i f) ≡ written start at (flat n first f)

pub writing_start : {start : List ℕ} {at n first k left i : ℕ} {f : ℕ → List ℕ} → k ≡ at → left ≡ n → i ≡ first → Writing start at n first f start k left i
writing_start {start} {f} e l s = record { same = refl; whole = λ t. written start (e t) (flat (l t) (s t) f) }

pub writing_turn : {start now next : List ℕ} {at n first k left i k' left' i' : ℕ} {f : ℕ → List ℕ}
    → Writing start at n first f now k left i → left ≡ suc left' → i' ≡ i + 1 → k' ≡ k + length (f i) → next ≡ written now k (f i)
    → Writing start at n first f next k' left' i'
unfolding flat
writing_turn {now} {k} {left} {i} {left'} {f} h l s p e =
    record {
      same = ap length e ∙ written_length now k (f i) ∙ h.same;
      whole =
          (λ t. written (e t) (p t) (flat left' (s t) f)) ∙ sym (written_append now k (f i) (flat left' (i + 1) f)) ∙ (λ t. written now k (flat (sym l t) i f)) ∙ h.whole;
    }

pub writing_end : {start now : List ℕ} {at n first k left i : ℕ} {f : ℕ → List ℕ} → Writing start at n first f now k left i → left ≡ 0 → now ≡ written start at (flat n first f)
unfolding flat
writing_end {now} {k} {i} {f} h l = sym (written_nil now k) ∙ (λ t. written now k (flat (sym l t) i f)) ∙ h.whole

-- ---- how long lists are

-- where each is as long as w
pub flat_length : (w n i : ℕ) (f : ℕ → List ℕ) → ((j : ℕ) → length (f j) ≡ w) → length (flat n i f) ≡ w * n
unfolding flat
flat_length w zero i f e = omega arith
flat_length w (suc n) i f e =
    length-append (f i) (flat n (i + 1) f) ∙ ap₂ ◌+◌ (e i) (flat_length w n (i + 1) f e) ∙ (let z : w + w * n ≡ w * suc n = omega arith in z)

-- the same lists, one by one
pub flat_same : (n i : ℕ) (f g : ℕ → List ℕ) → ((j : ℕ) → j < i + n → f j ≡ g j) → flat n i f ≡ flat n i g
unfolding flat
flat_same zero i f g h = refl
flat_same (suc n) i f g h = ap₂ (λ (x y : List ℕ). x ++ y) (h i (omega arith)) (flat_same n (i + 1) f g (λ j l. h j (omega arith)))

-- bytes that are the characters, four to a word
pub bytes_same : (bytes cs : List ℕ) → ((k : ℕ) → k < max_literal_bytes → get_or bytes k 0 ≡ get_or cs k 0) → flat 8 0 (λ (j : ℕ). packed bytes (4 * j) ∷ []) ≡ flat 8 0 (λ (j : ℕ). packed cs (4 * j) ∷ [])
bytes_same bytes cs h =
    flat_same 8 0 (λ j. packed bytes (4 * j) ∷ []) (λ j. packed cs (4 * j) ∷ [])
    (λ j l. λ t. (h (4 * j) (omega arith) t + 256 * (h (4 * j + 1) (omega arith) t + 256 * (h (4 * j + 2) (omega arith) t + 256 * h (4 * j + 3) (omega arith) t))) ∷ [])
