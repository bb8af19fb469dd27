-- Sets of lookahead strings, as lists: tests of them, and FIRST, prediction and continue sets whose strings are full.
-- Assumes nothing.
use Prim.Native.Nat.{ℕ, zero, suc, ◌+◌, ◌*◌}
use native.Mathlib.Omega.{arith}
use borrow.Author.Tests.{eqb-true, eq-eqb}
use mathlib.Core.Path.{◌≡◌, refl, sym, subst, ◌∙◌, ap, ap₂}
use mathlib.Core.Logic.{◌↔◌, ◌≢◌, inl, inr, ⊎_elim}
use mathlib.Core.Bool.{Bool, true, false, false≢true}
use mathlib.Core.List.Memᴰ
use mathlib.Core.List.{List, [], ◌∷◌, ◌++◌, Memᴰ}
use lib.ListN.{length}
use lib.Seq.{take_at}
use Rattle.basis.specs.Bits.{Bits, append_digits, value, frame_bits}
use Rattle.basis.specs.Lookahead.{lookahead, join}
use Rattle.basis.proofs.Frames.{frame_length}
use Rattle.basis.proofs.Strings.{same_refl, same_true}
use Rattle.theory.specs.Grammar.{alternative, field, Grammar, ◌∈◌}
use Rattle.theory.specs.Derivation.{construct, passes}
use Rattle.theory.specs.Lookahead.{First, Follow, Predicted, Continues}
use Rattle.theory.proofs.Sheet.Samples.{SheetNode, SheetGrammar, uint, only, one_of}
use Rattle.basis.specs.Bits.{same}
use Rattle.basis.proofs.Booleans.{which}
use Rattle.theory.proofs.Completeness.{not_both}
use Rattle.theory.proofs.Inversion.{First-of, FirstBy, first_by}

-- what holds of both of two numbers
pub of_two : (P : ℕ → Type 0) (a b : ℕ) → P a → P b → (i : ℕ) → i ∈ (a ∷ b ∷ []) → P i
of_two P a b p q i m =
    elim (Memᴰ.cases_cons m) [ inl e ↦ subst P (sym e) p | inr k ↦ subst P (sym (Memᴰ.eq_of_singleton k)) q ]

pub pair_of_two : (P : ℕ → ℕ → Type 0) (a b : ℕ) → P a b → P b a → (i j : ℕ) → i ∈ (a ∷ b ∷ []) → j ∈ (a ∷ b ∷ []) → i ≢ j → P i j
pair_of_two P a b p q i j m n =
    of_two (λ k. k ≢ j → P k j) a b
    (of_two (λ k. a ≢ k → P a k) a b (λ d. absurd (d refl)) (λ d. p) j n)
    (of_two (λ k. b ≢ k → P b k) a b (λ d. q) (λ d. absurd (d refl)) j n)
    i m

-- a set holds just these strings
abbrev pub Exactly : (Bits → Type 0) → List Bits → Type 0
Exactly S ys = (x : Bits) → S x ↔ Memᴰ x ys

-- of a set with one string
pub only_one : (S : Bits → Type 0) {y : Bits} → S y → (x : Bits) → Memᴰ x (y ∷ []) → S x
only_one S h x m = subst S (sym (Memᴰ.eq_of_singleton m)) h

one_of_true : (ys : List Bits) (x : Bits) → one_of ys x ≡ true → Memᴰ x ys
unfolding one_of
one_of_true [] x e = absurd (false≢true e)
one_of_true (y ∷ ys) x e =
    elim (which (same x y)) [ inl t ↦ Memᴰ.head (same_true x y t) | inr t ↦ Memᴰ.tail (one_of_true ys x (rw (t, one_of) at e)) ]

one_of_listed : (ys : List Bits) (x : Bits) → Memᴰ x ys → one_of ys x ≡ true
unfolding one_of
one_of_listed [] x m = absurd (Memᴰ.not-nil m)
one_of_listed (y ∷ ys) x m =
    elim (which (same x y)) [
      | inl t ↦ rw (t, one_of)
      | inr t ↦
          elim (Memᴰ.cases_cons m) [
            | inl e ↦ absurd (not_both (subst (λ (z : Bits). same x z ≡ true) e (same_refl x)) t)
            | inr h ↦ rw (t, one_of) (one_of_listed ys x h)
          ]
    ]

-- no string is in both lists
unfoldable pub apart : List Bits → List Bits → Bool
unfolding one_of
apart [] zs = true
apart (y ∷ ys) zs = elim (one_of zs y) [ true ↦ false | false ↦ apart ys zs ]

pub apart_true : (ys zs : List Bits) → apart ys zs ≡ true → (x : Bits) → Memᴰ x ys → Memᴰ x zs → ⊥
unfolding apart
apart_true [] zs e x m n = Memᴰ.not-nil m
apart_true (y ∷ ys) zs e x m n =
    elim (which (one_of zs y)) [
      | inl t ↦ false≢true (rw (t, apart) at e)
      | inr t ↦
          elim (Memᴰ.cases_cons m) [
            | inl r ↦ not_both (subst (λ (u : Bits). one_of zs u ≡ true) r (one_of_listed zs x n)) t
            | inr k ↦ apart_true ys zs (rw (t, apart) at e) x k n
          ]
    ]

-- a test of a list decides the set of its strings
pub decides : {S : Bits → Type 0} (ys : List Bits) → Exactly S ys → (x : Bits) → (one_of ys x ≡ true) ↔ S x
decides ys e x = (λ t. (e x).1 (one_of_true ys x t), λ s. one_of_listed ys x ((e x).0 s))

-- FIRST of a literal
pub literal_first : {Context Values : Type 0} (g : Grammar Context Values) (i : ℕ) (bytes : List ℕ) {admits : Context → Values → Bits → Bool} {binds : Context → Values → Bits → Values}
    → g.node i ≡ field (λ bits. 8 * length bytes) admits (λ bits. same bits (frame_bits bytes)) binds → Exactly (First-of g i) (lookahead (frame_bits bytes) ∷ [])
literal_first g i bytes e x = (
  λ f. let (bits, l, s, q) = subst (λ (n : _). FirstBy g (construct i n) x) e (first_by g f) in Memᴰ.head (q ∙ ap lookahead (same_true bits (frame_bits bytes) s)),
  λ m.
      subst (λ (n : _). First g (construct i n) x) (sym e)
      (First.of_field (frame_bits bytes) (frame_length bytes) (same_refl (frame_bits bytes)) (Memᴰ.eq_of_singleton m)),
)

-- strings of one length with one value are one string
digits_injective : (s t : Bits) (n m : ℕ) → length s ≡ length t → append_digits n s ≡ append_digits m t → (n ≡ m) × (s ≡ t)
unfolding append_digits
digits_injective [] [] n m l e = (e, refl)
digits_injective [] (b ∷ t) n m l e = absurd (omega arith)
digits_injective (a ∷ s) [] n m l e = absurd (omega arith)
digits_injective (true ∷ s) (true ∷ t) n m l e = let (q, r) = digits_injective s t (n * 2 + 1) (m * 2 + 1) (omega arith) e in (omega arith, ap (true ∷◌) r)
digits_injective (true ∷ s) (false ∷ t) n m l e = let (q, r) = digits_injective s t (n * 2 + 1) (m * 2 + 0) (omega arith) e in absurd (omega arith)
digits_injective (false ∷ s) (true ∷ t) n m l e = let (q, r) = digits_injective s t (n * 2 + 0) (m * 2 + 1) (omega arith) e in absurd (omega arith)
digits_injective (false ∷ s) (false ∷ t) n m l e = let (q, r) = digits_injective s t (n * 2 + 0) (m * 2 + 0) (omega arith) e in (omega arith, ap (false ∷◌) r)

-- FIRST of a uint whose set is one number, which has the bits `it`
pub uint_first : (g : SheetGrammar) (i w n : ℕ) (it : Bits) → g.node i ≡ uint w (only n) → length it ≡ w → value it ≡ n → Exactly (First-of g i) (lookahead it ∷ [])
uint_first g i w n it e l v x = (
  λ f.
      let (bits, k, s, q) = subst (λ (m : SheetNode). FirstBy g (construct i m) x) e (first_by g f) in
      Memᴰ.head (q ∙ ap lookahead (digits_injective bits it 0 0 (k ∙ sym l) (eqb-true (value bits) n s ∙ sym v)).1),
  λ m. subst (λ (m : SheetNode). First g (construct i m) x) (sym e) (First.of_field it l (eq-eqb (value it) n v) (Memᴰ.eq_of_singleton m)),
)

-- so many times a string, one after the other
unfoldable pub repeat : Bits → ℕ → Bits
repeat y zero = []
repeat y (suc k) = join y (repeat y k)

module _ {Context Values : Type 0} (g : Grammar Context Values) where
  -- FIRST of passes of a body that has one string
  pub passes_one : (b : ℕ) (y : Bits) → Exactly (First-of g b) (y ∷ []) → (k : ℕ) → Exactly (First g (passes b k)) (repeat y k ∷ [])
  unfolding repeat
  passes_one b y e zero x =
      (λ f. Memᴰ.head (first_by g f), only_one (First g (passes b zero)) First.no_passes x)
  passes_one b y e (suc k) x = (
    λ f.
        let (u, z, h, hs, q) = first_by g f in
        Memᴰ.head (q ∙ ap₂ join (Memᴰ.eq_of_singleton ((e u).0 h)) (Memᴰ.eq_of_singleton ((passes_one b y e k z).0 hs))),
    λ m. First.more_passes ((e y).1 (Memᴰ.head refl)) ((passes_one b y e k (repeat y k)).1 (Memᴰ.head refl)) (Memᴰ.eq_of_singleton m),
  )

  -- FIRST of two branches
  pub branches_first : (i a b : ℕ) (ys zs : List Bits) → g.node i ≡ alternative (a ∷ b ∷ []) → Exactly (First-of g a) ys → Exactly (First-of g b) zs → Exactly (First-of g i) (ys ++ zs)
  branches_first i a b ys zs e p q x = (there, back)
    where
      there : First-of g i x → Memᴰ x (ys ++ zs)
      there f =
          let (c, m, h) = subst (λ (n : _). FirstBy g (construct i n) x) e (first_by g f) in
          of_two (λ j. First-of g j x → Memᴰ x (ys ++ zs)) a b (λ k. Memᴰ.append_left zs ((p x).0 k)) (λ k. Memᴰ.append_right ys ((q x).0 k)) c m h

      back : Memᴰ x (ys ++ zs) → First-of g i x
      back m =
          subst (λ (n : _). First g (construct i n) x) (sym e)
          (⊎_elim (λ k. First.of_alternative (Memᴰ.head refl) ((p x).1 k)) (λ k. First.of_alternative (Memᴰ.tail (Memᴰ.head refl)) ((q x).1 k)) (Memᴰ.append_cases ys m))

  -- a construct whose FIRST strings all have 8 bits: nothing that follows them is seen
  module _ (b : ℕ) (ys : List Bits) (exact : Exactly (First-of g b) ys) (full : (x : Bits) → Memᴰ x ys → length x ≡ 8) where
    joined : (x y : Bits) → Memᴰ x ys → join x y ≡ x
    joined x y m = take_at x y 8 (full x m)

    cut : (x y z : Bits) → Memᴰ y ys → x ≡ join y z → Memᴰ x ys
    cut x y z m e = Memᴰ.cast (e ∙ joined y z m) m

    pub passes_first : (k : ℕ) → Exactly (First g (passes b (suc k))) ys
    passes_first k x = (there, back k)
      where
        there : First g (passes b (suc k)) x → Memᴰ x ys
        there f = let (y, z, h, hs, e) = first_by g f in cut x y z ((exact y).0 h) e

        back : (n : ℕ) → Memᴰ x ys → First g (passes b (suc n)) x
        back zero m = First.more_passes ((exact x).1 m) First.no_passes (sym (joined x [] m))
        back (suc n) m = First.more_passes ((exact x).1 m) (back n m) (sym (joined x x m))

    pub predicted_full : (z : Bits) → Follow g b z → Exactly (Predicted g b) ys
    predicted_full z f x = (there, λ m. Predicted.predicted ((exact x).1 m) f (sym (joined x z m)))
      where
        there : Predicted g b x → Memᴰ x ys
        there (Predicted.predicted {x = u} {y = w} h hs e) = cut x u w ((exact u).0 h) e

    pub continues_full : (i : ℕ) (z : Bits) → Follow g i z → Exactly (Continues g i b) ys
    continues_full i z f x = (there, λ m. Continues.continues 0 ((passes_first 0 x).1 m) f (sym (joined x z m)))
      where
        there : Continues g i b x → Memᴰ x ys
        there (Continues.continues {x = u} {y = w} k h hs e) = cut x u w ((passes_first k u).0 h) e
