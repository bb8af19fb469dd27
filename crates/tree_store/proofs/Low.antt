-- The least of places, as the store's refusals and as the tree's have it, and tests of many numbers.
-- Assumes nothing.
use Prim.Native.Nat.{ℕ, zero, suc, ◌+◌, ◌-◌, ◌≤◌, ◌<◌, min}
use mathlib.Core.Path.{◌≡◌, refl, sym, ap, ap₂, subst, ◌∙◌}
use mathlib.Core.Bool.{Bool, true, false, ◌||◌}
use mathlib.Core.List.{List, [], ◌∷◌, ◌++◌}
use mathlib.Core.Option.{Option, none, some}
use native.Mathlib.Omega.{arith}
use Rattle.basis.proofs.Booleans.{either_second}
use Rattle.tree_store.proofs.Holding.{compared}
use Rattle.text_names.specs.Counting.{nowhere, place_if, any_of, any_between}
use Rattle.tree_meaning.specs.Places.{place_if as listed-if, lesser, least}

-- a place as the store's refusals have it
abbrev pub or_nowhere : Option ℕ → ℕ
or_nowhere none = nowhere
or_nowhere (some p) = p

-- none of them is `nowhere`
abbrev pub Apart : List ℕ → Type 0
Apart l = (q : ℕ) → least l ≡ some q → q < nowhere

-- so it is told from the answer that nothing is wrong
pub told_none : (n : ℕ) (o : Option ℕ) → or_nowhere o ≡ n → ((q : ℕ) → o ≡ some q → q < nowhere) → n ≡ nowhere → o ≡ none
told_none n none e f z = refl
told_none n (some q) e f z = absurd (omega (arith, e, z, f q refl))

pub told_some : (n : ℕ) (o : Option ℕ) → or_nowhere o ≡ n → (n ≡ nowhere → ⊥) → o ≡ some n
told_some n none e z = absurd (z (sym e))
told_some n (some q) e z = ap some e

-- n is the least of these places
pub record Low (n : ℕ) (l : List ℕ) : Type 0 where
  pub is : or_nowhere (least l) ≡ n
  pub small : n ≤ nowhere
  pub told_apart : Apart l

pub low_as : {m n : ℕ} {l : List ℕ} → m ≡ n → Low m l → Low n l
low_as {m} {n} {l} e h = subst (λ (k : ℕ). Low k l) e h

some_same : {p q : ℕ} → ◌≡◌ {A = Option ℕ} (some p) (some q) → p ≡ q
some_same e = cc

pub apart_none : Apart []
unfolding least
apart_none q e = let z : ◌≡◌ {A = ℕ} 0 1 = cc in absurd (omega arith)

pub apart_if : (t : Bool) (p : ℕ) → p < nowhere → Apart (listed-if t p)
unfolding least
apart_if true p h q e = omega (arith, some_same e)
apart_if false p h q e = apart_none q e

pub low_none : Low nowhere []
unfolding least
low_none = record { is = refl; small = omega arith; told_apart = apart_none }

pub low_if : (t : Bool) (p : ℕ) → p < nowhere → Low (place_if t p) (listed-if t p)
unfolding least
low_if true p h = record { is = refl; small = omega arith; told_apart = apart_if true p h }
low_if false p h = record { is = refl; small = omega arith; told_apart = apart_if false p h }

-- the lesser of two, if there are any
abbrev merged : Option ℕ → Option ℕ → Option ℕ
merged none b = b
merged (some p) b = some (lesser p b)

lesser_merged : (p : ℕ) (a b : Option ℕ) → lesser p (merged a b) ≡ lesser (lesser p a) b
lesser_merged p none b = refl
lesser_merged p (some q) none = refl
lesser_merged p (some q) (some s) = omega arith

least_append : (l m : List ℕ) → least (l ++ m) ≡ merged (least l) (least m)
unfolding least
least_append [] m = refl
least_append (p ∷ l) m = ap some (ap (lesser p) (least_append l m) ∙ lesser_merged p (least l) (least m))

merged_min : (a b : Option ℕ) → or_nowhere a ≤ nowhere → or_nowhere b ≤ nowhere → or_nowhere (merged a b) ≡ min (or_nowhere a) (or_nowhere b)
merged_min none b h k = omega arith
merged_min (some p) none h k = omega arith
merged_min (some p) (some q) h k = refl

lesser_low : (p : ℕ) (b : Option ℕ) → lesser p b ≤ p
lesser_low p none = omega arith
lesser_low p (some q) = omega arith

merged_low : (a b : Option ℕ) → ((q : ℕ) → a ≡ some q → q < nowhere) → ((q : ℕ) → b ≡ some q → q < nowhere) → (q : ℕ) → merged a b ≡ some q → q < nowhere
merged_low none b f g q e = g q e
merged_low (some p) b f g q e = omega (arith, some_same e, lesser_low p b, f p refl)

pub apart_both : (l m : List ℕ) → Apart l → Apart m → Apart (l ++ m)
apart_both l m f g q e = merged_low (least l) (least m) f g q (sym (least_append l m) ∙ e)

pub low_both : {m n : ℕ} {l k : List ℕ} → Low m l → Low n k → Low (min m n) (l ++ k)
low_both {m} {n} {l} {k} a b =
    let e : or_nowhere (least l) ≡ m = a.is
    in let f : or_nowhere (least k) ≡ n = b.is
    in let g : m ≤ nowhere = a.small
    in let h : n ≤ nowhere = b.small
    in record {
      is = ap or_nowhere (least_append l k) ∙ merged_min (least l) (least k) (omega arith) (omega arith) ∙ ap₂ min e f;
      small = omega arith;
      told_apart = apart_both l k a.told_apart b.told_apart;
    }

-- ---- numbers from i on

or_cases : (t x : Bool) → (elim t [ true ↦ true | false ↦ x ]) ≡ (t || x)
or_cases true x = refl
or_cases false x = refl

pub any_suc : (n i : ℕ) (f : ℕ → Bool) → any_of (suc n) i f ≡ (f i || any_of n (i + 1) f)
unfolding any_of
any_suc n i f = or_cases (f i) (any_of n (i + 1) f)

or_assoc : (a b c : Bool) → (a || (b || c)) ≡ ((a || b) || c)
or_assoc true b c = refl
or_assoc false b c = refl

pub any_append : (m n i : ℕ) (f : ℕ → Bool) → any_of (m + n) i f ≡ (any_of m i f || any_of n (i + m) f)
unfolding any_of
any_append zero n i f = ap₂ (λ (k : ℕ) (j : ℕ). any_of k j f) (let q : zero + n ≡ n = omega arith in q) (let q : i ≡ i + zero = omega arith in q)
any_append (suc m) n i f =
    ap (λ (k : ℕ). any_of k i f) (let q : suc m + n ≡ suc (m + n) = omega arith in q)
    ∙ any_suc (m + n) i f
    ∙ ap (λ (b : Bool). f i || b) (any_append m n (i + 1) f)
    ∙ or_assoc (f i) (any_of m (i + 1) f) (any_of n (i + 1 + m) f)
    ∙ ap₂ (λ (b : Bool) (k : ℕ). b || any_of n k f) (sym (any_suc m i f)) (let q : i + 1 + m ≡ i + suc m = omega arith in q)

-- from a up to i, and on up to i + n
pub any_between_on : (a i n : ℕ) (f : ℕ → Bool) → a ≤ i → any_between a (i + n) f ≡ (any_between a i f || any_of n i f)
any_between_on a i n f h =
    ap (λ (k : ℕ). any_of k a f) (let q : i + n - a ≡ i - a + n = omega arith in q)
    ∙ any_append (i - a) n a f
    ∙ ap (λ (k : ℕ). any_of (i - a) a f || any_of n k f) (let q : a + (i - a) ≡ i = omega arith in q)

-- no number of these passes
pub any_false : (n i : ℕ) (f : ℕ → Bool) → ((j : ℕ) → i ≤ j → j < i + n → f j ≡ false) → any_of n i f ≡ false
unfolding any_of
any_false zero i f h = refl
any_false (suc n) i f h = any_suc n i f ∙ ap₂ ◌||◌ (h i (omega arith) (omega arith)) (any_false n (i + 1) f (λ j a b. h j (omega arith) (omega arith)))

-- one does
pub any_true : (n i : ℕ) (f : ℕ → Bool) (j : ℕ) → i ≤ j → j < i + n → f j ≡ true → any_of n i f ≡ true
any_true zero i f j a b e = absurd (omega arith)
any_true (suc n) i f j a b e =
    any_suc n i f
    ∙ compared j i (λ y. absurd (omega arith))
    (λ (y : j ≡ i). ap (λ (t : Bool). t || any_of n (i + 1) f) (ap f (sym y) ∙ e))
    (λ y. either_second (f i) (any_of n (i + 1) f) (any_true n (i + 1) f j (omega arith) (omega arith) e))
