-- The three words of each term: only numbers and variables' uses have a low word, and only numbers a high one.
-- Assumes nothing.
use Prim.Native.Nat.{ℕ, ◌+◌, ◌*◌, ◌-◌, ◌/◌, ◌≤◌, ◌<◌}
use mathlib.Core.Path.{◌≡◌, refl, sym, ap, ◌∙◌}
use mathlib.Core.Logic.{inl, inr}
use mathlib.Core.Bool.{true, false, ◌&&◌, ◌||◌, false≢true}
use mathlib.Core.List.{List, [], ◌∷◌}
use native.Mathlib.Omega.{arith}
use native.Mathlib.Nat.{zero-add}
use borrow.Author.Tests.{eqb-true, eqb-false, ltb-true, ltb-false}
use lib.Dec.{eqb, ltb}
use lib.ListN.{get_or}
use Rattle.basis.proofs.Booleans.{which, picked, either_second, both_pass}
use Rattle.table_layout.specs.Places.{word, term_count, terms_at}
use Rattle.table_wellformed.specs.Checks.{from_to}
use Rattle.table_wellformed.specs.Lists.{has_low, has_high, term_laid}
use Rattle.text_wellformed.proofs.Tests.{from_to_all}
use Rattle.text_shapes.specs.NodeShapes.{tree, Holds, literal_tree, range_tree, use_tree, eod_tree, uint_tree, marked_tree, counted_tree, chain_tree, switch_tree}
use Rattle.text_store.specs.Words.{kind_of, node_mark, own_from, condition_from, term_tag, term_value, stored_term_at, is_use}
use Rattle.text_encoding.specs.Lists.{narrow}
use Rattle.text_encoding.specs.Numbers.{first_at, variable_of, condition_length, own_length, lists_length, condition_start, own_start}
use Rattle.text_encoding.specs.Encoded.{term_words}
use Rattle.text_wellformed.specs.Context.{Words, Nodes, ConditionAt, without, with_one, Quiet, QuietAt}
use Rattle.text_wellformed.proofs.Areas.{find}

-- a sign has no value
abbrev pub Signs : List ℕ → ℕ → Type 0
Signs ts t = (k : ℕ) → k < t → (term_tag ts k ≡ 1 → ⊥) → (term_tag ts k ≡ 2 → ⊥) → (term_tag ts k ≡ 33 → ⊥) → (term_tag ts k ≡ 34 → ⊥) → term_value ts k ≡ 0

-- ---- the words of a term that was read

-- three numbers, as words, are a term's
abbrev Passes : List ℕ → Type 0
Passes l = ((has_low (narrow (get_or l 0 0)) || eqb (narrow (get_or l 1 0)) 0) && (has_high (narrow (get_or l 0 0)) || eqb (narrow (get_or l 2 0)) 0)) ≡ true

low_passes : (tag low high : ℕ) → has_low (narrow tag) ≡ true → high ≡ 0 → Passes (tag ∷ low ∷ high ∷ [])
low_passes tag low high e f = rw (e, f) (either_second (has_high (narrow tag)) true refl)

zero_passes : (tag low high : ℕ) → low ≡ 0 → high ≡ 0 → Passes (tag ∷ low ∷ high ∷ [])
zero_passes tag low high e f = rw (e, f) (both_pass (either_second (has_low (narrow tag)) true refl) (either_second (has_high (narrow tag)) true refl))

use_low : (tag : ℕ) → is_use tag ≡ true → has_low (narrow tag) ≡ true
use_low tag u =
    elim (which (eqb tag 2)) [
      | inl e ↦ let z : tag ≡ 2 = eqb-true tag 2 e in rw z
      | inr e ↦ let z : tag ≡ 34 = eqb-true tag 34 (rw e at u) in rw z
    ]

module _ (xs ns ts : List ℕ) (t : ℕ) (signs : Signs ts t) (a i k : ℕ) (h : k < t) where
  abbrev tag : ℕ
  tag = term_tag ts k

  no_use : (m : ℕ) → is_use m ≡ true → is_use tag ≡ false → tag ≡ m → ⊥
  no_use m e f z = false≢true (sym f ∙ ap is_use z ∙ e)

  -- a number has both words
  number_passes : (m : ℕ) → tag ≡ m → has_low (narrow m) ≡ true → has_high (narrow m) ≡ true → Passes (tag ∷ term_value ts k ∷ term_value ts k / 4294967296 ∷ [])
  number_passes m z e f = rw (z, e, f)

  term_passes : Passes (term_words xs ns ts a i k)
  term_passes =
      picked Passes (is_use tag) (λ u. low_passes tag (variable_of xs ns a i (stored_term_at ts k)) 0 (use_low tag u) refl)
      (λ u.
      elim (which (eqb tag 1)) [
        | inl e ↦ let z : tag ≡ 1 = eqb-true tag 1 e in number_passes 1 z refl refl
        | inr e ↦
            elim (which (eqb tag 33)) [
              | inl f ↦ let z : tag ≡ 33 = eqb-true tag 33 f in number_passes 33 z refl refl
              | inr f ↦
                  let none : term_value ts k ≡ 0 = signs k h (eqb-false tag 1 e) (no_use 2 refl u) (eqb-false tag 33 f) (no_use 34 refl u) in
                  zero_passes tag (term_value ts k) (term_value ts k / 4294967296) none (omega arith)
            ]
      ])

-- ---- the terms of a construct's lists are among those read

condition_within : (ns ts : List ℕ) (t i m : ℕ) → ConditionAt ns ts t i → m < condition_length ns i → condition_from ns i + m < t
condition_within ns ts t i m (without u) h = absurd (omega (arith, u.from_is, u.end_is))
condition_within ns ts t i m (with_one c l) h = omega (arith, c.from_is, c.end_is)

module _ (xs ns ts : List ℕ) (m : ℕ) where
  -- a kind without a list of its own
  other : {g : ℕ} (i k : ℕ) → QuietAt ns i → kind_of ns i ≡ k → (k ≡ 8 → ⊥) → (k ≡ 3 → ⊥) → m < own_length ns i → own_from ns i + m < g
  other i k quiet e f n h = absurd (omega (arith, quiet (omega arith) (λ p. n (sym e ∙ p.0))))

  own_within : {i e f g β : ℕ} → Holds xs ns ts tree i e f g β → QuietAt ns i → m < own_length ns i → own_from ns i + m < g
  own_within {i} (literal_tree d _ _ _) quiet h = other i 6 quiet d.kind_is (omega arith) (omega arith) h
  own_within {i} (range_tree d _ _ _ _) quiet h = other i 7 quiet d.kind_is (omega arith) (omega arith) h
  own_within {i} (use_tree d _ _ _) quiet h = other i 5 quiet d.kind_is (omega arith) (omega arith) h
  own_within {i} (eod_tree d _ _) quiet h = other i 9 quiet d.kind_is (omega arith) (omega arith) h
  own_within (uint_tree d _ c _) quiet h = omega (arith, c.from_is, c.end_is)
  own_within {i} (marked_tree d _ c _ _) quiet h =
      absurd (omega (arith, quiet (omega (arith, d.kind_is)) (λ (p : (kind_of ns i ≡ 3) × (node_mark ns i ≡ 4)). omega (arith, p.1, c.most))))
  own_within (counted_tree d _ c _ _) quiet h = omega (arith, c.from_is, c.end_is)
  own_within {i} (chain_tree d (inl z) _ _ _) quiet h = other i 1 quiet (d.kind_is ∙ z) (omega arith) (omega arith) h
  own_within {i} (chain_tree d (inr z) _ _ _) quiet h = other i 2 quiet (d.kind_is ∙ z) (omega arith) (omega arith) h
  own_within {i} (switch_tree d _ _) quiet h = other i 4 quiet d.kind_is (omega arith) (omega arith) h

-- ---- each term of the table is one of those of a construct

module _ {xs ns ts rs : List ℕ} {n r t : ℕ} {ws : List ℕ} (w : Words xs ns ts rs n r ws) (nodes : Nodes xs ns ts n t) (quiet : Quiet ns n)
    (signs : Signs ts t) where
  -- term q of the table is term k of those read, of construct i
  copied : (q i k : ℕ) → k < t → ((j : ℕ) → j < 3 → word ws (terms_at + 3 * q + j) ≡ narrow (get_or (term_words xs ns ts (first_at rs r i) i k) j 0)) → term_laid ws q ≡ true
  copied q i k h e =
      let z : terms_at + 3 * q ≡ terms_at + 3 * q + 0 = omega arith in
      rw (e 1 (omega arith), e 2 (omega arith), z, e 0 (omega arith)) (term_passes xs ns ts t signs (first_at rs r i) i k h)

  in_condition : (q i m : ℕ) → i < n → m < condition_length ns i → q ≡ condition_start ns i + m → term_laid ws q ≡ true
  in_condition q i m h l e =
      copied q i (condition_from ns i + m) (condition_within ns ts t i m (nodes.conditions i h) l) (λ j o. rw e (w.condition_term i m j h l o))

  in_own : (q i m : ℕ) → i < n → m < own_length ns i → q ≡ own_start ns i + m → term_laid ws q ≡ true
  in_own q i m h l e =
      let at = nodes.trees i h in
      copied q i (own_from ns i + m) (omega (arith, own_within xs ns ts m at.holds (quiet i h) l, at.terms_within)) (λ j o. rw e (w.own_term i m j h l o))

  term_stands : (q : ℕ) → q < term_count ws → term_laid ws q ≡ true
  term_stands q h =
      let f = find (lists_length ns) n 0 q (omega (arith, w.terms_are)) in
      let i : ℕ = f.k in
      let m : ℕ = f.offset in
      let inside : m < lists_length ns i = omega (arith, f.inside, ap (lists_length ns) (zero-add i)) in
      elim (which (ltb m (condition_length ns i))) [
        | inl c ↦ in_condition q i m f.below (ltb-true m (condition_length ns i) c) f.place
        | inr c ↦
            let l : condition_length ns i ≤ m = ltb-false m (condition_length ns i) c in
            in_own q i (m - condition_length ns i) f.below (omega arith) (omega (arith, f.place))
      ]

  pub terms_stand : from_to 0 (term_count ws) (term_laid ws) ≡ true
  terms_stand = from_to_all 0 (term_count ws) (term_laid ws) (λ q l h. term_stands q h)
