-- A term of a tree is neither bad nor of an unknown sign, so that its tag is small: its three words say it again, a variable under another number.
-- Assumes nothing.
use Prim.Native.Nat.{ℕ, ◌+◌, ◌*◌, ◌-◌, ◌/◌, ◌%◌, ◌^◌, ◌≤◌, ◌<◌}
use mathlib.Core.Path.{◌≡◌, refl, ap, subst}
use mathlib.Core.Logic.{◌⊎◌, inl, inr, ⊎_elim}
use mathlib.Core.Bool.{Bool, true, false, cond}
use mathlib.Core.List.{List, [], ◌∷◌, ◌++◌}
use native.Mathlib.Omega.{arith}
use native.Mathlib.Decide.{dec_le}
use native.Mathlib.Nat.{lt_of_not-le}
use borrow.Author.Tests.{eqb-true, eqb-false, ltb-false, le-ltb, ne_eqb}
use lib.Dec.{eqb, ltb}
use lib.ListN.{get_or}
use Rattle.basis.proofs.Booleans.{which, picked, either_cases, neither_first, neither_second}
use Rattle.text_store.specs.Words.{is_use}
use Rattle.term_words.specs.Words.{operation_of, sign_of, term_of}
use Rattle.term_words.specs.declared.Comparison.{Comparison}
use Rattle.term_words.specs.declared.Operation.{Operation}
use Rattle.term_words.specs.declared.Term.{Term}
use Rattle.term_trees.specs.Trees.{Calculation, literal, use_of, plus, minus, times, opposite, ValueSet, everything, only, between, from, up_to, either, without, Condition, compare, both, any, Repeats, exact, on_from, up_to_bound, spanning}
use Rattle.term_trees.specs.Postfix.{last_sign, before, calculation_terms, set_terms, condition_terms, repeat_terms}
use Rattle.term_words.proofs.KnownTerms.{KnownOperation, KnownTerm, AllKnown}
use Rattle.text_shapes.specs.TermShapes.{rename_operation, rename_term}
use Rattle.text_encoding.specs.Lists.{narrow}

-- ---- terms of trees

known_append : (L M : List Term) → AllKnown L → AllKnown M → AllKnown (L ++ M)
known_append [] M p q = q
known_append (x ∷ L) M p q = (p.0, known_append L M p.1 q)

-- a term more
known_end : (L : List Term) (x : Term) → AllKnown L → KnownTerm x → AllKnown (L ++ (x ∷ []))
known_end L x p q = known_append L (x ∷ []) p (q, tt)

known_pair : (L M : List Term) (x : Term) → AllKnown L → AllKnown M → KnownTerm x → AllKnown ((L ++ M) ++ (x ∷ []))
known_pair L M x p q k = known_end (L ++ M) x (known_append L M p q) k

known_sign : (c : Calculation) → KnownOperation (last_sign c)
known_sign (literal n) = tt
known_sign (use_of k) = tt
known_sign (plus a b) = tt
known_sign (minus a b) = tt
known_sign (times a b) = tt
known_sign (opposite a) = tt

known_ended : (c : Calculation) → AllKnown (before c) → AllKnown (calculation_terms c)
known_ended c p = known_end (before c) (Term.Part (last_sign c)) p (known_sign c)

known_before : (c : Calculation) → AllKnown (before c)
unfolding before
known_before (literal n) = tt
known_before (use_of k) = tt
known_before (plus a b) = known_append (calculation_terms a) (calculation_terms b) (known_ended a (known_before a)) (known_ended b (known_before b))
known_before (minus a b) = known_append (calculation_terms a) (calculation_terms b) (known_ended a (known_before a)) (known_ended b (known_before b))
known_before (times a b) = known_append (calculation_terms a) (calculation_terms b) (known_ended a (known_before a)) (known_ended b (known_before b))
known_before (opposite a) = known_ended a (known_before a)

known_calculation : (c : Calculation) → AllKnown (calculation_terms c)
known_calculation c = known_ended c (known_before c)

one_sign : (c : Calculation) (x : Term) → KnownTerm x → AllKnown (calculation_terms c ++ (x ∷ []))
one_sign c x k = known_end (calculation_terms c) x (known_calculation c) k

two_sign : (a b : Calculation) (x : Term) → KnownTerm x → AllKnown ((calculation_terms a ++ calculation_terms b) ++ (x ∷ []))
two_sign a b x k = known_pair (calculation_terms a) (calculation_terms b) x (known_calculation a) (known_calculation b) k

pub known_set : (x : ValueSet) → AllKnown (set_terms x)
unfolding set_terms
known_set everything = (tt, tt)
known_set (only a) = known_end (before a) (Term.Single (last_sign a)) (known_before a) (known_sign a)
known_set (between a b) = two_sign a b Term.Range tt
known_set (from a) = one_sign a Term.From tt
known_set (up_to b) = one_sign b Term.UpTo tt
known_set (either x y) = known_pair (set_terms x) (set_terms y) Term.Or (known_set x) (known_set y) tt
known_set (without x y) = known_pair (set_terms x) (set_terms y) Term.Except (known_set x) (known_set y) tt

pub known_condition : (x : Condition) → AllKnown (condition_terms x)
unfolding condition_terms
known_condition (compare k a b) = two_sign a b (Term.Compare k) tt
known_condition (both x y) = known_pair (condition_terms x) (condition_terms y) Term.And (known_condition x) (known_condition y) tt
known_condition (any x y) = known_pair (condition_terms x) (condition_terms y) Term.Or (known_condition x) (known_condition y) tt

pub known_repeats : (x : Repeats) → AllKnown (repeat_terms x)
unfolding repeat_terms
known_repeats (exact n) = known_calculation n
known_repeats (on_from a) = one_sign a Term.From tt
known_repeats (up_to_bound b) = one_sign b Term.UpTo tt
known_repeats (spanning a b) = two_sign a b Term.Range tt

-- ---- their words

-- what holds of every sign of a set or of a condition
pub by_sign : (P : Term → Type 0) → P Term.All → P Term.Range → P Term.From → P Term.UpTo → P Term.Or → P Term.Except → P Term.And → ((k : Comparison) → P (Term.Compare k)) → P Term.Bad → (tag : ℕ) → P (sign_of tag)
by_sign P all range from_on up or except and comparison bad tag =
    picked P (eqb tag 7) (λ e. all) (λ e. picked P (eqb tag 8) (λ e. range) (λ e. picked P (eqb tag 9) (λ e. from_on) (λ e. picked P (eqb tag 10) (λ e. up) (λ e. picked P (eqb tag 11) (λ e. or) (λ e. picked P (eqb tag 12) (λ e. except) (λ e. picked P (eqb tag 13) (λ e. and) (λ e. picked P (eqb tag 14) (λ e. comparison Comparison.Equal) (λ e. picked P (eqb tag 15) (λ e. comparison Comparison.Unequal) (λ e. picked P (eqb tag 16) (λ e. comparison Comparison.Less) (λ e. picked P (eqb tag 17) (λ e. comparison Comparison.AtMost) (λ e. picked P (eqb tag 18) (λ e. comparison Comparison.Greater) (λ e. picked P (eqb tag 19) (λ e. comparison Comparison.AtLeast) (λ e. bad)))))))))))))

large_unknown : (tag low high : ℕ) → 7 ≤ tag → operation_of tag low high ≡ Operation.Unknown
large_unknown tag low high h =
    rw (ne_eqb tag 1 (λ z. omega arith), ne_eqb tag 2 (λ z. omega arith), ne_eqb tag 3 (λ z. omega arith), ne_eqb tag 4 (λ z. omega arith), ne_eqb tag 5 (λ z. omega arith), ne_eqb tag 6 (λ z. omega arith))

large_term : (tag low high : ℕ) → 64 ≤ tag → term_of tag low high ≡ Term.Single Operation.Unknown
unfolding term_of
large_term tag low high h = rw (le-ltb tag 7 (omega arith), le-ltb tag 32 (omega arith)) (ap (λ (o : Operation). Term.Single o) (large_unknown (tag - 32) low high (omega arith)))

tag_small : (tag low high : ℕ) → KnownTerm (term_of tag low high) → tag < 64
tag_small tag low high k = go (dec_le 64 tag)
  where
    go : Dec (64 ≤ tag) → tag < 64
    go (yes h) = absurd (subst KnownTerm (large_term tag low high h) k)
    go (no h) = lt_of_not-le h

-- a number is both of its words
number_back : (value : ℕ) → value < 2 ^ 63 → value % 4294967296 + 4294967296 * (value / 4294967296 % 4294967296) ≡ value + 4294967296 * 0
number_back value h = omega arith

-- the table's words of a term with these words; v is the variable's number
abbrev pub shown_words : Bool → (tag value v : ℕ) → List ℕ
shown_words used tag value v = cond used (tag ∷ v ∷ 0 ∷ []) (tag ∷ value ∷ value / 4294967296 ∷ [])

abbrev pub shown_term : List ℕ → Term
shown_term l = term_of (narrow (get_or l 0 0)) (narrow (get_or l 1 0)) (narrow (get_or l 2 0))

module _ (g : ℕ → ℕ) where
  abbrev SameOperation : Operation → Type 0
  SameOperation o = o ≡ rename_operation g o

  -- a tag of neither a number nor a variable's use: words do not matter
  operation_other : (tag l h l' h' : ℕ) → eqb tag 1 ≡ false → eqb tag 2 ≡ false → operation_of tag l' h' ≡ rename_operation g (operation_of tag l h)
  operation_other tag l h l' h' a b =
      rw (a, b)
      (picked SameOperation (eqb tag 3) (λ e. refl) (λ e. picked SameOperation (eqb tag 4) (λ e. refl) (λ e. picked SameOperation (eqb tag 5) (λ e. refl) (λ e. picked SameOperation (eqb tag 6) (λ e. refl) (λ e. refl)))))

  term_other : (tag l h l' h' : ℕ) → eqb tag 1 ≡ false → eqb tag 2 ≡ false → eqb tag 33 ≡ false → eqb tag 34 ≡ false → term_of tag l' h' ≡ rename_term g (term_of tag l h)
  unfolding term_of
  term_other tag l h l' h' a b c d =
      ⊎_elim (λ (e : ltb tag 7 ≡ true). rw e (ap (λ (o : Operation). Term.Part o) (operation_other tag l h l' h' a b)))
      (λ (e : ltb tag 7 ≡ false).
      rw e
      (⊎_elim (λ (f : ltb tag 32 ≡ true). rw f (by_sign (λ (x : Term). x ≡ rename_term g x) refl refl refl refl refl refl refl (λ k. refl) refl tag))
      (λ (f : ltb tag 32 ≡ false).
      let k : 32 ≤ tag = ltb-false tag 32 f
      in rw f
      (ap (λ (o : Operation). Term.Single o)
      (operation_other (tag - 32) l h l' h' (ne_eqb (tag - 32) 1 (λ z. eqb-false tag 33 c (omega arith))) (ne_eqb (tag - 32) 2 (λ z. eqb-false tag 34 d (omega arith))))))
      (which (ltb tag 32))))
      (which (ltb tag 7))

  use_back : (tag place v : ℕ) → is_use tag ≡ true → v ≡ g place → v < 4294967296 → term_of (narrow tag) (narrow v) 0 ≡ rename_term g (term_of tag place 0)
  unfolding term_of
  use_back tag place v e n h =
      let w : v % 4294967296 ≡ g place = omega arith
      in ⊎_elim (λ d. let z : tag ≡ 2 = eqb-true tag 2 d in rw z (ap (λ (k : ℕ). Term.Part (Operation.Variable k)) w)) (λ d. let z : tag ≡ 34 = eqb-true tag 34 d in rw z (ap (λ (k : ℕ). Term.Single (Operation.Variable k)) w)) (either_cases (eqb tag 2) (eqb tag 34) e)

  number_term : (tag value : ℕ) → (tag ≡ 1) ⊎ (tag ≡ 33) → value < 2 ^ 63 → term_of (narrow tag) (narrow value) (narrow (value / 4294967296)) ≡ rename_term g (term_of tag value 0)
  unfolding term_of
  number_term tag value (inl z) h = rw z (ap (λ (n : ℕ). Term.Part (Operation.Number n)) (number_back value h))
  number_term tag value (inr z) h = rw z (ap (λ (n : ℕ). Term.Single (Operation.Number n)) (number_back value h))

  other_back : (tag value : ℕ) → is_use tag ≡ false → tag < 64 → eqb tag 1 ≡ false → eqb tag 33 ≡ false → term_of (narrow tag) (narrow value) (narrow (value / 4294967296)) ≡ rename_term g (term_of tag value 0)
  other_back tag value e h a b =
      let q : narrow tag ≡ tag = omega arith
      in rw q (term_other tag value 0 (narrow value) (narrow (value / 4294967296)) a (neither_first (eqb tag 2) (eqb tag 34) e) b (neither_second (eqb tag 2) (eqb tag 34) e))

  pub term_back : (used : Bool) (tag value place v : ℕ) → is_use tag ≡ used → KnownTerm (term_of tag (cond used place value) 0) → ((tag ≡ 1) ⊎ (tag ≡ 33) → value < 2 ^ 63) → (used ≡ true → (v ≡ g place) × (v < 4294967296))
      → shown_term (shown_words used tag value v) ≡ rename_term g (term_of tag (cond used place value) 0)
  term_back true tag value place v e k small named = use_back tag place v e (named refl).0 (named refl).1
  term_back false tag value place v e k small named =
      ⊎_elim (λ a. let z : (tag ≡ 1) ⊎ (tag ≡ 33) = inl (eqb-true tag 1 a) in number_term tag value z (small z))
      (λ (a : eqb tag 1 ≡ false).
      ⊎_elim (λ b. let z : (tag ≡ 1) ⊎ (tag ≡ 33) = inr (eqb-true tag 33 b) in number_term tag value z (small z)) (λ (b : eqb tag 33 ≡ false). other_back tag value e (tag_small tag value 0 k) a b) (which (eqb tag 33)))
      (which (eqb tag 1))
