-- A calculation that is an item of a set: 32 more in the last term's tag, and the term is single.
-- Assumes nothing.
use Prim.Native.Nat.{ℕ, ◌+◌, ◌-◌, ◌≤◌, ◌<◌}
use mathlib.Core.Path.{◌≡◌, refl, sym, ap, subst, ◌∙◌}
use mathlib.Core.Logic.{⊎_elim}
use mathlib.Core.Bool.{Bool, false, cond}
use mathlib.Core.List.{List, [], ◌∷◌, ◌++◌}
use native.Mathlib.Omega.{arith}
use borrow.Author.Tests.{lt-ltb, le-ltb, ne_eqb, ltb-true, eqb-true, eqb-false}
use lib.Dec.{ltb, eqb}
use lib.ListN.{length, length-append}
use Rattle.basis.specs.Limits.{max_terms}
use Rattle.basis.proofs.Booleans.{which, either_way}
use Rattle.text_store.specs.Words.{term_start, term_tag, term_value, stored_term_at, is_use, terms_room}
use Rattle.term_words.specs.Words.{operation_of, sign_of, term_of}
use Rattle.term_words.specs.declared.Operation.{Operation}
use Rattle.term_words.specs.declared.Term.{Term}
use Rattle.text_store.specs.Store.{State, state, terms_of, marked_tag, put_single, single, term_words}
use Rattle.text_store.proofs.StoreLaws.{length_put_single, marked_at, single_marks, marked_other, marked_here}
use Rattle.text_store.proofs.Numbers.{at_value, at_term}
use Rattle.text_shapes.specs.TermShapes.{read_term, read_terms}
use Rattle.text_shapes.proofs.Adding.{read_same, read_split, TermsOnly, Added, term_read}

-- ---- the tag of a part of a calculation

abbrev NoPart : Term → Type 0
NoPart (Term.Part o) = ⊥
NoPart (Term.Single o) = Unit {0}
NoPart Term.All = Unit {0}
NoPart Term.Range = Unit {0}
NoPart Term.From = Unit {0}
NoPart Term.UpTo = Unit {0}
NoPart Term.Or = Unit {0}
NoPart Term.Except = Unit {0}
NoPart Term.And = Unit {0}
NoPart (Term.Compare k) = Unit {0}
NoPart Term.Bad = Unit {0}

sign_no_part : (w : ℕ) → NoPart (sign_of w)
sign_no_part w =
    either_way NoPart (eqb w 7) tt (either_way NoPart (eqb w 8) tt (either_way NoPart (eqb w 9) tt (either_way NoPart (eqb w 10) tt (either_way NoPart (eqb w 11) tt
    (either_way NoPart (eqb w 12) tt (either_way NoPart (eqb w 13) tt (either_way NoPart (eqb w 14) tt (either_way NoPart (eqb w 15) tt (either_way NoPart (eqb w 16) tt
    (either_way NoPart (eqb w 17) tt (either_way NoPart (eqb w 18) tt (either_way NoPart (eqb w 19) tt tt))))))))))))

part_tag : (w low : ℕ) (o : Operation) → term_of w low 0 ≡ Term.Part o → w < 7
unfolding term_of
part_tag w low o e =
    ⊎_elim (λ z. ltb-true w 7 z)
    (λ (z : ltb w 7 ≡ false).
    let n : NoPart (term_of w low 0) = rw (z, term_of) (either_way NoPart (ltb w 32) (sign_no_part w) tt)
    in absurd (subst NoPart e n))
    (which (ltb w 7))

marked_term : (w low : ℕ) (o : Operation) → term_of w low 0 ≡ Term.Part o → term_of (w + 32) low 0 ≡ Term.Single o
unfolding term_of
marked_term w low o e =
    let h : w < 7 = part_tag w low o e in
    let d : w + 32 - 32 ≡ w = omega arith in
    let f : Term.Part (operation_of w low 0) ≡ Term.Part o = rw (lt-ltb w 7 h, term_of) at e in
    rw (le-ltb (w + 32) 7 (omega arith), le-ltb (w + 32) 32 (omega arith), d, term_of) cc

use_marked : (w : ℕ) → w < 7 → is_use (w + 32) ≡ is_use w
use_marked w h =
    ⊎_elim (λ z. let q : w ≡ 2 = eqb-true w 2 z in rw q)
    (λ (z : eqb w 2 ≡ false). rw (z, ne_eqb (w + 32) 2 (omega arith), ne_eqb w 34 (omega arith), ne_eqb (w + 32) 34 (λ q. eqb-false w 2 z (omega arith))))
    (which (eqb w 2))

marked_read : (w value place : ℕ) (o : Operation) → term_read w value place ≡ Term.Part o → term_read (marked_tag w) value place ≡ Term.Single o
marked_read w value place o e =
    let h : w < 7 = part_tag w (cond (is_use w) place value) o e in
    let m : marked_tag w ≡ w + 32 = rw (lt-ltb w 32 (omega arith)) in
    ap (λ (k : ℕ). term_read k value place) m
    ∙ ap (λ (b : Bool). term_of (w + 32) (cond b place value) 0) (use_marked w h)
    ∙ marked_term w (cond (is_use w) place value) o e

-- ---- the last term

last_same : (L M : List Term) (x y : Term) → L ++ (x ∷ []) ≡ M ++ (y ∷ []) → (L ≡ M) × (x ≡ y)
last_same [] [] x y e = (refl, cc)
last_same [] (m ∷ M) x y e = absurd (omega (arith, length-append M (y ∷ []), ap length e))
last_same (l ∷ L) [] x y e = absurd (omega (arith, length-append L (x ∷ []), ap length e))
last_same (l ∷ L) (m ∷ M) x y e =
    let z : L ++ (x ∷ []) ≡ M ++ (y ∷ []) = cc in
    let w : l ≡ m = cc in
    let r : (L ≡ M) × (x ≡ y) = last_same L M x y z in
    let u : L ≡ M = r.0 in
    (cc, r.1)

one_read : (ts : List ℕ) (s m : ℕ) → read_terms ts s (m + 1) ≡ read_terms ts s m ++ (read_term ts (s + m) ∷ [])
unfolding read_terms
one_read ts s m = read_split ts m 1 s

marked_last : (ts : List ℕ) (k : ℕ) (o : Operation) → term_start k < length ts → read_term ts k ≡ Term.Part o → read_term (marked_at ts k) k ≡ Term.Single o
marked_last ts k o h e =
    rw (marked_here ts k h, marked_other ts k (term_start k + at_value) (omega arith), marked_other ts k (term_start k + at_term) (omega arith))
    (marked_read (term_tag ts k) (term_value ts k) (stored_term_at ts k) o e)

pub marked_added : (M : List Term) (o : Operation) (a b : State) → length (term_words b) ≡ terms_room → terms_of b ≤ max_terms → Added (M ++ (Term.Part o ∷ [])) a b → Added (M ++ (Term.Single o ∷ [])) a (single b)
marked_added M o a (state ns ts rs n t c r) w h p =
    let m : length (M ++ (Term.Part o ∷ [])) ≡ length M + 1 = length-append M (Term.Part o ∷ []) in
    let m' : length (M ++ (Term.Single o ∷ [])) ≡ length M + 1 = length-append M (Term.Single o ∷ []) in
    let k : t - 1 ≡ terms_of a + length M = omega (arith, p.count) in
    let q : (read_terms ts (terms_of a) (length M) ≡ M) × (read_term ts (terms_of a + length M) ≡ Term.Part o) =
    last_same (read_terms ts (terms_of a) (length M)) M (read_term ts (terms_of a + length M)) (Term.Part o)
    (sym (one_read ts (terms_of a) (length M)) ∙ ap (read_terms ts (terms_of a)) (sym m) ∙ p.read) in
    let f : put_single ts t ≡ marked_at ts (terms_of a + length M) = single_marks ts t h ∙ ap (marked_at ts) k in
    rw f
    (record {
      count = omega (arith, p.count);
      kept = λ j l. marked_other ts (terms_of a + length M) j (omega arith) ∙ p.kept j l;
      read =
          ap (read_terms (marked_at ts (terms_of a + length M)) (terms_of a)) m'
          ∙ one_read (marked_at ts (terms_of a + length M)) (terms_of a) (length M)
          ∙ ap (λ (L : List Term). L ++ (read_term (marked_at ts (terms_of a + length M)) (terms_of a + length M) ∷ []))
          (read_same ts (marked_at ts (terms_of a + length M)) (length M) (terms_of a) (λ j l g. marked_other ts (terms_of a + length M) j (omega arith)) ∙ q.0)
          ∙ ap (λ (x : Term). M ++ (x ∷ [])) (marked_last ts (terms_of a + length M) o (omega (arith, p.count)) q.1);
    })

pub single_only : (a : State) → TermsOnly a (single a)
single_only (state ns ts rs n t b r) =
    record {
      same_nodes = refl;
      same_rules = refl;
      nodes_count = refl;
      binders_count = refl;
      rules_count = refl;
      same_length = length_put_single ts t;
      grows = omega arith;
    }
