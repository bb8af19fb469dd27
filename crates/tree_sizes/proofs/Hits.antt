-- Places that are found and places that are listed, by what they reach: two answers are the same where, for each place p, both have a fault up to p or none has.
-- Assumes nothing.
use Prim.Native.Nat.{ℕ, zero, suc, ◌+◌, ◌≤◌, ◌<◌, min}
use mathlib.Core.Path.{◌≡◌, refl, sym, ap, subst}
use mathlib.Core.Logic.Iff
use mathlib.Core.Logic.{◌⊎◌, inl, inr, ⊎_elim, ◌↔◌}
use mathlib.Core.Bool.{Bool, true, false}
use mathlib.Core.List.{List, [], ◌∷◌, ◌++◌}
use mathlib.Core.Option.{Option, none, some}
use native.Mathlib.Omega.{arith}
use native.Mathlib.Decide.{dec_le}
use native.Mathlib.Nat.{lt_of_not-le}
use Rattle.text_admission.specs.Extents.{lesser, found_if, least_found}
use Rattle.text_admission.specs.declared.Found.{Found}
use Rattle.tree_store.proofs.Holding.{compared}
use Rattle.tree_meaning.specs.Places.{place_if, lesser as lesser-place, least}

-- ---- equivalences

-- of one or the other
pub either : {A B C D : Type 0} → A ↔ B → C ↔ D → (A ⊎ C) ↔ (B ⊎ D)
either f g = (λ h. ⊎_elim (λ z. inl (f.0 z)) (λ z. inr (g.0 z)) h, λ h. ⊎_elim (λ z. inl (f.1 z)) (λ z. inr (g.1 z)) h)

-- without a first that is never
pub dropped : {A B C : Type 0} → (A → ⊥) → B ↔ C → (A ⊎ B) ↔ C
dropped n f = (λ h. ⊎_elim (λ z. absurd (n z)) (λ z. f.0 z) h, λ h. inr (f.1 h))

-- ---- found up to p

-- what is found stands at p or before
abbrev pub Hit : ℕ → Found → Type 0
Hit p (Found.At q) = q ≤ p
Hit p Found.Nothing = ⊥

-- the lesser of two is, exactly when one of them is
pub hit_two : (p : ℕ) (a b : Found) → Hit p (lesser a b) ↔ (Hit p a ⊎ Hit p b)
hit_two p Found.Nothing b = (λ h. inr h, λ h. ⊎_elim (λ (z : ⊥). absurd z) (λ z. z) h)
hit_two p (Found.At q) Found.Nothing = (λ h. inl h, λ h. ⊎_elim (λ z. z) (λ (z : ⊥). absurd z) h)
hit_two p (Found.At q) (Found.At r) = (λ h. which_one (dec_le q p) h, λ h. ⊎_elim (λ (z : q ≤ p). omega arith) (λ (z : r ≤ p). omega arith) h)
  where
    which_one : Dec (q ≤ p) → min q r ≤ p → (q ≤ p) ⊎ (r ≤ p)
    which_one (yes z) h = inl z
    which_one (no z) h = let y : p < q = lt_of_not-le z in inr (omega arith)

-- a fault, where there is one
pub hit_if : (p : ℕ) (b : Bool) (q : ℕ) → Hit p (found_if b q) ↔ ((b ≡ true) × (q ≤ p))
hit_if p true q = (λ h. (refl, h), λ h. h.1)
hit_if p false q = (λ h. absurd h, λ h. let z : ◌≡◌ {A = ℕ} 0 1 = cc h.0 in absurd (omega arith))

-- one of n numbers from i on has one
pub record Among (p n i : ℕ) (f : ℕ → Found) : Type 0 where
  pub at : ℕ
  pub from : i ≤ at
  pub upto : at < i + n
  pub hit : Hit p (f at)

-- the first of them, or a later one
pub among_next : (p n i j : ℕ) (f : ℕ → Found) → j ≡ i + 1 → Among p (suc n) i f ↔ (Hit p (f i) ⊎ Among p n j f)
among_next p n i j f e = (
  λ x. compared x.at i (λ y. absurd (omega (arith, x.from))) (λ y. inl (subst (λ (k : ℕ). Hit p (f k)) y x.hit)) (λ y. inr (record { at = x.at; from = omega arith; upto = omega (arith, x.upto); hit = x.hit })),
  λ x. ⊎_elim (λ y. record { at = i; from = omega arith; upto = omega arith; hit = y }) (λ y. record { at = y.at; from = omega (arith, y.from); upto = omega (arith, y.upto); hit = y.hit }) x,
)

-- none of none
pub among_none : (p i : ℕ) (f : ℕ → Found) → Among p 0 i f → ⊥
among_none p i f x = omega (arith, x.from, x.upto)

-- one of the first n, or of the m after them
pub among_two : (p n m i : ℕ) (f : ℕ → Found) → Among p (n + m) i f ↔ (Among p n i f ⊎ Among p m (i + n) f)
among_two p n m i f = (
  λ x. compared x.at (i + n) (λ y. inl (record { at = x.at; from = x.from; upto = y; hit = x.hit })) (λ y. inr (record { at = x.at; from = omega arith; upto = omega (arith, x.upto); hit = x.hit }))
      (λ y. inr (record { at = x.at; from = omega arith; upto = omega (arith, x.upto); hit = x.hit })),
  λ x. ⊎_elim (λ y. record { at = y.at; from = y.from; upto = omega (arith, y.upto); hit = y.hit }) (λ y. record { at = y.at; from = omega (arith, y.from); upto = omega (arith, y.upto); hit = y.hit }) x,
)

-- two things that are looked for in each
pub among_either : (p n i : ℕ) (f g : ℕ → Found) → Among p n i (λ j. lesser (f j) (g j)) ↔ (Among p n i f ⊎ Among p n i g)
among_either p n i f g = (
  λ x. ⊎_elim (λ y. inl (record { at = x.at; from = x.from; upto = x.upto; hit = y })) (λ y. inr (record { at = x.at; from = x.from; upto = x.upto; hit = y })) ((hit_two p (f x.at) (g x.at)).0 x.hit),
  λ x. ⊎_elim (λ y. record { at = y.at; from = y.from; upto = y.upto; hit = (hit_two p (f y.at) (g y.at)).1 (inl y.hit) }) (λ y. record { at = y.at; from = y.from; upto = y.upto; hit = (hit_two p (f y.at) (g y.at)).1 (inr y.hit) }) x,
)

-- the least of n numbers from i on is found up to p exactly when one of them is
pub hit_least : (p n i : ℕ) (f : ℕ → Found) → Hit p (least_found n i f) ↔ Among p n i f
unfolding least_found
hit_least p zero i f = (λ h. absurd h, λ x. absurd (among_none p i f x))
hit_least p (suc n) i f = Iff.trans (hit_two p (f i) (least_found n (i + 1) f)) (Iff.trans (either Iff.rfl (hit_least p n (i + 1) f)) (Iff.symm (among_next p n i (i + 1) f refl)))

-- ---- listed up to p

-- one of these places is p or before
unfoldable pub Hits : ℕ → List ℕ → Type 0
Hits p [] = ⊥
Hits p (q ∷ l) = (q ≤ p) ⊎ Hits p l

-- in the first list
pub hits_left : (p : ℕ) (l m : List ℕ) → Hits p l → Hits p (l ++ m)
unfolding Hits
hits_left p [] m h = absurd h
hits_left p (q ∷ l) m h = ⊎_elim (λ (z : q ≤ p). inl z) (λ z. inr (hits_left p l m z)) h

-- in the second
pub hits_right : (p : ℕ) (l m : List ℕ) → Hits p m → Hits p (l ++ m)
unfolding Hits
hits_right p [] m h = h
hits_right p (q ∷ l) m h = inr (hits_right p l m h)

-- in one of the two
pub hits_split : (p : ℕ) (l m : List ℕ) → Hits p (l ++ m) → Hits p l ⊎ Hits p m
unfolding Hits
hits_split p [] m h = inr h
hits_split p (q ∷ l) m h = ⊎_elim (λ (z : q ≤ p). inl (inl z)) (λ z. ⊎_elim (λ y. inl (inr y)) (λ y. inr y) (hits_split p l m z)) h

-- in both directions
pub hits_two : (p : ℕ) (l m : List ℕ) → Hits p (l ++ m) ↔ (Hits p l ⊎ Hits p m)
hits_two p l m = (λ h. hits_split p l m h, λ h. ⊎_elim (λ z. hits_left p l m z) (λ z. hits_right p l m z) h)

-- a fault, where there is one
pub hits_if : (p : ℕ) (b : Bool) (q : ℕ) → Hits p (place_if b q) ↔ ((b ≡ true) × (q ≤ p))
unfolding Hits
hits_if p true q = (λ h. ⊎_elim (λ (z : q ≤ p). (refl, z)) (λ (z : ⊥). absurd z) h, λ h. inl h.1)
hits_if p false q = (λ h. absurd h, λ h. let z : ◌≡◌ {A = ℕ} 0 1 = cc h.0 in absurd (omega arith))

-- there is one or not
pub hits_dec : (p : ℕ) (l : List ℕ) → Hits p l ⊎ (Hits p l → ⊥)
unfolding Hits
hits_dec p [] = inr (λ h. h)
hits_dec p (q ∷ l) = first (dec_le q p) (hits_dec p l)
  where
    first : Dec (q ≤ p) → Hits p l ⊎ (Hits p l → ⊥) → ((q ≤ p) ⊎ Hits p l) ⊎ ((q ≤ p) ⊎ Hits p l → ⊥)
    first (yes z) r = inl (inl z)
    first (no z) r = ⊎_elim (λ y. inl (inr y)) (λ y. inr (λ h. ⊎_elim z y h)) r

-- of one list or the other
pub hits_both : {A B : Type 0} (p : ℕ) (l m : List ℕ) → A ↔ Hits p l → B ↔ Hits p m → (A ⊎ B) ↔ Hits p (l ++ m)
hits_both p l m f g = Iff.trans (either f g) (Iff.symm (hits_two p l m))

-- ---- the same answers

-- the tree's answer as the table's
abbrev pub as_found : Option ℕ → Found
as_found none = Found.Nothing
as_found (some p) = Found.At p

lesser_as : (q : ℕ) (o : Option ℕ) → as_found (some (lesser-place q o)) ≡ lesser (Found.At q) (as_found o)
lesser_as q none = refl
lesser_as q (some r) = refl

-- the least of a list is up to p exactly when one of the list is
pub hit_listed : (p : ℕ) (l : List ℕ) → Hit p (as_found (least l)) ↔ Hits p l
unfolding Hits least
hit_listed p [] = (λ h. h, λ h. h)
hit_listed p (q ∷ l) =
    let e = lesser_as q (least l) in
    let t = hit_two p (Found.At q) (as_found (least l)) in
    let r = hit_listed p l in (
      λ h. ⊎_elim (λ (z : q ≤ p). inl z) (λ z. inr (r.0 z)) (t.0 (subst (Hit p) e h)),
      λ h. subst (Hit p) (sym e) (t.1 (⊎_elim (λ (z : q ≤ p). inl z) (λ z. inr (r.1 z)) h)),
    )

same_found : (a b : Found) → ((p : ℕ) → Hit p a ↔ Hit p b) → a ≡ b
same_found Found.Nothing Found.Nothing h = refl
same_found Found.Nothing (Found.At q) h = absurd ((h q).1 (let z : q ≤ q = omega arith in z))
same_found (Found.At q) Found.Nothing h = absurd ((h q).0 (let z : q ≤ q = omega arith in z))
same_found (Found.At q) (Found.At r) h =
    let y : r ≤ q = (h q).0 (let z : q ≤ q = omega arith in z) in
    let x : q ≤ r = (h r).1 (let z : r ≤ r = omega arith in z) in
    ap Found.At (let z : q ≡ r = omega arith in z)

-- what is found is the least of what is listed
pub found_least : (a : Found) (l : List ℕ) → ((p : ℕ) → Hit p a ↔ Hits p l) → a ≡ as_found (least l)
found_least a l h =
    same_found a (as_found (least l)) (λ p. (λ z. (hit_listed p l).1 ((h p).0 z), λ z. (h p).1 ((hit_listed p l).0 z)))
