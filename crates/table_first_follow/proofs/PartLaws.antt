-- Laws of the walk over a construct's parts, and of what is gathered on it.
-- Assumes nothing.
use Prim.Native.Nat.{ℕ, zero, suc, ◌+◌, ◌-◌, ◌≤◌, ◌<◌}
use mathlib.Core.Path.{◌≡◌, refl, sym, ap, ◌∙◌, subst}
use mathlib.Core.Bool.{Bool, true, false}
use mathlib.Core.Logic.{inl, inr, ◌↔◌}
use mathlib.Core.List.Memᴰ
use mathlib.Core.List.{List, [], ◌∷◌, ◌++◌, append_assoc, append-nil}
use native.Mathlib.Omega.{arith}
use native.Mathlib.Decide.{dec_lt, ℕ_discrete}
use borrow.Author.Tests.{le-ltb, lt-ltb, ne_eqb, eq-eqb}
use lib.Dec.{ltb}
use lib.ListN.{length, take, set, length-set}
use lib.Seq.{take-suc-set}
use native.Mathlib.Numerals.{add-one}
use Rattle.basis.specs.Limits.{max_constructs}
use Rattle.basis.specs.Bits.{Bits}
use Rattle.lookahead.specs.Sets.{Has, Is, Proper, Union}
use Rattle.lookahead.proofs.LanguageLaws.{Strings, Short, joined_short, joined_map, joined_assoc, joined_unit_left, joined_unit_right}
use Rattle.lookahead.proofs.PassLaws.{is_map}
use Rattle.table_layout.specs.Constructs.{construct_at}
use Rattle.table_layout.specs.Places.{construct_word}
use Rattle.table_layout.specs.Held.{parts, size_of, no_default}
use Rattle.theory.specs.Grammar.{◌∈◌}
use Rattle.table_first_follow.specs.Rules.{Family, Some, Members}
use Rattle.table_first_follow.specs.Rounds.{strings}
use Rattle.table_first_follow.specs.Parts.{siblings, Combined, Neutral, Gathered}

-- ---- the walk

module _ (ws : List ℕ) (end : ℕ) where
  parts_done : (n j : ℕ) → end ≤ j → parts n ws j end ≡ []
  unfolding parts
  parts_done zero j h = refl
  parts_done (suc n) j h = rw (le-ltb j end h, parts)

  parts_last : (n j : ℕ) → j < end → size_of (construct_at ws j) ≡ 0 → parts (suc n) ws j end ≡ j ∷ []
  unfolding parts
  parts_last n j h e = rw (lt-ltb j end h, eq-eqb (size_of (construct_at ws j)) 0 e, parts)

  parts_next : (n j : ℕ) → j < end → (size_of (construct_at ws j) ≡ 0 → ⊥) → parts (suc n) ws j end ≡ j ∷ parts n ws (j + size_of (construct_at ws j)) end
  unfolding parts
  parts_next n j h e = rw (lt-ltb j end h, ne_eqb (size_of (construct_at ws j)) 0 e, parts)

  -- more fuel than numbers changes nothing
  pub parts_fuel : (m n j : ℕ) → end - j ≤ m → end - j ≤ n → parts m ws j end ≡ parts n ws j end
  parts_fuel zero n j h k = parts_done 0 j (omega arith) ∙ sym (parts_done n j (omega arith))
  parts_fuel (suc m) zero j h k = parts_done (suc m) j (omega arith) ∙ sym (parts_done 0 j (omega arith))
  parts_fuel (suc m) (suc n) j h k =
      elim (dec_lt j end) [
        | yes l ↦ elim (ℕ_discrete (size_of (construct_at ws j)) 0) [
          | yes e ↦ parts_last m j l e ∙ sym (parts_last n j l e)
          | no e ↦ let p : 0 < size_of (construct_at ws j) = omega arith in
              parts_next m j l e ∙ ap (λ (is : List ℕ). j ∷ is) (parts_fuel m n (j + size_of (construct_at ws j)) (omega arith) (omega arith)) ∙ sym (parts_next n j l e)
        ]
        | no l ↦ parts_done (suc m) j (omega arith) ∙ sym (parts_done (suc n) j (omega arith))
      ]

  pub siblings_done : (j : ℕ) → end ≤ j → siblings ws j end ≡ []
  siblings_done j h = parts_done (end - j) j h

  module _ (j : ℕ) (h : j < end) where
    pub siblings_last : size_of (construct_at ws j) ≡ 0 → siblings ws j end ≡ j ∷ []
    siblings_last e = parts_fuel (end - j) (suc (end - j)) j (omega arith) (omega arith) ∙ parts_last (end - j) j h e

    pub siblings_next : (size_of (construct_at ws j) ≡ 0 → ⊥) → siblings ws j end ≡ j ∷ siblings ws (j + size_of (construct_at ws j)) end
    siblings_next e =
        parts_fuel (end - j) (suc (end - j)) j (omega arith) (omega arith) ∙ parts_next (end - j) j h e
        ∙ ap (λ (is : List ℕ). j ∷ is) (parts_fuel (end - j) (end - (j + size_of (construct_at ws j))) (j + size_of (construct_at ws j)) (omega arith) (omega arith))

    -- whatever stands after it
    pub siblings_first : (more : List ℕ) × (siblings ws j end ≡ j ∷ more)
    siblings_first = elim (ℕ_discrete (size_of (construct_at ws j)) 0) [ yes e ↦ ([], siblings_last e) | no e ↦ (siblings ws (j + size_of (construct_at ws j)) end, siblings_next e) ]

-- the parts of a construct of `size`
pub parts_siblings : (ws : List ℕ) (i size : ℕ) → parts size ws (i + 1) (i + size) ≡ siblings ws (i + 1) (i + size)
parts_siblings ws i size = parts_fuel ws (i + size) size (i + size - (i + 1)) (i + 1) (omega arith) (omega arith)

-- ---- no default

module _ (ws : List ℕ) (j : ℕ) (all more : List ℕ) (e : all ≡ j ∷ more) where
  -- a case with a condition says nothing, one without is the default
  pub default_later : ltb (construct_word ws j 6) (construct_word ws j 7) ≡ true → no_default ws all ≡ no_default ws more
  unfolding no_default
  default_later t = ap (no_default ws) e ∙ ap (λ (b : Bool). elim b [ true ↦ no_default ws more | false ↦ false ]) t

  pub default_here : ltb (construct_word ws j 6) (construct_word ws j 7) ≡ false → no_default ws all ≡ false
  unfolding no_default
  default_here t = ap (no_default ws) e ∙ ap (λ (b : Bool). elim b [ true ↦ no_default ws more | false ↦ false ]) t

pub no_case_left : (ws all : List ℕ) → all ≡ [] → no_default ws all ≡ true
unfolding no_default
no_case_left ws all e = ap (no_default ws) e

-- ---- what is gathered

combined_map : (joined : Bool) (A B C D : Strings) → ((x : Bits) → A x → C x) → ((x : Bits) → B x → D x) → (x : Bits) → Combined joined A B x → Combined joined C D x
combined_map true A B C D f g x j = joined_map A B C D f g x j
combined_map false A B C D f g x (inl a) = inl (f x a)
combined_map false A B C D f g x (inr b) = inr (g x b)

combined_assoc : (joined : Bool) (A B C : Strings) (x : Bits) → Combined joined (Combined joined A B) C x ↔ Combined joined A (Combined joined B C) x
combined_assoc true A B C x = joined_assoc A B C x
combined_assoc false A B C x = (to, back)
  where
    to : Union (Union A B) C x → Union A (Union B C) x
    to (inl (inl a)) = inl a
    to (inl (inr b)) = inr (inl b)
    to (inr c) = inr (inr c)

    back : Union A (Union B C) x → Union (Union A B) C x
    back (inl a) = inl (inl a)
    back (inr (inl b)) = inl (inr b)
    back (inr (inr c)) = inr c

neutral_left : (joined : Bool) (A : Strings) → Short A → (x : Bits) → Combined joined (Neutral joined) A x ↔ A x
neutral_left true A h x = joined_unit_left A h x
neutral_left false A h x = ((λ u. elim u [ inl z ↦ absurd z | inr a ↦ a ]), (λ a. inr a))

neutral_right : (joined : Bool) (A : Strings) → Short A → (x : Bits) → Combined joined A (Neutral joined) x ↔ A x
neutral_right true A h x = joined_unit_right A h x
neutral_right false A h x = ((λ u. elim u [ inl a ↦ a | inr z ↦ absurd z ]), (λ a. inl a))

gathered_short : (joined : Bool) (F : Family) → ((i : ℕ) → Short (F i)) → (is : List ℕ) → Short (Gathered joined F is)
gathered_short true F h [] x e = rw e (omega arith)
gathered_short false F h [] x z = absurd z
gathered_short true F h (m ∷ is) x j = joined_short (F m) (Gathered true F is) x j
gathered_short false F h (m ∷ is) x (inl a) = h m x a
gathered_short false F h (m ∷ is) x (inr b) = gathered_short false F h is x b

module _ (joined : Bool) (words whole : List ℕ) where
  abbrev F : Family
  F = strings words

  short : (i : ℕ) → Short (F i)
  short i x h = h.0

  -- what is gathered so far, with what is still to come, is the whole
  pub record Gathering (out : List ℕ) (rest : List ℕ) : Type 0 where
    pub proper : Proper out
    pub same : (x : Bits) → Combined joined (Has out) (Gathered joined F rest) x ↔ Gathered joined F whole x

  pub gather_none : (out : List ℕ) → Is out (Neutral joined) → Gathering out whole
  gather_none out s = record { proper = s.proper; same = λ x. (to x, back x) }
    where
      left : (x : Bits) → Combined joined (Neutral joined) (Gathered joined F whole) x ↔ Gathered joined F whole x
      left x = neutral_left joined (Gathered joined F whole) (gathered_short joined F short whole) x

      to : (x : Bits) → Combined joined (Has out) (Gathered joined F whole) x → Gathered joined F whole x
      to x c = (left x).0 (combined_map joined (Has out) (Gathered joined F whole) (Neutral joined) (Gathered joined F whole) (λ y h. (s.strings y).0 h) (λ y h. h) x c)

      back : (x : Bits) → Gathered joined F whole x → Combined joined (Has out) (Gathered joined F whole) x
      back x g = combined_map joined (Neutral joined) (Gathered joined F whole) (Has out) (Gathered joined F whole) (λ y h. (s.strings y).1 h) (λ y h. h) x ((left x).1 g)

  pub gather_next : (out next : List ℕ) (j : ℕ) (rest all : List ℕ) → all ≡ j ∷ rest → Gathering out all → Is next (Combined joined (Has out) (F j)) → Gathering next rest
  gather_next out next j rest all e g s = record { proper = s.proper; same = λ x. (to x, back x) }
    where
      both : (x : Bits) → Combined joined (Has out) (Gathered joined F (j ∷ rest)) x ↔ Gathered joined F whole x
      both x = subst (λ (is : List ℕ). Combined joined (Has out) (Gathered joined F is) x ↔ Gathered joined F whole x) e (g.same x)

      to : (x : Bits) → Combined joined (Has next) (Gathered joined F rest) x → Gathered joined F whole x
      to x c =
          (both x).0 ((combined_assoc joined (Has out) (F j) (Gathered joined F rest) x).0
          (combined_map joined (Has next) (Gathered joined F rest) (Combined joined (Has out) (F j)) (Gathered joined F rest) (λ y h. (s.strings y).0 h) (λ y h. h) x c))

      back : (x : Bits) → Gathered joined F whole x → Combined joined (Has next) (Gathered joined F rest) x
      back x w =
          combined_map joined (Combined joined (Has out) (F j)) (Gathered joined F rest) (Has next) (Gathered joined F rest) (λ y h. (s.strings y).1 h) (λ y h. h) x
          ((combined_assoc joined (Has out) (F j) (Gathered joined F rest) x).1 ((both x).1 w))

  pub gather_done : (out rest : List ℕ) → rest ≡ [] → Gathering out rest → Is out (Gathered joined F whole)
  gather_done out rest e g =
      is_map out (Has out) (Gathered joined F whole) (λ x. ((λ h. (both x).0 ((right x).1 h)), (λ w. (right x).0 ((both x).1 w))))
      (record { strings = λ x. ((λ h. h), (λ h. h)); proper = g.proper })
    where
      right : (x : Bits) → Combined joined (Has out) (Neutral joined) x ↔ Has out x
      right x = neutral_right joined (Has out) (λ y h. h.0) x

      both : (x : Bits) → Combined joined (Has out) (Neutral joined) x ↔ Gathered joined F whole x
      both x = subst (λ (is : List ℕ). Combined joined (Has out) (Gathered joined F is) x ↔ Gathered joined F whole x) e (g.same x)

  -- a set of the family, combined with what is there
  pub gather_set : (out set next : List ℕ) (j : ℕ) → Is set (F j) → Is next (Combined joined (Has out) (Has set)) → Is next (Combined joined (Has out) (F j))
  gather_set out set next j s c =
      is_map next (Combined joined (Has out) (Has set)) (Combined joined (Has out) (F j))
      (λ x. (
        combined_map joined (Has out) (Has set) (Has out) (F j) (λ y h. h) (λ y h. (s.strings y).0 h) x,
        combined_map joined (Has out) (F j) (Has out) (Has set) (λ y h. h) (λ y h. (s.strings y).1 h) x,
      ))
      c

-- all united: the strings of one of them
pub united : (F : Family) (is : List ℕ) (x : Bits) → Gathered false F is x ↔ Some F is x
united F [] x = ((λ z. absurd z), (λ s. absurd (Memᴰ.not-nil s.1)))
united F (m ∷ is) x = (to (λ g. (united F is x).0 g), (λ s. back (λ t. (united F is x).1 t) s.0 s.1 s.2))
  where
    to : (Gathered false F is x → Some F is x) → Union (F m) (Gathered false F is) x → Some F (m ∷ is) x
    to f (inl a) = (m, Memᴰ.head refl, a)
    to f (inr g) = let s = f g in (s.0, Memᴰ.tail s.1, s.2)

    back : (Some F is x → Gathered false F is x) → (b : ℕ) → b ∈ (m ∷ is) → F b x → Union (F m) (Gathered false F is) x
    back f b l a = elim (Memᴰ.cases_cons l) [ inl e ↦ inl (subst (λ (k : ℕ). F k x) e a) | inr t ↦ inr (f (b, t, a)) ]

-- all joined
pub joint : (F : Family) (is : List ℕ) (x : Bits) → Gathered true F is x → Members F is x
joint F [] x e = e
joint F (m ∷ is) x j = joined_map (F m) (Gathered true F is) (F m) (Members F is) (λ y h. h) (λ y h. joint F is y h) x j

pub disjoint : (F : Family) (is : List ℕ) (x : Bits) → Members F is x → Gathered true F is x
disjoint F [] x e = e
disjoint F (m ∷ is) x j = joined_map (F m) (Members F is) (F m) (Gathered true F is) (λ y h. h) (λ y h. disjoint F is y h) x j

-- ---- the parts' numbers written down

-- n numbers are written, and with those still to come they are the whole
pub record Placing (whole : List ℕ) (n : ℕ) (out rest : List ℕ) : Type 0 where
  pub size : length out ≡ max_constructs
  pub list : take n out ++ rest ≡ whole

module _ (whole : List ℕ) where
  pub place_none : (out : List ℕ) → length out ≡ max_constructs → Placing whole 0 out whole
  place_none out e = record { size = e; list = refl }

  pub place_more : (n j : ℕ) (out rest all : List ℕ) → n < max_constructs → all ≡ j ∷ rest → Placing whole n out all → Placing whole (n + 1) (set out n j) rest
  place_more n j out rest all h e p =
      let z : n < length out = omega (arith, p.size) in
      record {
        size = length-set out n j ∙ p.size;
        list = ap (λ (l : List ℕ). l ++ rest) (ap (λ (k : ℕ). take k (set out n j)) (add-one n) ∙ take-suc-set out n j z) ∙ append_assoc (take n out) (j ∷ []) rest
            ∙ ap (λ (l : List ℕ). take n out ++ l) (sym e) ∙ p.list;
      }

  pub place_done : (n : ℕ) (out rest : List ℕ) → rest ≡ [] → Placing whole n out rest → take n out ≡ whole
  place_done n out rest e p = sym (append-nil (take n out)) ∙ ap (λ (l : List ℕ). take n out ++ l) (sym e) ∙ p.list
