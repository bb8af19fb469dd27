-- Least numbers of strings, and the least that two of the parts share: of those before a place, part by part.
-- Assumes nothing.
use Prim.Native.Nat.{ℕ, ◌≤◌, ◌<◌, min}
use mathlib.Core.Path.{◌≡◌, sym, subst, ◌∙◌}
use mathlib.Core.Logic.{◌⊎◌, inl, inr, ◌↔◌}
use mathlib.Core.List.{List, [], ◌∷◌}
use native.Mathlib.Omega.{arith}
use lib.Dec.{eqb, leb}
use borrow.Author.Tests.{eqb-true, eqb-false, leb-true, leb-false}
use Rattle.basis.specs.Bits.{Bits}
use Rattle.basis.specs.Lookahead.{number}
use Rattle.basis.proofs.Numbers.{number_pos}
use Rattle.basis.proofs.Booleans.{which}
use Rattle.lookahead.specs.Sets.{Has, Is, Union}
use Rattle.lookahead.proofs.PassLaws.{is_map}
use Rattle.theory.specs.Grammar.{◌∈◌}
use Rattle.table_first_follow.specs.Rules.{Family}
use Rattle.table_conflicts.specs.Conflicts.{HasNumber}
use Rattle.table_conflicts.specs.Windows.{Lowest, lower_of, Shared, FirstFrom}
use Rattle.table_conflicts.proofs.Walks.{Split, here, split_next, before_next, all_before}

module _ (P Q : Bits → Type 0) where
  pub lowest_map : (n : ℕ) → ((x : Bits) → P x ↔ Q x) → Lowest P n → Lowest Q n
  lowest_map n f l =
      record { none = λ e x q. l.none e x ((f x).1 q); some = λ h. let s = l.some h in (s.0, s.1, (f s.0).0 s.2); least = λ x q. l.least x ((f x).1 q) }

  lower_left : (a b : ℕ) → Lowest P a → Lowest Q b → b ≡ 0 → Lowest (Union P Q) a
  lower_left a b l m e =
      record {
        none = λ z x u. elim u [ inl p ↦ l.none z x p | inr q ↦ m.none e x q ];
        some = λ h. let s = l.some h in (s.0, s.1, inl s.2);
        least = λ x u. elim u [ inl p ↦ l.least x p | inr q ↦ absurd (m.none e x q) ];
      }

  lower_right : (a b : ℕ) → Lowest P a → Lowest Q b → a ≡ 0 → Lowest (Union P Q) b
  lower_right a b l m e =
      record {
        none = λ z x u. elim u [ inl p ↦ l.none e x p | inr q ↦ m.none z x q ];
        some = λ h. let s = m.some h in (s.0, s.1, inr s.2);
        least = λ x u. elim u [ inl p ↦ absurd (l.none e x p) | inr q ↦ m.least x q ];
      }

  lower_both : (a b : ℕ) → Lowest P a → Lowest Q b → (a ≡ 0 → ⊥) → (b ≡ 0 → ⊥) → Lowest (Union P Q) (min a b)
  lower_both a b l m f g =
      record {
        none = λ z x u. absurd (elim (which (leb a b)) [ inl t ↦ f (let h : a ≤ b = leb-true a b t in omega arith) | inr t ↦ g (let h : b < a = leb-false a b t in omega arith) ]);
        some = λ h. elim (which (leb a b)) [
          | inl t ↦ let k : a ≤ b = leb-true a b t in let s = l.some (omega arith) in (s.0, (let z : number s.0 ≡ min a b = omega (arith, s.1) in z), inl s.2)
          | inr t ↦ let k : b < a = leb-false a b t in let s = m.some (omega arith) in (s.0, (let z : number s.0 ≡ min a b = omega (arith, s.1) in z), inr s.2)
        ];
        least = λ x u. elim u [ inl p ↦ omega (arith, l.least x p) | inr q ↦ omega (arith, m.least x q) ];
      }

  -- the lower of the two is the least of both
  pub lower_least : (a b : ℕ) → Lowest P a → Lowest Q b → Lowest (Union P Q) (lower_of a b)
  lower_least a b l m =
      elim (which (eqb a 0)) [
        | inl t ↦ rw t (lower_right a b l m (eqb-true a 0 t))
        | inr t ↦ elim (which (eqb b 0)) [
          | inl u ↦ rw (t, u) (lower_left a b l m (eqb-true b 0 u))
          | inr u ↦ rw (t, u) (lower_both a b l m (eqb-false a 0 t) (eqb-false b 0 u))
        ]
      ]

pub lowest_none : (P : Bits → Type 0) → ((x : Bits) → P x → ⊥) → Lowest P 0
lowest_none P f = record { none = λ e x p. f x p; some = λ h. absurd (omega arith); least = λ x p. omega arith }

pub lowest_some : (P : Bits → Type 0) (n : ℕ) → ((x : Bits) × (number x ≡ n) × P x) → ((x : Bits) → P x → n ≤ number x) → Lowest P n
lowest_some P n s l = record { none = λ e x p. absurd (let a = number_pos s.0 in omega (arith, s.1)); some = λ h. s; least = l }

-- ---- strings of the parts before a place

pub record Earlier (F : Family) (whole : List ℕ) (at : ℕ) (x : Bits) : Type 0 where
  pub part : ℕ
  pub listed : part ∈ whole
  pub below : part < at
  pub has : F part x

pub record SharedBelow (F : Family) (whole : List ℕ) (at : ℕ) (x : Bits) : Type 0 where
  pub shared : Shared F whole x
  pub one_below : shared.one < at
  pub other_below : shared.other < at

module _ (F : Family) (whole : List ℕ) where
  -- the strings of the parts before this one, and the least that two of them share
  pub record Sharing (seen : List ℕ) (least at : ℕ) (rest : List ℕ) : Type 0 where
    pub split : Split whole at rest
    pub seen_is : Is seen (Earlier F whole at)
    pub least_is : Lowest (SharedBelow F whole at) least

  pub share_none : (seen : List ℕ) (at : ℕ) → Is seen (λ (x : Bits). ⊥) → Split whole at whole → ((k : ℕ) → k ∈ whole → at ≤ k) → Sharing seen 0 at whole
  share_none seen at s p none_below =
      record {
        split = p;
        seen_is = is_map seen (λ (x : Bits). ⊥) (Earlier F whole at) (λ x. ((λ z. absurd z), (λ e. absurd (omega (arith, none_below e.part e.listed, e.below))))) s;
        least_is = lowest_none (SharedBelow F whole at) (λ x b. absurd (omega (arith, none_below b.shared.one b.shared.one_listed, b.one_below)));
      }

  module _ (seen : List ℕ) (least at next : ℕ) (rest all : List ℕ) (e : all ≡ at ∷ rest) (s : Sharing seen least at all) (on : at < next) (past : (k : ℕ) → k ∈ rest → next ≤ k) where
    step : (k : ℕ) → k ∈ whole → k < next → (k < at) ⊎ (k ≡ at)
    step = before_next whole at next rest all e s.split on past

    at_part : at ∈ whole
    at_part = here whole at next rest all e s.split on past

    earlier_next : (x : Bits) → Union (Earlier F whole at) (F at) x ↔ Earlier F whole next x
    earlier_next x = (to, from)
      where
        to : Union (Earlier F whole at) (F at) x → Earlier F whole next x
        to (inl a) = record { part = a.part; listed = a.listed; below = omega (arith, a.below, on); has = a.has }
        to (inr h) = record { part = at; listed = at_part; below = on; has = h }

        from : Earlier F whole next x → Union (Earlier F whole at) (F at) x
        from a =
            elim (step a.part a.listed a.below) [
              | inl l ↦ inl (record { part = a.part; listed = a.listed; below = l; has = a.has })
              | inr q ↦ inr (subst (λ (k : ℕ). F k x) q a.has)
            ]

    abbrev Meets : Bits → Type 0
    Meets x = Earlier F whole at x × F at x

    shared_to : (x : Bits) → Union (SharedBelow F whole at) Meets x → SharedBelow F whole next x
    shared_to x (inl b) = record { shared = b.shared; one_below = omega (arith, b.one_below, on); other_below = omega (arith, b.other_below, on) }
    shared_to x (inr (a, h)) =
        record {
          shared = record { one = a.part; other = at; one_listed = a.listed; other_listed = at_part; apart = λ q. omega (arith, a.below); one_has = a.has; other_has = h };
          one_below = omega (arith, a.below, on);
          other_below = on;
        }

    shared_from : (x : Bits) → SharedBelow F whole next x → Union (SharedBelow F whole at) Meets x
    shared_from x b =
        let h = b.shared in
        elim (step h.one h.one_listed b.one_below) [
          | inl l ↦ elim (step h.other h.other_listed b.other_below) [
            | inl m ↦ inl (record { shared = h; one_below = l; other_below = m })
            | inr q ↦ inr (record { part = h.one; listed = h.one_listed; below = l; has = h.one_has }, subst (λ (k : ℕ). F k x) q h.other_has)
          ]
          | inr p ↦ elim (step h.other h.other_listed b.other_below) [
            | inl m ↦ inr (record { part = h.other; listed = h.other_listed; below = m; has = h.other_has }, subst (λ (k : ℕ). F k x) p h.one_has)
            | inr q ↦ absurd (h.apart (p ∙ sym q))
          ]
        ]

    pub share_next : (set more : List ℕ) (common new : ℕ) → Is set (F at) → Lowest (λ (x : Bits). Has seen x × Has set x) common → new ≡ lower_of least common
        → Is more (Union (Has seen) (Has set)) → Sharing more new next rest
    share_next set more common new i c q u =
        record {
          split = split_next whole at next rest all e s.split on past;
          seen_is = is_map more (Union (Has seen) (Has set)) (Earlier F whole next) (λ x. ((λ h. (earlier_next x).0 (known x h)), (λ h. unknown x ((earlier_next x).1 h)))) u;
          least_is =
              subst (Lowest (SharedBelow F whole next)) (sym q)
              (lowest_map (Union (SharedBelow F whole at) Meets) (SharedBelow F whole next) (lower_of least common) (λ x. (shared_to x, shared_from x))
              (lower_least (SharedBelow F whole at) Meets least common s.least_is (lowest_map (λ (x : Bits). Has seen x × Has set x) Meets common (λ x. (
                λ h. ((s.seen_is.strings x).0 h.0, (i.strings x).0 h.1),
                λ h. ((s.seen_is.strings x).1 h.0, (i.strings x).1 h.1),
              )) c)));
        }
      where
        known : (x : Bits) → Union (Has seen) (Has set) x → Union (Earlier F whole at) (F at) x
        known x (inl h) = inl ((s.seen_is.strings x).0 h)
        known x (inr h) = inr ((i.strings x).0 h)

        unknown : (x : Bits) → Union (Earlier F whole at) (F at) x → Union (Has seen) (Has set) x
        unknown x (inl h) = inl ((s.seen_is.strings x).1 h)
        unknown x (inr h) = inr ((i.strings x).1 h)

  pub share_done : (seen : List ℕ) (least at : ℕ) (rest : List ℕ) → rest ≡ [] → Sharing seen least at rest → Lowest (Shared F whole) least
  share_done seen least at rest e s =
      let before = all_before whole at rest e s.split in
      lowest_map (SharedBelow F whole at) (Shared F whole) least (λ x. (
        λ b. b.shared,
        λ h. record { shared = h; one_below = before h.one h.one_listed; other_below = before h.other h.other_listed },
      )) s.least_is

-- ---- the first part that has a string

module _ (F : Family) (whole : List ℕ) (from n end : ℕ) where
  -- no part before this one, from `from` on, has it
  pub record Seeking (at : ℕ) (rest : List ℕ) : Type 0 where
    pub split : Split whole at rest
    pub none : (j : ℕ) → j ∈ whole → from ≤ j → j < at → HasNumber F j n → ⊥

  pub seek_none : (at : ℕ) → Split whole at whole → ((k : ℕ) → k ∈ whole → at ≤ k) → Seeking at whole
  seek_none at p none_below = record { split = p; none = λ j m f h x. omega (arith, none_below j m) }

  module _ (at next : ℕ) (rest all : List ℕ) (e : all ≡ at ∷ rest) (s : Seeking at all) (on : at < next) (past : (k : ℕ) → k ∈ rest → next ≤ k) where
    pub seek_next : ((from ≤ at) × HasNumber F at n → ⊥) → Seeking next rest
    seek_next not =
        record {
          split = split_next whole at next rest all e s.split on past;
          none = λ j m f h x. elim (before_next whole at next rest all e s.split on past j m h) [
            | inl l ↦ s.none j m f l x
            | inr q ↦ let y : (from ≤ j) × HasNumber F j n = (f, x) in not (subst (λ (k : ℕ). (from ≤ k) × HasNumber F k n) q y)
          ];
        }

    pub seek_found : at < end → (from ≤ at) × HasNumber F at n → FirstFrom F whole from n end at
    seek_found h x = record { most = omega arith; found = λ l. (here whole at next rest all e s.split on past, x.0, x.1); before = λ j m f l y. s.none j m f l y }

  pub seek_done : (at : ℕ) (rest : List ℕ) → rest ≡ [] → Seeking at rest → FirstFrom F whole from n end end
  seek_done at rest e s =
      record { most = omega arith; found = λ l. absurd (omega arith); before = λ j m f l y. s.none j m f (all_before whole at rest e s.split j m) y }
