-- FIRST is the least family that every node's rule keeps to: what a rule makes of strings of FIRST is in FIRST, and a family that is
-- closed under the rules has all of it. For any grammar, rules that reach themselves too.
-- Assumes nothing.
use Prim.Native.Nat.{ℕ, zero, suc}
use mathlib.Core.Path.{refl}
use mathlib.Core.Logic.{◌⊎◌, inl, inr}
use mathlib.Core.List.{List, [], ◌∷◌}
use Rattle.basis.specs.Bits.{Bits}
use Rattle.lookahead.specs.Sets.{Passes}
use Rattle.theory.specs.Grammar.{Node, alternative, concatenation, repetition, switch, use_of, field, eod, Grammar}
use Rattle.theory.specs.Derivation.{Shape, construct, members, passes}
use Rattle.theory.specs.Lookahead.{First}
use Rattle.theory.proofs.Inversion.{First-of}
use Rattle.table_first_follow.specs.Rules.{Family, Members, Seeded, Applied}

module _ {Context Values : Type 0} (g : Grammar Context Values) where
  -- ---- soundness

  pub seeded_first : {i : ℕ} (n : Node Context Values) (x : Bits) → Seeded n x → First g (construct i n) x
  seeded_first (alternative is) x s = absurd s
  seeded_first (concatenation is) x s = absurd s
  seeded_first (repetition counts static fixed b) x s = absurd s
  seeded_first {i} (switch chosen optional is) x s = rw s.1 (First.of_no_case {i = i} s.0)
  seeded_first (use_of enters opens closes b) x s = absurd s
  seeded_first (field w admits static binds) x s = First.of_field s.0 s.1 s.2 s.3
  seeded_first {i} eod x s = rw s (First.of_eod {i = i})

  module _ (F : Family) (sound : (i : ℕ) (x : Bits) → F i x → First-of g i x) where
    pub members_first : (is : List ℕ) (x : Bits) → Members F is x → First g (members is) x
    members_first [] x e = rw e First.no_members
    members_first (m ∷ is) x j = First.more_members (sound m j.left j.in_left) (members_first is j.right j.in_right) j.whole

    pub passes_first : (b k : ℕ) (x : Bits) → Passes (F b) k x → First g (passes b k) x
    passes_first b zero x e = rw e First.no_passes
    passes_first b (suc k) x j = First.more_passes (sound b j.left j.in_left) (passes_first b k j.right j.in_right) j.whole

    pub applied_first : {i : ℕ} (n : Node Context Values) (x : Bits) → Applied F n x → First g (construct i n) x
    applied_first (alternative is) x a = First.of_alternative a.1 (sound a.0 x a.2)
    applied_first (concatenation is) x a = First.of_concatenation (members_first is x a)
    applied_first (repetition counts static fixed b) x a = First.of_repetition a.0 a.1 (passes_first b a.0 x a.2)
    applied_first (switch chosen optional is) x a = First.of_switch a.1 (sound a.0 x a.2)
    applied_first (use_of enters opens closes b) x a = First.of_use (sound b x a)
    applied_first (field w admits static binds) x a = absurd a
    applied_first eod x a = absurd a

  -- ---- leastness

  module _ (F : Family) where
    abbrev pub Holds : Shape Context Values → Bits → Type 0
    Holds (construct i n) x = Applied F n x ⊎ Seeded n x
    Holds (members is) x = Members F is x
    Holds (passes b k) x = Passes (F b) k x

    module _ (applied : (i : ℕ) (x : Bits) → Applied F (g.node i) x → F i x) (seeded : (i : ℕ) (x : Bits) → Seeded (g.node i) x → F i x) where
      meet : (i : ℕ) (x : Bits) → Applied F (g.node i) x ⊎ Seeded (g.node i) x → F i x
      meet i x (inl a) = applied i x a
      meet i x (inr s) = seeded i x s

      pub first_holds : {what : Shape Context Values} {x : Bits} → First g what x → Holds what x
      first_holds (First.of_field bits l s e) = inr (bits, l, s, e)
      first_holds First.of_eod = inr refl
      first_holds (First.of_alternative {b = b} {x = x} m f) = inl (b, m, meet b x (first_holds f))
      first_holds (First.of_switch {b = b} {x = x} m f) = inl (b, m, meet b x (first_holds f))
      first_holds (First.of_no_case o) = inr (o, refl)
      first_holds (First.of_use {b = b} {x = x} f) = inl (meet b x (first_holds f))
      first_holds (First.of_concatenation f) = inl (first_holds f)
      first_holds First.no_members = refl
      first_holds (First.more_members {m = m} {x = x} {y = y} f fs e) =
          record { left = x; right = y; in_left = meet m x (first_holds f); in_right = first_holds fs; whole = e }
      first_holds (First.of_repetition k a f) = inl (k, a, first_holds f)
      first_holds First.no_passes = refl
      first_holds (First.more_passes {b = b} {x = x} {y = y} f fs e) =
          record { left = x; right = y; in_left = meet b x (first_holds f); in_right = first_holds fs; whole = e }

      pub first_least : {i : ℕ} {x : Bits} → First-of g i x → F i x
      first_least {i} {x} f = meet i x (first_holds f)

  -- FIRST of members and passes, by FIRST of constructs
  pub first_members : (is : List ℕ) (x : Bits) → First g (members is) x → Members (First-of g) is x
  first_members [] x First.no_members = refl
  first_members (m ∷ is) x (First.more_members {x = a} {y = b} f fs e) = record { left = a; right = b; in_left = f; in_right = first_members is b fs; whole = e }

  pub first_passes : (b k : ℕ) (x : Bits) → First g (passes b k) x → Passes (First-of g b) k x
  first_passes b zero x First.no_passes = refl
  first_passes b (suc k) x (First.more_passes {x = a} {y = c} f fs e) = record { left = a; right = c; in_left = f; in_right = first_passes b k c fs; whole = e }
