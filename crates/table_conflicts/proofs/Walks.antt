-- A walk over a construct's parts: which of them lie before the present place, and which are still to come.
-- Assumes nothing.
use Prim.Native.Nat.{ℕ, zero, suc, ◌+◌, ◌-◌, ◌≤◌, ◌<◌}
use mathlib.Core.Path.{◌≡◌, refl}
use mathlib.Core.Logic.{◌⊎◌, inl, inr}
use mathlib.Core.Bool.{Bool, true, false}
use mathlib.Core.List.Memᴰ
use mathlib.Core.List.{List, [], ◌∷◌}
use native.Mathlib.Omega.{arith}
use native.Mathlib.Decide.{ℕ_discrete}
use lib.Dec.{ltb, eqb}
use borrow.Author.Tests.{ltb-true}
use Rattle.basis.proofs.Booleans.{which}
use Rattle.theory.specs.Grammar.{◌∈◌}
use Rattle.table_layout.specs.Constructs.{construct_at}
use Rattle.table_layout.specs.Held.{size_of, parts}
use Rattle.table_first_follow.specs.Parts.{siblings}
use Rattle.table_first_follow.proofs.PartLaws.{siblings_last, siblings_next}

abbrev Lies : ℕ → ℕ → ℕ → Type 0
Lies j end k = (j ≤ k) × (k < end)

module _ (ws : List ℕ) (end : ℕ) where
  abbrev later : ℕ → ℕ → Bool → List ℕ
  later n j b = elim b [ true ↦ [] | false ↦ parts n ws (j + size_of (construct_at ws j)) end ]

  after : (n j k : ℕ) (b : Bool) → (k ∈ parts n ws (j + size_of (construct_at ws j)) end → Lies (j + size_of (construct_at ws j)) end k) → k ∈ later n j b → Lies j end k
  after n j k true on m = absurd (Memᴰ.not-nil m)
  after n j k false on m = let p = on m in (omega (arith, p.0), p.1)

  from_parts : (n j k : ℕ) → k ∈ parts n ws j end → Lies j end k
  unfolding parts
  from_parts zero j k m = absurd (Memᴰ.not-nil m)
  from_parts (suc n) j k m =
      elim (which (ltb j end)) [
        | inl t ↦
            elim (Memᴰ.cases_cons (rw (t, parts) at m)) [
              | inl e ↦ let h : j < end = ltb-true j end t in (omega arith, omega arith)
              | inr r ↦ after n j k (eqb (size_of (construct_at ws j)) 0) (λ s. from_parts n (j + size_of (construct_at ws j)) k s) r
            ]
        | inr t ↦ absurd (Memᴰ.not-nil (rw (t, parts) at m))
      ]

  -- parts lie from the first place on and before the end
  pub lies : (j k : ℕ) → k ∈ siblings ws j end → (j ≤ k) × (k < end)
  lies j k m = from_parts (end - j) j k m

-- of the parts `whole`, those from place `at` on are `rest`
pub record Split (whole : List ℕ) (at : ℕ) (rest : List ℕ) : Type 0 where
  pub either : (k : ℕ) → k ∈ whole → (k < at) ⊎ (k ∈ rest)
  pub listed : (k : ℕ) → k ∈ rest → k ∈ whole
  pub behind : (k : ℕ) → k ∈ rest → at ≤ k

pub split_all : (ws : List ℕ) (start end : ℕ) → Split (siblings ws start end) start (siblings ws start end)
split_all ws start end = record { either = λ k m. inr m; listed = λ k m. m; behind = λ k m. (lies ws end start k m).0 }

module _ (whole : List ℕ) (at next : ℕ) (rest all : List ℕ) (e : all ≡ at ∷ rest) (s : Split whole at all) (on : at < next) (past : (k : ℕ) → k ∈ rest → next ≤ k) where
  -- the present part is one of them
  pub here : at ∈ whole
  here = s.listed at (rw e (Memᴰ.head refl))

  pub split_next : Split whole next rest
  split_next =
      record {
        either = λ k m. elim (s.either k m) [
          | inl h ↦ inl (omega arith)
          | inr t ↦ elim (Memᴰ.cases_cons (rw e at t)) [ inl f ↦ inl (omega arith) | inr r ↦ inr r ]
        ];
        listed = λ k m. s.listed k (rw e (Memᴰ.tail m));
        behind = past;
      }

  -- what lies before the next place lay before this one, or is the present part
  pub before_next : (k : ℕ) → k ∈ whole → k < next → (k < at) ⊎ (k ≡ at)
  before_next k m h =
      elim (s.either k m) [
        | inl l ↦ inl l
        | inr t ↦ elim (Memᴰ.cases_cons (rw e at t)) [ inl f ↦ inr f | inr r ↦ absurd (omega (arith, past k r)) ]
      ]

-- nothing is still to come
pub all_before : (whole : List ℕ) (at : ℕ) (rest : List ℕ) → rest ≡ [] → Split whole at rest → (k : ℕ) → k ∈ whole → k < at
all_before whole at rest e s k m = elim (s.either k m) [ inl h ↦ h | inr t ↦ absurd (Memᴰ.not-nil (rw e at t)) ]

-- the present part and what comes after it
pub record Parted (ws : List ℕ) (end at : ℕ) : Type 0 where
  pub next : ℕ
  pub rest : List ℕ
  pub split : siblings ws at end ≡ at ∷ rest
  pub on : at < next
  pub past : (k : ℕ) → k ∈ rest → next ≤ k

pub parted : (ws : List ℕ) (end at : ℕ) → at < end → Parted ws end at
parted ws end at h =
    let size = size_of (construct_at ws at) in
    elim (ℕ_discrete size 0) [
      | yes e ↦ record { next = at + 1; rest = []; split = siblings_last ws end at h e; on = omega arith; past = λ k m. absurd (Memᴰ.not-nil m) }
      | no e ↦ record { next = at + size; rest = siblings ws (at + size) end; split = siblings_next ws end at h e; on = omega arith; past = λ k m. (lies ws end (at + size) k m).0 }
    ]
