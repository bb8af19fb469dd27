-- A set is the same at two neighbours, or it changes at the second.
-- Assumes nothing.
use Prim.Native.Nat.{ℕ, zero, suc, ◌+◌, ◌-◌, ◌≤◌, ◌<◌}
use mathlib.Core.Path.{◌≡◌, refl, sym, ap, ap₂, ◌∙◌}
use mathlib.Core.Bool.{Bool, true, false, cond}
use mathlib.Core.Logic.{◌⊎◌, inl, inr, ⊎_elim}
use mathlib.Core.List.{List, [], ◌∷◌}
use native.Mathlib.Omega.{arith}
use native.Mathlib.Decide.{ℕ_discrete}
use borrow.Author.Tests.{le-leb, lt-leb, leb-true, leb-false}
use lib.Dec.{leb}
use lib.IntN.{ℤ}
use Rattle.term_integers.proofs.Laws.{differ}
use Rattle.term_words.specs.declared.Numbers.{Numbers}
use Rattle.term_words.specs.declared.Term.{Term}
use Rattle.term_membership.specs.Members.{holds_from}
use Rattle.term_membership.specs.Effects.{turn_of}
use Rattle.term_membership.specs.Truths.{noted, applied}
use Rattle.term_membership.specs.Batches.{onward, held}
use Rattle.term_membership.specs.declared.Effect.{Effect}
use Rattle.term_membership.proofs.Members.{holds_held}
use Rattle.term_prefixes.specs.Marks.{ChangesAt, HereOrOn, Changes}
use Rattle.std.specs.Prelude.{Option, Some, None}

-- ---- orders at neighbours

from_steady : (a v : ℕ) → (a ≡ suc v → ⊥) → leb a (suc v) ≡ leb a v
from_steady a v f = go (leb a v) refl
  where
    go : (t : Bool) → leb a v ≡ t → leb a (suc v) ≡ leb a v
    go true e = let h : a ≤ v = leb-true a v e in le-leb a (suc v) (omega arith) ∙ sym e
    go false e = let h : v < a = leb-false a v e in lt-leb a (suc v) (omega (arith, f)) ∙ sym e

up_to_steady : (v b : ℕ) → (suc b ≡ suc v → ⊥) → leb (suc v) b ≡ leb v b
up_to_steady v b f = go (leb v b) refl
  where
    go : (t : Bool) → leb v b ≡ t → leb (suc v) b ≡ leb v b
    go true e = let h : v ≤ b = leb-true v b e in le-leb (suc v) b (omega (arith, f)) ∙ sym e
    go false e = let h : b < v = leb-false v b e in lt-leb (suc v) b (omega arith) ∙ sym e

-- ---- one effect

effect_steady : (e : Effect) (t v : ℕ) → (applied e t (suc v) ≡ applied e t v) ⊎ ChangesAt e (suc v)
effect_steady Effect.None t v = inl refl
effect_steady (Effect.Within a b) t v = elim (ℕ_discrete a (suc v)) [
  | yes p ↦ inr (inl p)
  | no p ↦ elim (ℕ_discrete (suc b) (suc v)) [
    | yes q ↦ inr (inr q)
    | no q ↦ inl (ap₂ (λ (x y : Bool). noted t (cond x y false)) (from_steady a v p) (up_to_steady v b q))
  ]
]
effect_steady (Effect.From a) t v = elim (ℕ_discrete a (suc v)) [
  | yes p ↦ inr p
  | no p ↦ inl (ap (noted t) (from_steady a v p))
]
effect_steady Effect.Or t v = inl refl
effect_steady Effect.Except t v = inl refl

-- ---- a whole list

module _ (o : ℕ) (env : List ℤ) (v : ℕ) where
  turn_steady : (xs : List Term) (t : ℕ) → ((s : Numbers) (t : ℕ) → (held o env (suc v) xs s t ≡ held o env v xs s t) ⊎ Changes o env (suc v) xs s) → (r : Option (Numbers × Effect))
      → (onward (λ s e. held o env (suc v) xs s (applied e t (suc v))) r ≡ onward (λ s e. held o env v xs s (applied e t v)) r) ⊎ HereOrOn (λ s. Changes o env (suc v) xs s) (suc v) r
  turn_steady xs t h (Some (s, e)) =
      ⊎_elim
      (λ (p : applied e t (suc v) ≡ applied e t v). ⊎_elim (λ (q : held o env (suc v) xs s (applied e t v) ≡ held o env v xs s (applied e t v)). inl (ap (held o env (suc v) xs s) p ∙ q)) (λ q. inr (inr q)) (h s (applied e t v)))
      (λ p. inr (inl p)) (effect_steady e t v)
  turn_steady xs t h None = inl refl

  held_steady : (xs : List Term) (s : Numbers) (t : ℕ) → (held o env (suc v) xs s t ≡ held o env v xs s t) ⊎ Changes o env (suc v) xs s
  unfolding held Changes
  held_steady [] s t = inl refl
  held_steady (x ∷ xs) s t = turn_steady xs t (held_steady xs) (turn_of o env x s)

  holds_steady : (i : ℕ) (xs : List Term) → (holds_from o env i xs (suc v) ≡ holds_from o env i xs v) ⊎ Changes o env (suc v) xs Numbers.Zero
  holds_steady i xs = ⊎_elim (λ p. inl (holds_held o env (suc v) i xs ∙ p ∙ sym (holds_held o env v i xs))) (λ p. inr p) (held_steady xs Numbers.Zero 1)

-- ---- the first value from a number on

module _ (o : ℕ) (env : List ℤ) (i : ℕ) (xs : List Term) (lo : ℕ) where
  -- a value of the set, lo or one at which the set changes, from lo up to v
  pub record First (v : ℕ) : Type 0 where
    pub value : ℕ
    pub least : lo ≤ value
    pub most : value ≤ v
    pub member : holds_from o env i xs value ≡ true
    pub change : (lo ≡ value) ⊎ Changes o env value xs Numbers.Zero

  up_to_bound : {v w : ℕ} → v ≤ w → First v → First w
  up_to_bound h f = record { value = f.value; least = f.least; most = omega (arith, f.most); member = f.member; change = f.change }

  next_first : (v : ℕ) → lo ≤ v → (b : Bool) → holds_from o env i xs v ≡ b → (b ≡ true → First v) → holds_from o env i xs (suc v) ≡ true → First (suc v)
  next_first v h true e f m = up_to_bound (omega arith) (f refl)
  next_first v h false e f m =
      ⊎_elim (λ (p : holds_from o env i xs (suc v) ≡ holds_from o env i xs v). differ (sym m ∙ p ∙ e))
      (λ c. record { value = suc v; least = omega arith; most = omega arith; member = m; change = inr c }) (holds_steady o env v i xs)

  first_at : (n v : ℕ) → v ≡ n + lo → holds_from o env i xs v ≡ true → First v
  first_at zero v e m = let q : lo ≡ v = omega arith in record { value = v; least = omega arith; most = omega arith; member = m; change = inl q }
  first_at (suc n) zero e m = absurd (omega arith)
  first_at (suc n) (suc u) e m = let q : u ≡ n + lo = omega arith in next_first u (omega arith) (holds_from o env i xs u) refl (λ b. first_at n u q b) m

  pub first_from : (v : ℕ) → lo ≤ v → holds_from o env i xs v ≡ true → First v
  first_from v h m = let q : v ≡ v - lo + lo = omega arith in first_at (v - lo) v q m
