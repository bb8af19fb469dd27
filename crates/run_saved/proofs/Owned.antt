-- What the type of an array says of each element.
-- Assumes nothing.
use Prim.Native.Nat.{ℕ, zero, suc}
use mathlib.Core.List.{List, [], ◌∷◌}
use lib.ListN.{get_or}
use base.Fml.{Fml}
use mir.Val.{Val}
use denote.Shadow.{shadow}
use denote.Array.{each}

pub owned_each : {A : Type 0} (own : A → List Val → Fml) (P : A → Type 0) (d : A) → P d → ((x : A) (vs : List Val) → shadow (own x vs) → P x)
    → (xs : List A) (us : List Val) → shadow (each A own xs us) → (i : ℕ) → P (get_or xs i d)
owned_each own P d p k [] us h i = p
owned_each own P d p k (x ∷ xs) [] h i = absurd h
owned_each own P d p k (x ∷ xs) (u ∷ us) h zero = k x (u ∷ []) h.0
owned_each own P d p k (x ∷ xs) (u ∷ us) h (suc i) = owned_each own P d p k xs us h.1 i
