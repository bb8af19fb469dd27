-- Laws of a walk over constructs, as its loop goes: what is enough fuel for the walk is enough wherever it goes on.
-- Assumes nothing.
use Prim.Native.Nat.{ℕ, zero, suc, ◌+◌, ◌-◌, ◌≤◌, ◌<◌}
use mathlib.Core.Path.{◌≡◌, refl, sym, ◌∙◌}
use mathlib.Core.Bool.{Bool, true, false, ◌&&◌}
use mathlib.Core.List.{List}
use native.Mathlib.Omega.{arith}
use borrow.Author.Tests.{lt-ltb, le-ltb, ltb-true}
use lib.Dec.{ltb}
use Rattle.basis.proofs.Booleans.{both_first}
use Rattle.table_wellformed.specs.Checks.{size_at, walk}

module _ (ws : List ℕ) (check : ℕ → ℕ → Bool) (next : ℕ → ℕ → ℕ) (finish : ℕ → ℕ → Bool) (end : ℕ) where
  -- the walk from j with x answers `whole`
  pub record Walking (whole : Bool) (j x : ℕ) : Type 0 where
    pub fuel : ℕ
    pub enough : end ≤ j + fuel
    pub same : walk fuel ws check next finish end j x ≡ whole

  pub walk_start : (start x : ℕ) → Walking (walk (end - start) ws check next finish end start x) start x
  walk_start start x = record { fuel = end - start; enough = omega arith; same = refl }

  pub one_step : (n j x : ℕ) (t : Bool) → j < end → (ltb 0 (size_at ws j) && check j x) ≡ t
      → walk (suc n) ws check next finish end j x ≡ elim t [ true ↦ walk n ws check next finish end (j + size_at ws j) (next j x) | false ↦ false ]
  unfolding walk
  one_step n j x t h e = rw (lt-ltb j end h, e, walk)

  pub at_once : (n j x : ℕ) → end ≤ j → walk n ws check next finish end j x ≡ finish j x
  unfolding walk
  at_once zero j x h = refl
  at_once (suc n) j x h = rw (le-ltb j end h, walk)

  on : (fuel j x : ℕ) {whole : Bool} → end ≤ j + fuel → j < end → (ltb 0 (size_at ws j) && check j x) ≡ true
      → walk fuel ws check next finish end j x ≡ whole → Walking whole (j + size_at ws j) (next j x)
  on zero j x enough h e same = absurd (omega arith)
  on (suc n) j x enough h e same =
      let positive : 0 < size_at ws j = ltb-true 0 (size_at ws j) (both_first _ _ e)
      in record { fuel = n; enough = omega arith; same = sym (one_step n j x true h e) ∙ same }

  pub walk_turn : {whole : Bool} (j x : ℕ) → Walking whole j x → j < end → (ltb 0 (size_at ws j) && check j x) ≡ true → Walking whole (j + size_at ws j) (next j x)
  walk_turn j x w h e = on w.fuel j x w.enough h e w.same

  out : (fuel j x : ℕ) {whole : Bool} → end ≤ j + fuel → j < end → (ltb 0 (size_at ws j) && check j x) ≡ false
      → walk fuel ws check next finish end j x ≡ whole → whole ≡ false
  out zero j x enough h e same = absurd (omega arith)
  out (suc n) j x enough h e same = sym same ∙ one_step n j x false h e

  pub walk_stop : {whole : Bool} (j x : ℕ) → Walking whole j x → j < end → (ltb 0 (size_at ws j) && check j x) ≡ false → whole ≡ false
  walk_stop j x w h e = out w.fuel j x w.enough h e w.same

  pub walk_end : {whole : Bool} (j x : ℕ) → Walking whole j x → end ≤ j → whole ≡ finish j x
  walk_end j x w h = sym w.same ∙ at_once w.fuel j x h
