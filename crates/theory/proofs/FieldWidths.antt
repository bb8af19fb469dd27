-- How wide a field is: the bits that it takes say so themselves.
-- Assumes nothing.
use Prim.Native.Nat.{ℕ, ◌≤◌}
use native.Mathlib.Omega.{arith}
use mathlib.Core.Path.{◌≡◌, refl, sym, ◌∙◌, ap}
use mathlib.Core.Bool.{Bool}
use mathlib.Core.List.{[], ◌++◌, append-nil}
use lib.ListN.{length, take}
use lib.Seq.{take_all}
use Rattle.basis.specs.Bits.{Bits}
use Rattle.theory.specs.Grammar.{field, Grammar}
use Rattle.theory.specs.Hypotheses.{Static}

module _ {Context Values : Type 0} (g : Grammar Context Values) (h : Static g) where
  -- of the bits that the machine takes
  pub taken_width : {i : ℕ} {w : Bits → ℕ} {admits : Context → Values → Bits → Bool} {static : Bits → Bool} {binds : Context → Values → Bits → Values}
      → g.node i ≡ field w admits static binds → (s : Bits) → w s ≤ length s → w (take (w s) s) ≡ w s
  taken_width {w = w} q s m = ap w (sym (append-nil (take (w s) s))) ∙ h.width_own q s [] m

  -- of the bits that a derivation takes: as many as the machine would
  pub derived_width : {i : ℕ} {w : Bits → ℕ} {admits : Context → Values → Bits → Bool} {static : Bits → Bool} {binds : Context → Values → Bits → Values}
      → g.node i ≡ field w admits static binds → {s : Bits} (bits r : Bits) → length bits ≡ w bits → s ≡ bits ++ r → length bits ≡ w s
  derived_width {w = w} q bits r l e =
      l ∙ (sym (h.width_own q bits r (omega (arith, l))) ∙ (ap (λ (x : Bits). w (x ++ r)) (take_all (w bits) bits (omega (arith, l))) ∙ ap w (sym e)))
