-- Laws of tests of bytes, and of a choice.
-- Assumes nothing.
use Prim.Native.Nat.{ℕ, ◌≤◌}
use mathlib.Core.Path.{◌≡◌, sym, ap, ◌∙◌}
use mathlib.Core.Logic.{⊎_elim}
use mathlib.Core.Bool.{Bool, true, false, cond}
use native.Mathlib.Omega.{arith}
use borrow.Author.Tests.{leb-true, ltb-false, le-ltb}
use lib.Dec.{leb, ltb}
use Rattle.basis.proofs.Booleans.{both_first, both_second, which}
use Rattle.text_header.specs.Bytes.{within, digit_of, digit_found, in_radix}
use Rattle.std.specs.Prelude.{Some, None}

pub within_low : (low b high : ℕ) → within low b high ≡ true → low ≤ b
within_low low b high e = leb-true low b (both_first (leb low b) (leb b high) e)

pub within_high : (low b high : ℕ) → within low b high ≡ true → b ≤ high
within_high low b high e = leb-true b high (both_second (leb low b) (leb b high) e)

-- what holds of both choices holds of the choice
pub choice : {A : Type 0} (P : A → Type 0) (t : Bool) {x y : A} → P x → P y → P (elim t [ true ↦ x | false ↦ y ])
choice P true p q = p
choice P false p q = q

-- ---- a byte's value as a digit

pub found_some : (b d : ℕ) → digit_found b ≡ Some d → digit_of b ≡ d
found_some b d h = ⊎_elim (λ (t : ltb (digit_of b) 16 ≡ true). let e : Some (digit_of b) ≡ Some d = sym (ap (λ (x : Bool). cond x (Some (digit_of b)) None) t) ∙ h in cc) (λ (t : ltb (digit_of b) 16 ≡ false). let e : None ≡ Some d = sym (ap (λ (x : Bool). cond x (Some (digit_of b)) None) t) ∙ h in cc) (which (ltb (digit_of b) 16))

pub found_none : (b radix : ℕ) → radix ≤ 16 → digit_found b ≡ None → in_radix radix b ≡ false
found_none b radix l h = ⊎_elim (λ (t : ltb (digit_of b) 16 ≡ true). let e : Some (digit_of b) ≡ None = sym (ap (λ (x : Bool). cond x (Some (digit_of b)) None) t) ∙ h in cc) (λ (t : ltb (digit_of b) 16 ≡ false). le-ltb (digit_of b) radix (omega (arith, ltb-false (digit_of b) 16 t))) (which (ltb (digit_of b) 16))
