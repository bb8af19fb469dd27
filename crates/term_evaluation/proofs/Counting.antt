-- Laws of counts, by the sign of their ends.
-- Assumes nothing.
use Prim.Native.Nat.{ℕ, ◌-◌, ◌^◌, ◌≤◌, ◌<◌}
use mathlib.Core.Path.{◌≡◌, refl, sym, ap, ◌∙◌}
use mathlib.Core.Bool.{Bool, true, false, not}
use borrow.Author.Tests.{le-leb, lt-leb}
use lib.IntN.{ℤ, pos, negsuc, nat_abs}
use lib.Signed.{mag, non_neg}
use mir.Syntax.{w64}
use mir.Val.{to_z, of_z}
use Rattle.basis.specs.Counts.{Counts, least, between, exactly, at_least, span}
use Rattle.term_evaluation.specs.Counts.{shown}
use Rattle.term_integers.proofs.Laws.{differ, read₁}
use Rattle.std.specs.Prelude.{Ok}
use Rattle.term_evaluation.specs.declared.Allowed.{Allowed}

-- a number's sign, by the test that was made of it
pub sign : (a : ℤ) {r : Bool} (t : Bool) → mag a < 2 ^ 63 → r ≡ not (non_neg (to_z w64 (of_z w64 a))) → r ≡ t → not (non_neg a) ≡ t
sign a t p e k = sym (read₁ (λ (z : ℤ). not (non_neg z)) a p e) ∙ k

pub least_negative : (a : ℤ) → not (non_neg a) ≡ true → 0 ≡ least a
least_negative (pos n) e = differ (sym e)
least_negative (negsuc n) e = refl

pub least_positive : (a : ℤ) → not (non_neg a) ≡ false → nat_abs a ≡ least a
least_positive (pos n) e = refl
least_positive (negsuc n) e = differ e

pub exactly_negative : (a : ℤ) → not (non_neg a) ≡ true → Ok Allowed.None ≡ shown (exactly a)
unfolding exactly
exactly_negative (pos n) e = differ (sym e)
exactly_negative (negsuc n) e = refl

pub exactly_positive : (a : ℤ) → not (non_neg a) ≡ false → Ok (Allowed.Within (least a) 0) ≡ shown (exactly a)
unfolding exactly
exactly_positive (pos n) e = refl
exactly_positive (negsuc n) e = differ e

pub open_is : (a : ℤ) → Ok (Allowed.From (least a)) ≡ shown (at_least a)
unfolding at_least
open_is a = refl

pub span_negative : (a b : ℤ) → not (non_neg b) ≡ true → Ok Allowed.None ≡ shown (span a b)
unfolding span
span_negative a (pos n) e = differ (sym e)
span_negative a (negsuc n) e = refl

between_in : (low high : ℕ) → low ≤ high → between low high ≡ Counts.within low (high - low)
unfolding between
between_in low high h = rw (le-leb low high h, between)

between_out : (low high : ℕ) → high < low → between low high ≡ Counts.none
unfolding between
between_out low high h = rw (lt-leb low high h, between)

pub span_in : (a b : ℤ) → not (non_neg b) ≡ false → least a ≤ nat_abs b → Ok (Allowed.Within (least a) (nat_abs b - least a)) ≡ shown (span a b)
unfolding span
span_in a (pos n) e h = sym (ap shown (between_in (least a) n h))
span_in a (negsuc n) e h = differ e

pub span_out : (a b : ℤ) → not (non_neg b) ≡ false → nat_abs b < least a → Ok Allowed.None ≡ shown (span a b)
unfolding span
span_out a (pos n) e h = sym (ap shown (between_out (least a) n h))
span_out a (negsuc n) e h = differ e
