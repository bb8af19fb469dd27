-- From the promises over sets to those over a slice of three sets.
-- Assumes nothing.
use Prim.Native.Nat.{ℕ, ◌≤◌, ◌<◌}
use mathlib.Core.Path.{◌≡◌, refl, sym, subst₂}
use mathlib.Core.Bool.{true}
use mathlib.Core.List.{List}
use native.Mathlib.Omega.{arith}
use lib.ListN.{length}
use Rattle.basis.proofs.Numbers.{number_pos}
use Rattle.lookahead.specs.Sets.{Has, Is, SameWords}
use Rattle.lookahead_slices.specs.Family.{part, Stored}
use Rattle.lookahead.specs.Least.{LeastCommon}
use Rattle.std.specs.Prelude.{Option, Some, None, unwrap_or}
use Rattle.lookahead.proofs.SetLaws.{same_strings}
use Rattle.lookahead_c.specs.Calls.{Way, Made, Least}

pub made : (way : Way) (old new x y r : List ℕ) → 24 ≤ length old → x ≡ part 0 old → y ≡ part 1 old → Is r (way (Has x) (Has y)) → Stored old new 2 r
    → Made way old new true
made way old new x y r l p q i t =
    let w : SameWords (part 2 new) r = t.words in
    let j : Is r (way (Has (part 0 old)) (Has (part 1 old))) = subst₂ (λ (a b : List ℕ). Is r (way (Has a) (Has b))) p q i in
    (l, (λ s. ((λ h. (j.strings s).0 (same_strings (part 2 new) r w s h)), (λ h. same_strings r (part 2 new) (λ k b. sym (w k b)) s ((j.strings s).1 h)))), t.same_length, t.others)

pub no_room : (sets : List ℕ) → length sets < 16 → Least sets 0
no_room sets h = record { no_room = λ l. refl; found = λ l p. absurd (omega arith); least = λ l. absurd (omega arith) }

module _ (sets x y : List ℕ) (p : x ≡ part 0 sets) (q : y ≡ part 1 sets) where
  pub none : LeastCommon x y None → Least sets 0
  none i =
      let j : LeastCommon (part 0 sets) (part 1 sets) None = subst₂ (λ (a b : List ℕ). LeastCommon a b None) p q i in
      record { no_room = λ l. refl; found = λ l z. absurd (omega arith); least = λ l s a b. absurd (j s a b) }

  pub some : (n : ℕ) → 16 ≤ length sets → LeastCommon x y (Some n) → Least sets n
  some n h i =
      let j : LeastCommon (part 0 sets) (part 1 sets) (Some n) = subst₂ (λ (a b : List ℕ). LeastCommon a b (Some n)) p q i in
      record { no_room = λ l. absurd (omega arith); found = λ l z. j.0; least = λ l s a b. (omega (arith, number_pos j.0.0, j.0.1), j.1 s a b) }

  pub least_or : (o : Option ℕ) (n : ℕ) → 16 ≤ length sets → LeastCommon x y o → n ≡ unwrap_or o 0 → Least sets n
  least_or None n h i e = rw e (none i)
  least_or (Some m) n h i e = rw e (some m h i)
