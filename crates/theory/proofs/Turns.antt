-- What a repetition does at its turn, by the counts that it allows.
-- Assumes nothing.
use Prim.Native.Nat.{ℕ, suc, ◌+◌, ◌≤◌}
use native.Mathlib.Omega.{arith}
use borrow.Author.Tests.{ltb-true, ltb-false, leb-false, le-ltb, lt-leb}
use mathlib.Core.Path.{◌≡◌}
use mathlib.Core.Logic.{◌⊎◌, inl, inr}
use mathlib.Core.Bool.{Bool, true, false}
use lib.Dec.{leb, ltb}
use Rattle.basis.specs.Counts.{Counts, from, within, Allows}
use Rattle.basis.proofs.Booleans.{which}
use Rattle.theory.specs.Machine.{again, leave, by_lookahead, turn}

-- more passes are to come: again, where lookahead says so, or where it is not asked because fewer are not allowed
pub turn_again : (counts : Counts) (j k : ℕ) (continues exits : Bool) → Allows counts (j + suc k) → (continues ≡ true) ⊎ (Allows counts j → ⊥) → turn counts j continues exits ≡ again
unfolding turn by_lookahead
turn_again Counts.none j k continues exits a o = absurd a
turn_again (from low) j k continues exits a (inl e) = elim (which (ltb j low)) [ inl t ↦ rw (t, turn) | inr t ↦ rw (t, e, turn) ]
turn_again (from low) j k continues exits a (inr n) = elim (which (ltb j low)) [ inl t ↦ rw (t, turn) | inr t ↦ absurd (n (ltb-false j low t)) ]
turn_again (within low more) j k continues exits a (inl e) =
    elim (which (ltb j low)) [ inl t ↦ rw (t, turn) | inr t ↦ rw (t, lt-leb (low + more) j (omega arith), e, turn) ]
turn_again (within low more) j k continues exits a (inr n) =
    elim (which (ltb j low)) [ inl t ↦ rw (t, turn) | inr t ↦ absurd (n (ltb-false j low t, omega arith)) ]

-- no more passes are to come
pub turn_leave : (counts : Counts) (j : ℕ) (continues exits : Bool) → Allows counts j → ((continues ≡ false) × (exits ≡ true)) ⊎ (Allows counts (suc j) → ⊥) → turn counts j continues exits ≡ leave
unfolding turn by_lookahead
turn_leave Counts.none j continues exits a o = absurd a
turn_leave (from low) j continues exits a (inl e) = rw (le-ltb j low a, e.0, e.1, turn)
turn_leave (from low) j continues exits a (inr n) = absurd (n (omega arith))
turn_leave (within low more) j continues exits a (inl e) =
    elim (which (leb (low + more) j)) [ inl t ↦ rw (le-ltb j low a.0, t, turn) | inr t ↦ rw (le-ltb j low a.0, t, e.0, e.1, turn) ]
turn_leave (within low more) j continues exits a (inr n) =
    elim (which (leb (low + more) j))
    [ inl t ↦ rw (le-ltb j low a.0, t, turn) | inr t ↦ absurd (n (omega arith, let z = leb-false (low + more) j t in omega arith)) ]

-- what is so of the passes begun, at every turn: no more than the greatest count
abbrev pub Reached : Counts → ℕ → Type 0
Reached Counts.none j = Unit {0}
Reached (from low) j = Unit {0}
Reached (within low more) j = j ≤ low + more

pub reached_zero : (counts : Counts) → Reached counts 0
reached_zero Counts.none = tt
reached_zero (from low) = tt
reached_zero (within low more) = omega arith

pub reached_again : (counts : Counts) (j : ℕ) (continues exits : Bool) → turn counts j continues exits ≡ again → Reached counts (suc j)
unfolding turn by_lookahead
reached_again Counts.none j continues exits e = tt
reached_again (from low) j continues exits e = tt
reached_again (within low more) j continues exits e =
    elim (which (ltb j low)) [
      | inl t ↦ let z = ltb-true j low t in omega arith
      | inr t ↦
          elim (which (leb (low + more) j)) [
            | inl u ↦ let z : leave ≡ again = rw (t, u, turn) at e in let y : ◌≡◌ {A = ℕ} 0 1 = cc in absurd (omega arith)
            | inr u ↦ let z = leb-false (low + more) j u in omega arith
          ]
    ]

pub allowed_leave : (counts : Counts) (j : ℕ) (continues exits : Bool) → turn counts j continues exits ≡ leave → Reached counts j → Allows counts j
unfolding turn by_lookahead
allowed_leave Counts.none j continues exits e r = let y : ◌≡◌ {A = ℕ} 0 1 = cc in absurd (omega arith)
allowed_leave (from low) j continues exits e r =
    elim (which (ltb j low))
    [ inl t ↦ let z : again ≡ leave = rw (t, turn) at e in let y : ◌≡◌ {A = ℕ} 0 1 = cc in absurd (omega arith) | inr t ↦ ltb-false j low t ]
allowed_leave (within low more) j continues exits e r =
    elim (which (ltb j low))
    [ inl t ↦ let z : again ≡ leave = rw (t, turn) at e in let y : ◌≡◌ {A = ℕ} 0 1 = cc in absurd (omega arith) | inr t ↦ (ltb-false j low t, r) ]
