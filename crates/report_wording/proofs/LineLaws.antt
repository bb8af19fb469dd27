-- A walk over a text, byte by byte: the lines that end before a place, and where the place's own line starts.
-- Assumes nothing.
use Prim.Native.Nat.{ℕ, ◌+◌, ◌≤◌, ◌<◌}
use mathlib.Core.Path.{◌≡◌, ◌∙◌, refl, ap, sym}
use mathlib.Core.List.{List}
use native.Mathlib.Numerals.{add-one}
use native.Mathlib.Omega.{arith}
use borrow.Author.Tests.{eq-eqb, ne_eqb}
use lib.ListN.{get_or}
use Rattle.report_wording.specs.Lines.{lines_before, line_start, Walked}

pub walked_none : (text : List ℕ) (at : ℕ) → Walked text at 0 0 0
unfolding lines_before line_start
walked_none text at = record { count = refl; first = refl; few = omega arith; short = omega arith }

-- the byte at i ends a line
pub walked_end :
    {text : List ℕ} {at i before start before' start' : ℕ} → before' ≡ before + 1 → start' ≡ i + 1 → get_or text i 0 ≡ 10 → i < at → Walked text at i before start →
    Walked text at (i + 1) before' start'
unfolding lines_before line_start
walked_end {text} {i = i} p q e l w =
    record {
      count = p ∙ rw (add-one i, eq-eqb _ _ e, w.count);
      first = q ∙ rw (add-one i, eq-eqb _ _ e) (sym (add-one i));
      few = omega arith;
      short = omega arith;
    }

-- it does not
pub walked_on :
    {text : List ℕ} {at i before start before' start' : ℕ} → before' ≡ before → start' ≡ start → (get_or text i 0 ≡ 10 → ⊥) → i < at → Walked text at i before start →
    Walked text at (i + 1) before' start'
unfolding lines_before line_start
walked_on {text} {i = i} p q e l w =
    record {
      count = p ∙ rw (add-one i, ne_eqb _ _ e, w.count);
      first = q ∙ rw (add-one i, ne_eqb _ _ e, w.first);
      few = omega arith;
      short = omega arith;
    }

-- the walk has reached its place
pub walked_all :
    {text : List ℕ} {at i before start : ℕ} → at ≤ i → Walked text at i before start → (before ≡ lines_before text at) × (start ≡ line_start text at)
walked_all {text} {at} {i} l w =
    let e : i ≡ at = omega arith in
    (w.count ∙ ap (lines_before text) e, w.first ∙ ap (line_start text) e)
