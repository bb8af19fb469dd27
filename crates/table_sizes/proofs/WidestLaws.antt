-- Laws of the variables' sizes.
-- Assumes nothing.
use Prim.Native.Nat.{ℕ, zero, suc, ◌+◌, ◌-◌, ◌^◌, ◌≤◌, ◌<◌, min}
use mathlib.Core.Path.{◌≡◌, refl, sym, ap, ◌∙◌}
use mathlib.Core.Bool.{Bool, true, false}
use mathlib.Core.List.{List, [], ◌∷◌, ◌++◌, append_assoc, append-nil}
use native.Mathlib.Omega.{arith}
use lib.IntN.{ℤ, pos}
use lib.ListN.{length, take, set, replicate, length-set}
use lib.Pow.{pow_mono}
use mir.Syntax.{w64}
use mir.Val.{to_z, of_z}
use lib.Dec.{ltb}
use borrow.Author.Tests.{le-ltb, lt-ltb}
use Rattle.basis.specs.Limits.{max_variables, max_bound_width}
use Rattle.basis.specs.Patterns.{greatest_size}
use Rattle.term_integers.proofs.Laws.{back}
use lib.Seq.{take-suc-set, take_all}
use Rattle.table_layout.specs.Places.{variable_word}
use Rattle.table_sizes.specs.Measures.{largest, widest_from, widest}

pub widest_length : (n : ℕ) (ws : List ℕ) (x : ℕ) → length (widest_from n ws x) ≡ n
unfolding widest_from
widest_length zero ws x = refl
widest_length (suc n) ws x = ap suc (widest_length n ws (x + 1))

-- the sizes written so far, with those still to come, are all of them
pub record Widening (ws : List ℕ) (x : ℕ) (out : List ℤ) : Type 0 where
  pub size : length out ≡ max_variables
  pub few : x ≤ max_variables
  pub whole : take x out ++ widest_from (max_variables - x) ws x ≡ widest ws

-- of a width w within the limit
pub largest_signed : (width sign w p : ℕ) → 0 < sign → w ≡ min max_bound_width width → p ≡ 2 ^ (w - 1) → pos p ≡ largest width sign
largest_signed width sign w p h m e = rw (lt-ltb 0 sign h, sym m) (ap (λ (n : ℕ). pos n) e)

pub largest_unsigned : (width sign w p : ℕ) → sign ≤ 0 → w ≡ min max_bound_width width → p ≡ 2 ^ w → pos (p - 1) ≡ largest width sign
largest_unsigned width sign w p h m e = rw (le-ltb 0 sign h, sym m) (ap (λ (n : ℕ). pos (n - 1)) e)

pub widening_none : (ws : List ℕ) → Widening ws 0 (replicate max_variables (pos 0))
widening_none ws = record { size = refl; few = omega arith; whole = refl }

-- sizes of a width within the limit
size_small : (b : Bool) (w : ℕ) → w ≤ max_bound_width → greatest_size b w < 2 ^ 63
size_small false w h = let p : 2 ^ w ≤ 2 ^ 62 = pow_mono {j = 62} h in omega arith
size_small true w h = let p : 2 ^ (w - 1) ≤ 2 ^ 62 = pow_mono {j = 62} (omega arith) in omega arith

-- a size that is stored reads back
pub stored_back : (z : ℤ) (width sign : ℕ) → z ≡ largest width sign → to_z w64 (of_z w64 z) ≡ largest width sign
stored_back z width sign e =
    ap (λ (x : ℤ). to_z w64 (of_z w64 x)) e ∙ back (largest width sign) (size_small (ltb 0 sign) (min max_bound_width width) (omega arith))

pub widening_more : (ws : List ℕ) (x : ℕ) (out : List ℤ) (z : ℤ) → Widening ws x out → x < max_variables → z ≡ largest (variable_word ws x 1) (variable_word ws x 2) → Widening ws (x + 1) (set out x (to_z w64 (of_z w64 z)))
unfolding widest_from
widening_more ws x out z w h e =
    let v = largest (variable_word ws x 1) (variable_word ws x 2) in
    let b : to_z w64 (of_z w64 z) ≡ v = stored_back z (variable_word ws x 1) (variable_word ws x 2) e in
    rw b record {
      size = length-set out x v ∙ w.size;
      few = omega arith;
      whole =
          let o : x + 1 ≡ suc x = omega arith in
          let n : max_variables - x ≡ suc (max_variables - (x + 1)) = omega arith in
          ap (λ (ys : List ℤ). ys ++ widest_from (max_variables - (x + 1)) ws (x + 1)) (ap (λ (k : ℕ). take k (set out x v)) o ∙ take-suc-set out x v (omega (arith, w.size)))
          ∙ append_assoc (take x out) (v ∷ []) (widest_from (max_variables - (x + 1)) ws (x + 1))
          ∙ ap (λ (m : ℕ). take x out ++ widest_from m ws x) (sym n) ∙ w.whole;
    }

pub widening_done : (ws : List ℕ) (x : ℕ) (out : List ℤ) → Widening ws x out → max_variables ≤ x → out ≡ widest ws
unfolding widest_from
widening_done ws x out w h =
    let e : x ≡ max_variables = omega (arith, w.few) in
    sym (take_all max_variables out (omega (arith, w.size))) ∙ sym (append-nil (take max_variables out)) ∙ ap (λ (y : ℕ). take y out ++ widest_from (max_variables - y) ws y) (sym e) ∙ w.whole
