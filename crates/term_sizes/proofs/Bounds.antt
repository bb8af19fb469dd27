-- A number is never larger than its size: what is worked out of values stays below what is worked out of sizes, term by term.
-- Assumes nothing.
use Prim.Native.Nat.{ℕ, suc, ◌+◌, ◌*◌, ◌-◌, ◌^◌, ◌≤◌}
use mathlib.Core.Path.{◌≡◌, refl, ap, ap₂}
use mathlib.Core.Bool.{Bool, true, false, cond}
use mathlib.Core.List.{List}
use native.Mathlib.Omega.{arith}
use native.Mathlib.Nat.{mul-le-mul}
use borrow.Author.Tests.{ltb-true, leb-true, leb-false}
use lib.Dec.{leb, ltb}
use lib.ListN.{length, get_or}
use lib.IntN.{ℤ, pos, negsuc, nat_abs, neg_ℤ, ◌+ℤ◌, ◌-ℤ◌, ◌*ℤ◌}
use Rattle.term_sizes.specs.Inside.{Below, Inside}
use Rattle.term_integers.proofs.Laws.{nat_abs_neg, abs_product, bounded_in, bounded_out}
use Rattle.term_words.specs.Numbers.{bounded, difference_of, opposite_of, pushed, kept, top_of, pair_of}
use Rattle.term_words.specs.Steps.{variable_of, binary, unary, operate_of}
use Rattle.term_words.specs.declared.Mode.{Mode}
use Rattle.term_words.specs.declared.Numbers.{Numbers}
use Rattle.term_words.specs.declared.Operation.{Operation}
use Rattle.std.specs.Prelude.{Result, Ok, Err}
use Rattle.term_words.specs.declared.TermError.{TermError}

-- ---- one number and its size

abs_cond : (c : Bool) (x y k : ℕ) → suc x ≤ k → y ≤ k → nat_abs (cond c (negsuc x) (pos y)) ≤ k
abs_cond true x y k p q = p
abs_cond false x y k p q = q

abs_sum : (a b : ℤ) → nat_abs (a +ℤ b) ≤ nat_abs a + nat_abs b
abs_sum (pos m) (pos n) = omega arith
abs_sum (pos m) (negsuc n) = abs_cond (ltb m (suc n)) (suc n - suc m) (m - suc n) (m + suc n) (omega arith) (omega arith)
abs_sum (negsuc m) (pos n) = abs_cond (ltb n (suc m)) (suc m - suc n) (n - suc m) (suc m + n) (omega arith) (omega arith)
abs_sum (negsuc m) (negsuc n) = omega arith

below_sum : (a b z w : ℤ) → Below a z → Below b w → Below (a +ℤ b) (z +ℤ w)
below_sum a b z w p q = record { size = p.size + q.size; is = ap₂ ◌+ℤ◌ p.is q.is; le = omega (arith, abs_sum a b, p.le, q.le) }

below_opposite : (a z : ℤ) → Below a z → Below (neg_ℤ a) z
below_opposite a z p = record { size = p.size; is = p.is; le = omega (arith, nat_abs_neg a, p.le) }

below_difference : (a b z w : ℤ) → Below a z → Below b w → Below (a -ℤ b) (z +ℤ w)
below_difference a b z w p q = below_sum a (neg_ℤ b) z w p (below_opposite b w q)

-- in either mode
below_differences : (m : Mode) (a b z w : ℤ) → Below a z → Below b w → Below (difference_of m a b) (z +ℤ w)
below_differences Mode.Values = below_difference
below_differences Mode.Sizes = below_sum

below_opposites : (m : Mode) (a z : ℤ) → Below a z → Below (opposite_of m a) z
below_opposites Mode.Values = below_opposite
below_opposites Mode.Sizes = λ a z p. p

below_product : (a b z w : ℤ) → Below a z → Below b w → Below (a *ℤ b) (z *ℤ w)
below_product a b z w p q =
    let h : nat_abs a * nat_abs b ≤ p.size * q.size = mul-le-mul p.le q.le in
    record { size = p.size * q.size; is = ap₂ ◌*ℤ◌ p.is q.is; le = omega (arith, abs_product a b, h) }

below_natural : (n : ℕ) → Below (pos n) (pos n)
below_natural n = record { size = n; is = refl; le = omega arith }

below_bound : (a z : ℤ) → Below a z → nat_abs z ≤ 2 ^ 62 → nat_abs a ≤ 2 ^ 62
below_bound a z p h =
    let e : nat_abs z ≡ p.size = ap nat_abs p.is in
    omega (arith, e, p.le, h)

-- ---- the numbers that wait

pub data Smaller : Numbers → Numbers → Type 0 where
  none : Smaller Numbers.Zero Numbers.Zero
  one : {a a' : ℤ} → Below a a' → Smaller (Numbers.One a) (Numbers.One a')
  two : {a a' b b' : ℤ} → Below a a' → Below b b' → Smaller (Numbers.Two a b) (Numbers.Two a' b')
  three : {a a' b b' c c' : ℤ} → Below a a' → Below b b' → Below c c' → Smaller (Numbers.Three a b c) (Numbers.Three a' b' c')
  four : {a a' b b' c c' d d' : ℤ} → Below a a' → Below b b' → Below c c' → Below d d' → Smaller (Numbers.Four a b c d) (Numbers.Four a' b' c' d')

-- where sizes leave numbers, values (or smaller sizes) leave smaller ones; a term that cannot stand there for the one cannot for the other
abbrev pub Kept : Result Numbers TermError → Result Numbers TermError → Type 0
Kept x (Ok s') = (s : Numbers) × (x ≡ Ok s) × Smaller s s'
Kept x (Err TermError.Malformed) = x ≡ Err TermError.Malformed
Kept x (Err TermError.Overflow) = Unit {0}

pushed_kept : {s s' : Numbers} {a z : ℤ} → Smaller s s' → Below a z → Kept (pushed s a) (pushed s' z)
pushed_kept {a = a} none p = (Numbers.One a, refl, one p)
pushed_kept {a = a} (one {a = b} q) p = (Numbers.Two b a, refl, two q p)
pushed_kept {a = a} (two {a = b} {b = c} q r) p = (Numbers.Three b c a, refl, three q r p)
pushed_kept {a = a} (three {a = b} {b = c} {c = d} q r u) p = (Numbers.Four b c d a, refl, four q r u p)
pushed_kept (four q r u v) p = refl

kept_kept : {s s' : Numbers} (a z : ℤ) → Smaller s s' → Below a z → Kept (kept s (bounded a)) (kept s' (bounded z))
kept_kept {s} {s'} a z r p = go (leb (nat_abs z) (2 ^ 62)) refl
  where
    go : (t : Bool) → leb (nat_abs z) (2 ^ 62) ≡ t → Kept (kept s (bounded a)) (kept s' (bounded z))
    go true e =
        let h : nat_abs z ≤ 2 ^ 62 = leb-true (nat_abs z) (2 ^ 62) e in
        rw (bounded_in z h, bounded_in a (below_bound a z p h)) (pushed_kept r p)
    go false e = rw (bounded_out z (leb-false (nat_abs z) (2 ^ 62) e)) tt

binary_kept : (f g : ℤ → ℤ → ℤ) → ((a b z w : ℤ) → Below a z → Below b w → Below (f a b) (g z w)) → {s s' : Numbers} → Smaller s s' → Kept (binary f (pair_of s)) (binary g (pair_of s'))
binary_kept f g h none = refl
binary_kept f g h (one p) = refl
binary_kept f g h (two {a} {a'} {b} {b'} p q) = kept_kept (f a b) (g a' b') none (h a b a' b' p q)
binary_kept f g h (three {b = b} {b' = b'} {c = c} {c' = c'} p q r) = kept_kept (f b c) (g b' c') (one p) (h b c b' c' q r)
binary_kept f g h (four {c = c} {c' = c'} {d = d} {d' = d'} p q r u) = kept_kept (f c d) (g c' d') (two p q) (h c d c' d' r u)

unary_kept : (f g : ℤ → ℤ) → ((a z : ℤ) → Below a z → Below (f a) (g z)) → {s s' : Numbers} → Smaller s s' → Kept (unary f (top_of s)) (unary g (top_of s'))
unary_kept f g h none = refl
unary_kept f g h (one {a} {a'} p) = kept_kept (f a) (g a') none (h a a' p)
unary_kept f g h (two {b = b} {b' = b'} p q) = kept_kept (f b) (g b') (one p) (h b b' q)
unary_kept f g h (three {c = c} {c' = c'} p q r) = kept_kept (f c) (g c') (two p q) (h c c' r)
unary_kept f g h (four {d = d} {d' = d'} p q r u) = kept_kept (f d) (g d') (three p q r) (h d d' u)

-- ---- the variables

module _ (env widest : List ℤ) (inside : Inside env widest) where
  variable_kept : (k : ℕ) {s s' : Numbers} → Smaller s s' → Kept (variable_of env k s) (variable_of widest k s')
  unfolding variable_of
  variable_kept k {s} {s'} r = rw inside.same (go (ltb k (length widest)) refl)
    where
      go : (t : Bool) → ltb k (length widest) ≡ t → Kept (cond (ltb k (length widest)) (kept s (bounded (get_or env k (pos 0)))) (Err TermError.Malformed)) (cond (ltb k (length widest)) (kept s' (bounded (get_or widest k (pos 0)))) (Err TermError.Malformed))
      go true e = rw e (kept_kept (get_or env k (pos 0)) (get_or widest k (pos 0)) r (inside.each k (ltb-true k (length widest) e)))
      go false e = rw e refl

  pub operate_kept : (m : Mode) (o : Operation) {s s' : Numbers} → Smaller s s' → Kept (operate_of m env o s) (operate_of Mode.Sizes widest o s')
  operate_kept m (Operation.Number n) r = kept_kept (pos n) (pos n) r (below_natural n)
  operate_kept m (Operation.Variable k) r = variable_kept k r
  operate_kept m Operation.Add r = binary_kept ◌+ℤ◌ ◌+ℤ◌ below_sum r
  operate_kept m Operation.Subtract r = binary_kept (difference_of m) ◌+ℤ◌ (below_differences m) r
  operate_kept m Operation.Multiply r = binary_kept ◌*ℤ◌ ◌*ℤ◌ below_product r
  operate_kept m Operation.Negate r = unary_kept (opposite_of m) (λ a. a) (below_opposites m) r
  operate_kept m Operation.Unknown r = refl
