-- A set holds all whole numbers past 2^62 or none of them, and all below −2^62 or none.
-- Assumes nothing.
use Prim.Native.Nat.{ℕ, zero, suc, ◌+◌, ◌*◌, ◌-◌, ◌/◌, ◌%◌, ◌^◌, ◌≤◌, ◌<◌}
use mathlib.Core.Path.{◌≡◌, refl, sym, ap, ap₂, ◌∙◌}
use mathlib.Core.Bool.{Bool, true, false, cond}
use mathlib.Core.List.{List, [], ◌∷◌}
use native.Mathlib.Omega.{arith}
use borrow.Author.Tests.{le-leb, lt-leb, leb-true, leb-false, ltb-true}
use lib.Dec.{leb, ltb, eqb}
use lib.IntN.{ℤ, pos, negsuc, nat_abs, sub_ℕ, ◌+ℤ◌, ◌-ℤ◌, ◌*ℤ◌}
use lib.ListN.{length, get_or}
use lib.Pow.{pow_mono}
use lib.Signed.{le_z}
use Rattle.basis.specs.Bits.{Bits, digit}
use Rattle.basis.specs.Patterns.{pattern_value, offset, place}
use Rattle.basis.proofs.PatternLaws.{place_less, value_place, offset_small}
use Rattle.term_integers.specs.Wholes.{bounded, equals}
use Rattle.term_words.specs.Numbers.{top_of, pair_of, pushed, kept, difference_of, opposite_of}
use Rattle.term_words.specs.Tests.{noted, combined, joins}
use Rattle.term_words.specs.Steps.{variable_of, binary, unary, operate_of, after_of, test_top, test_pair, operated, step_of}
use Rattle.term_words.specs.declared.Joint.{Joint}
use Rattle.term_words.specs.declared.Kind.{Kind}
use Rattle.term_words.specs.declared.Mode.{Mode}
use Rattle.term_words.specs.declared.Numbers.{Numbers}
use Rattle.term_words.specs.declared.Operation.{Operation}
use Rattle.term_words.specs.declared.Term.{Term}
use Rattle.term_evaluation.specs.Meaning.{next, run, verdict_of, membership}
use Rattle.term_evaluation.specs.Patterns.{clamped}
use Rattle.term_evaluation.specs.declared.Ended.{Ended}
use Rattle.std.specs.Prelude.{Option, Some, None, Result, Ok, Err}
use Rattle.term_words.specs.declared.TermError.{TermError}

-- ---- numbers within 2^62

abbrev Small : ℤ → Type 0
Small a = nat_abs a ≤ 2 ^ 62

-- of which no order to a number past them changes
from_same : (a v : ℤ) → Small a → le_z a (clamped v) ≡ le_z a v
unfolding clamped
from_same (pos m) (pos n) h = go (leb n (2 ^ 62)) refl
  where
    go : (t : Bool) → leb n (2 ^ 62) ≡ t → le_z (pos m) (cond t (pos n) (pos (2 ^ 62 + 1))) ≡ leb m n
    go true e = refl
    go false e = let k : 2 ^ 62 < n = leb-false n (2 ^ 62) e in le-leb m (2 ^ 62 + 1) (omega arith) ∙ sym (le-leb m n (omega arith))
from_same (pos m) (negsuc n) h = go (leb (suc n) (2 ^ 62))
  where
    go : (t : Bool) → le_z (pos m) (cond t (negsuc n) (negsuc (2 ^ 62))) ≡ false
    go true = refl
    go false = refl
from_same (negsuc m) (pos n) h = go (leb n (2 ^ 62))
  where
    go : (t : Bool) → le_z (negsuc m) (cond t (pos n) (pos (2 ^ 62 + 1))) ≡ true
    go true = refl
    go false = refl
from_same (negsuc m) (negsuc n) h = go (leb (suc n) (2 ^ 62)) refl
  where
    go : (t : Bool) → leb (suc n) (2 ^ 62) ≡ t → le_z (negsuc m) (cond t (negsuc n) (negsuc (2 ^ 62))) ≡ leb n m
    go true e = refl
    go false e = let k : 2 ^ 62 < suc n = leb-false (suc n) (2 ^ 62) e in lt-leb (2 ^ 62) m (omega arith) ∙ sym (lt-leb n m (omega arith))

up_to_same : (a v : ℤ) → Small a → le_z (clamped v) a ≡ le_z v a
unfolding clamped
up_to_same (pos m) (pos n) h = go (leb n (2 ^ 62)) refl
  where
    go : (t : Bool) → leb n (2 ^ 62) ≡ t → le_z (cond t (pos n) (pos (2 ^ 62 + 1))) (pos m) ≡ leb n m
    go true e = refl
    go false e = let k : 2 ^ 62 < n = leb-false n (2 ^ 62) e in lt-leb (2 ^ 62 + 1) m (omega arith) ∙ sym (lt-leb n m (omega arith))
up_to_same (pos m) (negsuc n) h = go (leb (suc n) (2 ^ 62))
  where
    go : (t : Bool) → le_z (cond t (negsuc n) (negsuc (2 ^ 62))) (pos m) ≡ true
    go true = refl
    go false = refl
up_to_same (negsuc m) (pos n) h = go (leb n (2 ^ 62))
  where
    go : (t : Bool) → le_z (cond t (pos n) (pos (2 ^ 62 + 1))) (negsuc m) ≡ false
    go true = refl
    go false = refl
up_to_same (negsuc m) (negsuc n) h = go (leb (suc n) (2 ^ 62)) refl
  where
    go : (t : Bool) → leb (suc n) (2 ^ 62) ≡ t → le_z (cond t (negsuc n) (negsuc (2 ^ 62))) (negsuc m) ≡ leb m n
    go true e = refl
    go false e = let k : 2 ^ 62 < suc n = leb-false (suc n) (2 ^ 62) e in le-leb m (2 ^ 62) (omega arith) ∙ sym (le-leb m n (omega arith))

-- ---- all numbers that wait are within 2^62

abbrev AllSmall : Numbers → Type 0
AllSmall Numbers.Zero = Unit {0}
AllSmall (Numbers.One a) = Small a
AllSmall (Numbers.Two a b) = Small a × Small b
AllSmall (Numbers.Three a b c) = Small a × Small b × Small c
AllSmall (Numbers.Four a b c d) = Small a × Small b × Small c × Small d

abbrev SmallTop : Option (Numbers × ℤ) → Type 0
SmallTop (Some (rest, a)) = AllSmall rest × Small a
SmallTop None = Unit {0}

abbrev SmallPair : Option (Numbers × ℤ × ℤ) → Type 0
SmallPair (Some (rest, a, b)) = AllSmall rest × Small a × Small b
SmallPair None = Unit {0}

abbrev SmallOutcome : Result Numbers TermError → Type 0
SmallOutcome (Ok s) = AllSmall s
SmallOutcome (Err e) = Unit {0}

abbrev SmallTrial : Result (Numbers × ℕ) TermError → Type 0
SmallTrial (Ok (s, t)) = AllSmall s
SmallTrial (Err e) = Unit {0}

top_small : (s : Numbers) → AllSmall s → SmallTop (top_of s)
top_small Numbers.Zero h = tt
top_small (Numbers.One a) h = (tt, h)
top_small (Numbers.Two a b) h = (h.0, h.1)
top_small (Numbers.Three a b c) h = ((h.0, h.1), h.2)
top_small (Numbers.Four a b c d) h = ((h.0, h.1, h.2), h.3)

pair_small : (s : Numbers) → AllSmall s → SmallPair (pair_of s)
pair_small Numbers.Zero h = tt
pair_small (Numbers.One a) h = tt
pair_small (Numbers.Two a b) h = (tt, h.0, h.1)
pair_small (Numbers.Three a b c) h = (h.0, h.1, h.2)
pair_small (Numbers.Four a b c d) h = ((h.0, h.1), h.2, h.3)

push_small : (s : Numbers) (z : ℤ) → AllSmall s → Small z → SmallOutcome (pushed s z)
push_small Numbers.Zero z h k = k
push_small (Numbers.One a) z h k = (h, k)
push_small (Numbers.Two a b) z h k = (h.0, h.1, k)
push_small (Numbers.Three a b c) z h k = (h.0, h.1, h.2, k)
push_small (Numbers.Four a b c d) z h k = tt

-- what is kept is in bounds
keep_small : (s : Numbers) (z : ℤ) → AllSmall s → SmallOutcome (kept s (bounded z))
unfolding bounded
keep_small s z h = go (leb (nat_abs z) (2 ^ 62)) refl
  where
    go : (t : Bool) → leb (nat_abs z) (2 ^ 62) ≡ t → SmallOutcome (kept s (cond t (Some z) None))
    go true e = push_small s z h (leb-true (nat_abs z) (2 ^ 62) e)
    go false e = tt

binary_small : (f : ℤ → ℤ → ℤ) (p : Option (Numbers × ℤ × ℤ)) → SmallPair p → SmallOutcome (binary f p)
binary_small f (Some (rest, a, b)) h = keep_small rest (f a b) h.0
binary_small f None h = tt

unary_small : (f : ℤ → ℤ) (p : Option (Numbers × ℤ)) → SmallTop p → SmallOutcome (unary f p)
unary_small f (Some (rest, a)) h = keep_small rest (f a) h.0
unary_small f None h = tt

variable_small : (env : List ℤ) (k : ℕ) (s : Numbers) → AllSmall s → SmallOutcome (variable_of env k s)
unfolding variable_of
variable_small env k s h = go (ltb k (length env))
  where
    go : (t : Bool) → SmallOutcome (cond t (kept s (bounded (get_or env k (pos 0)))) (Err TermError.Malformed))
    go true = keep_small s (get_or env k (pos 0)) h
    go false = tt

operate_small : (env : List ℤ) (o : Operation) (s : Numbers) → AllSmall s → SmallOutcome (operate_of Mode.Values env o s)
operate_small env (Operation.Number n) s h = keep_small s (pos n) h
operate_small env (Operation.Variable k) s h = variable_small env k s h
operate_small env Operation.Add s h = binary_small ◌+ℤ◌ (pair_of s) (pair_small s h)
operate_small env Operation.Subtract s h = binary_small (difference_of Mode.Values) (pair_of s) (pair_small s h)
operate_small env Operation.Multiply s h = binary_small ◌*ℤ◌ (pair_of s) (pair_small s h)
operate_small env Operation.Negate s h = unary_small (opposite_of Mode.Values) (top_of s) (top_small s h)
operate_small env Operation.Unknown s h = tt

note_small : (s : Numbers) (t : ℕ) (b : Bool) → AllSmall s → SmallTrial (noted s t b)
unfolding noted
note_small s t b h = go (ltb t (2 ^ 62))
  where
    go : (u : Bool) → SmallTrial (cond u (Ok (s, t * 2 + digit b)) (Err TermError.Malformed))
    go true = h
    go false = tt

combine_small : (j : Joint) (s : Numbers) (t : ℕ) → AllSmall s → SmallTrial (combined j s t)
unfolding combined
combine_small j s t h = go (ltb t 4)
  where
    go : (u : Bool) → SmallTrial (cond u (Err TermError.Malformed) (noted s (t / 4) (joins j (eqb (t / 2 % 2) 1) (eqb (t % 2) 1))))
    go true = tt
    go false = note_small s (t / 4) (joins j (eqb (t / 2 % 2) 1) (eqb (t % 2) 1)) h

-- ---- one term

-- the same trial, and its numbers are within 2^62
abbrev Alike : Result (Numbers × ℕ) TermError → Result (Numbers × ℕ) TermError → Type 0
Alike r r' = (r ≡ r') × SmallTrial r'

test_top_lem : (p q : ℤ → Bool) → ((a : ℤ) → Small a → p a ≡ q a) → (k : Option (Numbers × ℤ)) (t : ℕ) → SmallTop k → Alike (test_top p k t) (test_top q k t)
test_top_lem p q f (Some (s, a)) t h = (ap (noted s t) (f a h.1), note_small s t (q a) h.0)
test_top_lem p q f None t h = (refl, tt)

test_pair_lem : (p q : ℤ → ℤ → Bool) → ((a b : ℤ) → Small a → Small b → p a b ≡ q a b) → (k : Option (Numbers × ℤ × ℤ)) (t : ℕ) → SmallPair k → Alike (test_pair p k t) (test_pair q k t)
test_pair_lem p q f (Some (s, a, b)) t h = (ap (noted s t) (f a b h.1 h.2), note_small s t (q a b) h.0)
test_pair_lem p q f None t h = (refl, tt)

module _ (env : List ℤ) (v : ℤ) where
  within_same : (a b : ℤ) → Small a → Small b → cond (le_z a (clamped v)) (le_z (clamped v) b) false ≡ cond (le_z a v) (le_z v b) false
  within_same a b h k = ap₂ (λ (x y : Bool). cond x y false) (from_same a v h) (up_to_same b v k)

  equal_same : (a : ℤ) → Small a → equals a (clamped v) ≡ equals a v
  unfolding equals
  equal_same a h = within_same a a h h

  part_alike : (o : Result Numbers TermError) (t : ℕ) → SmallOutcome o → Alike (after_of o t) (after_of o t)
  part_alike (Ok s) t h = (refl, h)
  part_alike (Err e) t h = (refl, tt)

  single_alike : (o : Result Numbers TermError) (t : ℕ) → SmallOutcome o → Alike (operated (clamped v) o t) (operated v o t)
  single_alike (Ok s) t h = test_top_lem (λ a. equals a (clamped v)) (λ a. equals a v) equal_same (top_of s) t (top_small s h)
  single_alike (Err e) t h = (refl, tt)

  step_alike : (x : Term) (s : Numbers) (t : ℕ) → AllSmall s → Alike (step_of Kind.Set Mode.Values env (clamped v) x s t) (step_of Kind.Set Mode.Values env v x s t)
  step_alike (Term.Part o) s t h = part_alike (operate_of Mode.Values env o s) t (operate_small env o s h)
  step_alike (Term.Single o) s t h = single_alike (operate_of Mode.Values env o s) t (operate_small env o s h)
  step_alike Term.All s t h = (refl, note_small s t true h)
  step_alike Term.Range s t h = test_pair_lem (λ a b. cond (le_z a (clamped v)) (le_z (clamped v) b) false) (λ a b. cond (le_z a v) (le_z v b) false) within_same (pair_of s) t (pair_small s h)
  step_alike Term.From s t h = test_top_lem (λ a. le_z a (clamped v)) (λ a. le_z a v) (λ a k. from_same a v k) (top_of s) t (top_small s h)
  step_alike Term.UpTo s t h = test_top_lem (λ b. le_z (clamped v) b) (λ b. le_z v b) (λ a k. up_to_same a v k) (top_of s) t (top_small s h)
  step_alike Term.Or s t h = (refl, combine_small Joint.Or s t h)
  step_alike Term.Except s t h = (refl, combine_small Joint.Except s t h)
  step_alike Term.And s t h = (refl, tt)
  step_alike (Term.Compare k) s t h = (refl, tt)
  step_alike Term.Bad s t h = (refl, tt)

  -- ---- a whole list

  next_same : (go go' : Numbers → ℕ → Ended) → ((s : Numbers) (t : ℕ) → AllSmall s → go s t ≡ go' s t) → (i : ℕ) (r : Result (Numbers × ℕ) TermError) → SmallTrial r → next go i r ≡ next go' i r
  next_same go go' f i (Ok (s, t)) h = f s t h
  next_same go go' f i (Err e) h = refl

  run_same : (xs : List Term) (i : ℕ) (s : Numbers) (t : ℕ) → AllSmall s → run Kind.Set Mode.Values env (clamped v) i xs s t ≡ run Kind.Set Mode.Values env v i xs s t
  unfolding run
  run_same [] i s t h = refl
  run_same (x ∷ xs) i s t h =
      let q = step_alike x s t h in
      ap (next (λ s' t'. run Kind.Set Mode.Values env (clamped v) (i + 1) xs s' t') i) q.0
      ∙ next_same (λ s' t'. run Kind.Set Mode.Values env (clamped v) (i + 1) xs s' t') (λ s' t'. run Kind.Set Mode.Values env v (i + 1) xs s' t') (λ s' t' k. run_same xs (i + 1) s' t' k) i (step_of Kind.Set Mode.Values env v x s t) q.1

  pub membership_clamped : (i : ℕ) (xs : List Term) → membership env (clamped v) i xs ≡ membership env v i xs
  unfolding membership
  membership_clamped i xs = ap (λ (e : Ended). verdict_of e.trial) (run_same xs i Numbers.Zero 1 tt)

-- all past 2^62 are alike, and all below −2^62
pub clamped_past : (n : ℕ) → 2 ^ 62 < n → clamped (pos n) ≡ pos (2 ^ 62 + 1)
unfolding clamped
clamped_past n h = rw (lt-leb n (2 ^ 62) h)

pub clamped_below : (n : ℕ) → 2 ^ 62 < suc n → clamped (negsuc n) ≡ negsuc (2 ^ 62)
unfolding clamped
clamped_below n h = rw (lt-leb (suc n) (2 ^ 62) h)

module _ (env : List ℤ) (i : ℕ) (xs : List Term) where
  pub membership_past : (m n : ℕ) → 2 ^ 62 < m → 2 ^ 62 < n → membership env (pos m) i xs ≡ membership env (pos n) i xs
  membership_past m n h k = sym (membership_clamped env (pos m) i xs) ∙ ap (λ (z : ℤ). membership env z i xs) (clamped_past m h ∙ sym (clamped_past n k)) ∙ membership_clamped env (pos n) i xs

  pub membership_below : (m n : ℕ) → 2 ^ 62 ≤ m → 2 ^ 62 ≤ n → membership env (negsuc m) i xs ≡ membership env (negsuc n) i xs
  membership_below m n h k = sym (membership_clamped env (negsuc m) i xs) ∙ ap (λ (z : ℤ). membership env z i xs) (clamped_below m (omega arith) ∙ sym (clamped_below n (omega arith))) ∙ membership_clamped env (negsuc n) i xs

-- ---- in code

-- −1 less a natural number
pub one_less : (n : ℕ) → negsuc 0 -ℤ pos n ≡ negsuc n
one_less zero = refl
one_less (suc n) = let e : suc (0 + n) ≡ suc n = omega arith in ap negsuc e

pub clamped_in : (z : ℤ) → nat_abs z ≤ 2 ^ 62 → clamped z ≡ z
unfolding clamped
clamped_in z h = rw (le-leb (nat_abs z) (2 ^ 62) h)

-- ---- of 62 bits and fewer, a value is itself

difference_small : (a b m : ℕ) → a ≤ m → b ≤ m → nat_abs (sub_ℕ a b) ≤ m
difference_small a b m h k = go (ltb a b) refl
  where
    go : (t : Bool) → ltb a b ≡ t → nat_abs (cond t (negsuc (b - suc a)) (pos (a - b))) ≤ m
    go true e = let l : a < b = ltb-true a b e in omega arith
    go false e = omega arith

pub clamped_narrow : (signed : Bool) (s : Bits) → length s ≤ 62 → clamped (pattern_value signed s) ≡ pattern_value signed s
clamped_narrow signed s h =
    let m : 2 ^ length s ≤ 2 ^ 62 = pow_mono {i = length s} {j = 62} h in
    let a : place signed s < 2 ^ length s = place_less signed s in
    let b : offset signed (length s) ≤ 2 ^ length s = offset_small signed (length s) in
    clamped_in (pattern_value signed s) (rw value_place (difference_small (place signed s) (offset signed (length s)) (2 ^ 62) (omega arith) (omega arith)))
