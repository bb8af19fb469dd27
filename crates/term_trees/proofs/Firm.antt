-- A list of terms that holds a tree with room is never malformed, whether values or sizes are worked out.
-- Assumes nothing.
use Prim.Native.Nat.{ℕ, suc, ◌*◌, ◌/◌, ◌%◌, ◌^◌, ◌≤◌, ◌<◌}
use mathlib.Core.Path.{◌≡◌, refl, sym, ap, subst, ◌∙◌}
use mathlib.Core.Bool.{Bool, true, false}
use mathlib.Core.List.{List, [], ◌∷◌, ◌++◌}
use native.Mathlib.Omega.{arith}
use native.Mathlib.Nat.{pow-succ'}
use borrow.Author.Tests.{lt-ltb, le-ltb, leb-true, leb-false}
use lib.Dec.{leb, eqb}
use lib.IntN.{ℤ, pos, nat_abs, ◌+ℤ◌, ◌*ℤ◌}
use lib.ListN.{length, get_or}
use lib.Pow.{pow_pos, pow_mono}
use Rattle.basis.specs.Bits.{digit}
use Rattle.basis.proofs.Values.{digit_most}
use Rattle.term_integers.proofs.Laws.{bounded_in, bounded_out}
use Rattle.term_words.specs.Numbers.{bounded, difference_of, opposite_of, pushed, kept, top_of, pair_of}
use Rattle.term_words.specs.Tests.{noted, joins, combined}
use Rattle.term_words.specs.Steps.{variable_of, binary, unary, operate_of, after_of, test_top, test_pair, operated, compares, step_of}
use Rattle.term_words.specs.declared.Joint.{Joint}
use Rattle.term_words.specs.declared.Kind.{Kind}
use Rattle.term_words.specs.declared.Mode.{Mode}
use Rattle.term_words.specs.declared.Numbers.{Numbers}
use Rattle.term_words.specs.declared.Operation.{Operation}
use Rattle.term_words.specs.declared.Term.{Term}
use Rattle.term_trees.specs.Trees.{Calculation, literal, use_of, plus, minus, times, opposite, ValueSet, everything, only, between, from, up_to, either, without, Condition, compare, both, any}
use Rattle.term_trees.specs.Postfix.{last_sign, before, calculation_terms, set_terms, condition_terms}
use Rattle.term_trees.specs.Rooms.{Room, SetRoom, ConditionRoom}
use Rattle.term_trees.proofs.Chains.{chain, ends, ends_append}
use Rattle.std.specs.Prelude.{Result, Ok, Err}
use Rattle.term_words.specs.declared.TermError.{TermError}

-- ---- a list that is not malformed

abbrev pub Firm : (Numbers → ℕ → Type 0) → Result (Numbers × ℕ) TermError → Type 0
Firm P (Ok (s, t)) = P s t
Firm P (Err TermError.Malformed) = ⊥
Firm P (Err TermError.Overflow) = Unit {0}

abbrev pub FirmStack : (Numbers → Type 0) → Result Numbers TermError → Type 0
FirmStack P (Ok s) = P s
FirmStack P (Err TermError.Malformed) = ⊥
FirmStack P (Err TermError.Overflow) = Unit {0}

firm_chain : (P Q : Numbers → ℕ → Type 0) (go : Numbers → ℕ → Result (Numbers × ℕ) TermError) (r : Result (Numbers × ℕ) TermError) → Firm P r → ((s : Numbers) (t : ℕ) → P s t → Firm Q (go s t)) → Firm Q (chain go r)
firm_chain P Q go (Ok (s, t)) p h = h s t p
firm_chain P Q go (Err TermError.Malformed) p h = p
firm_chain P Q go (Err TermError.Overflow) p h = tt

firm_map : (P Q : Numbers → ℕ → Type 0) (r : Result (Numbers × ℕ) TermError) → Firm P r → ((s : Numbers) (t : ℕ) → P s t → Q s t) → Firm Q r
firm_map P Q (Ok (s, t)) p h = h s t p
firm_map P Q (Err TermError.Malformed) p h = p
firm_map P Q (Err TermError.Overflow) p h = tt

-- ---- how many numbers wait

abbrev pub count : Numbers → ℕ
count Numbers.Zero = 0
count (Numbers.One a) = 1
count (Numbers.Two a b) = 2
count (Numbers.Three a b c) = 3
count (Numbers.Four a b c d) = 4

pushed_firm : (s : Numbers) (z : ℤ) (n : ℕ) → count s ≡ n → n < 4 → FirmStack (λ s'. count s' ≡ suc n) (pushed s z)
pushed_firm Numbers.Zero z n e h = ap suc e
pushed_firm (Numbers.One a) z n e h = ap suc e
pushed_firm (Numbers.Two a b) z n e h = ap suc e
pushed_firm (Numbers.Three a b c) z n e h = ap suc e
pushed_firm (Numbers.Four a b c d) z n e h = omega arith

kept_firm : (s : Numbers) (z : ℤ) (n : ℕ) → count s ≡ n → n < 4 → FirmStack (λ s'. count s' ≡ suc n) (kept s (bounded z))
kept_firm s z n e h = go (leb (nat_abs z) (2 ^ 62)) refl
  where
    go : (b : Bool) → leb (nat_abs z) (2 ^ 62) ≡ b → FirmStack (λ s'. count s' ≡ suc n) (kept s (bounded z))
    go true k = rw (bounded_in z (leb-true (nat_abs z) (2 ^ 62) k)) (pushed_firm s z n e h)
    go false k = rw (bounded_out z (leb-false (nat_abs z) (2 ^ 62) k)) tt

binary_firm : (f : ℤ → ℤ → ℤ) (s : Numbers) (n : ℕ) → count s ≡ suc (suc n) → FirmStack (λ s'. count s' ≡ suc n) (binary f (pair_of s))
binary_firm f Numbers.Zero n e = omega arith
binary_firm f (Numbers.One a) n e = omega arith
binary_firm f (Numbers.Two a b) n e = kept_firm Numbers.Zero (f a b) n (omega arith) (omega arith)
binary_firm f (Numbers.Three a b c) n e = kept_firm (Numbers.One a) (f b c) n (omega arith) (omega arith)
binary_firm f (Numbers.Four a b c d) n e = kept_firm (Numbers.Two a b) (f c d) n (omega arith) (omega arith)

unary_firm : (f : ℤ → ℤ) (s : Numbers) (n : ℕ) → count s ≡ suc n → FirmStack (λ s'. count s' ≡ suc n) (unary f (top_of s))
unary_firm f Numbers.Zero n e = omega arith
unary_firm f (Numbers.One a) n e = kept_firm Numbers.Zero (f a) n (omega arith) (omega arith)
unary_firm f (Numbers.Two a b) n e = kept_firm (Numbers.One a) (f b) n (omega arith) (omega arith)
unary_firm f (Numbers.Three a b c) n e = kept_firm (Numbers.Two a b) (f c) n (omega arith) (omega arith)
unary_firm f (Numbers.Four a b c d) n e = kept_firm (Numbers.Three a b c) (f d) n (omega arith) (omega arith)

variable_firm : (env : List ℤ) (k : ℕ) (s : Numbers) (n : ℕ) → count s ≡ n → n < 4 → k < length env → FirmStack (λ s'. count s' ≡ suc n) (variable_of env k s)
unfolding variable_of
variable_firm env k s n e h l = rw (lt-ltb k (length env) l) (kept_firm s (get_or env k (pos 0)) n e h)

after_firm : (o : Result Numbers TermError) (n t : ℕ) → FirmStack (λ s'. count s' ≡ suc n) o → Firm (λ s' t'. (count s' ≡ suc n) × (t' ≡ t)) (after_of o t)
after_firm (Ok s) n t p = (p, refl)
after_firm (Err TermError.Malformed) n t p = p
after_firm (Err TermError.Overflow) n t p = tt

part_is : (k : Kind) (m : Mode) (env : List ℤ) (v : ℤ) (o : Operation) (s : Numbers) (t : ℕ) → step_of k m env v (Term.Part o) s t ≡ after_of (operate_of m env o s) t
part_is Kind.Calculation m env v o s t = refl
part_is Kind.Set m env v o s t = refl
part_is Kind.Condition m env v o s t = refl

-- ---- how many tests wait

abbrev pub Depth : ℕ → ℕ → Type 0
Depth d t = (2 ^ d ≤ t) × (t < 2 ^ suc d)

-- what a test leaves: so many numbers, and one test more than d
abbrev pub Leaves : ℕ → ℕ → Numbers → ℕ → Type 0
Leaves n d s t = (count s ≡ n) × Depth (suc d) t

noted_firm : (s : Numbers) (t : ℕ) (b : Bool) (n d : ℕ) → count s ≡ n → Depth d t → d < 62 → Firm (Leaves n d) (noted s t b)
unfolding noted
noted_firm s t b n d e h k =
    let a : 2 ^ suc d ≤ 2 ^ 62 = pow_mono k in
    let l : 2 ^ d ≤ t = h.0 in
    let m : t < 2 ^ suc d = h.1 in
    let p : 2 ^ suc d ≡ 2 * 2 ^ d = pow-succ' 2 d in
    let q : 2 ^ suc (suc d) ≡ 2 * 2 ^ suc d = pow-succ' 2 (suc d) in
    let o : digit b ≤ 1 = digit_most b in
    rw (lt-ltb t (2 ^ 62) (omega arith)) (e, (omega arith, omega arith))

combined_firm : (j : Joint) (s : Numbers) (t n d : ℕ) → count s ≡ n → Depth (suc (suc d)) t → d < 62 → Firm (Leaves n d) (combined j s t)
unfolding combined
combined_firm j s t n d e h k =
    let l : 2 ^ suc (suc d) ≤ t = h.0 in
    let m : t < 2 ^ suc (suc (suc d)) = h.1 in
    let p : 2 ^ suc d ≡ 2 * 2 ^ d = pow-succ' 2 d in
    let q : 2 ^ suc (suc d) ≡ 2 * 2 ^ suc d = pow-succ' 2 (suc d) in
    let r : 2 ^ suc (suc (suc d)) ≡ 2 * 2 ^ suc (suc d) = pow-succ' 2 (suc (suc d)) in
    let o : 1 ≤ 2 ^ d = pow_pos d in
    let f : 4 ≤ t = omega arith in
    rw (le-ltb t 4 f) (noted_firm s (t / 4) (joins j (eqb (t / 2 % 2) 1) (eqb (t % 2) 1)) n d e (omega arith, omega arith) k)

top_firm : (q : ℤ → Bool) (s : Numbers) (t n d : ℕ) → count s ≡ suc n → Depth d t → d < 62 → Firm (Leaves n d) (test_top q (top_of s) t)
top_firm q Numbers.Zero t n d e h k = omega arith
top_firm q (Numbers.One a) t n d e h k = noted_firm Numbers.Zero t (q a) n d (omega arith) h k
top_firm q (Numbers.Two a b) t n d e h k = noted_firm (Numbers.One a) t (q b) n d (omega arith) h k
top_firm q (Numbers.Three a b c) t n d e h k = noted_firm (Numbers.Two a b) t (q c) n d (omega arith) h k
top_firm q (Numbers.Four a b c x) t n d e h k = noted_firm (Numbers.Three a b c) t (q x) n d (omega arith) h k

pair_firm : (q : ℤ → ℤ → Bool) (s : Numbers) (t n d : ℕ) → count s ≡ suc (suc n) → Depth d t → d < 62 → Firm (Leaves n d) (test_pair q (pair_of s) t)
pair_firm q Numbers.Zero t n d e h k = omega arith
pair_firm q (Numbers.One a) t n d e h k = omega arith
pair_firm q (Numbers.Two a b) t n d e h k = noted_firm Numbers.Zero t (q a b) n d (omega arith) h k
pair_firm q (Numbers.Three a b c) t n d e h k = noted_firm (Numbers.One a) t (q b c) n d (omega arith) h k
pair_firm q (Numbers.Four a b c x) t n d e h k = noted_firm (Numbers.Two a b) t (q c x) n d (omega arith) h k

item_firm : (v : ℤ) (o : Result Numbers TermError) (t n d : ℕ) → FirmStack (λ s'. count s' ≡ suc n) o → Depth d t → d < 62 → Firm (Leaves n d) (operated v o t)
item_firm v (Ok s) t n d p h k = top_firm _ s t n d p h k
item_firm v (Err TermError.Malformed) t n d p h k = p
item_firm v (Err TermError.Overflow) t n d p h k = tt

-- ---- calculations

module _ (k : Kind) (m : Mode) (env : List ℤ) (v : ℤ) where
  firm_append : (P Q : Numbers → ℕ → Type 0) (xs ys : List Term) (s : Numbers) (t : ℕ) → Firm P (ends k m env v xs s t) → ((s' : Numbers) (t' : ℕ) → P s' t' → Firm Q (ends k m env v ys s' t')) → Firm Q (ends k m env v (xs ++ ys) s t)
  firm_append P Q xs ys s t p h = subst (Firm Q) (sym (ends_append k m env v xs ys s t)) (firm_chain P Q (λ (s' : Numbers) (t' : ℕ). ends k m env v ys s' t') (ends k m env v xs s t) p h)

  firm_last : (P Q : Numbers → ℕ → Type 0) (xs : List Term) (x : Term) (s : Numbers) (t : ℕ) → Firm P (ends k m env v xs s t) → ((s' : Numbers) (t' : ℕ) → P s' t' → Firm Q (step_of k m env v x s' t')) → Firm Q (ends k m env v (xs ++ (x ∷ [])) s t)
  unfolding ends
  firm_last P Q xs x s t p h = firm_append P Q xs (x ∷ []) s t p (λ s' t' q. firm_chain Q Q (λ (s'' : Numbers) (t'' : ℕ). Ok (s'', t'')) (step_of k m env v x s' t') (h s' t' q) (λ s'' t'' r. r))

  -- so many numbers wait, and the same tests
  abbrev pub Wait : ℕ → ℕ → Numbers → ℕ → Type 0
  Wait n t s' t' = (count s' ≡ n) × (t' ≡ t)

  abbrev Apt : Operation → ℕ → ℕ → Numbers → ℕ → Type 0
  Apt o n t s' t' = FirmStack (λ s''. count s'' ≡ suc n) (operate_of m env o s') × (t' ≡ t)

  put_firm : (c : Calculation) (n : ℕ) (s : Numbers) (t : ℕ) → Firm (Apt (last_sign c) n t) (ends k m env v (before c) s t) → Firm (Wait (suc n) t) (ends k m env v (calculation_terms c) s t)
  put_firm c n s t p =
      firm_last (Apt (last_sign c) n t) (Wait (suc n) t) (before c) (Term.Part (last_sign c)) s t p
      (λ s' t' q. rw (part_is k m env v (last_sign c) s' t', q.1) (after_firm (operate_of m env (last_sign c) s') n t q.0))

  two_firm : (a b : Calculation) (n : ℕ) (s : Numbers) (t : ℕ) → Firm (Apt (last_sign a) n t) (ends k m env v (before a) s t) → ((s' : Numbers) (t' : ℕ) → count s' ≡ suc n → Firm (Apt (last_sign b) (suc n) t') (ends k m env v (before b) s' t')) → Firm (Wait (suc (suc n)) t) (ends k m env v (calculation_terms a ++ calculation_terms b) s t)
  two_firm a b n s t p q =
      firm_append (Wait (suc n) t) (Wait (suc (suc n)) t) (calculation_terms a) (calculation_terms b) s t (put_firm a n s t p)
      (λ s' t' w. firm_map (Wait (suc (suc n)) t') (Wait (suc (suc n)) t) (ends k m env v (calculation_terms b) s' t') (put_firm b (suc n) s' t' (q s' t' w.0)) (λ s'' t'' z. (z.0, z.1 ∙ w.1)))

  apt : (c : Calculation) (n : ℕ) (s : Numbers) (t : ℕ) → Room (length env) c n → count s ≡ n → Firm (Apt (last_sign c) n t) (ends k m env v (before c) s t)
  unfolding before ends
  apt (literal l) n s t r e = (kept_firm s (pos l) n e r, refl)
  apt (use_of j) n s t r e = (variable_firm env j s n e r.0 r.1, refl)
  apt (plus a b) n s t r e = firm_map (Wait (suc (suc n)) t) (Apt Operation.Add n t) (ends k m env v (calculation_terms a ++ calculation_terms b) s t) (two_firm a b n s t (apt a n s t r.0 e) (λ s' t' w. apt b (suc n) s' t' r.1 w)) (λ s' t' w. (binary_firm ◌+ℤ◌ s' n w.0, w.1))
  apt (minus a b) n s t r e = firm_map (Wait (suc (suc n)) t) (Apt Operation.Subtract n t) (ends k m env v (calculation_terms a ++ calculation_terms b) s t) (two_firm a b n s t (apt a n s t r.0 e) (λ s' t' w. apt b (suc n) s' t' r.1 w)) (λ s' t' w. (binary_firm (difference_of m) s' n w.0, w.1))
  apt (times a b) n s t r e = firm_map (Wait (suc (suc n)) t) (Apt Operation.Multiply n t) (ends k m env v (calculation_terms a ++ calculation_terms b) s t) (two_firm a b n s t (apt a n s t r.0 e) (λ s' t' w. apt b (suc n) s' t' r.1 w)) (λ s' t' w. (binary_firm ◌*ℤ◌ s' n w.0, w.1))
  apt (opposite a) n s t r e = firm_map (Wait (suc n) t) (Apt Operation.Negate n t) (ends k m env v (calculation_terms a) s t) (put_firm a n s t (apt a n s t r e)) (λ s' t' w. (unary_firm (opposite_of m) s' n w.0, w.1))

  pub calculation_firm : (c : Calculation) (n : ℕ) (s : Numbers) (t : ℕ) → Room (length env) c n → count s ≡ n → Firm (Wait (suc n) t) (ends k m env v (calculation_terms c) s t)
  calculation_firm c n s t r e = put_firm c n s t (apt c n s t r e)

  pair_ready : (a b : Calculation) (s : Numbers) (t : ℕ) → Room (length env) a 0 → Room (length env) b 1 → count s ≡ 0 → Firm (Wait 2 t) (ends k m env v (calculation_terms a ++ calculation_terms b) s t)
  pair_ready a b s t p q e = two_firm a b 0 s t (apt a 0 s t p e) (λ s' t' w. apt b 1 s' t' q w)

  -- two lists of tests, and the sign that joins them
  joined_firm : (j : Joint) (x : Term) → ((s : Numbers) (t : ℕ) → step_of k m env v x s t ≡ combined j s t) → (xs ys : List Term) (d : ℕ) → d < 62 → ((s : Numbers) (t : ℕ) → count s ≡ 0 → Depth d t → Firm (Leaves 0 d) (ends k m env v xs s t)) → ((s : Numbers) (t : ℕ) → count s ≡ 0 → Depth (suc d) t → Firm (Leaves 0 (suc d)) (ends k m env v ys s t)) → (s : Numbers) (t : ℕ) → count s ≡ 0 → Depth d t → Firm (Leaves 0 d) (ends k m env v ((xs ++ ys) ++ (x ∷ [])) s t)
  joined_firm j x w xs ys d l g h s t e p =
      firm_last (Leaves 0 (suc d)) (Leaves 0 d) (xs ++ ys) x s t
      (firm_append (Leaves 0 d) (Leaves 0 (suc d)) xs ys s t (g s t e p) (λ s' t' q. h s' t' q.0 q.1))
      (λ s' t' q. rw (w s' t') (combined_firm j s' t' 0 d q.0 q.1 l))

-- ---- sets and conditions

set_less : (vars : ℕ) (x : ValueSet) (d : ℕ) → SetRoom vars x d → d < 62
set_less vars everything d r = r
set_less vars (only a) d r = r.1
set_less vars (between a b) d r = r.2
set_less vars (from a) d r = r.1
set_less vars (up_to b) d r = r.1
set_less vars (either x y) d r = set_less vars x d r.0
set_less vars (without x y) d r = set_less vars x d r.0

condition_less : (vars : ℕ) (x : Condition) (d : ℕ) → ConditionRoom vars x d → d < 62
condition_less vars (compare k a b) d r = r.2
condition_less vars (both x y) d r = condition_less vars x d r.0
condition_less vars (any x y) d r = condition_less vars x d r.0

module _ (m : Mode) (env : List ℤ) (v : ℤ) where
  -- after a calculation, or two, a sign that tests them
  tested_firm : (k : Kind) (xs : List Term) (x : Term) (n d : ℕ) (s : Numbers) (t : ℕ) → Depth d t → Firm (Wait k m env v n t) (ends k m env v xs s t) → ((s' : Numbers) → count s' ≡ n → Firm (Leaves 0 d) (step_of k m env v x s' t)) → Firm (Leaves 0 d) (ends k m env v (xs ++ (x ∷ [])) s t)
  tested_firm k xs x n d s t h p q = firm_last k m env v (Wait k m env v n t) (Leaves 0 d) xs x s t p (λ s' t' w. rw w.1 (q s' w.0))

  nothing : (s : Numbers) (t : ℕ) → count s ≡ 0 → Firm (Wait Kind.Set m env v 0 t) (ends Kind.Set m env v [] s t)
  unfolding ends
  nothing s t e = (e, refl)

  pub set_firm : (x : ValueSet) (d : ℕ) → SetRoom (length env) x d → (s : Numbers) (t : ℕ) → count s ≡ 0 → Depth d t → Firm (Leaves 0 d) (ends Kind.Set m env v (set_terms x) s t)
  unfolding set_terms
  set_firm everything d r s t e h = tested_firm Kind.Set [] Term.All 0 d s t h (nothing s t e) (λ s' w. noted_firm s' t true 0 d w h r)
  set_firm (only a) d r s t e h = firm_last Kind.Set m env v (Apt Kind.Set m env v (last_sign a) 0 t) (Leaves 0 d) (before a) (Term.Single (last_sign a)) s t (apt Kind.Set m env v a 0 s t r.0 e) (λ s' t' w. rw w.1 (item_firm v (operate_of m env (last_sign a) s') t 0 d w.0 h r.1))
  set_firm (between a b) d r s t e h = tested_firm Kind.Set (calculation_terms a ++ calculation_terms b) Term.Range 2 d s t h (pair_ready Kind.Set m env v a b s t r.0 r.1 e) (λ s' w. pair_firm _ s' t 0 d w h r.2)
  set_firm (from a) d r s t e h = tested_firm Kind.Set (calculation_terms a) Term.From 1 d s t h (calculation_firm Kind.Set m env v a 0 s t r.0 e) (λ s' w. top_firm _ s' t 0 d w h r.1)
  set_firm (up_to b) d r s t e h = tested_firm Kind.Set (calculation_terms b) Term.UpTo 1 d s t h (calculation_firm Kind.Set m env v b 0 s t r.0 e) (λ s' w. top_firm _ s' t 0 d w h r.1)
  set_firm (either x y) d r s t e h = joined_firm Kind.Set m env v Joint.Or Term.Or (λ s' t'. refl) (set_terms x) (set_terms y) d (set_less (length env) x d r.0) (set_firm x d r.0) (set_firm y (suc d) r.1) s t e h
  set_firm (without x y) d r s t e h = joined_firm Kind.Set m env v Joint.Except Term.Except (λ s' t'. refl) (set_terms x) (set_terms y) d (set_less (length env) x d r.0) (set_firm x d r.0) (set_firm y (suc d) r.1) s t e h

  pub condition_firm : (x : Condition) (d : ℕ) → ConditionRoom (length env) x d → (s : Numbers) (t : ℕ) → count s ≡ 0 → Depth d t → Firm (Leaves 0 d) (ends Kind.Condition m env v (condition_terms x) s t)
  unfolding condition_terms
  condition_firm (compare k a b) d r s t e h = tested_firm Kind.Condition (calculation_terms a ++ calculation_terms b) (Term.Compare k) 2 d s t h (pair_ready Kind.Condition m env v a b s t r.0 r.1 e) (λ s' w. pair_firm (compares k) s' t 0 d w h r.2)
  condition_firm (both x y) d r s t e h = joined_firm Kind.Condition m env v Joint.And Term.And (λ s' t'. refl) (condition_terms x) (condition_terms y) d (condition_less (length env) x d r.0) (condition_firm x d r.0) (condition_firm y (suc d) r.1) s t e h
  condition_firm (any x y) d r s t e h = joined_firm Kind.Condition m env v Joint.Or Term.Or (λ s' t'. refl) (condition_terms x) (condition_terms y) d (condition_less (length env) x d r.0) (condition_firm x d r.0) (condition_firm y (suc d) r.1) s t e h
