-- A list of terms that holds a tree comes to the tree's meaning, wherever it comes to an end.
-- Assumes nothing.
use Prim.Native.Nat.{ℕ, ◌+◌, ◌*◌}
use mathlib.Core.Path.{◌≡◌, refl, sym, ap, subst, ◌∙◌}
use mathlib.Core.Bool.{Bool, true, false, cond}
use mathlib.Core.List.{List, [], ◌∷◌, ◌++◌}
use lib.IntN.{ℤ, pos, neg_ℤ, ◌+ℤ◌, ◌-ℤ◌, ◌*ℤ◌}
use lib.Signed.{le_z}
use Rattle.basis.specs.Bits.{digit}
use Rattle.term_words.specs.Numbers.{equals, pushed, top_of, pair_of}
use Rattle.term_words.specs.Tests.{joins, combined}
use Rattle.term_words.specs.Steps.{binary, unary, operate_of, after_of, test_top, test_pair, compares, operated, step_of}
use Rattle.term_words.specs.declared.Joint.{Joint}
use Rattle.term_words.specs.declared.Kind.{Kind}
use Rattle.term_words.specs.declared.Mode.{Mode}
use Rattle.term_words.specs.declared.Numbers.{Numbers}
use Rattle.term_words.specs.declared.Operation.{Operation}
use Rattle.term_words.specs.declared.Term.{Term}
use Rattle.term_trees.specs.Trees.{Calculation, literal, use_of, plus, minus, times, opposite, value, ValueSet, everything, only, between, from, up_to, either, without, has, Condition, compare, both, any, true_at}
use Rattle.term_trees.specs.Postfix.{last_sign, before, calculation_terms, set_terms, condition_terms}
use Rattle.term_trees.proofs.Chains.{Good, ends, good_append, good_last, KeptAs, kept_as, variable_as, top_of_lem, pair_of_lem, Noted, noted_good, combined_good}
use Rattle.std.specs.Prelude.{Option, Some, Result, Ok, Err}
use Rattle.term_words.specs.declared.TermError.{TermError}

-- ---- calculations

-- what waits lets the last sign put z on the stack s
abbrev Ready : List ℤ → Operation → Numbers → ℕ → ℤ → Numbers → ℕ → Type 0
Ready env o s t z s' t' = (t' ≡ t) × KeptAs s z (operate_of Mode.Values env o s')

abbrev pub Put : Numbers → ℕ → ℤ → Numbers → ℕ → Type 0
Put s t z s' t' = (t' ≡ t) × (pushed s z ≡ Ok s')

abbrev pub Two : Numbers → ℕ → ℤ → ℤ → Numbers → ℕ → Type 0
Two s t a b s' t' = (t' ≡ t) × (pair_of s' ≡ Some (s, a, b))

mapped : (P Q : Numbers → ℕ → Type 0) (r : Result (Numbers × ℕ) TermError) → Good P r → ((s : Numbers) (t : ℕ) → P s t → Q s t) → Good Q r
mapped P Q (Ok (s, t)) g h = h s t g
mapped P Q (Err e) g h = tt

part_step : (k : Kind) (env : List ℤ) (v : ℤ) (o : Operation) (s : Numbers) (t : ℕ) → step_of k Mode.Values env v (Term.Part o) s t ≡ after_of (operate_of Mode.Values env o s) t
part_step Kind.Calculation env v o s t = refl
part_step Kind.Set env v o s t = refl
part_step Kind.Condition env v o s t = refl

after_put : (s : Numbers) (t t' : ℕ) (z : ℤ) (o : Result Numbers TermError) → t' ≡ t → KeptAs s z o → Good (Put s t z) (after_of o t')
after_put s t t' z (Ok s') e p = (e, p)
after_put s t t' z (Err error) e p = tt

module _ (k : Kind) (env : List ℤ) (v : ℤ) where
  put_from : (c : Calculation) (s : Numbers) (t : ℕ) → Good (Ready env (last_sign c) s t (value env c)) (ends k Mode.Values env v (before c) s t) → Good (Put s t (value env c)) (ends k Mode.Values env v (calculation_terms c) s t)
  put_from c s t r =
      good_last k Mode.Values env v (Ready env (last_sign c) s t (value env c)) (Put s t (value env c)) (before c) (Term.Part (last_sign c)) s t r
      (λ s' t' q. subst (Good (Put s t (value env c))) (sym (part_step k env v (last_sign c) s' t')) (after_put s t t' (value env c) (operate_of Mode.Values env (last_sign c) s') q.0 q.1))

  two_from : (a b : Calculation) → ((s : Numbers) (t : ℕ) → Good (Put s t (value env a)) (ends k Mode.Values env v (calculation_terms a) s t)) → ((s : Numbers) (t : ℕ) → Good (Put s t (value env b)) (ends k Mode.Values env v (calculation_terms b) s t)) → (s : Numbers) (t : ℕ) → Good (Two s t (value env a) (value env b)) (ends k Mode.Values env v (calculation_terms a ++ calculation_terms b) s t)
  two_from a b p q s t =
      good_append k Mode.Values env v (Put s t (value env a)) (Two s t (value env a) (value env b)) (calculation_terms a) (calculation_terms b) s t (p s t)
      (λ s' t' x. mapped (Put s' t' (value env b)) (Two s t (value env a) (value env b)) (ends k Mode.Values env v (calculation_terms b) s' t') (q s' t') (λ s'' t'' y. (y.0 ∙ x.0, pair_of_lem s s' s'' (value env a) (value env b) x.1 y.1)))

  binary_ready : (f : ℤ → ℤ → ℤ) (s s' : Numbers) (a b : ℤ) → pair_of s' ≡ Some (s, a, b) → KeptAs s (f a b) (binary f (pair_of s'))
  binary_ready f s s' a b e = subst (λ (p : Option (Numbers × ℤ × ℤ)). KeptAs s (f a b) (binary f p)) (sym e) (kept_as s (f a b))

  signed_ready : (f : ℤ → ℤ → ℤ) (o : Operation) (a b : Calculation) → ((s : Numbers) → operate_of Mode.Values env o s ≡ binary f (pair_of s)) → ((s : Numbers) (t : ℕ) → Good (Ready env (last_sign a) s t (value env a)) (ends k Mode.Values env v (before a) s t)) → ((s : Numbers) (t : ℕ) → Good (Ready env (last_sign b) s t (value env b)) (ends k Mode.Values env v (before b) s t)) → (s : Numbers) (t : ℕ) → Good (Ready env o s t (f (value env a) (value env b))) (ends k Mode.Values env v (calculation_terms a ++ calculation_terms b) s t)
  signed_ready f o a b w p q s t =
      mapped (Two s t (value env a) (value env b)) (Ready env o s t (f (value env a) (value env b))) (ends k Mode.Values env v (calculation_terms a ++ calculation_terms b) s t)
      (two_from a b (λ s' t'. put_from a s' t' (p s' t')) (λ s' t'. put_from b s' t' (q s' t')) s t)
      (λ s' t' x. (x.0, subst (KeptAs s (f (value env a) (value env b))) (sym (w s')) (binary_ready f s s' (value env a) (value env b) x.1)))

  opposite_ready : (s s' : Numbers) (a : ℤ) → pushed s a ≡ Ok s' → KeptAs s (neg_ℤ a) (unary neg_ℤ (top_of s'))
  opposite_ready s s' a e = subst (λ (p : Option (Numbers × ℤ)). KeptAs s (neg_ℤ a) (unary neg_ℤ p)) (sym (top_of_lem s s' a e)) (kept_as s (neg_ℤ a))

  ready : (c : Calculation) (s : Numbers) (t : ℕ) → Good (Ready env (last_sign c) s t (value env c)) (ends k Mode.Values env v (before c) s t)
  unfolding value before ends
  ready (literal n) s t = (refl, kept_as s (pos n))
  ready (use_of j) s t = (refl, variable_as env j s)
  ready (plus a b) s t = signed_ready ◌+ℤ◌ Operation.Add a b (λ s'. refl) (λ s' t'. ready a s' t') (λ s' t'. ready b s' t') s t
  ready (minus a b) s t = signed_ready ◌-ℤ◌ Operation.Subtract a b (λ s'. refl) (λ s' t'. ready a s' t') (λ s' t'. ready b s' t') s t
  ready (times a b) s t = signed_ready ◌*ℤ◌ Operation.Multiply a b (λ s'. refl) (λ s' t'. ready a s' t') (λ s' t'. ready b s' t') s t
  ready (opposite a) s t =
      mapped (Put s t (value env a)) (Ready env Operation.Negate s t (neg_ℤ (value env a))) (ends k Mode.Values env v (calculation_terms a) s t) (put_from a s t (ready a s t))
      (λ s' t' x. (x.0, opposite_ready s s' (value env a) x.1))

  pub calculation_ends : (c : Calculation) (s : Numbers) (t : ℕ) → Good (Put s t (value env c)) (ends k Mode.Values env v (calculation_terms c) s t)
  calculation_ends c s t = put_from c s t (ready c s t)

  pub two_ends : (a b : Calculation) (s : Numbers) (t : ℕ) → Good (Two s t (value env a) (value env b)) (ends k Mode.Values env v (calculation_terms a ++ calculation_terms b) s t)
  two_ends a b s t = two_from a b (calculation_ends a) (calculation_ends b) s t

  -- a test of one number, or of two, that wait
  top_noted : (q : ℤ → Bool) (s s' : Numbers) (t t' : ℕ) (a : ℤ) → t' ≡ t → pushed s a ≡ Ok s' → Good (Noted s t (q a)) (test_top q (top_of s') t')
  top_noted q s s' t t' a e p = rw (e, top_of_lem s s' a p) (noted_good s t (q a))

  pair_noted : (q : ℤ → ℤ → Bool) (s s' : Numbers) (t t' : ℕ) (a b : ℤ) → t' ≡ t → pair_of s' ≡ Some (s, a, b) → Good (Noted s t (q a b)) (test_pair q (pair_of s') t')
  pair_noted q s s' t t' a b e p = rw (e, p) (noted_good s t (q a b))

  -- two lists of tests, and the sign that joins them
  joined : (j : Joint) (x : Term) → ((s : Numbers) (t : ℕ) → step_of k Mode.Values env v x s t ≡ combined j s t) → (xs ys : List Term) (p q : Bool) → ((s : Numbers) (t : ℕ) → Good (Noted s t p) (ends k Mode.Values env v xs s t)) → ((s : Numbers) (t : ℕ) → Good (Noted s t q) (ends k Mode.Values env v ys s t)) → (s : Numbers) (t : ℕ) → Good (Noted s t (joins j p q)) (ends k Mode.Values env v ((xs ++ ys) ++ (x ∷ [])) s t)
  joined j x w xs ys p q g h s t =
      good_last k Mode.Values env v (λ (s' : Numbers) (t' : ℕ). (s' ≡ s) × (t' ≡ (t * 2 + digit p) * 2 + digit q)) (Noted s t (joins j p q)) (xs ++ ys) x s t
      (good_append k Mode.Values env v (Noted s t p) (λ (s' : Numbers) (t' : ℕ). (s' ≡ s) × (t' ≡ (t * 2 + digit p) * 2 + digit q)) xs ys s t (g s t)
      (λ s' t' a. mapped (Noted s' t' q) (λ (s'' : Numbers) (t'' : ℕ). (s'' ≡ s) × (t'' ≡ (t * 2 + digit p) * 2 + digit q)) (ends k Mode.Values env v ys s' t') (h s' t') (λ s'' t'' b. (b.0 ∙ a.0, b.1 ∙ ap (λ (n : ℕ). n * 2 + digit q) a.1))))
      (λ s' t' a. subst (Good (Noted s t (joins j p q))) (sym (w s' t' ∙ ap (λ (r : Numbers). combined j r t') a.0 ∙ ap (combined j s) a.1)) (combined_good j s t p q))

-- ---- sets

single_noted : (v : ℤ) (s : Numbers) (t t' : ℕ) (a : ℤ) (o : Result Numbers TermError) → t' ≡ t → KeptAs s a o → Good (Noted s t (equals a v)) (operated v o t')
single_noted v s t t' a (Ok s') e p = rw (e, top_of_lem s s' a p) (noted_good s t (equals a v))
single_noted v s t t' a (Err error) e p = tt

module _ (env : List ℤ) (v : ℤ) where
  start : (s : Numbers) (t : ℕ) → Good (λ (s' : Numbers) (t' : ℕ). (s' ≡ s) × (t' ≡ t)) (ends Kind.Set Mode.Values env v [] s t)
  unfolding ends
  start s t = (refl, refl)

  pub set_ends : (x : ValueSet) (s : Numbers) (t : ℕ) → Good (Noted s t (has env x v)) (ends Kind.Set Mode.Values env v (set_terms x) s t)
  unfolding has set_terms
  set_ends everything s t = good_last Kind.Set Mode.Values env v (λ (s' : Numbers) (t' : ℕ). (s' ≡ s) × (t' ≡ t)) (Noted s t true) [] Term.All s t (start s t) (λ s' t' q. rw (q.0, q.1) (noted_good s t true))
  set_ends (only a) s t =
      good_last Kind.Set Mode.Values env v (Ready env (last_sign a) s t (value env a)) (Noted s t (equals (value env a) v)) (before a) (Term.Single (last_sign a)) s t (ready Kind.Set env v a s t)
      (λ s' t' q. single_noted v s t t' (value env a) (operate_of Mode.Values env (last_sign a) s') q.0 q.1)
  set_ends (between a b) s t =
      good_last Kind.Set Mode.Values env v (Two s t (value env a) (value env b)) (Noted s t (has env (between a b) v)) (calculation_terms a ++ calculation_terms b) Term.Range s t (two_ends Kind.Set env v a b s t)
      (λ s' t' q. pair_noted Kind.Set env v (λ (x y : ℤ). cond (le_z x v) (le_z v y) false) s s' t t' (value env a) (value env b) q.0 q.1)
  set_ends (from a) s t =
      good_last Kind.Set Mode.Values env v (Put s t (value env a)) (Noted s t (le_z (value env a) v)) (calculation_terms a) Term.From s t (calculation_ends Kind.Set env v a s t)
      (λ s' t' q. top_noted Kind.Set env v (λ (x : ℤ). le_z x v) s s' t t' (value env a) q.0 q.1)
  set_ends (up_to b) s t =
      good_last Kind.Set Mode.Values env v (Put s t (value env b)) (Noted s t (le_z v (value env b))) (calculation_terms b) Term.UpTo s t (calculation_ends Kind.Set env v b s t)
      (λ s' t' q. top_noted Kind.Set env v (λ (x : ℤ). le_z v x) s s' t t' (value env b) q.0 q.1)
  set_ends (either x y) s t = joined Kind.Set env v Joint.Or Term.Or (λ s' t'. refl) (set_terms x) (set_terms y) (has env x v) (has env y v) (λ s' t'. set_ends x s' t') (λ s' t'. set_ends y s' t') s t
  set_ends (without x y) s t = joined Kind.Set env v Joint.Except Term.Except (λ s' t'. refl) (set_terms x) (set_terms y) (has env x v) (has env y v) (λ s' t'. set_ends x s' t') (λ s' t'. set_ends y s' t') s t

  -- ---- conditions

  pub condition_ends : (x : Condition) (s : Numbers) (t : ℕ) → Good (Noted s t (true_at env x)) (ends Kind.Condition Mode.Values env v (condition_terms x) s t)
  unfolding true_at condition_terms
  condition_ends (compare k a b) s t =
      good_last Kind.Condition Mode.Values env v (Two s t (value env a) (value env b)) (Noted s t (compares k (value env a) (value env b))) (calculation_terms a ++ calculation_terms b) (Term.Compare k) s t (two_ends Kind.Condition env v a b s t)
      (λ s' t' q. pair_noted Kind.Condition env v (compares k) s s' t t' (value env a) (value env b) q.0 q.1)
  condition_ends (both x y) s t = joined Kind.Condition env v Joint.And Term.And (λ s' t'. refl) (condition_terms x) (condition_terms y) (true_at env x) (true_at env y) (λ s' t'. condition_ends x s' t') (λ s' t'. condition_ends y s' t') s t
  condition_ends (any x y) s t = joined Kind.Condition env v Joint.Or Term.Or (λ s' t'. refl) (condition_terms x) (condition_terms y) (true_at env x) (true_at env y) (λ s' t'. condition_ends x s' t') (λ s' t'. condition_ends y s' t') s t
