-- A list of terms none of whose calculations, nor any part of one, passes 2^62 in size is worked out in sizes without passing it.
-- Assumes nothing.
use Prim.Native.Nat.{ℕ, ◌^◌, ◌≤◌}
use mathlib.Core.Path.{◌≡◌, refl, sym, subst, ◌∙◌}
use mathlib.Core.Bool.{Bool, true, false, cond}
use mathlib.Core.List.{List, [], ◌∷◌, ◌++◌}
use native.Mathlib.Omega.{arith}
use lib.Dec.{ltb, eqb}
use lib.IntN.{ℤ, pos, nat_abs, ◌+ℤ◌, ◌*ℤ◌}
use lib.ListN.{length, get_or}
use lib.Signed.{le_z}
use Rattle.term_integers.proofs.Laws.{bounded_in}
use Rattle.term_words.specs.Numbers.{bounded, equals, pushed, kept, top_of, pair_of}
use Rattle.term_words.specs.Tests.{noted, combined}
use Rattle.term_words.specs.Steps.{variable_of, binary, unary, operate_of, after_of, test_top, test_pair, operated, compares, step_of}
use Rattle.term_words.specs.declared.Joint.{Joint}
use Rattle.term_words.specs.declared.Kind.{Kind}
use Rattle.term_words.specs.declared.Mode.{Mode}
use Rattle.term_words.specs.declared.Numbers.{Numbers}
use Rattle.term_words.specs.declared.Operation.{Operation}
use Rattle.term_words.specs.declared.Term.{Term}
use Rattle.term_evaluation.specs.Meaning.{run, last_of, verdict_of}
use Rattle.term_sizes.specs.Sizes.{of_tested, sizes}
use Rattle.term_trees.specs.Trees.{Calculation, literal, use_of, plus, minus, times, opposite, ValueSet, everything, only, between, from, up_to, either, without, Condition, compare, both, any}
use Rattle.term_trees.specs.Postfix.{last_sign, before, calculation_terms, set_terms, condition_terms}
use Rattle.term_trees.proofs.Chains.{chain, ends, run_ends, ends_append, top_of_lem, pair_of_lem}
use Rattle.std.specs.Prelude.{Option, Some, None, Result, Ok, Err}
use Rattle.term_words.specs.declared.TermError.{TermError}
use Rattle.term_sizes.specs.declared.SizeError.{SizeError}

-- ---- sizes of a tree of terms

unfoldable pub size_of : List ℤ → Calculation → ℤ
size_of w (literal n) = pos n
size_of w (use_of k) = get_or w k (pos 0)
size_of w (plus a b) = size_of w a +ℤ size_of w b
size_of w (minus a b) = size_of w a +ℤ size_of w b
size_of w (times a b) = size_of w a *ℤ size_of w b
size_of w (opposite a) = size_of w a

-- no part of it passes 2^62
unfoldable pub Small : List ℤ → Calculation → Type 0
unfolding size_of
Small w (literal n) = nat_abs (pos n) ≤ 2 ^ 62
Small w (use_of k) = nat_abs (get_or w k (pos 0)) ≤ 2 ^ 62
Small w (plus a b) = Small w a × Small w b × (nat_abs (size_of w a +ℤ size_of w b) ≤ 2 ^ 62)
Small w (minus a b) = Small w a × Small w b × (nat_abs (size_of w a +ℤ size_of w b) ≤ 2 ^ 62)
Small w (times a b) = Small w a × Small w b × (nat_abs (size_of w a *ℤ size_of w b) ≤ 2 ^ 62)
Small w (opposite a) = Small w a × (nat_abs (size_of w a) ≤ 2 ^ 62)

unfoldable pub SmallSet : List ℤ → ValueSet → Type 0
SmallSet w everything = Unit {0}
SmallSet w (only a) = Small w a
SmallSet w (between a b) = Small w a × Small w b
SmallSet w (from a) = Small w a
SmallSet w (up_to b) = Small w b
SmallSet w (either x y) = SmallSet w x × SmallSet w y
SmallSet w (without x y) = SmallSet w x × SmallSet w y

unfoldable pub SmallCondition : List ℤ → Condition → Type 0
SmallCondition w (compare k a b) = Small w a × Small w b
SmallCondition w (both x y) = SmallCondition w x × SmallCondition w y
SmallCondition w (any x y) = SmallCondition w x × SmallCondition w y

-- ---- a list that does not leave 2^62

abbrev pub Calm : (Numbers → ℕ → Type 0) → Result (Numbers × ℕ) TermError → Type 0
Calm P (Ok (s, t)) = P s t
Calm P (Err TermError.Malformed) = Unit {0}
Calm P (Err TermError.Overflow) = ⊥

calm_chain : (P Q : Numbers → ℕ → Type 0) (go : Numbers → ℕ → Result (Numbers × ℕ) TermError) (r : Result (Numbers × ℕ) TermError) → Calm P r → ((s : Numbers) (t : ℕ) → P s t → Calm Q (go s t)) → Calm Q (chain go r)
calm_chain P Q go (Ok (s, t)) p h = h s t p
calm_chain P Q go (Err TermError.Malformed) p h = tt
calm_chain P Q go (Err TermError.Overflow) p h = p

calm_map : (P Q : Numbers → ℕ → Type 0) (r : Result (Numbers × ℕ) TermError) → Calm P r → ((s : Numbers) (t : ℕ) → P s t → Q s t) → Calm Q r
calm_map P Q (Ok (s, t)) p h = h s t p
calm_map P Q (Err TermError.Malformed) p h = tt
calm_map P Q (Err TermError.Overflow) p h = p

-- a number put on the stack
abbrev Kept : Numbers → ℤ → Result Numbers TermError → Type 0
Kept s z (Ok s') = pushed s z ≡ Ok s'
Kept s z (Err TermError.Malformed) = Unit {0}
Kept s z (Err TermError.Overflow) = ⊥

pushed_kept : (s : Numbers) (z : ℤ) → Kept s z (pushed s z)
pushed_kept Numbers.Zero z = refl
pushed_kept (Numbers.One a) z = refl
pushed_kept (Numbers.Two a b) z = refl
pushed_kept (Numbers.Three a b c) z = refl
pushed_kept (Numbers.Four a b c d) z = tt

small_kept : (s : Numbers) (z : ℤ) → nat_abs z ≤ 2 ^ 62 → Kept s z (kept s (bounded z))
small_kept s z h = rw (bounded_in z h) (pushed_kept s z)

variable_kept : (w : List ℤ) (k : ℕ) (s : Numbers) → nat_abs (get_or w k (pos 0)) ≤ 2 ^ 62 → Kept s (get_or w k (pos 0)) (variable_of w k s)
unfolding variable_of
variable_kept w k s h = go (ltb k (length w))
  where
    go : (b : Bool) → Kept s (get_or w k (pos 0)) (cond b (kept s (bounded (get_or w k (pos 0)))) (Err TermError.Malformed))
    go true = small_kept s (get_or w k (pos 0)) h
    go false = tt

-- ---- calculations

abbrev Ready : List ℤ → Operation → Numbers → ℕ → ℤ → Numbers → ℕ → Type 0
Ready w o s t z s' t' = (t' ≡ t) × Kept s z (operate_of Mode.Sizes w o s')

abbrev pub Put : Numbers → ℕ → ℤ → Numbers → ℕ → Type 0
Put s t z s' t' = (t' ≡ t) × (pushed s z ≡ Ok s')

abbrev pub Two : Numbers → ℕ → ℤ → ℤ → Numbers → ℕ → Type 0
Two s t a b s' t' = (t' ≡ t) × (pair_of s' ≡ Some (s, a, b))

part_step : (k : Kind) (w : List ℤ) (v : ℤ) (o : Operation) (s : Numbers) (t : ℕ) → step_of k Mode.Sizes w v (Term.Part o) s t ≡ after_of (operate_of Mode.Sizes w o s) t
part_step Kind.Calculation w v o s t = refl
part_step Kind.Set w v o s t = refl
part_step Kind.Condition w v o s t = refl

after_put : (s : Numbers) (t t' : ℕ) (z : ℤ) (o : Result Numbers TermError) → t' ≡ t → Kept s z o → Calm (Put s t z) (after_of o t')
after_put s t t' z (Ok s') e p = (e, p)
after_put s t t' z (Err TermError.Malformed) e p = tt
after_put s t t' z (Err TermError.Overflow) e p = p

-- whatever waits
abbrev Any : Numbers → ℕ → Type 0
Any s t = Unit {0}

module _ (k : Kind) (w : List ℤ) (v : ℤ) where
  calm_append : (P Q : Numbers → ℕ → Type 0) (xs ys : List Term) (s : Numbers) (t : ℕ) → Calm P (ends k Mode.Sizes w v xs s t) → ((s' : Numbers) (t' : ℕ) → P s' t' → Calm Q (ends k Mode.Sizes w v ys s' t'))
      → Calm Q (ends k Mode.Sizes w v (xs ++ ys) s t)
  calm_append P Q xs ys s t p h =
      subst (Calm Q) (sym (ends_append k Mode.Sizes w v xs ys s t)) (calm_chain P Q (λ (s' : Numbers) (t' : ℕ). ends k Mode.Sizes w v ys s' t') (ends k Mode.Sizes w v xs s t) p h)

  calm_last : (P Q : Numbers → ℕ → Type 0) (xs : List Term) (x : Term) (s : Numbers) (t : ℕ) → Calm P (ends k Mode.Sizes w v xs s t) → ((s' : Numbers) (t' : ℕ) → P s' t' → Calm Q (step_of k Mode.Sizes w v x s' t'))
      → Calm Q (ends k Mode.Sizes w v (xs ++ (x ∷ [])) s t)
  unfolding ends
  calm_last P Q xs x s t p h =
      calm_append P Q xs (x ∷ []) s t p (λ s' t' q. calm_chain Q Q (λ (s'' : Numbers) (t'' : ℕ). Ok (s'', t'')) (step_of k Mode.Sizes w v x s' t') (h s' t' q) (λ s'' t'' r. r))

  put_from : (c : Calculation) (s : Numbers) (t : ℕ) → Calm (Ready w (last_sign c) s t (size_of w c)) (ends k Mode.Sizes w v (before c) s t) → Calm (Put s t (size_of w c)) (ends k Mode.Sizes w v (calculation_terms c) s t)
  put_from c s t r =
      calm_last (Ready w (last_sign c) s t (size_of w c)) (Put s t (size_of w c)) (before c) (Term.Part (last_sign c)) s t r
      (λ s' t' q. subst (Calm (Put s t (size_of w c))) (sym (part_step k w v (last_sign c) s' t')) (after_put s t t' (size_of w c) (operate_of Mode.Sizes w (last_sign c) s') q.0 q.1))

  abbrev pub Puts : Calculation → Type 0
  Puts c = (s : Numbers) (t : ℕ) → Calm (Put s t (size_of w c)) (ends k Mode.Sizes w v (calculation_terms c) s t)

  pub two_from : (a b : Calculation) → Puts a → Puts b → (s : Numbers) (t : ℕ) → Calm (Two s t (size_of w a) (size_of w b)) (ends k Mode.Sizes w v (calculation_terms a ++ calculation_terms b) s t)
  two_from a b p q s t =
      calm_append (Put s t (size_of w a)) (Two s t (size_of w a) (size_of w b)) (calculation_terms a) (calculation_terms b) s t (p s t)
      (λ s' t' x. calm_map (Put s' t' (size_of w b)) (Two s t (size_of w a) (size_of w b)) (ends k Mode.Sizes w v (calculation_terms b) s' t') (q s' t') (λ s'' t'' y. (y.0 ∙ x.0, pair_of_lem s s' s'' (size_of w a) (size_of w b) x.1 y.1)))

  signed_ready : (f : ℤ → ℤ → ℤ) (o : Operation) (a b : Calculation) → ((s : Numbers) → operate_of Mode.Sizes w o s ≡ binary f (pair_of s)) → nat_abs (f (size_of w a) (size_of w b)) ≤ 2 ^ 62 → Puts a → Puts b
      → (s : Numbers) (t : ℕ) → Calm (Ready w o s t (f (size_of w a) (size_of w b))) (ends k Mode.Sizes w v (calculation_terms a ++ calculation_terms b) s t)
  signed_ready f o a b e l p q s t =
      calm_map (Two s t (size_of w a) (size_of w b)) (Ready w o s t (f (size_of w a) (size_of w b))) (ends k Mode.Sizes w v (calculation_terms a ++ calculation_terms b) s t) (two_from a b p q s t)
      (λ s' t' x. (x.0, subst (Kept s (f (size_of w a) (size_of w b))) (sym (e s')) (subst (λ (y : Option (Numbers × ℤ × ℤ)). Kept s (f (size_of w a) (size_of w b)) (binary f y)) (sym x.1) (small_kept s (f (size_of w a) (size_of w b)) l))))

  ready : (c : Calculation) → Small w c → (s : Numbers) (t : ℕ) → Calm (Ready w (last_sign c) s t (size_of w c)) (ends k Mode.Sizes w v (before c) s t)
  unfolding size_of Small before ends
  ready (literal n) h s t = (refl, small_kept s (pos n) h)
  ready (use_of j) h s t = (refl, variable_kept w j s h)
  ready (plus a b) h s t = signed_ready ◌+ℤ◌ Operation.Add a b (λ s'. refl) h.2 (λ s' t'. put_from a s' t' (ready a h.0 s' t')) (λ s' t'. put_from b s' t' (ready b h.1 s' t')) s t
  ready (minus a b) h s t = signed_ready ◌+ℤ◌ Operation.Subtract a b (λ s'. refl) h.2 (λ s' t'. put_from a s' t' (ready a h.0 s' t')) (λ s' t'. put_from b s' t' (ready b h.1 s' t')) s t
  ready (times a b) h s t = signed_ready ◌*ℤ◌ Operation.Multiply a b (λ s'. refl) h.2 (λ s' t'. put_from a s' t' (ready a h.0 s' t')) (λ s' t'. put_from b s' t' (ready b h.1 s' t')) s t
  ready (opposite a) h s t =
      calm_map (Put s t (size_of w a)) (Ready w Operation.Negate s t (size_of w a)) (ends k Mode.Sizes w v (calculation_terms a) s t) (put_from a s t (ready a h.0 s t))
      (λ s' t' x. (x.0, subst (λ (p : Option (Numbers × ℤ)). Kept s (size_of w a) (unary (λ z. z) p)) (sym (top_of_lem s s' (size_of w a) x.1)) (small_kept s (size_of w a) h.1)))

  pub puts : (c : Calculation) → Small w c → Puts c
  puts c h s t = put_from c s t (ready c h s t)

  -- ---- tests

  noted_calm : (s : Numbers) (t : ℕ) (b : Bool) → Calm Any (noted s t b)
  unfolding noted
  noted_calm s t b = go (ltb t (2 ^ 62)) _
    where
      go : (x : Bool) (n : ℕ) → Calm Any (cond x (Ok (s, n)) (Err TermError.Malformed))
      go true n = tt
      go false n = tt

  top_calm : (q : ℤ → Bool) (x : Option (Numbers × ℤ)) (t : ℕ) → Calm Any (test_top q x t)
  top_calm q (Some (rest, a)) t = noted_calm rest t (q a)
  top_calm q None t = tt

  pair_calm : (q : ℤ → ℤ → Bool) (x : Option (Numbers × ℤ × ℤ)) (t : ℕ) → Calm Any (test_pair q x t)
  pair_calm q (Some (rest, a, b)) t = noted_calm rest t (q a b)
  pair_calm q None t = tt

  combined_calm : (j : Joint) (s : Numbers) (t : ℕ) → Calm Any (combined j s t)
  unfolding combined
  combined_calm j s t = go (ltb t 4) _ _
    where
      go : (x : Bool) (n : ℕ) (b : Bool) → Calm Any (cond x (Err TermError.Malformed) (noted s n b))
      go true n b = tt
      go false n b = noted_calm s n b

-- ---- sets and conditions

operated_calm : (v : ℤ) (s : Numbers) (z : ℤ) (o : Result Numbers TermError) (t : ℕ) → Kept s z o → Calm Any (operated v o t)
operated_calm v s z (Ok s') t p = top_calm Kind.Set [] v (λ a. equals a v) (top_of s') t
operated_calm v s z (Err TermError.Malformed) t p = tt
operated_calm v s z (Err TermError.Overflow) t p = p

module _ (w : List ℤ) (v : ℤ) where
  -- two tests, and the sign that joins them
  joined_calm : (k : Kind) (j : Joint) (x : Term) → ((s : Numbers) (t : ℕ) → step_of k Mode.Sizes w v x s t ≡ combined j s t) → (xs ys : List Term)
      → ((s : Numbers) (t : ℕ) → Calm Any (ends k Mode.Sizes w v xs s t)) → ((s : Numbers) (t : ℕ) → Calm Any (ends k Mode.Sizes w v ys s t)) → (s : Numbers) (t : ℕ)
      → Calm Any (ends k Mode.Sizes w v ((xs ++ ys) ++ (x ∷ [])) s t)
  joined_calm k j x e xs ys p q s t =
      calm_last k w v Any Any (xs ++ ys) x s t (calm_append k w v Any Any xs ys s t (p s t) (λ s' t' a. q s' t')) (λ s' t' a. subst (Calm Any) (sym (e s' t')) (combined_calm k w v j s' t'))

  pub set_calm : (x : ValueSet) → SmallSet w x → (s : Numbers) (t : ℕ) → Calm Any (ends Kind.Set Mode.Sizes w v (set_terms x) s t)
  unfolding SmallSet set_terms ends
  set_calm everything h s t = calm_last Kind.Set w v Any Any [] Term.All s t tt (λ s' t' q. noted_calm Kind.Set w v s' t' true)
  set_calm (only a) h s t =
      calm_last Kind.Set w v (Ready w (last_sign a) s t (size_of w a)) Any (before a) (Term.Single (last_sign a)) s t (ready Kind.Set w v a h s t)
      (λ s' t' q. operated_calm v s (size_of w a) (operate_of Mode.Sizes w (last_sign a) s') t' q.1)
  set_calm (between a b) h s t =
      calm_last Kind.Set w v (Two s t (size_of w a) (size_of w b)) Any (calculation_terms a ++ calculation_terms b) Term.Range s t (two_from Kind.Set w v a b (puts Kind.Set w v a h.0) (puts Kind.Set w v b h.1) s t)
      (λ s' t' q. pair_calm Kind.Set w v (λ x y. cond (le_z x v) (le_z v y) false) (pair_of s') t')
  set_calm (from a) h s t =
      calm_last Kind.Set w v (Put s t (size_of w a)) Any (calculation_terms a) Term.From s t (puts Kind.Set w v a h s t) (λ s' t' q. top_calm Kind.Set w v (λ x. le_z x v) (top_of s') t')
  set_calm (up_to b) h s t =
      calm_last Kind.Set w v (Put s t (size_of w b)) Any (calculation_terms b) Term.UpTo s t (puts Kind.Set w v b h s t) (λ s' t' q. top_calm Kind.Set w v (λ x. le_z v x) (top_of s') t')
  set_calm (either x y) h s t = joined_calm Kind.Set Joint.Or Term.Or (λ s' t'. refl) (set_terms x) (set_terms y) (set_calm x h.0) (set_calm y h.1) s t
  set_calm (without x y) h s t = joined_calm Kind.Set Joint.Except Term.Except (λ s' t'. refl) (set_terms x) (set_terms y) (set_calm x h.0) (set_calm y h.1) s t

  pub condition_calm : (x : Condition) → SmallCondition w x → (s : Numbers) (t : ℕ) → Calm Any (ends Kind.Condition Mode.Sizes w v (condition_terms x) s t)
  unfolding SmallCondition condition_terms
  condition_calm (compare c a b) h s t =
      calm_last Kind.Condition w v (Two s t (size_of w a) (size_of w b)) Any (calculation_terms a ++ calculation_terms b) (Term.Compare c) s t
      (two_from Kind.Condition w v a b (puts Kind.Condition w v a h.0) (puts Kind.Condition w v b h.1) s t) (λ s' t' q. pair_calm Kind.Condition w v (compares c) (pair_of s') t')
  condition_calm (both x y) h s t = joined_calm Kind.Condition Joint.And Term.And (λ s' t'. refl) (condition_terms x) (condition_terms y) (condition_calm x h.0) (condition_calm y h.1) s t
  condition_calm (any x y) h s t = joined_calm Kind.Condition Joint.Or Term.Or (λ s' t'. refl) (condition_terms x) (condition_terms y) (condition_calm x h.0) (condition_calm y h.1) s t

-- ---- so the size rule finds nothing

last_calm : (s : Numbers) (t i at : ℕ) → of_tested (last_of s t) i ≡ Err (SizeError.Exceeds at) → ⊥
last_calm Numbers.Zero t i at e = two (eqb t 2) (eqb t 3) e
  where
    two : (a b : Bool) → of_tested (cond a (Ok false) (cond b (Ok true) (Err TermError.Malformed))) i ≡ Err (SizeError.Exceeds at) → ⊥
    two true b f = let z : ◌≡◌ {A = ℕ} 0 1 = cc in absurd (omega arith)
    two false true f = let z : ◌≡◌ {A = ℕ} 0 1 = cc in absurd (omega arith)
    two false false f = let z : ◌≡◌ {A = ℕ} 0 1 = cc in absurd (omega arith)
last_calm (Numbers.One a) t i at e = let z : ◌≡◌ {A = ℕ} 0 1 = cc in absurd (omega arith)
last_calm (Numbers.Two a b) t i at e = let z : ◌≡◌ {A = ℕ} 0 1 = cc in absurd (omega arith)
last_calm (Numbers.Three a b c) t i at e = let z : ◌≡◌ {A = ℕ} 0 1 = cc in absurd (omega arith)
last_calm (Numbers.Four a b c d) t i at e = let z : ◌≡◌ {A = ℕ} 0 1 = cc in absurd (omega arith)

tests_calm : (r : Result (Numbers × ℕ) TermError) (i at : ℕ) → Calm Any r → of_tested (verdict_of r) i ≡ Err (SizeError.Exceeds at) → ⊥
tests_calm (Ok (s, t)) i at c e = last_calm s t i at e
tests_calm (Err TermError.Malformed) i at c e = let z : ◌≡◌ {A = ℕ} 0 1 = cc in absurd (omega arith)
tests_calm (Err TermError.Overflow) i at c e = c

pub set_small : (w : List ℤ) (i : ℕ) (x : ValueSet) → SmallSet w x → (at : ℕ) → sizes Kind.Set w i (set_terms x) ≡ Err (SizeError.Exceeds at) → ⊥
unfolding sizes
set_small w i x h at e =
    tests_calm (run Kind.Set Mode.Sizes w (pos 0) i (set_terms x) Numbers.Zero 1).trial (run Kind.Set Mode.Sizes w (pos 0) i (set_terms x) Numbers.Zero 1).at at
    (subst (Calm Any) (sym (run_ends Kind.Set Mode.Sizes w (pos 0) (set_terms x) i Numbers.Zero 1)) (set_calm w (pos 0) x h Numbers.Zero 1)) e

pub condition_small : (w : List ℤ) (i : ℕ) (x : Condition) → SmallCondition w x → (at : ℕ) → sizes Kind.Condition w i (condition_terms x) ≡ Err (SizeError.Exceeds at) → ⊥
unfolding sizes
condition_small w i x h at e =
    tests_calm (run Kind.Condition Mode.Sizes w (pos 0) i (condition_terms x) Numbers.Zero 1).trial (run Kind.Condition Mode.Sizes w (pos 0) i (condition_terms x) Numbers.Zero 1).at at
    (subst (Calm Any) (sym (run_ends Kind.Condition Mode.Sizes w (pos 0) (condition_terms x) i Numbers.Zero 1)) (condition_calm w (pos 0) x h Numbers.Zero 1)) e
