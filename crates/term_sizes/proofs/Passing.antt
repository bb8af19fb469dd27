-- Where the sizes of a list come to an end, its values come to the same end.
-- Assumes nothing.
use Prim.Native.Nat.{ℕ, ◌+◌, ◌*◌, ◌/◌, ◌%◌, ◌^◌, ◌≤◌}
use mathlib.Core.Path.{◌≡◌, refl, sym, ap, subst}
use mathlib.Core.Bool.{Bool, true, false}
use mathlib.Core.List.{List, [], ◌∷◌}
use borrow.Author.Tests.{lt-ltb, le-ltb, ltb-true, ltb-false}
use lib.Dec.{ltb, eqb}
use lib.IntN.{ℤ}
use Rattle.basis.specs.Bits.{digit}
use Rattle.term_words.specs.Numbers.{top_of, pair_of}
use Rattle.term_words.specs.Tests.{noted, joins, combined}
use Rattle.term_words.specs.Steps.{operate_of, after_of, test_top, test_pair, operated, step_of}
use Rattle.term_evaluation.specs.Meaning.{next, run}
use Rattle.term_evaluation.specs.declared.Ended.{Ended}
use Rattle.term_words.specs.declared.Joint.{Joint}
use Rattle.term_words.specs.declared.Kind.{Kind}
use Rattle.term_words.specs.declared.Mode.{Mode}
use Rattle.term_words.specs.declared.Numbers.{Numbers}
use Rattle.term_words.specs.declared.Operation.{Operation}
use Rattle.term_words.specs.declared.Term.{Term}
use Rattle.term_sizes.specs.Inside.{Inside}
use Rattle.term_sizes.proofs.Bounds.{Smaller, none, one, two, three, four, Kept, operate_kept}
use Rattle.term_sizes.proofs.Depths.{SameDepth, depth_more, depth_below, depth_past, depth_less}
use Rattle.std.specs.Prelude.{Result, Ok, Err}
use Rattle.term_words.specs.declared.TermError.{TermError}

-- where sizes go on, values (or smaller sizes) go on with smaller numbers and equally many tests, and where they are malformed so are values
abbrev pub Follows : Result (Numbers × ℕ) TermError → Result (Numbers × ℕ) TermError → Type 0
Follows x (Ok (s', t')) = (s : Numbers) × (t : ℕ) × (x ≡ Ok (s, t)) × Smaller s s' × SameDepth t t'
Follows x (Err TermError.Malformed) = x ≡ Err TermError.Malformed
Follows x (Err TermError.Overflow) = Unit {0}

noted_follows : {s s' : Numbers} {t t' : ℕ} (b b' : Bool) → Smaller s s' → SameDepth t t' → Follows (noted s t b) (noted s' t' b')
unfolding noted
noted_follows {s} {s'} {t} {t'} b b' r d = go (ltb t' (2 ^ 62)) refl
  where
    go : (u : Bool) → ltb t' (2 ^ 62) ≡ u → Follows (noted s t b) (noted s' t' b')
    go true e =
        rw (e, lt-ltb t (2 ^ 62) (depth_below 62 t t' d (ltb-true t' (2 ^ 62) e)))
        (s, t * 2 + digit b, refl, r, depth_more b b' d)
    go false e = rw (e, le-ltb t (2 ^ 62) (depth_past 62 t t' d (ltb-false t' (2 ^ 62) e))) refl

combined_follows : (j : Joint) {s s' : Numbers} {t t' : ℕ} → Smaller s s' → SameDepth t t' → Follows (combined j s t) (combined j s' t')
unfolding combined
combined_follows j {s} {s'} {t} {t'} r d = go (ltb t' 4) refl
  where
    go : (u : Bool) → ltb t' 4 ≡ u → Follows (combined j s t) (combined j s' t')
    go true e = rw (e, lt-ltb t 4 (depth_below 2 t t' d (ltb-true t' 4 e))) refl
    go false e =
        let h : 4 ≤ t' = ltb-false t' 4 e in
        let l : (4 ≤ t) × SameDepth (t / 4) (t' / 4) = depth_less t t' d h in
        rw (e, le-ltb t 4 l.0)
        (noted_follows (joins j (eqb (t / 2 % 2) 1) (eqb (t % 2) 1)) (joins j (eqb (t' / 2 % 2) 1) (eqb (t' % 2) 1)) r l.1)

top_follows : (p p' : ℤ → Bool) {s s' : Numbers} {t t' : ℕ} → Smaller s s' → SameDepth t t' → Follows (test_top p (top_of s) t) (test_top p' (top_of s') t')
top_follows p p' none d = refl
top_follows p p' (one {a} {a'} q) d = noted_follows (p a) (p' a') none d
top_follows p p' (two {b = b} {b' = b'} q r) d = noted_follows (p b) (p' b') (one q) d
top_follows p p' (three {c = c} {c' = c'} q r u) d = noted_follows (p c) (p' c') (two q r) d
top_follows p p' (four {d = e} {d' = e'} q r u v) d = noted_follows (p e) (p' e') (three q r u) d

pair_follows : (p p' : ℤ → ℤ → Bool) {s s' : Numbers} {t t' : ℕ} → Smaller s s' → SameDepth t t' → Follows (test_pair p (pair_of s) t) (test_pair p' (pair_of s') t')
pair_follows p p' none d = refl
pair_follows p p' (one q) d = refl
pair_follows p p' (two {a} {a'} {b} {b'} q r) d = noted_follows (p a b) (p' a' b') none d
pair_follows p p' (three {b = b} {b' = b'} {c = c} {c' = c'} q r u) d = noted_follows (p b c) (p' b' c') (one q) d
pair_follows p p' (four {c = c} {c' = c'} {d = e} {d' = e'} q r u v) d = noted_follows (p c e) (p' c' e') (two q r) d

after_follows : (x x' : Result Numbers TermError) {t t' : ℕ} → Kept x x' → SameDepth t t' → Follows (after_of x t) (after_of x' t')
after_follows x (Ok s') {t} k d = (k.0, t, ap (λ (o : Result Numbers TermError). after_of o t) k.1, k.2, d)
after_follows x (Err TermError.Malformed) {t} k d = ap (λ (o : Result Numbers TermError). after_of o t) k
after_follows x (Err TermError.Overflow) k d = tt

item_follows : (v v' : ℤ) (x x' : Result Numbers TermError) {t t' : ℕ} → Kept x x' → SameDepth t t' → Follows (operated v x t) (operated v' x' t')
item_follows v v' x (Ok s') {t} {t'} k d =
    subst (λ (o : Result Numbers TermError). Follows (operated v o t) (operated v' (Ok s') t')) (sym k.1) (top_follows _ _ k.2 d)
item_follows v v' x (Err TermError.Malformed) {t} k d = ap (λ (o : Result Numbers TermError). operated v o t) k
item_follows v v' x (Err TermError.Overflow) k d = tt

-- both at the end of a list, or both going on
next_follows : (x x' : Result (Numbers × ℕ) TermError) → Follows x x' → (go go' : Numbers → ℕ → Ended) (i : ℕ) → ((s s' : Numbers) (t t' : ℕ) → Smaller s s' → SameDepth t t' → Follows (go s t).trial (go' s' t').trial) → Follows (next go i x).trial (next go' i x').trial
next_follows x (Ok (s', t')) f go go' i h =
    subst (λ (z : Result (Numbers × ℕ) TermError). Follows (next go i z).trial (go' s' t').trial) (sym f.2) (h f.0 s' f.1 t' f.3 f.4)
next_follows x (Err TermError.Malformed) f go go' i h = ap (λ (z : Result (Numbers × ℕ) TermError). (next go i z).trial) f
next_follows x (Err TermError.Overflow) f go go' i h = tt

module _ (m : Mode) (env widest : List ℤ) (inside : Inside env widest) (v v' : ℤ) where
  part_follows : (o : Operation) {s s' : Numbers} {t t' : ℕ} → Smaller s s' → SameDepth t t' → Follows (after_of (operate_of m env o s) t) (after_of (operate_of Mode.Sizes widest o s') t')
  part_follows o {s} {s'} r d = after_follows (operate_of m env o s) (operate_of Mode.Sizes widest o s') (operate_kept env widest inside m o r) d

  calculation_follows : (x : Term) {s s' : Numbers} {t t' : ℕ} → Smaller s s' → SameDepth t t' → Follows (step_of Kind.Calculation m env v x s t) (step_of Kind.Calculation Mode.Sizes widest v' x s' t')
  calculation_follows (Term.Part o) r d = part_follows o r d
  calculation_follows (Term.Single o) r d = refl
  calculation_follows Term.All r d = refl
  calculation_follows Term.Range r d = refl
  calculation_follows Term.From r d = refl
  calculation_follows Term.UpTo r d = refl
  calculation_follows Term.Or r d = refl
  calculation_follows Term.Except r d = refl
  calculation_follows Term.And r d = refl
  calculation_follows (Term.Compare k) r d = refl
  calculation_follows Term.Bad r d = refl

  set_follows : (x : Term) {s s' : Numbers} {t t' : ℕ} → Smaller s s' → SameDepth t t' → Follows (step_of Kind.Set m env v x s t) (step_of Kind.Set Mode.Sizes widest v' x s' t')
  set_follows (Term.Part o) r d = part_follows o r d
  set_follows (Term.Single o) {s} {s'} r d = item_follows v v' (operate_of m env o s) (operate_of Mode.Sizes widest o s') (operate_kept env widest inside m o r) d
  set_follows Term.All r d = noted_follows true true r d
  set_follows Term.Range r d = pair_follows _ _ r d
  set_follows Term.From r d = top_follows _ _ r d
  set_follows Term.UpTo r d = top_follows _ _ r d
  set_follows Term.Or r d = combined_follows Joint.Or r d
  set_follows Term.Except r d = combined_follows Joint.Except r d
  set_follows Term.And r d = refl
  set_follows (Term.Compare k) r d = refl
  set_follows Term.Bad r d = refl

  condition_follows : (x : Term) {s s' : Numbers} {t t' : ℕ} → Smaller s s' → SameDepth t t' → Follows (step_of Kind.Condition m env v x s t) (step_of Kind.Condition Mode.Sizes widest v' x s' t')
  condition_follows (Term.Part o) r d = part_follows o r d
  condition_follows (Term.Single o) r d = refl
  condition_follows Term.All r d = refl
  condition_follows Term.Range r d = refl
  condition_follows Term.From r d = refl
  condition_follows Term.UpTo r d = refl
  condition_follows Term.Or r d = combined_follows Joint.Or r d
  condition_follows Term.Except r d = refl
  condition_follows Term.And r d = combined_follows Joint.And r d
  condition_follows (Term.Compare k) r d = pair_follows _ _ r d
  condition_follows Term.Bad r d = refl

  step_follows : (k : Kind) (x : Term) {s s' : Numbers} {t t' : ℕ} → Smaller s s' → SameDepth t t' → Follows (step_of k m env v x s t) (step_of k Mode.Sizes widest v' x s' t')
  step_follows Kind.Calculation x r d = calculation_follows x r d
  step_follows Kind.Set x r d = set_follows x r d
  step_follows Kind.Condition x r d = condition_follows x r d

  pub run_follows : (k : Kind) (xs : List Term) (i : ℕ) (s s' : Numbers) (t t' : ℕ) → Smaller s s' → SameDepth t t' → Follows (run k m env v i xs s t).trial (run k Mode.Sizes widest v' i xs s' t').trial
  unfolding run
  run_follows k [] i s s' t t' r d = (s, t, refl, r, d)
  run_follows k (x ∷ xs) i s s' t t' r d =
      next_follows (step_of k m env v x s t) (step_of k Mode.Sizes widest v' x s' t') (step_follows k x r d) (λ (u : Numbers) (w : ℕ). run k m env v (i + 1) xs u w) (λ (u : Numbers) (w : ℕ). run k Mode.Sizes widest v' (i + 1) xs u w) i
      (λ u u' w w' p e. run_follows k xs (i + 1) u u' w w' p e)
