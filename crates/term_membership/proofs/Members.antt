-- Effects decide membership: a set's terms worked out by their effects give what the terms give for each value.
-- Assumes nothing.
use Prim.Native.Nat.{ℕ, zero, suc, ◌+◌, ◌*◌, ◌/◌, ◌%◌, ◌^◌, ◌≤◌, ◌<◌}
use mathlib.Core.Path.{◌≡◌, refl, sym, ap, ◌∙◌}
use mathlib.Core.Bool.{Bool, true, false, cond}
use mathlib.Core.List.{List, [], ◌∷◌}
use native.Mathlib.Omega.{arith}
use borrow.Author.Tests.{lt-ltb, ltb-false, eqb-true}
use lib.Dec.{ltb, eqb, leb-zero}
use lib.IntN.{ℤ, pos, negsuc, sub_ℕ, ◌+ℤ◌}
use lib.ListN.{length, get_or, replicate, length-replicate}
use lib.Signed.{le_z}
use Rattle.basis.specs.Bits.{digit}
use Rattle.term_integers.specs.Wholes.{equals}
use Rattle.term_words.specs.Numbers.{top_of, pair_of}
use Rattle.term_words.specs.Tests.{joins}
use Rattle.term_words.specs.Tests as Tests
use Rattle.term_words.specs.Steps.{operate_of, after_of, equal_to, within, from, up_to, operated, step_of}
use Rattle.term_words.specs.Words.{term_at, terms}
use Rattle.term_words.specs.declared.Joint.{Joint}
use Rattle.term_words.specs.declared.Kind.{Kind}
use Rattle.term_words.specs.declared.Mode.{Mode}
use Rattle.term_words.specs.declared.Numbers.{Numbers}
use Rattle.term_words.specs.declared.Term.{Term}
use Rattle.term_evaluation.specs.Meaning.{next, run, last_of, verdict_of, membership}
use Rattle.term_evaluation.specs.declared.Ended.{Ended}
use Rattle.term_evaluation.proofs.Runs.{terms_next, terms_none}
use Rattle.term_membership.specs.Members.{is_yes, holds, holds_from}
use Rattle.term_membership.specs.Effects.{end_of, low_of, item_of, equal_turn, from_turn, up_to_turn, pair_turn, part_turn, single_turn, turn_of}
use Rattle.term_membership.specs.Truths.{noted, joined, applied, waiting}
use Rattle.term_membership.specs.Batches.{ends, onward, held, Applied}
use Rattle.term_membership.specs.declared.Effect.{Effect}
use Rattle.term_membership.proofs.Items.{inside, from_test, up_to_test, end_test, item_test}
use Rattle.std.specs.Prelude.{Option, Some, None, Result, Ok, Err}
use Rattle.term_words.specs.declared.TermError.{TermError}

-- ---- tests that have no room, and tests of one value

abbrev trial_of : Numbers → ℕ → Result (Numbers × ℕ) TermError
trial_of s zero = Err TermError.Malformed
trial_of s (suc t) = Ok (s, suc t)

trial_positive : (s : Numbers) (t : ℕ) → 0 < t → trial_of s t ≡ Ok (s, t)
trial_positive s zero h = absurd (omega arith)
trial_positive s (suc t) h = refl

-- a test is noted alike
note_same : (s : Numbers) (t : ℕ) (b : Bool) → 0 < t → Tests.noted s t b ≡ trial_of s (noted t b)
unfolding Tests.noted noted
note_same s t b h = go (ltb t (2 ^ 62)) ∙ ap (λ (x : Bool). trial_of s (cond x (cond (ltb t (2 ^ 62)) (t * 2 + digit b) 0) 0)) (sym (lt-ltb 0 t h))
  where
    go : (x : Bool) → cond x (Ok (s, t * 2 + digit b)) (Err TermError.Malformed) ≡ trial_of s (cond x (t * 2 + digit b) 0)
    go true = sym (trial_positive s (t * 2 + digit b) (omega arith))
    go false = refl

join_same : (j : Joint) (s : Numbers) (t : ℕ) → Tests.combined j s t ≡ trial_of s (joined j t)
unfolding Tests.combined joined
join_same j s t = go (ltb t 4) refl
  where
    go : (x : Bool) → ltb t 4 ≡ x → cond x (Err TermError.Malformed) (Tests.noted s (t / 4) (joins j (eqb (t / 2 % 2) 1) (eqb (t % 2) 1))) ≡ trial_of s (cond x 0 (noted (t / 4) (joins j (eqb (t / 2 % 2) 1) (eqb (t % 2) 1))))
    go true e = refl
    go false e = let h : 4 ≤ t = ltb-false t 4 e in note_same s (t / 4) (joins j (eqb (t / 2 % 2) 1) (eqb (t % 2) 1)) (omega arith)

applied_end : (low : ℕ) (z : ℤ) (t v : ℕ) → applied (end_of low z) t v ≡ noted t (inside v (end_of low z))
applied_end low (pos n) t v = refl
applied_end low (negsuc n) t v = refl

-- ---- one term

-- how it goes on after a trial, and after an effect
abbrev gone : (Numbers → ℕ → Bool) → Result (Numbers × ℕ) TermError → Bool
gone go (Ok (s, t)) = go s t
gone go (Err e) = false

module _ (o : ℕ) (go : Numbers → ℕ → Bool) (v t : ℕ) (h : 0 < t) where
  abbrev after : Option (Numbers × Effect) → Bool
  after = onward (λ s e. gone go (trial_of s (applied e t v)))

  -- the value that is tried
  abbrev tried : ℤ
  tried = sub_ℕ v o

  part_same : (r : Result Numbers TermError) → gone go (after_of r t) ≡ after (part_turn r)
  part_same (Ok s) = sym (ap (gone go) (trial_positive s t h))
  part_same (Err e) = refl

  -- an item up to an end
  end_same : (s : Numbers) (low : ℕ) (z : ℤ) (p : Bool) → p ≡ inside v (end_of low z) → Tests.noted s t p ≡ trial_of s (applied (end_of low z) t v)
  end_same s low z p e = note_same s t p h ∙ ap (λ (x : Bool). trial_of s (noted t x)) e ∙ ap (trial_of s) (sym (applied_end low z t v))

  -- of two ends
  item_same : (s : Numbers) (a b : ℤ) (p : Bool) → p ≡ cond (le_z a tried) (le_z tried b) false → Tests.noted s t p ≡ trial_of s (applied (item_of o a b) t v)
  item_same s a b p e = end_same s (low_of o a) (b +ℤ pos o) p (e ∙ item_test o a b v)

  equal_same : (q : Option (Numbers × ℤ)) → gone go (equal_to tried q t) ≡ after (equal_turn o q)
  unfolding equals
  equal_same (Some (s, a)) = ap (gone go) (item_same s a a (equals a tried) refl)
  equal_same None = refl

  from_same : (q : Option (Numbers × ℤ)) → gone go (from tried q t) ≡ after (from_turn o q)
  from_same (Some (s, a)) = ap (gone go) (note_same s t (le_z a tried) h ∙ ap (λ (x : Bool). trial_of s (noted t x)) (from_test o v a))
  from_same None = refl

  up_to_same : (q : Option (Numbers × ℤ)) → gone go (up_to tried q t) ≡ after (up_to_turn o q)
  up_to_same (Some (s, b)) =
      ap (gone go)
      (end_same s 0 (b +ℤ pos o) (le_z tried b) (up_to_test o v b ∙ ap (λ (x : Bool). cond x (le_z (pos v) (b +ℤ pos o)) false) (sym (leb-zero v)) ∙ end_test 0 (b +ℤ pos o) v))
  up_to_same None = refl

  range_same : (q : Option (Numbers × ℤ × ℤ)) → gone go (within tried q t) ≡ after (pair_turn o q)
  range_same (Some (s, a, b)) = ap (gone go) (item_same s a b (cond (le_z a tried) (le_z tried b) false) refl)
  range_same None = refl

  single_same : (r : Result Numbers TermError) → gone go (operated tried r t) ≡ after (single_turn o r)
  single_same (Ok s) = equal_same (top_of s)
  single_same (Err e) = refl

  step_same : (env : List ℤ) (x : Term) (s : Numbers) → gone go (step_of Kind.Set Mode.Values env tried x s t) ≡ after (turn_of o env x s)
  step_same env (Term.Part p) s = part_same (operate_of Mode.Values env p s)
  step_same env (Term.Single p) s = single_same (operate_of Mode.Values env p s)
  step_same env Term.All s = ap (gone go) (note_same s t true h ∙ ap (λ (x : Bool). trial_of s (noted t x)) (sym (leb-zero v)))
  step_same env Term.Range s = range_same (pair_of s)
  step_same env Term.From s = from_same (top_of s)
  step_same env Term.UpTo s = up_to_same (top_of s)
  step_same env Term.Or s = ap (gone go) (join_same Joint.Or s t)
  step_same env Term.Except s = ap (gone go) (join_same Joint.Except s t)
  step_same env Term.And s = refl
  step_same env (Term.Compare k) s = refl
  step_same env Term.Bad s = refl

-- ---- a whole list

-- without room nothing is in the set
applied_zero : (e : Effect) (v : ℕ) → applied e 0 v ≡ 0
unfolding noted joined
applied_zero Effect.None v = refl
applied_zero (Effect.Within a b) v = refl
applied_zero (Effect.From a) v = refl
applied_zero Effect.Or v = refl
applied_zero Effect.Except v = refl

ends_zero : (s : Numbers) → ends s 0 ≡ false
ends_zero Numbers.Zero = refl
ends_zero (Numbers.One a) = refl
ends_zero (Numbers.Two a b) = refl
ends_zero (Numbers.Three a b c) = refl
ends_zero (Numbers.Four a b c d) = refl

onward_off : (f : Numbers → Effect → Bool) → ((s : Numbers) (e : Effect) → f s e ≡ false) → (r : Option (Numbers × Effect)) → onward f r ≡ false
onward_off f h (Some (s, e)) = h s e
onward_off f h None = refl

held_zero : (o : ℕ) (env : List ℤ) (v : ℕ) (xs : List Term) (s : Numbers) → held o env v xs s 0 ≡ false
unfolding held
held_zero o env v [] s = ends_zero s
held_zero o env v (x ∷ xs) s = onward_off (λ s' e. held o env v xs s' (applied e 0 v)) (λ s' e. ap (held o env v xs s') (applied_zero e v) ∙ held_zero o env v xs s') (turn_of o env x s)

last_same : (s : Numbers) (t : ℕ) → is_yes (last_of s t) ≡ ends s t
last_same Numbers.Zero t = go (eqb t 2) (eqb t 3) refl refl
  where
    go : (x y : Bool) → eqb t 2 ≡ x → eqb t 3 ≡ y → is_yes (cond x (Ok false) (cond y (Ok true) (Err TermError.Malformed))) ≡ y
    go true true p q = let a : t ≡ 2 = eqb-true t 2 p in let b : t ≡ 3 = eqb-true t 3 q in absurd (omega arith)
    go true false p q = refl
    go false true p q = refl
    go false false p q = refl
last_same (Numbers.One a) t = refl
last_same (Numbers.Two a b) t = refl
last_same (Numbers.Three a b c) t = refl
last_same (Numbers.Four a b c d) t = refl

next_gone : (go : Numbers → ℕ → Ended) (i : ℕ) (r : Result (Numbers × ℕ) TermError) → is_yes (verdict_of (next go i r).trial) ≡ gone (λ s t. is_yes (verdict_of (go s t).trial)) r
next_gone go i (Ok (s, t)) = refl
next_gone go i (Err e) = refl

module _ (o : ℕ) (env : List ℤ) (v : ℕ) where
  -- after an effect, where the rest of the list is known
  rest_same : (xs : List Term) (go : Numbers → ℕ → Bool) → ((s : Numbers) (t : ℕ) → 0 < t → go s t ≡ held o env v xs s t) → (s : Numbers) (t : ℕ) → gone go (trial_of s t) ≡ held o env v xs s t
  rest_same xs go f s zero = sym (held_zero o env v xs s)
  rest_same xs go f s (suc t) = f s (suc t) (omega arith)

  turn_same : (f g : Numbers → Effect → Bool) → ((s : Numbers) (e : Effect) → f s e ≡ g s e) → (r : Option (Numbers × Effect)) → onward f r ≡ onward g r
  turn_same f g h (Some (s, e)) = h s e
  turn_same f g h None = refl

  held_run : (xs : List Term) (i : ℕ) (s : Numbers) (t : ℕ) → 0 < t → is_yes (verdict_of (run Kind.Set Mode.Values env (sub_ℕ v o) i xs s t).trial) ≡ held o env v xs s t
  unfolding run held
  held_run [] i s t h = last_same s t
  held_run (x ∷ xs) i s t h =
      next_gone (λ s' t'. run Kind.Set Mode.Values env (sub_ℕ v o) (i + 1) xs s' t') i (step_of Kind.Set Mode.Values env (sub_ℕ v o) x s t)
      ∙ step_same o (λ s' t'. is_yes (verdict_of (run Kind.Set Mode.Values env (sub_ℕ v o) (i + 1) xs s' t').trial)) v t h env x s
      ∙ turn_same _ (λ s' e. held o env v xs s' (applied e t v))
      (λ s' e. rest_same xs (λ s'' t''. is_yes (verdict_of (run Kind.Set Mode.Values env (sub_ℕ v o) (i + 1) xs s'' t'').trial)) (λ s'' t'' k. held_run xs (i + 1) s'' t'' k) s' (applied e t v)) (turn_of o env x s)

  pub holds_held : (i : ℕ) (xs : List Term) → holds_from o env i xs v ≡ held o env v xs Numbers.Zero 1
  unfolding holds membership
  holds_held i xs = held_run xs i Numbers.Zero 1 (omega arith)

-- ---- the pass over a list's terms, for 64 values

pub record Underway (o : ℕ) (env : List ℤ) (ws : List ℕ) (start end : ℕ) (values : List ℕ) (at : ℕ) (s : Numbers) (masks : List ℕ) (n : ℕ) : Type 0 where
  pub all : length masks ≡ 64
  pub same : (j : ℕ) → j < 64 → holds_from o env start (terms ws start end) (get_or values j 0) ≡ held o env (get_or values j 0) (terms ws at end) s (waiting masks n j)

module _ (o : ℕ) (env : List ℤ) (ws : List ℕ) (start end : ℕ) (values : List ℕ) where
  pub begins : Underway o env ws start end values start Numbers.Zero (replicate {A = ℕ} 64 0) 0
  begins = record { all = length-replicate {A = ℕ} 64 0; same = λ j h. holds_held o env (get_or values j 0) start (terms ws start end) }

  module _ (at : ℕ) (s : Numbers) (masks : List ℕ) (n : ℕ) (u : Underway o env ws start end values at s masks n) where
    one : at < end → (r : Option (Numbers × Effect)) → r ≡ turn_of o env (term_at ws at) s → (v t : ℕ) → held o env v (terms ws at end) s t ≡ onward (λ s' e. held o env v (terms ws (at + 1) end) s' (applied e t v)) r
    unfolding held
    one h r k v t = ap (λ (xs : List Term). held o env v xs s t) (terms_next ws at end h) ∙ ap (onward (λ s' e. held o env v (terms ws (at + 1) end) s' (applied e t v))) (sym k)

    pub goes_on : at < end → (s' : Numbers) (e : Effect) → Some (s', e) ≡ turn_of o env (term_at ws at) s → (more : List ℕ) (m : ℕ) → Applied e values masks n more m → Underway o env ws start end values (at + 1) s' more m
    goes_on h s' e k more m a = record {
      all = a.0;
      same = λ j l. u.same j l ∙ one h (Some (s', e)) k (get_or values j 0) (waiting masks n j) ∙ ap (held o env (get_or values j 0) (terms ws (at + 1) end) s') (sym (a.1 j l));
    }

    pub goes_off : at < end → None ≡ turn_of o env (term_at ws at) s → (j : ℕ) → j < 64 → holds_from o env start (terms ws start end) (get_or values j 0) ≡ false
    goes_off h k j l = u.same j l ∙ one h None k (get_or values j 0) (waiting masks n j)

    pub goes_out : end ≤ at → (j : ℕ) → j < 64 → holds_from o env start (terms ws start end) (get_or values j 0) ≡ ends s (waiting masks n j)
    unfolding held
    goes_out h j l = u.same j l ∙ ap (λ (xs : List Term). held o env (get_or values j 0) xs s (waiting masks n j)) (terms_none ws at end h)
