-- Counts that the size rule passes are worked out to what document 01 says they mean.
-- Assumes nothing.
use Prim.Native.Nat.{ℕ, zero, suc, ◌+◌, ◌-◌, ◌<◌}
use mathlib.Core.Path.{◌≡◌, refl, sym, ap, ◌∙◌}
use mathlib.Core.Bool.{Bool, cond}
use mathlib.Core.List.{List, [], ◌∷◌, ◌++◌}
use native.Mathlib.Omega.{arith}
use borrow.Author.Tests.{lt-ltb}
use lib.IntN.{ℤ, pos}
use Rattle.basis.specs.Counts.{Counts, none, from, within}
use Rattle.term_words.specs.Numbers.{pair_of}
use Rattle.term_words.specs.Words.{term_at, terms_from, terms}
use Rattle.term_words.specs.declared.Kind.{Kind}
use Rattle.term_words.specs.declared.Mode.{Mode}
use Rattle.term_words.specs.declared.Numbers.{Numbers}
use Rattle.term_words.specs.declared.Term.{Term}
use Rattle.term_evaluation.specs.Meaning.{run}
use Rattle.term_evaluation.specs.Counts.{shown, form_of, calculations_end, of_one, of_two, of_numbers, of_trial, tallied_by, tallied, counts}
use Rattle.term_evaluation.specs.declared.Form.{Form}
use Rattle.term_sizes.specs.Sizes.{count_sizes}
use Rattle.term_sizes.specs.Inside.{Inside}
use Rattle.term_sizes.proofs.Theorems.{counts_pass}
use Rattle.term_trees.specs.Trees.{Calculation, value, Repeats, exact, on_from, up_to_bound, spanning, repeats}
use Rattle.term_trees.specs.Postfix.{last_sign, before, calculation_terms, repeat_terms}
use Rattle.term_trees.proofs.Chains.{Good, ends, run_ends}
use Rattle.term_trees.proofs.Meanings.{Put, Two, calculation_ends, two_ends}
use Rattle.std.specs.Prelude.{Some, Result, Ok, Err}
use Rattle.term_words.specs.declared.TermError.{TermError}
use Rattle.term_evaluation.specs.declared.Allowed.{Allowed}

-- ---- the last term of a list, and those before it

no_list : {A : Type 0} {x : Term} {xs : List Term} → [] ≡ x ∷ xs → A
no_list e = let z : ◌≡◌ {A = ℕ} 0 1 = cc e in absurd (omega arith)

head_same : (x y : Term) (xs ys : List Term) → x ∷ xs ≡ y ∷ ys → x ≡ y
head_same x y xs ys e = cc e

tail_same : (x y : Term) (xs ys : List Term) → x ∷ xs ≡ y ∷ ys → xs ≡ ys
tail_same x y xs ys e = cc e

record Split (ws : List ℕ) (i n : ℕ) (xs : List Term) (x : Term) : Type 0 where
  pub less : ℕ
  pub is : n ≡ suc less
  pub last : term_at ws (i + less) ≡ x
  pub rest : terms_from ws i less ≡ xs

none_left : (ws : List ℕ) (i n : ℕ) → terms_from ws i n ≡ [] → n ≡ 0
unfolding terms_from
none_left ws i zero e = refl
none_left ws i (suc n) e = no_list (sym e)

split : (ws : List ℕ) (n i : ℕ) (xs : List Term) (x : Term) → terms_from ws i n ≡ xs ++ (x ∷ []) → Split ws i n xs x
unfolding terms_from
split ws zero i [] x e = no_list e
split ws zero i (y ∷ ys) x e = no_list e
split ws (suc n) i [] x e =
    let z : n ≡ 0 = none_left ws (i + 1) n (tail_same (term_at ws i) x (terms_from ws (i + 1) n) [] e) in
    let a : i + 0 ≡ i = omega arith in
    record { less = 0; is = ap suc z; last = ap (term_at ws) a ∙ head_same (term_at ws i) x (terms_from ws (i + 1) n) [] e; rest = refl }
split ws (suc n) i (y ∷ ys) x e =
    let s : Split ws (i + 1) n ys x = split ws n (i + 1) ys x (tail_same (term_at ws i) y (terms_from ws (i + 1) n) (ys ++ (x ∷ [])) e) in
    let a : i + suc s.less ≡ i + 1 + s.less = omega arith in
    record { less = suc s.less; is = ap suc s.is; last = ap (term_at ws) a ∙ s.last; rest = ap (λ (zs : List Term). term_at ws i ∷ zs) s.rest ∙ ap (λ (z : Term). z ∷ ys) (head_same (term_at ws i) y (terms_from ws (i + 1) n) (ys ++ (x ∷ [])) e) }

-- ---- the end of counts

not_shown : {A : Type 0} (n : Counts) → Err TermError.Malformed ≡ shown n → A
not_shown none e = let z : ◌≡◌ {A = ℕ} 0 1 = cc e in absurd (omega arith)
not_shown (from l) e = let z : ◌≡◌ {A = ℕ} 0 1 = cc e in absurd (omega arith)
not_shown (within l m) e = let z : ◌≡◌ {A = ℕ} 0 1 = cc e in absurd (omega arith)

not_past : {A : Type 0} (n : Counts) → Err TermError.Overflow ≡ shown n → A
not_past none e = let z : ◌≡◌ {A = ℕ} 0 1 = cc e in absurd (omega arith)
not_past (from l) e = let z : ◌≡◌ {A = ℕ} 0 1 = cc e in absurd (omega arith)
not_past (within l m) e = let z : ◌≡◌ {A = ℕ} 0 1 = cc e in absurd (omega arith)

one_means : (f : Form) (z : ℤ) (n : Counts) (r : Result (Numbers × ℕ) TermError) → Good (Put Numbers.Zero 1 z) r → of_trial f r ≡ shown n → of_trial f r ≡ of_one f z
one_means f z n (Ok (s, t)) g e = let p : Numbers.One z ≡ s = cc g.1 in ap (of_numbers f) (sym p)
one_means f z n (Err TermError.Malformed) g e = not_shown n e
one_means f z n (Err TermError.Overflow) g e = not_past n e

two_of : (f : Form) (s : Numbers) (a b : ℤ) → pair_of s ≡ Some (Numbers.Zero, a, b) → of_numbers f s ≡ of_two f a b
two_of f Numbers.Zero a b e = let z : ◌≡◌ {A = ℕ} 0 1 = cc e in absurd (omega arith)
two_of f (Numbers.One x) a b e = let z : ◌≡◌ {A = ℕ} 0 1 = cc e in absurd (omega arith)
two_of f (Numbers.Two x y) a b e =
    let p : ◌≡◌ {A = Numbers × ℤ × ℤ} (Numbers.Zero, x, y) (Numbers.Zero, a, b) = cc e in ap (λ (q : Numbers × ℤ × ℤ). of_two f q.1 q.2) p
two_of f (Numbers.Three x y z) a b e =
    let p : ◌≡◌ {A = Numbers × ℤ × ℤ} (Numbers.One x, y, z) (Numbers.Zero, a, b) = cc e in
    let w : ◌≡◌ {A = ℕ} 0 1 = cc (ap (λ (q : Numbers × ℤ × ℤ). q.0) p) in absurd (omega arith)
two_of f (Numbers.Four x y z w) a b e =
    let p : ◌≡◌ {A = Numbers × ℤ × ℤ} (Numbers.Two x y, z, w) (Numbers.Zero, a, b) = cc e in
    let u : ◌≡◌ {A = ℕ} 0 1 = cc (ap (λ (q : Numbers × ℤ × ℤ). q.0) p) in absurd (omega arith)

two_means : (f : Form) (a b : ℤ) (n : Counts) (r : Result (Numbers × ℕ) TermError) → Good (Two Numbers.Zero 1 a b) r → of_trial f r ≡ shown n → of_trial f r ≡ of_two f a b
two_means f a b n (Ok (s, t)) g e = two_of f s a b g.1
two_means f a b n (Err TermError.Malformed) g e = not_shown n e
two_means f a b n (Err TermError.Overflow) g e = not_past n e

-- ---- counts by their last term

module _ (m : Mode) (env : List ℤ) (ws : List ℕ) (start end : ℕ) where
  abbrev pub ended : List Term → Result (Numbers × ℕ) TermError
  ended L = ends Kind.Calculation m env (pos 0) L Numbers.Zero 1

  tallied_at : (x : Term) (L : List Term) → start < end → term_at ws (end - 1) ≡ x → terms ws start (calculations_end (form_of x) (end - 1) end) ≡ L → (tallied m env ws start end).counted ≡ of_trial (form_of x) (ended L)
  unfolding tallied
  tallied_at x L h e k =
      ap (λ (b : Bool). (cond b (tallied_by (form_of (term_at ws (end - 1))) m env ws start end) (record { counted = Err TermError.Malformed; at = start })).counted) (lt-ltb start end h)
      ∙ ap (λ (y : Term). (tallied_by (form_of y) m env ws start end).counted) e
      ∙ ap (λ (M : List Term). of_trial (form_of x) (run Kind.Calculation m env (pos 0) start M Numbers.Zero 1).trial) k
      ∙ ap (of_trial (form_of x)) (run_ends Kind.Calculation m env (pos 0) L start Numbers.Zero 1)

  -- a list that ends in x; the calculations are what stands before it, or all of it
  pub ended_at : (x : Term) (L M : List Term) → terms ws start end ≡ L ++ (x ∷ []) → (terms_from ws start (end - 1 - start) ≡ L → terms ws start (calculations_end (form_of x) (end - 1) end) ≡ M) → (tallied m env ws start end).counted ≡ of_trial (form_of x) (ended M)
  ended_at x L M e w =
      let s : Split ws start (end - start) L x = split ws (end - start) start L x e in
      let p : end - start ≡ suc s.less = s.is in
      let a : start + s.less ≡ end - 1 = omega arith in
      let b : s.less ≡ end - 1 - start = omega arith in
      tallied_at x M (omega arith) (ap (term_at ws) (sym a) ∙ s.last) (w (ap (terms_from ws start) (sym b) ∙ s.rest))

module _ (env widest : List ℤ) (inside : Inside env widest) (ws : List ℕ) (start end : ℕ) (passes : count_sizes widest ws start end ≡ Ok tt) where
  -- the answer is a set of counts, so that of the end of the list is too
  answered : (c : Result Allowed TermError) → counts env ws start end ≡ c → (n : Counts) × (c ≡ shown n)
  answered c e =
      let a : (n : Counts) × (counts env ws start end ≡ shown n) = counts_pass env widest inside ws start end passes in
      (a.0, sym e ∙ a.1)

  one_at : (f : Form) (c : Calculation) → counts env ws start end ≡ of_trial f (ends Kind.Calculation Mode.Values env (pos 0) (calculation_terms c) Numbers.Zero 1) → counts env ws start end ≡ of_one f (value env c)
  one_at f c e =
      let a : (n : Counts) × (of_trial f (ends Kind.Calculation Mode.Values env (pos 0) (calculation_terms c) Numbers.Zero 1) ≡ shown n) = answered (of_trial f (ends Kind.Calculation Mode.Values env (pos 0) (calculation_terms c) Numbers.Zero 1)) e in
      e ∙ one_means f (value env c) a.0 (ends Kind.Calculation Mode.Values env (pos 0) (calculation_terms c) Numbers.Zero 1) (calculation_ends Kind.Calculation env (pos 0) c Numbers.Zero 1) a.1

  two_at : (f : Form) (a b : Calculation) → counts env ws start end ≡ of_trial f (ends Kind.Calculation Mode.Values env (pos 0) (calculation_terms a ++ calculation_terms b) Numbers.Zero 1) → counts env ws start end ≡ of_two f (value env a) (value env b)
  two_at f a b e =
      let r : (n : Counts) × (of_trial f (ends Kind.Calculation Mode.Values env (pos 0) (calculation_terms a ++ calculation_terms b) Numbers.Zero 1) ≡ shown n) = answered (of_trial f (ends Kind.Calculation Mode.Values env (pos 0) (calculation_terms a ++ calculation_terms b) Numbers.Zero 1)) e in
      e ∙ two_means f (value env a) (value env b) r.0 (ends Kind.Calculation Mode.Values env (pos 0) (calculation_terms a ++ calculation_terms b) Numbers.Zero 1) (two_ends Kind.Calculation env (pos 0) a b Numbers.Zero 1) r.1

  counts_at : (x : Term) (L M : List Term) → terms ws start end ≡ L ++ (x ∷ []) → (terms_from ws start (end - 1 - start) ≡ L → terms ws start (calculations_end (form_of x) (end - 1) end) ≡ M) → counts env ws start end ≡ of_trial (form_of x) (ended Mode.Values env ws start end M)
  unfolding counts
  counts_at x L M e w = ended_at Mode.Values env ws start end x L M e w

  pub counts_mean : (x : Repeats) → terms ws start end ≡ repeat_terms x → counts env ws start end ≡ shown (repeats env x)
  unfolding repeats repeat_terms
  counts_mean (exact c) e = one_at Form.Exact c (counts_at (Term.Part (last_sign c)) (before c) (calculation_terms c) e (λ z. e))
  counts_mean (on_from c) e = one_at Form.Open c (counts_at Term.From (calculation_terms c) (calculation_terms c) e (λ z. z))
  counts_mean (up_to_bound c) e = one_at Form.UpTo c (counts_at Term.UpTo (calculation_terms c) (calculation_terms c) e (λ z. z))
  counts_mean (spanning a b) e = two_at Form.Closed a b (counts_at Term.Range (calculation_terms a ++ calculation_terms b) (calculation_terms a ++ calculation_terms b) e (λ z. z))
