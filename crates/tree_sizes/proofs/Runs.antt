-- Lists of terms worked out in sizes, row by row: what waits where they come to an end, and at which row they pass 2^62.
-- Assumes nothing.
use Prim.Native.Nat.{ℕ, suc, ◌+◌, ◌-◌, ◌^◌, ◌≤◌, ◌<◌}
use mathlib.Core.Path.{◌≡◌, refl, sym, ap, subst, ◌∙◌}
use mathlib.Core.Bool.{Bool, true, false, cond}
use mathlib.Core.List.{List, [], ◌∷◌, ◌++◌, map}
use native.Mathlib.Omega.{arith}
use borrow.Author.Tests.{leb-true, leb-false}
use lib.Dec.{leb}
use lib.IntN.{ℤ, pos}
use lib.ListN.{length}
use Rattle.term_integers.proofs.Laws.{bounded_in, bounded_out}
use Rattle.term_words.specs.Numbers.{bounded, pushed, kept, top_of}
use Rattle.term_words.specs.Words.{term_of}
use Rattle.term_words.specs.Steps.{operate_of, after_of, equal_to, operated, step_of}
use Rattle.term_words.specs.declared.Kind.{Kind}
use Rattle.term_words.specs.declared.Mode.{Mode}
use Rattle.term_words.specs.declared.Numbers.{Numbers}
use Rattle.term_words.specs.declared.Operation.{Operation}
use Rattle.term_words.specs.declared.Term.{Term}
use Rattle.term_evaluation.specs.Meaning.{next, run}
use Rattle.term_evaluation.specs.declared.Ended.{Ended}
use Rattle.term_trees.proofs.Firm.{count}
use Rattle.text_store.specs.Words.{is_use, term_origin}
use Rattle.text_shapes.specs.TermShapes.{rename_term}
use Rattle.tree_store.proofs.Rows.{TermRow, marked, last_marked}
use Rattle.tree_grammar.proofs.Lists.{RowsAt, row_then}
use Rattle.std.specs.Prelude.{Result, Ok, Err}
use Rattle.term_words.specs.declared.TermError.{TermError}

-- ---- a row at which a list stops

-- row number `at` of those that begin at number i, with this first byte of its calculation
pub data Stop : ℕ → List TermRow → ℕ → ℕ → Type 0 where
  stop_here : {i at o : ℕ} {r : TermRow} {A : List TermRow} → at ≡ i → r.origin ≡ o → Stop i (r ∷ A) at o
  stop_later : {i at o : ℕ} {r : TermRow} {A : List TermRow} → Stop (i + 1) A at o → Stop i (r ∷ A) at o

-- with rows after them
pub stop_left : {i at o : ℕ} {A : List TermRow} (B : List TermRow) → Stop i A at o → Stop i (A ++ B) at o
stop_left B (stop_here e f) = stop_here e f
stop_left B (stop_later s) = stop_later (stop_left B s)

-- behind other rows
pub stop_right : {i at o : ℕ} (A : List TermRow) {B : List TermRow} → Stop (i + length A) B at o → Stop i (A ++ B) at o
stop_right {i} {at} {o} [] {B} s = subst (λ (k : ℕ). Stop k B at o) (let z : i + 0 ≡ i = omega arith in z) s
stop_right {i} {at} {o} (r ∷ A) {B} s = stop_later (stop_right {i = i + 1} A (subst (λ (k : ℕ). Stop k B at o) (let z : i + suc (length A) ≡ i + 1 + length A = omega arith in z) s))

-- a mark changes no place
pub stop_marked : {i at o : ℕ} (A : List TermRow) → Stop i A at o → Stop i (last_marked A) at o
unfolding last_marked
stop_marked [] x' = elim x' [ ]
stop_marked (r ∷ []) (stop_later s) = elim s [ ]
stop_marked (r ∷ []) (stop_here e f) = stop_here e f
stop_marked (r ∷ q ∷ A) (stop_here e f) = stop_here e f
stop_marked {i = i} (r ∷ q ∷ A) (stop_later s) = stop_later (stop_marked {i = i + 1} (q ∷ A) s)

stop_from : {i at o : ℕ} {A : List TermRow} → Stop i A at o → i ≤ at
stop_from (stop_here e f) = omega arith
stop_from (stop_later s) = omega (arith, stop_from s)

-- the stored first byte of the row's calculation
pub stop_origin : {ts : List ℕ} {f i at o : ℕ} {A : List TermRow} → RowsAt ts f A → Stop i A at o → term_origin ts (f + (at - i)) ≡ o
stop_origin Rattle.tree_grammar.proofs.Lists.no_rows x4 = elim x4 [ ]
stop_origin {ts} {f} {i} {at} {o} (row_then h more) (stop_here e g) = ap (term_origin ts) (let z : f + (at - i) ≡ f = omega arith in z) ∙ h.origin_is ∙ g
stop_origin {ts} {f} {i} {at} {o} (row_then h more) (stop_later s) =
    ap (term_origin ts) (let z : f + (at - i) ≡ f + 1 + (at - (i + 1)) = omega (arith, stop_from s) in z) ∙ stop_origin more s

-- ---- where a list came to

-- Q of what waits where it comes to its end, Z of the number where it passes 2^62; it is not malformed
abbrev pub Came : (Numbers → ℕ → Type 0) → (ℕ → Type 0) → Result (Numbers × ℕ) TermError → ℕ → Type 0
Came Q Z (Ok (s, t)) at = Q s t
Came Q Z (Err TermError.Malformed) at = ⊥
Came Q Z (Err TermError.Overflow) at = Z at

-- the same of a list that has ended
abbrev pub Ran : (Numbers → ℕ → Type 0) → (ℕ → Type 0) → Ended → Type 0
Ran Q Z e = Came Q Z e.trial e.at

-- with weaker claims
pub came_map : (Q R : Numbers → ℕ → Type 0) (Z W : ℕ → Type 0) (x : Result (Numbers × ℕ) TermError) (at : ℕ) → ((s : Numbers) (t : ℕ) → Q s t → R s t) → ((j : ℕ) → Z j → W j) → Came Q Z x at → Came R W x at
came_map Q R Z W (Ok (s, t)) at f g h = f s t h
came_map Q R Z W (Err TermError.Malformed) at f g h = h
came_map Q R Z W (Err TermError.Overflow) at f g h = g at h

module _ (g : ℕ → ℕ) where
  -- the term that a row is, its variable under the number that g gives for its place
  abbrev pub row_term : TermRow → Term
  row_term r = rename_term g (term_of r.tag (cond (is_use r.tag) r.place r.value) 0)

  -- a part of a calculation, which may end an item
  pub record PartRow (r : TermRow) : Type 0 where
    pub part : Operation
    pub as_part : row_term r ≡ Term.Part part
    pub as_single : row_term (marked r) ≡ Term.Single part

  -- all of these are
  pub data PartRows : List TermRow → Type 0 where
    no_parts : PartRows []
    part_then : {r : TermRow} {A : List TermRow} → PartRow r → PartRows A → PartRows (r ∷ A)

-- one step, and then whatever follows
next_both : (Q R : Numbers → ℕ → Type 0) (Z W : ℕ → Type 0) (i : ℕ) (go on : Numbers → ℕ → Ended) (x : Result (Numbers × ℕ) TermError) → ((j : ℕ) → Z j → W j) → ((s : Numbers) (t : ℕ) → Ran Q Z (go s t) → Ran R W (on s t)) → Ran Q Z (next go i x) → Ran R W (next on i x)
next_both Q R Z W i go on (Ok (s, t)) f h p = h s t p
next_both Q R Z W i go on (Err TermError.Malformed) f h p = p
next_both Q R Z W i go on (Err TermError.Overflow) f h p = f i p

module _ (g : ℕ → ℕ) (w : List ℤ) (k : Kind) where
  -- rows from number i on, with s and t waiting
  abbrev pub ran : ℕ → List TermRow → Numbers → ℕ → Ended
  ran i A s t = run k Mode.Sizes w (pos 0) i (map (row_term g) A) s t

  -- no rows
  pub ran_none : (Q : Numbers → ℕ → Type 0) (Z : ℕ → Type 0) (i : ℕ) (s : Numbers) (t : ℕ) → Q s t → Ran Q Z (ran i [] s t)
  unfolding run
  ran_none Q Z i s t q = q

  -- after rows come others
  pub ran_both : (Q R : Numbers → ℕ → Type 0) (Z W : ℕ → Type 0) (A B : List TermRow) (i : ℕ) (s : Numbers) (t : ℕ) → Ran Q Z (ran i A s t) → ((j : ℕ) → Z j → W j)
      → ((s' : Numbers) (t' : ℕ) → Q s' t' → Ran R W (ran (i + length A) B s' t')) → Ran R W (ran i (A ++ B) s t)
  unfolding run
  ran_both Q R Z W [] B i s t p f h = subst (λ (m : ℕ). Ran R W (ran m B s t)) (let z : i + 0 ≡ i = omega arith in z) (h s t p)
  ran_both Q R Z W (r ∷ A) B i s t p f h =
      next_both Q R Z W i (λ (s' : Numbers) (t' : ℕ). ran (i + 1) A s' t') (λ (s' : Numbers) (t' : ℕ). ran (i + 1) (A ++ B) s' t') (step_of k Mode.Sizes w (pos 0) (row_term g r) s t) f
      (λ s' t' q.
      ran_both Q R Z W A B (i + 1) s' t' q f
      (λ s'' t'' u. subst (λ (m : ℕ). Ran R W (ran m B s'' t'')) (let z : i + suc (length A) ≡ i + 1 + length A = omega arith in z) (h s'' t'' u)))
      p

  -- one row
  pub ran_one : (Q : Numbers → ℕ → Type 0) (Z : ℕ → Type 0) (r : TermRow) (i : ℕ) (s : Numbers) (t : ℕ) → Came Q Z (step_of k Mode.Sizes w (pos 0) (row_term g r) s t) i → Ran Q Z (ran i (r ∷ []) s t)
  unfolding run
  ran_one Q Z r i s t p = by (step_of k Mode.Sizes w (pos 0) (row_term g r) s t) p
    where
      by : (x : Result (Numbers × ℕ) TermError) → Came Q Z x i → Ran Q Z (next (λ (s' : Numbers) (t' : ℕ). ran (i + 1) [] s' t') i x)
      by (Ok (s', t')) q = q
      by (Err TermError.Malformed) q = q
      by (Err TermError.Overflow) q = q

  part_step : (o : Operation) (s : Numbers) (t : ℕ) → step_of k Mode.Sizes w (pos 0) (Term.Part o) s t ≡ after_of (operate_of Mode.Sizes w o s) t
  part_step o s t = by k
    where
      by : (j : Kind) → step_of j Mode.Sizes w (pos 0) (Term.Part o) s t ≡ after_of (operate_of Mode.Sizes w o s) t
      by Kind.Calculation = refl
      by Kind.Set = refl
      by Kind.Condition = refl

  -- a part of a calculation that leaves a number
  pub ran_part : (r : TermRow) (o : Operation) (i : ℕ) (s s₀ : Numbers) (t n : ℕ) → row_term g r ≡ Term.Part o → operate_of Mode.Sizes w o s ≡ kept s₀ (bounded (pos n)) → count s₀ < 4
      → Ran (λ s' t'. (t' ≡ t) × (n ≤ 2 ^ 62) × (pushed s₀ (pos n) ≡ Ok s')) (λ at. (at ≡ i) × (2 ^ 62 < n)) (ran i (r ∷ []) s t)
  ran_part r o i s s₀ t n e f room =
      ran_one Q Z r i s t (subst (λ (x : Result (Numbers × ℕ) TermError). Came Q Z x i) (sym (ap (λ (y : Term). step_of k Mode.Sizes w (pos 0) y s t) e ∙ part_step o s t ∙ ap (λ (y : Result Numbers TermError). after_of y t) f)) (by (leb n (2 ^ 62)) refl))
    where
      Q : Numbers → ℕ → Type 0
      Q s' t' = (t' ≡ t) × (n ≤ 2 ^ 62) × (pushed s₀ (pos n) ≡ Ok s')

      Z : ℕ → Type 0
      Z at = (at ≡ i) × (2 ^ 62 < n)

      put : (u : Numbers) → u ≡ s₀ → n ≤ 2 ^ 62 → Came Q Z (after_of (pushed u (pos n)) t) i
      put Numbers.Zero z l = (refl, l, ap (λ (y : Numbers). pushed y (pos n)) (sym z))
      put (Numbers.One a) z l = (refl, l, ap (λ (y : Numbers). pushed y (pos n)) (sym z))
      put (Numbers.Two a b) z l = (refl, l, ap (λ (y : Numbers). pushed y (pos n)) (sym z))
      put (Numbers.Three a b c) z l = (refl, l, ap (λ (y : Numbers). pushed y (pos n)) (sym z))
      put (Numbers.Four a b c d) z l = let m : 4 ≡ count s₀ = ap count z in omega arith

      by : (b : Bool) → leb n (2 ^ 62) ≡ b → Came Q Z (after_of (kept s₀ (bounded (pos n))) t) i
      by true z = let l : n ≤ 2 ^ 62 = leb-true n (2 ^ 62) z in rw (bounded_in (pos n) l) (put s₀ refl l)
      by false z = let l : 2 ^ 62 < n = leb-false n (2 ^ 62) z in rw (bounded_out (pos n) l) (refl, l)

-- rows of a calculation whose last one ends an item: what waits is tested
pub ran_marked : (g : ℕ → ℕ) (w : List ℤ) (Q R : Numbers → ℕ → Type 0) (Z : ℕ → Type 0) (A : List TermRow) (i : ℕ) (s : Numbers) (t : ℕ) → 1 ≤ length A → PartRows g A → Ran Q Z (ran g w Kind.Set i A s t)
    → ((s' : Numbers) (t' : ℕ) → Q s' t' → Came R Z (equal_to (pos 0) (top_of s') t') (i + length A - 1)) → Ran R Z (ran g w Kind.Set i (last_marked A) s t)
unfolding last_marked run
ran_marked g w Q R Z [] i s t some parts p h = absurd (omega arith)
ran_marked g w Q R Z (r ∷ []) i s t some (part_then a no_parts) p h =
    ran_one g w Kind.Set R Z (marked r) i s t (subst (λ (y : Term). Came R Z (step_of Kind.Set Mode.Sizes w (pos 0) y s t) i) (sym a.as_single) (by (operate_of Mode.Sizes w a.part s) before))
  where
    single : (x : Result (Numbers × ℕ) TermError) → Ran Q Z (next (λ (s' : Numbers) (t' : ℕ). ran g w Kind.Set (i + 1) [] s' t') i x) → Came Q Z x i
    single (Ok (s', t')) q = q
    single (Err TermError.Malformed) q = q
    single (Err TermError.Overflow) q = q

    before : Came Q Z (after_of (operate_of Mode.Sizes w a.part s) t) i
    before = subst (λ (y : Term). Came Q Z (step_of Kind.Set Mode.Sizes w (pos 0) y s t) i) a.as_part (single (step_of Kind.Set Mode.Sizes w (pos 0) (row_term g r) s t) p)

    by : (x : Result Numbers TermError) → Came Q Z (after_of x t) i → Came R Z (operated (pos 0) x t) i
    by (Ok s') q = subst (λ (m : ℕ). Came R Z (equal_to (pos 0) (top_of s') t) m) (let z : i + 1 - 1 ≡ i = omega arith in z) (h s' t q)
    by (Err TermError.Malformed) q = q
    by (Err TermError.Overflow) q = q
ran_marked g w Q R Z (r ∷ q ∷ A) i s t some (part_then a parts) p h =
    next_both Q R Z Z i (λ (s' : Numbers) (t' : ℕ). ran g w Kind.Set (i + 1) (q ∷ A) s' t') (λ (s' : Numbers) (t' : ℕ). ran g w Kind.Set (i + 1) (last_marked (q ∷ A)) s' t') (step_of Kind.Set Mode.Sizes w (pos 0) (row_term g r) s t) (λ j z. z)
    (λ s' t' u.
    ran_marked g w Q R Z (q ∷ A) (i + 1) s' t' (omega arith) parts u
    (λ s'' t'' v. subst (λ (m : ℕ). Came R Z (equal_to (pos 0) (top_of s'') t'') m) (let z : i + suc (suc (length A)) - 1 ≡ i + 1 + suc (length A) - 1 = omega arith in z) (h s'' t'' v)))
    p
