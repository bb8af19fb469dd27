-- A calculation's rows, worked out in sizes: they leave its size, or pass 2^62 exactly where it, or a part of it, does.
-- Assumes nothing.
use Prim.Native.Nat.{ℕ, suc, ◌+◌, ◌*◌, ◌^◌, ◌≤◌, ◌<◌, max}
use mathlib.Core.Path.{◌≡◌, refl, sym, ap, ◌∙◌}
use mathlib.Core.List.{List, [], ◌∷◌, ◌++◌}
use native.Mathlib.Omega.{arith}
use borrow.Author.Tests.{lt-ltb}
use lib.IntN.{ℤ, pos, ◌+ℤ◌, ◌*ℤ◌}
use lib.ListN.{length, get_or}
use Rattle.text_tokens.specs.Numbers.{capped}
use Rattle.term_words.specs.Numbers.{bounded, pushed, kept, pair_of}
use Rattle.term_words.specs.Words.{term_of}
use Rattle.term_words.specs.Steps.{variable_of, binary, unary, operate_of}
use Rattle.term_words.specs.declared.Kind.{Kind}
use Rattle.term_words.specs.declared.Mode.{Mode}
use Rattle.term_words.specs.declared.Numbers.{Numbers}
use Rattle.term_words.specs.declared.Operation.{Operation}
use Rattle.term_words.specs.declared.Term.{Term as WordTerm}
use Rattle.term_trees.proofs.Firm.{count}
use Rattle.term_trees.proofs.Chains.{top_of_lem, pair_of_lem}
use Rattle.tree.specs.Tree.{Primary, number, variable, Operand, plain, opposite, Factors, no_factor, times, Product, product, Summands, no_summand, plus, minus, Calculation, sum}
use Rattle.tree_form.specs.Stored.{start_of_product}
use Rattle.tree_meaning.specs.Pieces.{Term, a_number, a_use, a_sign, primary_terms, operand_terms, factor_terms, product_terms, summand_terms, terms_of_calculation}
use Rattle.tree_meaning.specs.Sizes.{primary_size, operand_size, times_size, product_size, sum_size, calculation_size, times_largest, product_largest, sum_largest, calculation_largest}
use Rattle.tree_meaning.proofs.Bounds.{times_part}
use Rattle.tree_store.proofs.Rows.{TermRow, a_term, primary_rows, operand_rows, factors_rows, product_rows, summands_rows, calculation_rows}
use Rattle.tree_sizes.proofs.Runs.{Stop, stop_here, stop_left, stop_right, came_map, Ran, row_term, ran, ran_none, ran_both, ran_part}
use Rattle.std.specs.Prelude.{Option, Ok}

-- the stack after a number is put on it
pub pushed_count : (s s' : Numbers) (z : ℤ) → pushed s z ≡ Ok s' → count s' ≡ suc (count s)
pushed_count Numbers.Zero s' z e = let q : Numbers.One z ≡ s' = cc e in sym (ap count q)
pushed_count (Numbers.One a) s' z e = let q : Numbers.Two a z ≡ s' = cc e in sym (ap count q)
pushed_count (Numbers.Two a b) s' z e = let q : Numbers.Three a b z ≡ s' = cc e in sym (ap count q)
pushed_count (Numbers.Three a b c) s' z e = let q : Numbers.Four a b c z ≡ s' = cc e in sym (ap count q)
pushed_count (Numbers.Four a b c d) s' z e = let q : ◌≡◌ {A = ℕ} 0 1 = cc e in absurd (omega arith)

-- the first byte of a calculation
abbrev pub calculation_start : Calculation → ℕ
calculation_start (sum x more) = start_of_product x

-- a size n, on what waited before, of a calculation whose largest part is m
abbrev pub Put : Numbers → ℕ → (n m : ℕ) → Numbers → ℕ → Type 0
Put s t n m s' t' = (t' ≡ t) × (m ≤ 2 ^ 62) × (pushed s (pos n) ≡ Ok s')

-- these rows stop, because of a part m
abbrev pub Past : ℕ → List TermRow → (o m : ℕ) → ℕ → Type 0
Past i A o m at = Stop i A at o × (2 ^ 62 < m)

module _ (g : ℕ → ℕ) (w : List ℤ) (wide : List ℕ → ℕ) where
  -- the uses among these terms have their sizes in w, under the numbers that g gives
  unfoldable pub Measured : List Term → Type 0
  Measured [] = Unit {0}
  Measured (a_number n ∷ more) = Measured more
  Measured (a_use x ∷ more) = (g x.start < length w) × (get_or w (g x.start) (pos 0) ≡ pos (wide x.letters)) × Measured more
  Measured (a_sign s ∷ more) = Measured more

  -- of the first terms
  pub measured_first : (l m : List Term) → Measured (l ++ m) → Measured l
  unfolding Measured
  measured_first [] m h = tt
  measured_first (a_number n ∷ l) m h = measured_first l m h
  measured_first (a_use x ∷ l) m h = (h.0, h.1, measured_first l m h.2)
  measured_first (a_sign s ∷ l) m h = measured_first l m h

  -- of those after them
  pub measured_second : (l m : List Term) → Measured (l ++ m) → Measured m
  unfolding Measured
  measured_second [] m h = h
  measured_second (a_number n ∷ l) m h = measured_second l m h
  measured_second (a_use x ∷ l) m h = measured_second l m h.2
  measured_second (a_sign s ∷ l) m h = measured_second l m h

  module _ (k : Kind) (o : ℕ) where
    -- one row that leaves the size n
    one_row : (r : TermRow) (p : Operation) (i : ℕ) (s s₀ : Numbers) (t n : ℕ) → r.origin ≡ o → row_term g r ≡ WordTerm.Part p → operate_of Mode.Sizes w p s ≡ kept s₀ (bounded (pos n)) → count s₀ < 4
        → Ran (Put s₀ t n n) (Past i (r ∷ []) o n) (ran g w k i (r ∷ []) s t)
    one_row r p i s s₀ t n c e f room =
        let x = ran g w k i (r ∷ []) s t in
        came_map (λ s' t'. (t' ≡ t) × (n ≤ 2 ^ 62) × (pushed s₀ (pos n) ≡ Ok s')) (Put s₀ t n n) (λ at. (at ≡ i) × (2 ^ 62 < n)) (Past i (r ∷ []) o n) x.trial x.at (λ s' t' h. h) (λ j h. (stop_here h.0 c, h.1)) (ran_part g w k r p i s s₀ t n e f room)

    variable_kept : (j n : ℕ) (s : Numbers) → j < length w → get_or w j (pos 0) ≡ pos n → variable_of w j s ≡ kept s (bounded (pos n))
    unfolding variable_of
    variable_kept j n s l e = rw (lt-ltb j (length w) l, e) refl

    primary_ran : (x : Primary) → Measured (primary_terms x) → (i : ℕ) (s : Numbers) (t : ℕ) → count s < 4
        → Ran (Put s t (primary_size wide x) (primary_size wide x)) (Past i (primary_rows o x) o (primary_size wide x)) (ran g w k i (primary_rows o x) s t)
    unfolding Measured primary_rows term_of
    primary_ran (number n) h i s t room =
        let r = a_term 1 (capped n.value) n.start o in
        let c = capped n.value + 4294967296 * 0 in
        let x = ran g w k i (r ∷ []) s t in
        came_map (Put s t c c) (Put s t n.value n.value) (Past i (r ∷ []) o c) (Past i (r ∷ []) o n.value) x.trial x.at
        (λ s' t' q. let e : c ≡ n.value = omega (arith, q.1) in (q.0, omega (arith, q.1), ap (λ (m : ℕ). pushed s (pos m)) (sym e) ∙ q.2)) (λ j q. (q.0, omega (arith, q.1)))
        (one_row r (Operation.Number c) i s s t c refl refl refl room)
    primary_ran (variable x) h i s t room =
        one_row (a_term 2 0 x.start o) (Operation.Variable (g x.start)) i s s t (wide x.letters) refl refl (variable_kept (g x.start) (wide x.letters) s h.0 h.1) room

    -- a minus leaves the size as it is
    negated : (s s' : Numbers) (n : ℕ) → pushed s (pos n) ≡ Ok s' → operate_of Mode.Sizes w Operation.Negate s' ≡ kept s (bounded (pos n))
    negated s s' n e = ap (λ (x : Option (Numbers × ℤ)). unary (λ z. z) x) (top_of_lem s s' (pos n) e)

    operand_ran : (x : Operand) → Measured (operand_terms x) → (i : ℕ) (s : Numbers) (t : ℕ) → count s < 4
        → Ran (Put s t (operand_size wide x) (operand_size wide x)) (Past i (operand_rows o x) o (operand_size wide x)) (ran g w k i (operand_rows o x) s t)
    unfolding Measured operand_rows term_of
    operand_ran (plain x) h i s t room = primary_ran x h i s t room
    operand_ran (opposite c x) h i s t room =
        let A = primary_rows o x in
        let r = a_term 6 0 c.start o in
        let n = primary_size wide x in
        ran_both g w k (Put s t n n) (Put s t n n) (Past i A o n) (Past i (A ++ (r ∷ [])) o n) A (r ∷ []) i s t (primary_ran x h i s t room) (λ j q. (stop_left (r ∷ []) q.0, q.1))
        (λ s' t' q.
        let y = ran g w k (i + length A) (r ∷ []) s' t' in
        came_map (Put s t' n n) (Put s t n n) (Past (i + length A) (r ∷ []) o n) (Past i (A ++ (r ∷ [])) o n) y.trial y.at (λ s'' t'' u. (u.0 ∙ q.0, u.1, u.2)) (λ j u. (stop_right A u.0, u.1))
        (one_row r Operation.Negate (i + length A) s' s t' n refl refl (negated s s' n q.2) room))

    -- two numbers and their sign
    signed : (f : ℤ → ℤ → ℤ) (s s₁ s₂ : Numbers) (a b c : ℕ) (p : Operation) → ((u : Numbers) → operate_of Mode.Sizes w p u ≡ binary f (pair_of u)) → f (pos a) (pos b) ≡ pos c → pushed s (pos a) ≡ Ok s₁ → pushed s₁ (pos b) ≡ Ok s₂
        → operate_of Mode.Sizes w p s₂ ≡ kept s (bounded (pos c))
    signed f s s₁ s₂ a b c p e q h m = e s₂ ∙ ap (λ (x : Option (Numbers × ℤ × ℤ)). binary f x) (pair_of_lem s s₁ s₂ (pos a) (pos b) h m) ∙ ap (λ (z : ℤ). kept s (bounded z)) q

    -- factors after a number n
    factors_ran : (more : Factors) → Measured (factor_terms more) → (n i : ℕ) (s s₁ : Numbers) (t : ℕ) → n ≤ 2 ^ 62 → count s < 3 → pushed s (pos n) ≡ Ok s₁
        → Ran (Put s t (times_size wide n more) (times_largest wide n more)) (Past i (factors_rows o more) o (times_largest wide n more)) (ran g w k i (factors_rows o more) s₁ t)
    unfolding Measured factor_terms factors_rows times_size times_largest term_of
    factors_ran no_factor h n i s s₁ t l room e = ran_none g w k (Put s t n n) (Past i [] o n) i s₁ t (refl, l, e)
    factors_ran (times c x more) h n i s s₁ t l room e =
        let A = operand_rows o x in
        let r = a_term 5 0 c.start o in
        let F = factors_rows o more in
        let m = operand_size wide x in
        let T = times_size wide (n * m) more in
        let L = times_largest wide (n * m) more in
        let M = max n (max m L) in
        let W = Past i (A ++ (r ∷ F)) o M in
        let part = times_part wide (n * m) more in
        ran_both g w k (Put s₁ t m m) (Put s t T M) (Past i A o m) W A (r ∷ F) i s₁ t (operand_ran x (measured_first (operand_terms x) (factor_terms more) h) i s₁ t (omega (arith, pushed_count s s₁ (pos n) e)))
        (λ j q. (stop_left (r ∷ F) q.0, omega (arith, q.1)))
        (λ s₂ t₂ q.
        let i₂ = i + length A in
        ran_both g w k (Put s t₂ (n * m) (n * m)) (Put s t T M) (Past i₂ (r ∷ []) o (n * m)) W (r ∷ []) F i₂ s₂ t₂
        (one_row r Operation.Multiply i₂ s₂ s t₂ (n * m) refl refl (signed ◌*ℤ◌ s s₁ s₂ n m (n * m) Operation.Multiply (λ u. refl) refl e q.2) (omega arith))
        (λ j u. (stop_right A (stop_left F u.0), omega (arith, u.1, part)))
        (λ s₃ t₃ u.
        let y = ran g w k (i₂ + 1) F s₃ t₃ in
        came_map (Put s t₃ T L) (Put s t T M) (Past (i₂ + 1) F o L) W y.trial y.at
        (λ s₄ t₄ v. (v.0 ∙ u.0 ∙ q.0, omega (arith, v.1, q.1, l), v.2)) (λ j v. (stop_right A (stop_right (r ∷ []) v.0), omega (arith, v.1)))
        (factors_ran more (measured_second (operand_terms x) (factor_terms more) h) (n * m) (i₂ + 1) s s₃ t₃ u.1 room u.2)))

    product_ran : (x : Product) → Measured (product_terms x) → (i : ℕ) (s : Numbers) (t : ℕ) → count s < 3
        → Ran (Put s t (product_size wide x) (product_largest wide x)) (Past i (product_rows o x) o (product_largest wide x)) (ran g w k i (product_rows o x) s t)
    unfolding product_rows
    product_ran (product x more) h i s t room =
        let A = operand_rows o x in
        let F = factors_rows o more in
        let m = operand_size wide x in
        let T = times_size wide m more in
        let L = times_largest wide m more in
        let part = times_part wide m more in
        ran_both g w k (Put s t m m) (Put s t T L) (Past i A o m) (Past i (A ++ F) o L) A F i s t (operand_ran x (measured_first (operand_terms x) (factor_terms more) h) i s t (omega arith)) (λ j q. (stop_left F q.0, omega (arith, q.1, part)))
        (λ s₁ t₁ q.
        let y = ran g w k (i + length A) F s₁ t₁ in
        came_map (Put s t₁ T L) (Put s t T L) (Past (i + length A) F o L) (Past i (A ++ F) o L) y.trial y.at (λ s₂ t₂ u. (u.0 ∙ q.0, u.1, u.2)) (λ j u. (stop_right A u.0, u.1))
        (factors_ran more (measured_second (operand_terms x) (factor_terms more) h) m (i + length A) s s₁ t₁ q.1 room q.2))

    times_most : (n : ℕ) (f : Factors) → times_size wide n f ≤ times_largest wide n f
    unfolding times_size times_largest
    times_most n no_factor = omega arith
    times_most n (times c y f) = let q = times_most (n * operand_size wide y) f in omega (arith, q)

    product_part : (x : Product) → product_size wide x ≤ product_largest wide x
    product_part (product x more) = times_most (operand_size wide x) more

    sum_part : (n : ℕ) (more : Summands) → n ≤ sum_largest wide n more
    unfolding sum_largest
    sum_part n no_summand = omega arith
    sum_part n (plus c x more) = omega arith
    sum_part n (minus c x more) = omega arith

    -- one more summand after a number n, and the rest: the same for plus and minus
    module _ (more : Summands) (rest : (n i : ℕ) (s s₁ : Numbers) (t : ℕ) → n ≤ 2 ^ 62 → count s < 2 → pushed s (pos n) ≡ Ok s₁
        → Ran (Put s t (sum_size wide n more) (sum_largest wide n more)) (Past i (summands_rows o more) o (sum_largest wide n more)) (ran g w k i (summands_rows o more) s₁ t)) where
      summand_ran : (x : Product) (r : TermRow) (p : Operation) → Measured (product_terms x) → r.origin ≡ o → row_term g r ≡ WordTerm.Part p → ((u : Numbers) → operate_of Mode.Sizes w p u ≡ binary ◌+ℤ◌ (pair_of u))
          → (n i : ℕ) (s s₁ : Numbers) (t : ℕ) → n ≤ 2 ^ 62 → count s < 2 → pushed s (pos n) ≡ Ok s₁
          → Ran (Put s t (sum_size wide (n + product_size wide x) more) (max n (max (product_largest wide x) (sum_largest wide (n + product_size wide x) more))))
          (Past i (product_rows o x ++ (r ∷ summands_rows o more)) o (max n (max (product_largest wide x) (sum_largest wide (n + product_size wide x) more)))) (ran g w k i (product_rows o x ++ (r ∷ summands_rows o more)) s₁ t)
      summand_ran x r p h c e f n i s s₁ t l room b =
          let A = product_rows o x in
          let F = summands_rows o more in
          let m = product_size wide x in
          let N = product_largest wide x in
          let T = sum_size wide (n + m) more in
          let L = sum_largest wide (n + m) more in
          let M = max n (max N L) in
          let W = Past i (A ++ (r ∷ F)) o M in
          let part = sum_part (n + m) more in
          let less = product_part x in
          ran_both g w k (Put s₁ t m N) (Put s t T M) (Past i A o N) W A (r ∷ F) i s₁ t (product_ran x h i s₁ t (omega (arith, pushed_count s s₁ (pos n) b)))
          (λ j q. (stop_left (r ∷ F) q.0, omega (arith, q.1)))
          (λ s₂ t₂ q.
          let i₂ = i + length A in
          ran_both g w k (Put s t₂ (n + m) (n + m)) (Put s t T M) (Past i₂ (r ∷ []) o (n + m)) W (r ∷ []) F i₂ s₂ t₂
          (one_row r p i₂ s₂ s t₂ (n + m) c e (signed ◌+ℤ◌ s s₁ s₂ n m (n + m) p f refl b q.2) (omega arith))
          (λ j u. (stop_right A (stop_left F u.0), omega (arith, u.1, part)))
          (λ s₃ t₃ u.
          let y = ran g w k (i₂ + 1) F s₃ t₃ in
          came_map (Put s t₃ T L) (Put s t T M) (Past (i₂ + 1) F o L) W y.trial y.at
          (λ s₄ t₄ v. (v.0 ∙ u.0 ∙ q.0, omega (arith, v.1, q.1, l), v.2)) (λ j v. (stop_right A (stop_right (r ∷ []) v.0), omega (arith, v.1)))
          (rest (n + m) (i₂ + 1) s s₃ t₃ u.1 room u.2)))

    summands_ran : (more : Summands) → Measured (summand_terms more) → (n i : ℕ) (s s₁ : Numbers) (t : ℕ) → n ≤ 2 ^ 62 → count s < 2 → pushed s (pos n) ≡ Ok s₁
        → Ran (Put s t (sum_size wide n more) (sum_largest wide n more)) (Past i (summands_rows o more) o (sum_largest wide n more)) (ran g w k i (summands_rows o more) s₁ t)
    unfolding Measured summand_terms summands_rows sum_size sum_largest term_of
    summands_ran no_summand h n i s s₁ t l room e = ran_none g w k (Put s t n n) (Past i [] o n) i s₁ t (refl, l, e)
    summands_ran (plus c x more) h n i s s₁ t l room e =
        summand_ran more (summands_ran more (measured_second (product_terms x) (summand_terms more) h)) x (a_term 3 0 c.start o) Operation.Add (measured_first (product_terms x) (summand_terms more) h) refl refl (λ u. refl) n i s s₁ t l room e
    summands_ran (minus c x more) h n i s s₁ t l room e =
        summand_ran more (summands_ran more (measured_second (product_terms x) (summand_terms more) h)) x (a_term 4 0 c.start o) Operation.Subtract (measured_first (product_terms x) (summand_terms more) h) refl refl (λ u. refl) n i s s₁ t l room e

  -- the whole calculation
  pub calculation_ran : (k : Kind) (c : Calculation) → Measured (terms_of_calculation c) → (i : ℕ) (s : Numbers) (t : ℕ) → count s < 2
      → Ran (Put s t (calculation_size wide c) (calculation_largest wide c)) (Past i (calculation_rows c) (calculation_start c) (calculation_largest wide c)) (ran g w k i (calculation_rows c) s t)
  unfolding calculation_rows
  calculation_ran k (sum x more) h i s t room =
      let o = start_of_product x in
      let A = product_rows o x in
      let F = summands_rows o more in
      let m = product_size wide x in
      let N = product_largest wide x in
      let T = sum_size wide m more in
      let L = sum_largest wide m more in
      let less = product_part k o x in
      ran_both g w k (Put s t m N) (Put s t T (max N L)) (Past i A o N) (Past i (A ++ F) o (max N L)) A F i s t (product_ran k o x (measured_first (product_terms x) (summand_terms more) h) i s t (omega arith))
      (λ j q. (stop_left F q.0, omega (arith, q.1)))
      (λ s₁ t₁ q.
      let y = ran g w k (i + length A) F s₁ t₁ in
      came_map (Put s t₁ T L) (Put s t T (max N L)) (Past (i + length A) F o L) (Past i (A ++ F) o (max N L)) y.trial y.at (λ s₂ t₂ u. (u.0 ∙ q.0, omega (arith, u.1, q.1), u.2)) (λ j u. (stop_right A u.0, omega (arith, u.1)))
      (summands_ran k o more (measured_second (product_terms x) (summand_terms more) h) m (i + length A) s s₁ t₁ (omega (arith, q.1)) room q.2))
