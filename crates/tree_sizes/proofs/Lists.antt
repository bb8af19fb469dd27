-- The rows of sets, counts and conditions, worked out in sizes: they pass 2^62 at the first calculation of theirs that does, and nowhere where none does.
-- Assumes nothing.
use Prim.Native.Nat.{ℕ, suc, ◌+◌, ◌*◌, ◌/◌, ◌%◌, ◌^◌, ◌≤◌, ◌<◌}
use mathlib.Core.Path.{◌≡◌, refl, sym, ap, subst, ◌∙◌}
use mathlib.Core.Bool.{Bool, true, false, cond}
use mathlib.Core.List.{List, [], ◌∷◌, ◌++◌, append-nil}
use native.Mathlib.Omega.{arith}
use native.Mathlib.Nat.{pow-succ'}
use borrow.Author.Tests.{lt-ltb, le-ltb}
use lib.Dec.{eqb}
use lib.IntN.{ℤ, pos}
use lib.ListN.{length}
use lib.Pow.{pow_mono, pow_pos}
use Rattle.basis.specs.Bits.{digit}
use Rattle.term_words.specs.Numbers.{pushed}
use Rattle.term_words.specs.Tests.{noted, joins, combined}
use Rattle.term_words.specs.Words.{term_of}
use Rattle.term_words.specs.Steps.{step_of}
use Rattle.term_words.specs.declared.Joint.{Joint}
use Rattle.term_words.specs.declared.Kind.{Kind}
use Rattle.term_words.specs.declared.Mode.{Mode}
use Rattle.term_words.specs.declared.Numbers.{Numbers}
use Rattle.term_words.specs.declared.Operation.{Operation}
use Rattle.term_words.specs.declared.Term.{Term}
use Rattle.term_evaluation.specs.declared.Ended.{Ended}
use Rattle.term_trees.proofs.Firm.{count}
use Rattle.text_store.specs.Store.{marked_tag}
use Rattle.text_store.specs.Words.{is_use}
use Rattle.text_shapes.specs.TermShapes.{rename_term}
use Rattle.tree.specs.Tree.{number, variable, plain, opposite, product, Calculation, sum}
use Rattle.tree.specs.Spelling.{spell_primary, spell_operand, spell_product, spell_calculation}
use Rattle.tree_form.specs.Stored.{start_of_primary, start_of_operand, start_of_product}
use Rattle.tree_meaning.specs.Pieces.{Term as TreeTerm, terms_of_calculation}
use Rattle.tree_meaning.specs.Places.{place_if, first_byte}
use Rattle.tree_meaning.specs.Sizes.{calculation_largest, too_large, calculation_size}
use Rattle.tree_store.proofs.Rows.{TermRow, calculation_rows}
use Rattle.tree_sizes.proofs.Tells.{Arithmetic, adding, subtracting, multiplying, negating, Reckons, counted_none, counted_number, counted_use, counted_sign, counted_skip}
use Rattle.tree_sizes.proofs.Runs.{Stop, stop_left, stop_right, Came, came_map, Ran, row_term, PartRow, PartRows, no_parts, part_then, ran, ran_both, ran_one}
use Rattle.tree_sizes.proofs.Reckoning.{calculation_start, Put, Past, Measured, calculation_ran}
use Rattle.std.specs.Prelude.{Result, Ok, Err}
use Rattle.term_words.specs.declared.TermError.{TermError}

-- ---- tests that wait

-- d of them
abbrev pub Deep : ℕ → ℕ → Type 0
Deep d t = (2 ^ d ≤ t) × (t < 2 ^ suc d)

digit_most : (b : Bool) → digit b ≤ 1
digit_most true = omega arith
digit_most false = omega arith

-- one more
pub more_deep : (t d : ℕ) (b : Bool) → Deep d t → Deep (suc d) (t * 2 + digit b)
more_deep t d b h =
    let p : 2 ^ suc d ≡ 2 * 2 ^ d = pow-succ' 2 d in
    let q : 2 ^ suc (suc d) ≡ 2 * 2 ^ suc d = pow-succ' 2 (suc d) in
    let m = digit_most b in
    (omega (arith, h.0, m), omega (arith, h.1, m))

-- a test is noted: there is room for 62
pub noted_is : (t d : ℕ) (b : Bool) → Deep d t → d < 62 → noted Numbers.Zero t b ≡ Ok (Numbers.Zero, t * 2 + digit b)
unfolding noted
noted_is t d b h l =
    let p : 2 ^ suc d ≤ 2 ^ 62 = pow_mono {j = 62} (omega arith) in
    ap (λ (c : Bool). cond c (Ok (Numbers.Zero, t * 2 + digit b)) (Err TermError.Malformed)) (lt-ltb t (2 ^ 62) (omega (arith, h.1)))

-- what is left after a test
abbrev pub Tested : ℕ → Numbers → ℕ → Type 0
Tested d s t = (s ≡ Numbers.Zero) × Deep d t

-- ---- faults of a list

-- rows from number i on stop at the first of these faults
pub record Faulty (i : ℕ) (A : List TermRow) (l : List ℕ) (at : ℕ) : Type 0 where
  pub origin : ℕ
  pub stop : Stop i A at origin
  pub rest : List ℕ
  pub first_is : l ≡ origin ∷ rest

-- there is none, and P of what waits
abbrev pub Passed : (Numbers → ℕ → Type 0) → List ℕ → Numbers → ℕ → Type 0
Passed P l s t = (l ≡ []) × P s t

-- so, or they stop at the first
abbrev pub Judged : (Numbers → ℕ → Type 0) → List ℕ → ℕ → List TermRow → Ended → Type 0
Judged P l i A e = Ran (Passed P l) (Faulty i A l) e

module _ (g : ℕ → ℕ) (w : List ℤ) (k : Kind) where
  -- rows and those after them
  pub judged_both : (P R : Numbers → ℕ → Type 0) (l m : List ℕ) (A B : List TermRow) (i : ℕ) (s : Numbers) (t : ℕ) → Judged P l i A (ran g w k i A s t)
      → ((s' : Numbers) (t' : ℕ) → P s' t' → Judged R m (i + length A) B (ran g w k (i + length A) B s' t')) → Judged R (l ++ m) i (A ++ B) (ran g w k i (A ++ B) s t)
  judged_both P R l m A B i s t p h =
      ran_both g w k (λ s t. (l ≡ []) × P s t) (λ s t. (l ++ m ≡ []) × R s t) (Faulty i A l) (Faulty i (A ++ B) (l ++ m)) A B i s t p
      (λ j q. record { origin = q.origin; stop = stop_left B q.stop; rest = q.rest ++ m; first_is = ap (λ (x : List ℕ). x ++ m) q.first_is })
      (λ s' t' q.
      let y = ran g w k (i + length A) B s' t' in
      let e : l ++ m ≡ m = ap (λ (x : List ℕ). x ++ m) q.0 in
      came_map (λ s t. (m ≡ []) × R s t) (λ s t. (l ++ m ≡ []) × R s t) (Faulty (i + length A) B m) (Faulty i (A ++ B) (l ++ m)) y.trial y.at (λ s'' t'' u. (e ∙ u.0, u.1))
      (λ j u. record { origin = u.origin; stop = stop_right A u.stop; rest = u.rest; first_is = e ∙ u.first_is }) (h s' t' q.1))

  -- the same faults
  pub judged_as : (P : Numbers → ℕ → Type 0) (l m : List ℕ) (i : ℕ) (A : List TermRow) (e : Ended) → l ≡ m → Judged P l i A e → Judged P m i A e
  judged_as P l m i A e q h = subst (λ (x : List ℕ). Judged P x i A e) q h

  -- signs at the end
  pub judged_quiet : (P R : Numbers → ℕ → Type 0) (l : List ℕ) (A B : List TermRow) (i : ℕ) (s : Numbers) (t : ℕ) → Judged P l i A (ran g w k i A s t)
      → ((s' : Numbers) (t' : ℕ) → P s' t' → Judged R [] (i + length A) B (ran g w k (i + length A) B s' t')) → Judged R l i (A ++ B) (ran g w k i (A ++ B) s t)
  judged_quiet P R l A B i s t p h = judged_as R (l ++ []) l i (A ++ B) (ran g w k i (A ++ B) s t) (append-nil l) (judged_both P R l [] A B i s t p h)

  -- a sign that tests
  pub judged_sign : (d : ℕ) (r : TermRow) (i : ℕ) (s : Numbers) (t t₀ : ℕ) (b : Bool) → step_of k Mode.Sizes w (pos 0) (row_term g r) s t ≡ noted Numbers.Zero t₀ b → Deep d t₀ → d < 62
      → Judged (Tested (suc d)) [] i (r ∷ []) (ran g w k i (r ∷ []) s t)
  judged_sign d r i s t t₀ b e h l =
      ran_one g w k (Passed (Tested (suc d)) []) (Faulty i (r ∷ []) []) r i s t
      (subst (λ (x : Result (Numbers × ℕ) TermError). Came (Passed (Tested (suc d)) []) (Faulty i (r ∷ []) []) x i) (sym (e ∙ noted_is t₀ d b h l)) (refl, (refl, more_deep t₀ d b h)))

  -- a sign that joins two tests
  pub judged_join : (j : Joint) (d : ℕ) (r : TermRow) → ((s : Numbers) (t : ℕ) → step_of k Mode.Sizes w (pos 0) (row_term g r) s t ≡ combined j s t) → (i t : ℕ) → Deep (suc (suc d)) t → d < 62
      → Judged (Tested (suc d)) [] i (r ∷ []) (ran g w k i (r ∷ []) Numbers.Zero t)
  unfolding combined
  judged_join j d r e i t h l =
      judged_sign d r i Numbers.Zero t (t / 4) (joins j (eqb (t / 2 % 2) 1) (eqb (t % 2) 1)) (e Numbers.Zero t ∙ opened) (omega (arith, h.0, p, q), omega (arith, h.1, p, q, u)) l
    where
      p : 2 ^ suc d ≡ 2 * 2 ^ d
      p = pow-succ' 2 d

      q : 2 ^ suc (suc d) ≡ 2 * 2 ^ suc d
      q = pow-succ' 2 (suc d)

      u : 2 ^ suc (suc (suc d)) ≡ 2 * 2 ^ suc (suc d)
      u = pow-succ' 2 (suc (suc d))

      some : 1 ≤ 2 ^ d
      some = pow_pos d

      opened : combined j Numbers.Zero t ≡ noted Numbers.Zero (t / 4) (joins j (eqb (t / 2 % 2) 1) (eqb (t % 2) 1))
      opened = ap (λ (c : Bool). cond c (Err TermError.Malformed) (noted Numbers.Zero (t / 4) (joins j (eqb (t / 2 % 2) 1) (eqb (t % 2) 1)))) (le-ltb t 4 (omega (arith, h.0, p, q, some)))

  -- what follows a test
  pub after_test : (d : ℕ) (R : Numbers → ℕ → Type 0) (m : List ℕ) (i : ℕ) (B : List TermRow) → ((t : ℕ) → Deep d t → Judged R m i B (ran g w k i B Numbers.Zero t)) → (s : Numbers) (t : ℕ) → Tested d s t → Judged R m i B (ran g w k i B s t)
  after_test d R m i B h s t q = subst (λ (x : Numbers). Judged R m i B (ran g w k i B x t)) (sym q.0) (h t q.1)

-- ---- a calculation

begins : (c : Calculation) → first_byte (spell_calculation c []) ≡ calculation_start c
unfolding spell_primary spell_operand spell_product spell_calculation start_of_primary start_of_operand start_of_product
begins (sum (product (plain (number n)) f) more) = refl
begins (sum (product (plain (variable x)) f) more) = refl
begins (sum (product (opposite s x) f) more) = refl

module _ (g : ℕ → ℕ) where
  part_row : (r : TermRow) (tag : ℕ) (o : Operation) → r.tag ≡ tag → rename_term g (term_of tag (cond (is_use tag) r.place r.value) 0) ≡ Term.Part o
      → rename_term g (term_of (marked_tag tag) (cond (is_use (marked_tag tag)) r.place r.value) 0) ≡ Term.Single o → PartRow g r
  part_row r tag o e p q =
      record {
        part = o;
        as_part = (λ j. rename_term g (term_of (e j) (cond (is_use (e j)) r.place r.value) 0)) ∙ p;
        as_single = (λ j. rename_term g (term_of (marked_tag (e j)) (cond (is_use (marked_tag (e j))) r.place r.value) 0)) ∙ q;
      }

  sign_row : (r : TermRow) → Arithmetic r.tag → PartRow g r
  unfolding term_of
  sign_row r (adding e) = part_row r 3 Operation.Add e refl refl
  sign_row r (subtracting e) = part_row r 4 Operation.Subtract e refl refl
  sign_row r (multiplying e) = part_row r 5 Operation.Multiply e refl refl
  sign_row r (negating e) = part_row r 6 Operation.Negate e refl refl

  -- the rows of a calculation are its parts
  pub reckoned_parts : {A : List TermRow} {l : List TreeTerm} → Reckons A l → PartRows g A
  unfolding term_of
  reckoned_parts counted_none = no_parts
  reckoned_parts (counted_number {r = r} t v p a) = part_then (part_row r 1 (Operation.Number (r.value + 4294967296 * 0)) t refl refl) (reckoned_parts a)
  reckoned_parts (counted_use {r = r} t p a) = part_then (part_row r 2 (Operation.Variable (g r.place)) t refl refl) (reckoned_parts a)
  reckoned_parts (counted_sign {r = r} t v a) = part_then (sign_row r t) (reckoned_parts a)
  reckoned_parts (counted_skip a) = reckoned_parts a

-- the fault of a calculation, where it has one
abbrev pub fault_of : (List ℕ → ℕ) → Calculation → List ℕ
fault_of wide c = place_if (too_large wide c) (first_byte (spell_calculation c []))

-- the size that it leaves
pub record Left (s : Numbers) (t : ℕ) (s' : Numbers) (t' : ℕ) : Type 0 where
  pub tests : t' ≡ t
  pub size : ℕ
  pub put : pushed s (pos size) ≡ Ok s'

module _ (g : ℕ → ℕ) (w : List ℤ) (wide : List ℕ → ℕ) (k : Kind) where
  -- a calculation leaves its size, or stops where it has a fault
  pub calculation_judged : (c : Calculation) → Measured g w wide (terms_of_calculation c) → (i : ℕ) (s : Numbers) (t : ℕ) → count s < 2 → Judged (Left s t) (fault_of wide c) i (calculation_rows c) (ran g w k i (calculation_rows c) s t)
  calculation_judged c h i s t room =
      let y = ran g w k i (calculation_rows c) s t in
      let p = first_byte (spell_calculation c []) in
      let m = calculation_largest wide c in
      came_map (Put s t (calculation_size wide c) m) (λ s' t'. (fault_of wide c ≡ []) × Left s t s' t') (Past i (calculation_rows c) (calculation_start c) m) (Faulty i (calculation_rows c) (fault_of wide c)) y.trial y.at
      (λ s' t' q. (ap (λ (b : Bool). place_if b p) (le-ltb (2 ^ 62) m q.1), record { tests = q.0; size = calculation_size wide c; put = q.2 }))
      (λ j q. record { origin = calculation_start c; stop = q.0; rest = []; first_is = ap (λ (b : Bool). place_if b p) (lt-ltb (2 ^ 62) m q.1) ∙ ap (λ (x : ℕ). x ∷ []) (begins c) })
      (calculation_ran g w wide k c h i s t room)

-- one number, or two
pub left_one : {t t' : ℕ} {s : Numbers} (h : Left Numbers.Zero t s t') → Numbers.One (pos h.size) ≡ s
left_one h = let q = h.put in cc q

-- two numbers
pub left_two : {t t₁ t₂ : ℕ} {s₁ s₂ : Numbers} (h : Left Numbers.Zero t s₁ t₁) (m : Left s₁ t₁ s₂ t₂) → Numbers.Two (pos h.size) (pos m.size) ≡ s₂
left_two {s₂ = s₂} h m =
    let q : pushed (Numbers.One (pos h.size)) (pos m.size) ≡ Ok s₂ = ap (λ (x : Numbers). pushed x (pos m.size)) (left_one h) ∙ m.put in cc q

-- there is room for a second
pub one_room : {t t' : ℕ} {s : Numbers} → Left Numbers.Zero t s t' → count s < 2
one_room h = let e = ap count (left_one h) in omega (arith, e)
