-- A calculation, a set or a condition that the size rule passes is worked out to what document 01 says it means.
-- Assumes nothing.
use Prim.Native.Nat.{ℕ, ◌+◌, ◌*◌, ◌≤◌, ◌<◌}
use mathlib.Core.Path.{◌≡◌, refl, sym, ap, ap₂, ◌∙◌}
use mathlib.Core.Bool.{Bool, true, false}
use mathlib.Core.List.{List}
use mathlib.Core.Logic.{◌⊎◌, inl, inr}
use native.Mathlib.Omega.{arith}
use native.Mathlib.Decide.{dec_le}
use native.Mathlib.Nat.{lt_of_not-le}
use lib.ListN.{length}
use lib.IntN.{ℤ, pos}
use Rattle.basis.specs.Bits.{digit}
use Rattle.term_words.specs.Numbers.{pushed}
use Rattle.term_words.specs.declared.Kind.{Kind}
use Rattle.term_words.specs.declared.Mode.{Mode}
use Rattle.term_words.specs.declared.Numbers.{Numbers}
use Rattle.term_evaluation.specs.Meaning.{run, alone_of, number_of, last_of, verdict_of, calculation, membership, condition}
use Rattle.term_sizes.specs.Sizes.{of_calculated, of_tested, sizes}
use Rattle.term_sizes.specs.Inside.{Inside}
use Rattle.term_sizes.proofs.Theorems.{calculation_passes, set_passes, condition_passes}
use Rattle.term_trees.specs.Trees.{Calculation, value, ValueSet, has, Condition, true_at}
use Rattle.term_trees.specs.Postfix.{calculation_terms, set_terms, condition_terms}
use Rattle.term_trees.specs.Rooms.{Room, SetRoom, ConditionRoom}
use Rattle.term_trees.proofs.Firm.{Firm, count, Leaves, calculation_firm, set_firm, condition_firm}
use Rattle.term_trees.proofs.Chains.{Good, ends, run_ends, Noted}
use Rattle.term_trees.proofs.Meanings.{Put, calculation_ends, set_ends, condition_ends}
use Rattle.std.specs.Prelude.{Result, Ok, Err, ⊤}
use Rattle.term_words.specs.declared.TermError.{TermError}
use Rattle.term_sizes.specs.declared.SizeError.{SizeError}

abbrev pub answer : Bool → Result Bool TermError
answer true = Ok true
answer false = Ok false

-- ---- the end of a list

alone_of_lem : (z : ℤ) (s : Numbers) → pushed Numbers.Zero z ≡ Ok s → alone_of s ≡ Ok z
alone_of_lem z s e = let p : Numbers.One z ≡ s = cc e in ap alone_of (sym p)

number_means : (z w : ℤ) (r : Result (Numbers × ℕ) TermError) → Good (Put Numbers.Zero 1 z) r → number_of r ≡ Ok w → number_of r ≡ Ok z
number_means z w (Ok (s, t)) g e = alone_of_lem z s g.1
number_means z w (Err TermError.Malformed) g e = let q : ◌≡◌ {A = ℕ} 0 1 = cc e in absurd (omega arith)
number_means z w (Err TermError.Overflow) g e = let q : ◌≡◌ {A = ℕ} 0 1 = cc e in absurd (omega arith)

last_means : (b : Bool) → last_of Numbers.Zero (1 * 2 + digit b) ≡ answer b
last_means true = refl
last_means false = refl

malformed_not : {A : Type 0} → (◌≡◌ {A = Result Bool TermError} (Err TermError.Malformed) (Ok false)) ⊎ (◌≡◌ {A = Result Bool TermError} (Err TermError.Malformed) (Ok true)) → A
malformed_not (inl e) = let q : ◌≡◌ {A = ℕ} 0 1 = cc e in absurd (omega arith)
malformed_not (inr e) = let q : ◌≡◌ {A = ℕ} 0 1 = cc e in absurd (omega arith)

overflow_not : {A : Type 0} → (◌≡◌ {A = Result Bool TermError} (Err TermError.Overflow) (Ok false)) ⊎ (◌≡◌ {A = Result Bool TermError} (Err TermError.Overflow) (Ok true)) → A
overflow_not (inl e) = let q : ◌≡◌ {A = ℕ} 0 1 = cc e in absurd (omega arith)
overflow_not (inr e) = let q : ◌≡◌ {A = ℕ} 0 1 = cc e in absurd (omega arith)

verdict_means : (b : Bool) (r : Result (Numbers × ℕ) TermError) → Good (Noted Numbers.Zero 1 b) r → (verdict_of r ≡ Ok false) ⊎ (verdict_of r ≡ Ok true) → verdict_of r ≡ answer b
verdict_means b (Ok (s, t)) g e = ap₂ last_of g.0 g.1 ∙ last_means b
verdict_means b (Err TermError.Malformed) g e = malformed_not e
verdict_means b (Err TermError.Overflow) g e = overflow_not e

-- ---- the theorems

module _ (env widest : List ℤ) (inside : Inside env widest) where
  pub calculation_means : (c : Calculation) (i : ℕ) → sizes Kind.Calculation widest i (calculation_terms c) ≡ Ok tt → calculation env i (calculation_terms c) ≡ Ok (value env c)
  unfolding calculation
  calculation_means c i e =
      let p : (z : ℤ) × (calculation env i (calculation_terms c) ≡ Ok z) = calculation_passes env widest inside i (calculation_terms c) e in
      let q : number_of (ends Kind.Calculation Mode.Values env (pos 0) (calculation_terms c) Numbers.Zero 1) ≡ Ok p.0 = sym (ap number_of (run_ends Kind.Calculation Mode.Values env (pos 0) (calculation_terms c) i Numbers.Zero 1)) ∙ p.1 in
      ap number_of (run_ends Kind.Calculation Mode.Values env (pos 0) (calculation_terms c) i Numbers.Zero 1) ∙ number_means (value env c) p.0 (ends Kind.Calculation Mode.Values env (pos 0) (calculation_terms c) Numbers.Zero 1) (calculation_ends Kind.Calculation env (pos 0) c Numbers.Zero 1) q

  pub set_means : (x : ValueSet) (v : ℤ) (i : ℕ) → sizes Kind.Set widest i (set_terms x) ≡ Ok tt → membership env v i (set_terms x) ≡ answer (has env x v)
  unfolding membership
  set_means x v i e =
      let p : (membership env v i (set_terms x) ≡ Ok false) ⊎ (membership env v i (set_terms x) ≡ Ok true) = set_passes env widest inside v i (set_terms x) e in
      ap verdict_of (run_ends Kind.Set Mode.Values env v (set_terms x) i Numbers.Zero 1) ∙ verdict_means (has env x v) (ends Kind.Set Mode.Values env v (set_terms x) Numbers.Zero 1) (set_ends env v x Numbers.Zero 1) (rw run_ends at p)

  pub condition_means : (x : Condition) (i : ℕ) → sizes Kind.Condition widest i (condition_terms x) ≡ Ok tt → condition env i (condition_terms x) ≡ answer (true_at env x)
  unfolding condition
  condition_means x i e =
      let p : (condition env i (condition_terms x) ≡ Ok false) ⊎ (condition env i (condition_terms x) ≡ Ok true) = condition_passes env widest inside i (condition_terms x) e in
      ap verdict_of (run_ends Kind.Condition Mode.Values env (pos 0) (condition_terms x) i Numbers.Zero 1) ∙ verdict_means (true_at env x) (ends Kind.Condition Mode.Values env (pos 0) (condition_terms x) Numbers.Zero 1) (condition_ends env (pos 0) x Numbers.Zero 1) (rw run_ends at p)

-- ---- a tree that has room is well formed: the size rule passes it, or names a term

passes_not : ◌≡◌ {A = Result ⊤ SizeError} (Ok tt) (Err SizeError.Malformed) → ⊥
passes_not e = let q : ◌≡◌ {A = ℕ} 0 1 = cc e in omega arith

exceeds_not : (at : ℕ) → ◌≡◌ {A = Result ⊤ SizeError} (Err (SizeError.Exceeds at)) (Err SizeError.Malformed) → ⊥
exceeds_not at e = let q : ◌≡◌ {A = ℕ} 0 1 = cc e in omega arith

one_passes : (s : Numbers) (at : ℕ) → count s ≡ 1 → of_calculated (alone_of s) at ≡ Err SizeError.Malformed → ⊥
one_passes Numbers.Zero at e h = omega arith
one_passes (Numbers.One a) at e h = passes_not h
one_passes (Numbers.Two a b) at e h = omega arith
one_passes (Numbers.Three a b c) at e h = omega arith
one_passes (Numbers.Four a b c d) at e h = omega arith

number_formed : (P : Numbers → ℕ → Type 0) → ((s : Numbers) (t : ℕ) → P s t → count s ≡ 1) → (r : Result (Numbers × ℕ) TermError) (at : ℕ) → Firm P r → of_calculated (number_of r) at ≡ Err SizeError.Malformed → ⊥
number_formed P f (Ok (s, t)) at p h = one_passes s at (f s t p) h
number_formed P f (Err TermError.Malformed) at p h = p
number_formed P f (Err TermError.Overflow) at p h = exceeds_not at h

test_passes : (s : Numbers) (t at : ℕ) → count s ≡ 0 → 2 ≤ t → t < 4 → of_tested (last_of s t) at ≡ Err SizeError.Malformed → ⊥
test_passes Numbers.Zero t at e p q h = go (dec_le t 2)
  where
    go : Dec (t ≤ 2) → ⊥
    go (yes k) = let x : t ≡ 2 = omega arith in passes_not (sym (ap (λ (n : ℕ). of_tested (last_of Numbers.Zero n) at) x) ∙ h)
    go (no k) =
        let l : 2 < t = lt_of_not-le k in
        let x : t ≡ 3 = omega arith in
        passes_not (sym (ap (λ (n : ℕ). of_tested (last_of Numbers.Zero n) at) x) ∙ h)
test_passes (Numbers.One a) t at e p q h = omega arith
test_passes (Numbers.Two a b) t at e p q h = omega arith
test_passes (Numbers.Three a b c) t at e p q h = omega arith
test_passes (Numbers.Four a b c d) t at e p q h = omega arith

verdict_formed : (r : Result (Numbers × ℕ) TermError) (at : ℕ) → Firm (Leaves 0 0) r → of_tested (verdict_of r) at ≡ Err SizeError.Malformed → ⊥
verdict_formed (Ok (s, t)) at p h = test_passes s t at p.0 p.1.0 p.1.1 h
verdict_formed (Err TermError.Malformed) at p h = p
verdict_formed (Err TermError.Overflow) at p h = exceeds_not at h

module _ (widest : List ℤ) (i : ℕ) where
  pub calculation_formed : (c : Calculation) → Room (length widest) c 0 → sizes Kind.Calculation widest i (calculation_terms c) ≡ Err SizeError.Malformed → ⊥
  unfolding sizes
  calculation_formed c r h =
      number_formed (λ (s : Numbers) (t : ℕ). (count s ≡ 1) × (t ≡ 1)) (λ s t p. p.0) (ends Kind.Calculation Mode.Sizes widest (pos 0) (calculation_terms c) Numbers.Zero 1) (run Kind.Calculation Mode.Sizes widest (pos 0) i (calculation_terms c) Numbers.Zero 1).at (calculation_firm Kind.Calculation Mode.Sizes widest (pos 0) c 0 Numbers.Zero 1 r refl)
      (sym (ap (λ (x : Result (Numbers × ℕ) TermError). of_calculated (number_of x) (run Kind.Calculation Mode.Sizes widest (pos 0) i (calculation_terms c) Numbers.Zero 1).at) (run_ends Kind.Calculation Mode.Sizes widest (pos 0) (calculation_terms c) i Numbers.Zero 1)) ∙ h)

  pub set_formed : (x : ValueSet) → SetRoom (length widest) x 0 → sizes Kind.Set widest i (set_terms x) ≡ Err SizeError.Malformed → ⊥
  unfolding sizes
  set_formed x r h =
      verdict_formed (ends Kind.Set Mode.Sizes widest (pos 0) (set_terms x) Numbers.Zero 1) (run Kind.Set Mode.Sizes widest (pos 0) i (set_terms x) Numbers.Zero 1).at (set_firm Mode.Sizes widest (pos 0) x 0 r Numbers.Zero 1 refl (omega arith, omega arith))
      (sym (ap (λ (y : Result (Numbers × ℕ) TermError). of_tested (verdict_of y) (run Kind.Set Mode.Sizes widest (pos 0) i (set_terms x) Numbers.Zero 1).at) (run_ends Kind.Set Mode.Sizes widest (pos 0) (set_terms x) i Numbers.Zero 1)) ∙ h)

  pub condition_formed : (x : Condition) → ConditionRoom (length widest) x 0 → sizes Kind.Condition widest i (condition_terms x) ≡ Err SizeError.Malformed → ⊥
  unfolding sizes
  condition_formed x r h =
      verdict_formed (ends Kind.Condition Mode.Sizes widest (pos 0) (condition_terms x) Numbers.Zero 1) (run Kind.Condition Mode.Sizes widest (pos 0) i (condition_terms x) Numbers.Zero 1).at (condition_firm Mode.Sizes widest (pos 0) x 0 r Numbers.Zero 1 refl (omega arith, omega arith))
      (sym (ap (λ (y : Result (Numbers × ℕ) TermError). of_tested (verdict_of y) (run Kind.Condition Mode.Sizes widest (pos 0) i (condition_terms x) Numbers.Zero 1).at) (run_ends Kind.Condition Mode.Sizes widest (pos 0) (condition_terms x) i Numbers.Zero 1)) ∙ h)
