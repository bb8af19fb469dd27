-- What a list of terms says does not depend on where it stands: neither on the number of its first term, nor on the words around it.
-- Assumes nothing.
use Prim.Native.Nat.{ℕ, zero, suc, ◌+◌, ◌-◌, ◌≤◌, ◌<◌}
use mathlib.Core.Path.{◌≡◌, refl, sym, ap, ◌∙◌}
use mathlib.Core.Bool.{Bool, cond}
use mathlib.Core.List.{List, ◌∷◌}
use native.Mathlib.Omega.{arith}
use borrow.Author.Tests.{lt-ltb}
use lib.IntN.{ℤ, pos}
use lib.ListN.{length, get_or, take}
use Rattle.term_words.specs.Words.{term_at, terms_from, terms}
use Rattle.term_words.specs.declared.Kind.{Kind}
use Rattle.term_words.specs.declared.Mode.{Mode}
use Rattle.term_words.specs.declared.Numbers.{Numbers}
use Rattle.term_words.specs.declared.Term.{Term}
use Rattle.term_evaluation.specs.Meaning.{run, verdict_of, membership, condition}
use Rattle.term_evaluation.specs.Counts.{form_of, calculations_end, of_trial, tallied_by, tallied}
use Rattle.term_evaluation.specs.declared.Form.{Form}
use Rattle.term_trees.proofs.Chains.{run_ends}
use Rattle.text_meaning.specs.Meaning.{last_of, calculations, counted}
use Rattle.std.specs.Prelude.{Err}
use Rattle.term_words.specs.declared.TermError.{TermError}

-- ---- the number of the first term

pub same_run : (k : Kind) (m : Mode) (env : List ℤ) (v : ℤ) (i j : ℕ) (list : List Term) → (run k m env v i list Numbers.Zero 1).trial ≡ (run k m env v j list Numbers.Zero 1).trial
same_run k m env v i j list = run_ends k m env v list i Numbers.Zero 1 ∙ sym (run_ends k m env v list j Numbers.Zero 1)

pub same_membership : (env : List ℤ) (v : ℤ) (i j : ℕ) (list : List Term) → membership env v i list ≡ membership env v j list
unfolding membership
same_membership env v i j list = ap verdict_of (same_run Kind.Set Mode.Values env v i j list)

pub same_condition : (env : List ℤ) (i j : ℕ) (list : List Term) → condition env i list ≡ condition env j list
unfolding condition
same_condition env i j list = ap verdict_of (same_run Kind.Condition Mode.Values env (pos 0) i j list)

-- ---- the words around it

module _ (ws : List ℕ) where
  terms_length : (n i : ℕ) → length (terms_from ws i n) ≡ n
  unfolding terms_from
  terms_length zero i = refl
  terms_length (suc n) i = ap suc (terms_length n (i + 1))

  terms_at : (n i k : ℕ) → k < n → get_or (terms_from ws i n) k Term.Bad ≡ term_at ws (i + k)
  unfolding terms_from
  terms_at zero i k h = absurd (omega arith)
  terms_at (suc n) i zero h = ap (term_at ws) (omega arith)
  terms_at (suc n) i (suc k) h = let z : i + 1 + k ≡ i + suc k = omega arith in terms_at n (i + 1) k (omega arith) ∙ ap (term_at ws) z

  terms_taken : (n i k : ℕ) → k ≤ n → take k (terms_from ws i n) ≡ terms_from ws i k
  unfolding terms_from
  terms_taken n i zero h = refl
  terms_taken zero i (suc k) h = absurd (omega arith)
  terms_taken (suc n) i (suc k) h = ap (λ (l : List Term). term_at ws i ∷ l) (terms_taken n (i + 1) k (omega arith))

  module _ (s e : ℕ) (some : s < e) where
    pub last_at : term_at ws (e - 1) ≡ last_of (terms ws s e)
    last_at =
        let z : s + (e - s - 1) ≡ e - 1 = omega arith in
        rw terms_length (ap (term_at ws) (sym z) ∙ sym (terms_at (e - s) s (e - s - 1) (omega arith)))

    before_last : terms ws s (e - 1) ≡ take (length (terms ws s e) - 1) (terms ws s e)
    before_last =
        let z : e - 1 - s ≡ e - s - 1 = omega arith in
        rw (terms_length (e - s) s, z) (sym (terms_taken (e - s) s (e - s - 1) (omega arith)))

    calculations_at : (f : Form) → terms ws s (calculations_end f (e - 1) e) ≡ calculations f (terms ws s e)
    calculations_at Form.Exact = refl
    calculations_at Form.Open = before_last
    calculations_at Form.UpTo = before_last
    calculations_at Form.Closed = before_last

    counts_listed : (m : Mode) (env : List ℤ) → (tallied m env ws s e).counted ≡ (counted m env (terms ws s e)).counted
    unfolding tallied
    counts_listed m env =
        let f : Form = form_of (term_at ws (e - 1)) in
        ap (λ (b : Bool). (cond b (tallied_by f m env ws s e) (record { counted = Err TermError.Malformed; at = s })).counted) (lt-ltb s e some)
        ∙ ap (λ (l : List Term). of_trial f (run Kind.Calculation m env (pos 0) s l Numbers.Zero 1).trial) (calculations_at f)
        ∙ ap (of_trial f) (same_run Kind.Calculation m env (pos 0) s 0 (calculations f (terms ws s e)))
        ∙ ap (λ (x : Term). of_trial (form_of x) (run Kind.Calculation m env (pos 0) 0 (calculations (form_of x) (terms ws s e)) Numbers.Zero 1).trial) last_at

    -- counts are what their list says
    pub counts_as : (m : Mode) (env : List ℤ) (list : List Term) → terms ws s e ≡ list → (tallied m env ws s e).counted ≡ (counted m env list).counted
    counts_as m env list is = counts_listed m env ∙ ap (λ (l : List Term). (counted m env l).counted) is
