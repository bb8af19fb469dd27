-- Laws of lists of terms: a list has a first term or none, and what is worked out goes on from it.
-- Assumes nothing.
use Prim.Native.Nat.{ℕ, suc, ◌+◌, ◌-◌, ◌≤◌, ◌<◌}
use mathlib.Core.Path.{◌≡◌, ap, ◌∙◌}
use mathlib.Core.List.{List, [], ◌∷◌}
use native.Mathlib.Omega.{arith}
use lib.IntN.{ℤ}
use Rattle.term_words.specs.Words.{term_at, terms_from, terms}
use Rattle.term_words.specs.Steps.{step_of}
use Rattle.term_evaluation.specs.Meaning.{next, run}
use Rattle.term_words.specs.declared.Kind.{Kind}
use Rattle.term_words.specs.declared.Mode.{Mode}
use Rattle.term_words.specs.declared.Numbers.{Numbers}
use Rattle.term_words.specs.declared.Term.{Term}
use Rattle.std.specs.Prelude.{Result, Ok}
use Rattle.term_words.specs.declared.TermError.{TermError}

pub terms_next : (ws : List ℕ) (i end : ℕ) → i < end → terms ws i end ≡ term_at ws i ∷ terms ws (i + 1) end
unfolding terms_from
terms_next ws i end h =
    let e : end - i ≡ suc (end - (i + 1)) = omega arith in
    ap (terms_from ws i) e

pub terms_none : (ws : List ℕ) (i end : ℕ) → end ≤ i → terms ws i end ≡ []
unfolding terms_from
terms_none ws i end h =
    let e : end - i ≡ 0 = omega arith in
    ap (terms_from ws i) e

module _ (k : Kind) (m : Mode) (env : List ℤ) (v : ℤ) (ws : List ℕ) (i end : ℕ) (s : Numbers) (t : ℕ) where
  -- the first term's step decides how it goes on
  pub goes : i < end → (r : Result (Numbers × ℕ) TermError) → step_of k m env v (term_at ws i) s t ≡ r → run k m env v i (terms ws i end) s t ≡ next (λ (s' : Numbers) (t' : ℕ). run k m env v (i + 1) (terms ws (i + 1) end) s' t') i r
  unfolding run
  goes h r e = ap (λ (xs : List Term). run k m env v i xs s t) (terms_next ws i end h) ∙ ap (next (λ (s' : Numbers) (t' : ℕ). run k m env v (i + 1) (terms ws (i + 1) end) s' t') i) e

  pub stops : end ≤ i → run k m env v i (terms ws i end) s t ≡ record { trial = Ok (s, t); at = i }
  unfolding run
  stops h = ap (λ (xs : List Term). run k m env v i xs s t) (terms_none ws i end h)
