-- A set's terms worked out for one value by their effects. Only the private functions of the crate speak of this.
-- Assumes nothing.
use Rattle.std.specs.Prelude.{ℕ, Bool, false, List, [], ◌∷◌, eqb, ℤ, get_or, Option, Some, None}
use Rattle.term_words.specs.declared.Numbers.{Numbers}
use Rattle.term_words.specs.declared.Term.{Term}
use Rattle.term_membership.specs.Effects.{turn_of}
use Rattle.term_membership.specs.Truths.{applied, Anew}
use Rattle.term_membership.specs.declared.Effect.{Effect}

-- the end: one test that holds, and nothing else
abbrev pub ends : Numbers → ℕ → Bool
ends Numbers.Zero t = eqb t 3
ends (Numbers.One a) t = false
ends (Numbers.Two a b) t = false
ends (Numbers.Three a b c) t = false
ends (Numbers.Four a b c d) t = false

abbrev pub onward : (Numbers → Effect → Bool) → Option (Numbers × Effect) → Bool
onward go (Some (s, e)) = go s e
onward go None = false

-- the value v, counted from the least on at offset o, is in the set of the terms, where numbers s and tests t wait before them
unfoldable pub held : ℕ → List ℤ → ℕ → List Term → Numbers → ℕ → Bool
held o env v [] s t = ends s t
held o env v (x ∷ xs) s t = onward (λ s' e. held o env v xs s' (applied e t v)) (turn_of o env x s)

-- the tests of 64 values have had an effect
abbrev pub Applied : Effect → List ℕ → List ℕ → ℕ → List ℕ → ℕ → Type 0
Applied e values = Anew (λ j t. applied e t (get_or values j 0))
