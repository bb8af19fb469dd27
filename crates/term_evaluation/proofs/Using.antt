-- Laws of lists with a variable: the first term decides, and there is none past the words.
-- Assumes nothing.
use Prim.Native.Nat.{ℕ, zero, suc, ◌+◌, ◌-◌, ◌/◌, ◌≤◌, ◌<◌}
use mathlib.Core.Path.{◌≡◌, refl, ap, ◌∙◌}
use mathlib.Core.Bool.{Bool, true, false, cond}
use mathlib.Core.List.{List}
use native.Mathlib.Omega.{arith}
use borrow.Author.Tests.{le-ltb}
use lib.ListN.{length}
use Rattle.term_words.specs.Words.{term_at, terms_from, terms}
use Rattle.term_evaluation.specs.Variables.{uses_variable, has_variable}
use Rattle.term_words.specs.declared.Term.{Term}
use Rattle.term_evaluation.proofs.Runs.{terms_next, terms_none}

past_words : (ws : List ℕ) (i : ℕ) → length ws / 3 ≤ i → term_at ws i ≡ Term.Bad
unfolding term_at
past_words ws i h = rw (le-ltb i (length ws / 3) h)

none_past : (ws : List ℕ) (n i : ℕ) → length ws / 3 ≤ i → has_variable (terms_from ws i n) ≡ false
unfolding has_variable terms_from
none_past ws zero i h = refl
none_past ws (suc n) i h =
    ap (λ (x : Term). cond (uses_variable x) true (has_variable (terms_from ws (i + 1) n))) (past_words ws i h) ∙ none_past ws n (i + 1) (omega arith)

pub variable_past : (ws : List ℕ) (i end : ℕ) → length ws / 3 ≤ i → has_variable (terms ws i end) ≡ false
variable_past ws i end h = none_past ws (end - i) i h

pub variable_next : (ws : List ℕ) (i end : ℕ) → i < end → (t : Bool) → uses_variable (term_at ws i) ≡ t → has_variable (terms ws i end) ≡ cond t true (has_variable (terms ws (i + 1) end))
unfolding has_variable
variable_next ws i end h t e = ap has_variable (terms_next ws i end h) ∙ ap (λ (b : Bool). cond b true (has_variable (terms ws (i + 1) end))) e

pub variable_end : (ws : List ℕ) (i end : ℕ) → end ≤ i → has_variable (terms ws i end) ≡ false
unfolding has_variable
variable_end ws i end h = ap has_variable (terms_none ws i end h)
