-- Terms that are rows are read as what the rows say.
-- Assumes nothing.
use Prim.Native.Nat.{ℕ, suc, ◌+◌, ◌<◌}
use mathlib.Core.Path.{◌≡◌, refl, ap₂, subst}
use mathlib.Core.List.{List, [], ◌∷◌}
use native.Mathlib.Omega.{arith}
use lib.ListN.{length, get_or}
use Rattle.term_words.specs.declared.Term.{Term}
use Rattle.text_shapes.specs.TermShapes.{read_term, read_terms}
use Rattle.tree_store.proofs.Rows.{TermRow, no_term}
use Rattle.tree_store.proofs.Storing.{TermIs}
use Rattle.tree_formulas.proofs.Folding.{row_term, row_terms}

read_row : {ts : List ℕ} {k : ℕ} {r : TermRow} → TermIs ts k r → read_term ts k ≡ row_term r
read_row h = rw (h.tag_is, h.value_is, h.place_is) refl

pub read_rows : (ts : List ℕ) (k : ℕ) (A : List TermRow) → ((j : ℕ) → j < length A → TermIs ts (k + j) (get_or A j no_term)) → read_terms ts k (length A) ≡ row_terms A
unfolding read_terms
read_rows ts k [] h = refl
read_rows ts k (r ∷ A) h =
    ap₂ {C = List Term} (λ t l. t ∷ l) (read_row (subst (λ (q : ℕ). TermIs ts q r) (let q : k + 0 ≡ k = omega arith in q) (h 0 (omega arith))))
    (read_rows ts (k + 1) A (λ j g. subst (λ (q : ℕ). TermIs ts q (get_or A j no_term)) (let q : k + suc j ≡ k + 1 + j = omega arith in q) (h (suc j) (omega arith))))
