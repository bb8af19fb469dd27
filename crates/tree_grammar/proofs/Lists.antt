-- The lists of terms that a node has are the terms of its rows.
-- Assumes nothing.
use Prim.Native.Nat.{ℕ, suc, ◌+◌, ◌-◌, ◌<◌}
use mathlib.Core.Path.{◌≡◌, refl, ap, ap₂, ◌∙◌, subst}
use mathlib.Core.Bool.{cond}
use mathlib.Core.List.{List, [], ◌∷◌, ◌++◌, map}
use native.Mathlib.Omega.{arith}
use lib.ListN.{length, get_or}
use Rattle.term_words.specs.Words.{term_of}
use Rattle.term_words.specs.declared.Term.{Term}
use Rattle.text_store.specs.Store.{blank, term_words}
use Rattle.text_store.specs.Words.{is_use, own_from, own_end, condition_from, condition_end}
use Rattle.text_encoding.specs.Numbers.{first_at, variable_of}
use Rattle.text_shapes.specs.TermShapes.{read_terms, rename_term}
use Rattle.text_meaning.specs.Meaning.{list_of, own_list, condition_list}
use Rattle.tree.specs.Tree.{Rules}
use Rattle.tree_form.specs.Stored.{stored}
use Rattle.tree_store.proofs.Rows.{TermRow, no_term, tree_terms}
use Rattle.tree_store.proofs.Storing.{TermIs, term_read, totalled_tree}
use Rattle.tree_store.proofs.Limits.{Limited}
use Rattle.tree_grammar.proofs.Terms.{rows_terms}

-- ---- terms that are these rows, from term k on

pub data RowsAt (ts : List ℕ) : ℕ → List TermRow → Type 0 where
  no_rows : {k : ℕ} → RowsAt ts k []
  row_then : {k : ℕ} {r : TermRow} {A : List TermRow} → TermIs ts k r → RowsAt ts (k + 1) A → RowsAt ts k (r ∷ A)

pub rows_left : {ts : List ℕ} {k : ℕ} (A B : List TermRow) → RowsAt ts k (A ++ B) → RowsAt ts k A
rows_left [] B h = no_rows
rows_left {k = k} (r ∷ A) B (row_then e more) = row_then e (rows_left {k = k + 1} A B more)

pub rows_right : {ts : List ℕ} {k : ℕ} (A B : List TermRow) → RowsAt ts k (A ++ B) → RowsAt ts (k + length A) B
rows_right {ts} {k} [] B h = subst (λ (q : ℕ). RowsAt ts q B) (let q : k ≡ k + 0 = omega arith in q) h
rows_right {ts} {k} (r ∷ A) B (row_then e more) = subst (λ (q : ℕ). RowsAt ts q B) (let q : k + 1 + length A ≡ k + suc (length A) = omega arith in q) (rows_right {k = k + 1} A B more)

rows_from : {ts : List ℕ} (i : ℕ) (A : List TermRow) → ((j : ℕ) → j < length A → TermIs ts (i + j) (get_or A j no_term)) → RowsAt ts i A
rows_from i [] h = no_rows
rows_from {ts} i (x ∷ A) h =
    row_then (subst (λ (q : ℕ). TermIs ts q x) (let q : i + 0 ≡ i = omega arith in q) (h 0 (omega arith)))
    (rows_from (i + 1) A (λ j g. subst (λ (q : ℕ). TermIs ts q (get_or A j no_term)) (let q : i + suc j ≡ i + 1 + j = omega arith in q) (h (suc j) (omega arith))))

-- those of a text
pub text_rows : (t : Rules) → Limited t → RowsAt (term_words (stored t blank)) 0 (tree_terms t)
text_rows t l =
    rows_from 0 (tree_terms t)
    (λ j g. subst (λ (q : ℕ). TermIs (term_words (stored t blank)) q (get_or (tree_terms t) j no_term)) (let q : j ≡ 0 + j = omega arith in q) (term_read t l.few_terms j (omega (arith, (totalled_tree t).in_terms))))

-- ---- lists that are read

module _ (g : ℕ → ℕ) (numbered : List ℕ → ℕ) where
  pub read_rows : {ts : List ℕ} {k : ℕ} (A : List TermRow) → RowsAt ts k A → map (rename_term g) (read_terms ts k (length A)) ≡ rows_terms g numbered A
  unfolding read_terms
  read_rows [] no_rows = refl
  read_rows {k = k} (r ∷ A) (row_then h more) =
      ap₂ {A = Term} {B = List Term} {C = List Term} (λ x l. x ∷ l) (λ t. rename_term g (term_of (h.tag_is t) (cond (is_use (h.tag_is t)) (h.place_is t) (h.value_is t)) 0)) (read_rows {k = k + 1} A more)

module _ (xs ns ts rs : List ℕ) (r i : ℕ) (numbered : List ℕ → ℕ) where
  -- the number of the variable whose name stands at p
  abbrev pub number_here : ℕ → ℕ
  number_here p = variable_of xs ns (first_at rs r i) i p

  list_is : (f e : ℕ) (A : List TermRow) → e ≡ f + length A → RowsAt ts f A → list_of xs ns ts rs r i f e ≡ rows_terms number_here numbered A
  list_is f e A q h =
      ap (λ (k : ℕ). map (rename_term number_here) (read_terms ts f k)) (let z : e - f ≡ length A = omega arith in z) ∙ read_rows number_here numbered A h

  -- a node's own list
  pub own_is : (f : ℕ) (A : List TermRow) → own_from ns i ≡ f → own_end ns i ≡ f + length A → RowsAt ts f A → own_list xs ns ts rs r i ≡ rows_terms number_here numbered A
  own_is f A p q h = ap₂ (list_of xs ns ts rs r i) p q ∙ list_is f (f + length A) A refl h

  -- the list of its condition, where it is a case
  pub condition_is : (f : ℕ) (A : List TermRow) → condition_from ns i ≡ f → condition_end ns i ≡ f + length A → RowsAt ts f A → condition_list xs ns ts rs r i ≡ rows_terms number_here numbered A
  condition_is f A p q h = ap₂ (list_of xs ns ts rs r i) p q ∙ list_is f (f + length A) A refl h
