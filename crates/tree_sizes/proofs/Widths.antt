-- The size of a variable in the table: the greatest size of its width, which is cut at the most that a binder may have.
-- Assumes nothing.
use Prim.Native.Nat.{ℕ, zero, suc, ◌+◌, ◌*◌, ◌≤◌, ◌<◌, min}
use mathlib.Core.Path.{◌≡◌, refl, sym, ap, ap₂, ◌∙◌}
use mathlib.Core.Logic.{⊎_elim}
use mathlib.Core.Bool.{Bool, true, false, cond, not, ◌&&◌, ◌||◌}
use mathlib.Core.List.{List, [], ◌∷◌}
use native.Mathlib.Omega.{arith}
use lib.Dec.{ltb, eqb}
use lib.IntN.{pos}
use lib.ListN.{length, get_or}
use Rattle.basis.specs.Limits.{max_bound_width}
use Rattle.basis.specs.Patterns.{greatest_size}
use Rattle.basis.proofs.Booleans.{which, neither_first, neither_second}
use Rattle.text_header.proofs.Runs.{word_self}
use Rattle.text_tokens.specs.Names.{is_same}
use Rattle.text_tokens.specs.Numbers.{capped, number_value}
use Rattle.table_layout.specs.Places.{variable_word, word, variables_at}
use Rattle.table_sizes.specs.Measures.{largest, widest_from, widest}
use Rattle.text_store.specs.Words.{is_binder}
use Rattle.text_encoding.specs.Lists.{narrow}
use Rattle.text_encoding.specs.Numbers.{binds_one, binders_before, width_of, is_signed}
use Rattle.text_wellformed.specs.Context.{Words}
use Rattle.text_wellformed.proofs.Sums.{total_last}
use Rattle.tree.specs.Lexemes.{Name}
use Rattle.tree_meaning.specs.Pieces.{Piece, use_of_rule, width, formula, binding, bound_in}
use Rattle.tree_meaning.specs.Names.{is_among}
use Rattle.tree_meaning.specs.Grammar.{variable_of as number-among}
use Rattle.tree_meaning.proofs.Passing.{NamesRight}
use Rattle.tree_store.proofs.Rows.{NodeRow}
use Rattle.tree_store.proofs.Storing.{NodeIs}
use Rattle.tree_store.proofs.Rowed.{NodesAt, no_nodes, node_then}
use Rattle.tree_store.proofs.Steps.{row_binds, InStep, no_step, a_formula, a_use, a_field, a_binder, another}

sizes_at : (ws : List ℕ) (n x k : ℕ) → k < n → get_or (widest_from n ws x) k (pos 0) ≡ largest (variable_word ws (x + k) 1) (variable_word ws (x + k) 2)
unfolding widest_from
sizes_at ws zero x k h = absurd (omega arith)
sizes_at ws (suc n) x zero h = ap (λ (j : ℕ). largest (variable_word ws j 1) (variable_word ws j 2)) (let z : x ≡ x + 0 = omega arith in z)
sizes_at ws (suc n) x (suc k) h = sizes_at ws n (x + 1) k (omega arith) ∙ ap (λ (j : ℕ). largest (variable_word ws j 1) (variable_word ws j 2)) (let z : x + 1 + k ≡ x + suc k = omega arith in z)

-- ---- sizes as the table has them

-- as `widest_in`, a width cut at the most that a binder may have
unfoldable pub cut_in : List Piece → List ℕ → ℕ
cut_in [] x = 0
cut_in (use_of_rule y ∷ more) x = cut_in more x
cut_in (width most n ∷ more) x = cut_in more x
cut_in (formula f ∷ more) x = cut_in more x
cut_in (binding y signed n placed ∷ more) x = cond (is_same y.letters x) (greatest_size signed (min max_bound_width n.value)) (cut_in more x)

-- of the pieces `whole`: the binders among these have their names' sizes there
unfoldable pub OwnCut : (whole : List Piece) → List Piece → Type 0
OwnCut whole [] = Unit {0}
OwnCut whole (use_of_rule x ∷ more) = OwnCut whole more
OwnCut whole (width most n ∷ more) = OwnCut whole more
OwnCut whole (formula f ∷ more) = OwnCut whole more
OwnCut whole (binding x signed n placed ∷ more) = (cut_in whole x.letters ≡ greatest_size signed (min max_bound_width n.value)) × OwnCut whole more

-- these are the rest of the whole, after binders of these names
own_cut : (rules variables before : List Name) (whole ps : List Piece) → ((x : Name) → is_among before x ≡ false → cut_in whole x.letters ≡ cut_in ps x.letters) → NamesRight rules variables before ps → OwnCut whole ps
unfolding NamesRight OwnCut is_among cut_in
own_cut rules variables before whole [] a h = tt
own_cut rules variables before whole (use_of_rule x ∷ more) a h = own_cut rules variables before whole more a h.2
own_cut rules variables before whole (width most n ∷ more) a h = own_cut rules variables before whole more a h
own_cut rules variables before whole (formula f ∷ more) a h = own_cut rules variables before whole more a h.1
own_cut rules variables before whole (binding y signed n placed ∷ more) a h = (
  a y h.0 ∙ ap (λ (t : Bool). cond t (greatest_size signed (min max_bound_width n.value)) (cut_in more y.letters)) (word_self y.letters),
  own_cut rules variables (y ∷ before) whole more
      (λ x e. a x (neither_second (is_same y.letters x.letters) (is_among before x) e) ∙ ap (λ (t : Bool). cond t (greatest_size signed (min max_bound_width n.value)) (cut_in more x.letters)) (neither_first (is_same y.letters x.letters) (is_among before x) e))
      h.2,
)

pub all_cut : (rules variables : List Name) (ps : List Piece) → NamesRight rules variables [] ps → OwnCut ps ps
all_cut rules variables ps h = own_cut rules variables [] ps ps (λ x e. refl) h

-- the two words of a variable
cut_size : (signed : Bool) (v : ℕ) → largest (narrow (min 65 (capped v))) (narrow (cond signed 1 0)) ≡ pos (greatest_size signed (min max_bound_width v))
cut_size signed v =
    let e : min max_bound_width (narrow (min 65 (capped v))) ≡ min max_bound_width v = omega arith in
    ap (λ (k : ℕ). pos (greatest_size (ltb 0 (narrow (cond signed 1 0))) k)) e ∙ by signed
  where
    by : (c : Bool) → pos (greatest_size (ltb 0 (narrow (cond c 1 0))) (min max_bound_width v)) ≡ pos (greatest_size c (min max_bound_width v))
    by true = refl
    by false = refl

module _ {xs ns ts rs ws : List ℕ} {n r : ℕ} (words : Words xs ns ts rs n r ws) where
  row_binder : {a : ℕ} {x : NodeRow} → NodeIs ns a x → is_binder ns a ≡ row_binds x
  row_binder h = λ t. eqb (h.kind_is t) 8 && not (eqb (h.how_is t) 0)

  -- a node that binds nothing
  passed : {a b : ℕ} {x : NodeRow} → NodeIs ns a x → row_binds x ≡ false → binders_before ns a ≡ b → binders_before ns (a + 1) ≡ b
  passed {a} {b} h e q =
      let z : binds_one ns a ≡ 0 = ap (λ (c : Bool). cond c 1 0) (row_binder h ∙ e) in omega (arith, total_last (binds_one ns) a, q)

  no_binder : (x : NodeRow) → eqb x.kind 8 ≡ false → row_binds x ≡ false
  no_binder x e = ap (λ (c : Bool). c && not (eqb x.how 0)) e

  use_binder : (x : NodeRow) → x.kind ≡ 5 → row_binds x ≡ false
  use_binder x e = ap (λ (k : ℕ). eqb k 8 && not (eqb x.how 0)) e

  bound_size : {a b v : ℕ} {signed : Bool} {x : NodeRow} → a < n → NodeIs ns a x → row_binds x ≡ true → number_value xs x.first ≡ v → eqb (get_or xs x.place 0) 115 ≡ signed → binders_before ns a ≡ b → b < 64
      → get_or (widest ws) b (pos 0) ≡ pos (greatest_size signed (min max_bound_width v))
  bound_size {a} {b} {v} {signed} {x} l h e f o q m =
      let is : is_binder ns a ≡ true = row_binder h ∙ e in
      let at : 0 + b ≡ binders_before ns a = omega (arith, q) in
      sizes_at ws 64 0 b m
      ∙ ap₂ largest
      (ap (λ (k : ℕ). word ws (variables_at + 4 * k + 1)) at
      ∙ words.variable_at a 1 l is (omega arith)
      ∙ ap (λ (c : Bool). narrow (get_or (cond c (a ∷ width_of xs ns a ∷ cond (is_signed xs ns a) 1 0 ∷ 0 ∷ []) []) 1 0)) is
      ∙ ap (λ (k : ℕ). narrow (min 65 (capped k))) (ap (number_value xs) h.first_is ∙ f))
      (ap (λ (k : ℕ). word ws (variables_at + 4 * k + 2)) at
      ∙ words.variable_at a 2 l is (omega arith)
      ∙ ap (λ (c : Bool). narrow (get_or (cond c (a ∷ width_of xs ns a ∷ cond (is_signed xs ns a) 1 0 ∷ 0 ∷ []) []) 2 0)) is
      ∙ ap (λ (c : Bool). narrow (cond c 1 0)) (ap (λ (k : ℕ). eqb (get_or xs k 0) 115) h.place_is ∙ o))
      ∙ cut_size signed v

  -- a variable of a rule, by its name
  pub variable_size : {a : ℕ} {M : List NodeRow} {l : List Piece} (b : ℕ) (y : Name) → InStep xs M l → NodesAt ns a M → a + length M ≤ n → binders_before ns a ≡ b → b + length (bound_in l) ≤ 64 → is_among (bound_in l) y ≡ true
      → get_or (widest ws) (number-among b (bound_in l) y.letters) (pos 0) ≡ pos (cut_in l y.letters)
  unfolding bound_in is_among cut_in number-among
  variable_size b y no_step no_nodes few q m e = let z : ◌≡◌ {A = ℕ} 0 1 = cc in absurd (omega arith)
  variable_size b y (a_formula s) h few q m e = variable_size b y s h few q m e
  variable_size {a = a} b y (a_use {r = x} d p g s) (node_then h more) few q m e = variable_size {a = a + 1} b y s more (omega arith) (passed h (use_binder x d) q) m e
  variable_size b y (a_field d p f v s) (node_then h more) few q m e = variable_size b y s more (omega arith) (passed h p q) m e
  variable_size {a} b y (a_binder {r = x} {n = w} {x = u} {signed = signed} {l = l} d p f v o z g s) (node_then h more) few q m e =
      ⊎_elim
      (λ (c : is_same u.letters y.letters ≡ true).
      (λ t. get_or (widest ws) (cond (c t) b (number-among (suc b) (bound_in l) y.letters)) (pos 0))
      ∙ bound_size (omega arith) h p (ap (number_value xs) f ∙ v) o q (omega arith)
      ∙ sym (λ t. pos (cond (c t) (greatest_size signed (min max_bound_width w.value)) (cut_in l y.letters))))
      (λ (c : is_same u.letters y.letters ≡ false).
      (λ t. get_or (widest ws) (cond (c t) b (number-among (suc b) (bound_in l) y.letters)) (pos 0))
      ∙ variable_size (suc b) y s more (omega arith) (let o : binds_one ns a ≡ 1 = ap (λ (c : Bool). cond c 1 0) (row_binder h ∙ p) in omega (arith, total_last (binds_one ns) a, q)) (omega arith)
      (sym (ap (λ (o : Bool). o || is_among (bound_in l) y) c) ∙ e)
      ∙ sym (λ t. pos (cond (c t) (greatest_size signed (min max_bound_width w.value)) (cut_in l y.letters))))
      (which (is_same u.letters y.letters))
  variable_size b y (another {r = x} d p s) (node_then h more) few q m e = variable_size b y s more (omega arith) (passed h (no_binder x p) q) m e
