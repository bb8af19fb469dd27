-- A text has one tree, a row of document 01's table fits it at one place, and there is one first row.
-- Assumes nothing.
use Prim.Native.Nat.{ℕ, ◌+◌, ◌≤◌, ◌<◌}
use mathlib.Core.Path.{◌≡◌, refl, sym, ap, subst, ◌∙◌}
use mathlib.Core.Bool.{cond}
use mathlib.Core.List.{List, [], ◌∷◌}
use mathlib.Core.Option.{Option, some}
use native.Mathlib.Omega.{arith}
use native.Mathlib.Decide.{dec_lt}
use lib.Dec.{eqb}
use lib.ListN.{drop}
use Rattle.text_header.specs.Header.{header_of}
use Rattle.text_header.specs.declared.Heading.{Heading}
use Rattle.text_store.specs.Store.{blank}
use Rattle.text_parsing.specs.Form.{Outcome, right, refused}
use Rattle.tree.specs.Lexemes.{lexemes}
use Rattle.tree.specs.Tree.{Rules}
use Rattle.tree.specs.Spelling.{spelled}
use Rattle.tree_form.specs.Form.{FirstFault}
use Rattle.tree_form.proofs.Formed.{formed}
use Rattle.tree_meaning.specs.Rows.{PastLimit, WrongName, Recursive, TooLarge, EmptyBodies, HasConflict, Clashes, TooHeavy, IsEmpty, Unreached, NoValues}
use Rattle.admission.specs.Texts.{TreeOf, OneTree, AtPlace}
use Rattle.admission.specs.Refusals.{Row, short_table, wrong_size, wrong_header, wrong_form, past_limit, wrong_name, recursive, too_large, empty_body, clashing, too_heavy, unreached, no_value, number, Fits, NoneBelow, First}

-- ---- numbers name rows

-- the first of these with the number n
abbrev row_in : List Row → ℕ → Row
row_in [] n = short_table
row_in (k ∷ more) n = cond (eqb (number k) n) k (row_in more n)

abbrev row_of : ℕ → Row
row_of n = row_in (short_table ∷ wrong_size ∷ wrong_header ∷ wrong_form ∷ past_limit ∷ wrong_name ∷ recursive ∷ too_large ∷ empty_body ∷ clashing ∷ too_heavy ∷ unreached ∷ no_value ∷ []) n

numbered : (k : Row) → (row_of (number k) ≡ k) × (1 ≤ number k) × (number k < 14)
numbered short_table = (refl, omega arith, omega arith)
numbered wrong_size = (refl, omega arith, omega arith)
numbered wrong_header = (refl, omega arith, omega arith)
numbered wrong_form = (refl, omega arith, omega arith)
numbered past_limit = (refl, omega arith, omega arith)
numbered wrong_name = (refl, omega arith, omega arith)
numbered recursive = (refl, omega arith, omega arith)
numbered too_large = (refl, omega arith, omega arith)
numbered empty_body = (refl, omega arith, omega arith)
numbered clashing = (refl, omega arith, omega arith)
numbered too_heavy = (refl, omega arith, omega arith)
numbered unreached = (refl, omega arith, omega arith)
numbered no_value = (refl, omega arith, omega arith)

pub same_row : (j k : Row) → number j ≡ number k → j ≡ k
same_row j k e = sym (numbered j).0 ∙ (ap row_of e ∙ (numbered k).0)

pub in_range : (k : Row) → (1 ≤ number k) × (number k < 14)
in_range k = ((numbered k).1, (numbered k).2)

-- ---- a text has one tree

abbrev base_in : Heading → ℕ
base_in (Heading.Rules base) = base
base_in (Heading.Wrong place) = 0

pub one_base : (h : Heading) (b b' : ℕ) → h ≡ Heading.Rules b → h ≡ Heading.Rules b' → b ≡ b'
one_base h b b' e e' = ap base_in (sym e ∙ e')

pub one_tree : {text : List ℕ} (x y : TreeOf text) → (x.base ≡ y.base) × (x.tree ≡ y.tree)
one_tree {text} x y =
    let b : x.base ≡ y.base = one_base (header_of text) x.base y.base x.header y.header in
    (b, ((formed (drop y.base text) blank).one_tree x.tree y.tree x.end y.end (subst (λ (k : ℕ). lexemes (drop k text) ≡ spelled x.tree x.end) b x.spells) y.spells).0)

pub only_tree : OneTree
only_tree text x y = one_tree x y

-- ---- a row fits at one place

pub least_same : (P : ℕ → Type 0) (i j : ℕ) → P i → P j → ((k : ℕ) → k < i → P k → ⊥) → ((k : ℕ) → k < j → P k → ⊥) → i ≡ j
least_same P i j a b f g =
    elim (dec_lt i j) [ yes l ↦ absurd (g i l a) | no l ↦ elim (dec_lt j i) [ yes m ↦ absurd (f j m b) | no m ↦ (let z : i ≡ j = omega arith in z) ] ]

abbrev wrong_in : Heading → ℕ
wrong_in (Heading.Rules base) = 0
wrong_in (Heading.Wrong place) = place

abbrev refused_in : Outcome → ℕ
refused_in (right st) = 0
refused_in (refused p) = p

one_fault : (xs : List ℕ) (p q : ℕ) → FirstFault (lexemes xs) p → FirstFault (lexemes xs) q → p ≡ q
one_fault xs p q e f = ap refused_in (sym ((formed xs blank).first_refused p e) ∙ (formed xs blank).first_refused q f)

some_same : {p q : ℕ} {o : Option ℕ} → o ≡ some p → o ≡ some q → p ≡ q
some_same {p} {q} e f = let z : ◌≡◌ {A = Option ℕ} (some p) (some q) = sym e ∙ f in cc

-- of one tree at one place, so of a text
both_placed : {text : List ℕ} (P : Rules → ℕ → Type 0) → ((t : Rules) (p q : ℕ) → P t p → P t q → p ≡ q) → (p q : ℕ) → AtPlace text P p → AtPlace text P q → p ≡ q
both_placed P same p q (x, m, e, z) (y, n, f, w) =
    let s = one_tree x y in
    let k : m ≡ n = same y.tree m n (subst (λ (t : Rules). P t m) s.1 e) f in
    omega (arith, z, w, s.0, k)

one_place : (text table : List ℕ) (k : Row) (p q : ℕ) → Fits text table k p → Fits text table k q → p ≡ q
one_place text table short_table p q e f = omega (arith, e.1, f.1)
one_place text table wrong_size p q e f = omega (arith, e.1, f.1)
one_place text table wrong_header p q e f = ap wrong_in (sym e ∙ f)
one_place text table wrong_form p q (b, m, h, e, z) (b', m', h', e', z') =
    let s : b ≡ b' = one_base (header_of text) b b' h h' in
    let t : m ≡ m' = one_fault (drop b' text) m m' (subst (λ (k : ℕ). FirstFault (lexemes (drop k text)) m) s e) e' in
    omega arith
one_place text table past_limit p q e f = both_placed PastLimit (λ t m n x y. some_same x y) p q e f
one_place text table wrong_name p q e f = both_placed WrongName (λ t m n x y. some_same x y) p q e f
one_place text table recursive p q e f = both_placed Recursive (λ t m n x y. omega (arith, x.first n y.recursive, y.first m x.recursive)) p q e f
one_place text table too_large p q e f = both_placed TooLarge (λ t m n x y. some_same x y) p q e f
one_place text table empty_body p q e f = both_placed EmptyBodies (λ t m n x y. omega (arith, x.2, y.2, x.3 y.0 y.1, y.3 x.0 x.1)) p q e f
one_place text table clashing p q e f =
    both_placed Clashes (λ t m n x y. (let s : x.0 ≡ y.0 = least_same (HasConflict t) x.0 y.0 x.1 y.1 x.2 y.2 in let z = x.3 in let z' = y.3 in cc)) p q e f
one_place text table too_heavy p q e f = both_placed TooHeavy (λ t m n x y. x.3 ∙ sym y.3) p q e f
one_place text table unreached p q e f = both_placed Unreached (λ t m n x y. omega (arith, x.first n y.unreached, y.first m x.unreached)) p q e f
one_place text table no_value p q e f =
    both_placed NoValues (λ t m n x y. (let s : x.0 ≡ y.0 = least_same (IsEmpty t) x.0 y.0 x.1 y.1 x.2 y.2 in let z = x.3 in let z' = y.3 in cc)) p q e f

-- ---- there is one first row

module _ (text table : List ℕ) where
  pub one_first : (j k : Row) (p q : ℕ) → First text table j p → First text table k q → (number j ≡ number k) × (p ≡ q)
  one_first j k p q (e, before) (e', before') =
      elim (dec_lt (number j) (number k)) [
        | yes l ↦ absurd (before' j p l e)
        | no l ↦ elim (dec_lt (number k) (number j)) [
          | yes m ↦ absurd (before k q m e')
          | no m ↦
              let n : number j ≡ number k = omega arith in
              (n, one_place text table k p q (subst (λ (r : Row). Fits text table r p) (same_row j k n) e) e')
        ]
      ]

  -- one row more does not fit
  pub below_next : (k : Row) → NoneBelow text table (number k) → ((q : ℕ) → Fits text table k q → ⊥) → NoneBelow text table (number k + 1)
  below_next k before not j q l e =
      elim (dec_lt (number j) (number k)) [
        | yes m ↦ before j q m e
        | no m ↦ not q (subst (λ (r : Row). Fits text table r q) (same_row j k (let z : number j ≡ number k = omega arith in z)) e)
      ]

  pub below_1 : NoneBelow text table 1
  below_1 k q l e = omega (arith, (in_range k).0)
