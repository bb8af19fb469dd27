-- Where a part of a tree stands among the nodes of its rule: whether a node holds it that makes a binder misplaced.
-- Assumes nothing.
use Prim.Native.Nat.{ℕ, suc, ◌+◌, ◌-◌, ◌≤◌, ◌<◌}
use mathlib.Core.Path.{◌≡◌, refl, sym, ap, ap₂, subst, ◌∙◌}
use mathlib.Core.Logic.{⊎_elim}
use mathlib.Core.Bool.{Bool, true, false, not, ◌&&◌, ◌||◌}
use mathlib.Core.List.{List, [], ◌∷◌, ◌++◌}
use native.Mathlib.Omega.{arith}
use borrow.Author.Tests.{ltb-true, ltb-false, lt-ltb, le-ltb, eqb-true, eq-eqb, ne_eqb}
use lib.Dec.{ltb, eqb}
use lib.ListN.{length, length-append}
use Rattle.basis.proofs.Booleans.{which}
use Rattle.text_names.specs.Names.{holds, held, held_between}
use Rattle.text_store.specs.Words.{kind_of, node_size, second_place, how_bound}
use Rattle.tree.specs.Tree.{Mark, optional, any_number, one_or_more, counted, Part, expression, concatenation, factor, atom, cases, Tree, literal, range, field, binder, rule_use, eod, group, switch, last_case, case_default, case_cases, once, repeated, last_member, and_members, last_branch, or_branches}
use Rattle.tree_form.specs.Stored.{start_of, how_bound as way-bound}
use Rattle.tree_meaning.specs.Counted.{constructs}
use Rattle.tree_store.proofs.Rows.{NodeRow, on_first, tests_rows, term_rows, mark_row, node_rows}
use Rattle.tree_store.proofs.Holding.{compared}
use Rattle.tree_store.proofs.Lengths.{nodes_counted, chain_long}
use Rattle.tree_store.proofs.Low.{any_false, any_true}

-- ---- nodes that are these rows, conditions and terms left out

pub record Like (ns : List ℕ) (i : ℕ) (r : NodeRow) : Type 0 where
  pub kind_like : kind_of ns i ≡ r.kind
  pub size_like : node_size ns i ≡ r.size
  pub second_like : second_place ns i ≡ r.second
  pub how_like : how_bound ns i ≡ r.how

pub data LikeAt (ns : List ℕ) : ℕ → List NodeRow → Type 0 where
  none_like : {i : ℕ} → LikeAt ns i []
  next_like : {i : ℕ} {r : NodeRow} {M : List NodeRow} → Like ns i r → LikeAt ns (i + 1) M → LikeAt ns i (r ∷ M)

pub like_first : {ns : List ℕ} {i : ℕ} {r : NodeRow} {M : List NodeRow} → LikeAt ns i (r ∷ M) → Like ns i r
like_first (next_like h more) = h

pub like_rest : {ns : List ℕ} {i : ℕ} {r : NodeRow} {M : List NodeRow} → LikeAt ns i (r ∷ M) → LikeAt ns (i + 1) M
like_rest (next_like h more) = more

pub like_left : {ns : List ℕ} {i : ℕ} (M L : List NodeRow) → LikeAt ns i (M ++ L) → LikeAt ns i M
like_left [] L h = none_like
like_left {i = i} (r ∷ M) L (next_like h more) = next_like h (like_left {i = i + 1} M L more)

pub like_right : {ns : List ℕ} {i : ℕ} (M L : List NodeRow) → LikeAt ns i (M ++ L) → LikeAt ns (i + length M) L
like_right {ns} {i} [] L h = subst (λ (k : ℕ). LikeAt ns k L) (let q : i ≡ i + 0 = omega arith in q) h
like_right {ns} {i} (r ∷ M) L (next_like h more) = subst (λ (k : ℕ). LikeAt ns k L) (let q : i + 1 + length M ≡ i + suc (length M) = omega arith in q) (like_right {i = i + 1} M L more)

pub like_uncased : {ns : List ℕ} {i : ℕ} (f g : ℕ) (M : List NodeRow) → LikeAt ns i (on_first f g M) → LikeAt ns i M
like_uncased f g [] h = none_like
like_uncased f g (r ∷ M) (next_like h more) = next_like (record { kind_like = h.kind_like; size_like = h.size_like; second_like = h.second_like; how_like = h.how_like }) more

-- ---- a node's parts end where its part of the tree ends

pub data FitsIn : ℕ → List NodeRow → Type 0 where
  fits_none : {n : ℕ} → FitsIn n []
  fits_more : {n : ℕ} {r : NodeRow} {M : List NodeRow} → r.size ≤ suc n → FitsIn n M → FitsIn (suc n) (r ∷ M)

fits_append : (M L : List NodeRow) → FitsIn (length M) M → FitsIn (length L) L → FitsIn (length (M ++ L)) (M ++ L)
fits_append [] L a b = b
fits_append (r ∷ M) L (fits_more h a) b = let e : r.size ≤ suc (length (M ++ L)) = omega (arith, length-append M L) in fits_more e (fits_append M L a b)

fits_node : (r : NodeRow) (M : List NodeRow) → r.size ≡ suc (length M) → FitsIn (length M) M → FitsIn (suc (length M)) (r ∷ M)
fits_node r M e h = let l : r.size ≤ suc (length M) = omega arith in fits_more l h

fits_first : (f g : ℕ) (M : List NodeRow) → FitsIn (length M) M → FitsIn (length (on_first f g M)) (on_first f g M)
fits_first f g [] a = fits_none
fits_first f g (r ∷ M) (fits_more h a) = fits_more h a

pub mark_size : (m : Mark) (size p t : ℕ) → (mark_row m size p t).size ≡ size
mark_size (optional s) size p t = refl
mark_size (any_number s) size p t = refl
mark_size (one_or_more s) size p t = refl
mark_size (counted opens n closes) size p t = refl

pub fits : {p : Part} {d : ℕ} (on : Bool) (x : Tree p d) (t : ℕ) → FitsIn (length (node_rows on x t)) (node_rows on x t)
unfolding node_rows
fits on (literal l) t = fits_node _ [] refl fits_none
fits on (range a s b one one') t = fits_node _ [] refl fits_none
fits on (field signed depth u opens n comma x closes) t = fits_node _ [] refl fits_none
fits on (binder signed depth u opens n comma v opens' x comma' y closes closes') t = fits_node _ [] refl fits_none
fits on (rule_use x other) t = fits_node _ [] refl fits_none
fits on (eod s) t = fits_node _ [] refl fits_none
fits on (group depth opens x closes) t = fits false x t
fits on (switch depth opens x closes) t = fits_node _ (node_rows false x t) (ap suc (sym (nodes_counted false x t))) (fits false x t)
fits on (last_case c colon x end) t = fits_first _ _ (node_rows false x (t + length (tests_rows c []))) (fits false x (t + length (tests_rows c [])))
fits on (case_default c colon x end colon' y end') t =
    fits_append (on_first t (t + length (tests_rows c [])) (node_rows false x (t + length (tests_rows c [])))) (node_rows false y (t + length (tests_rows c [] ++ term_rows x)))
    (fits_first t (t + length (tests_rows c [])) (node_rows false x (t + length (tests_rows c []))) (fits false x (t + length (tests_rows c [])))) (fits false y (t + length (tests_rows c [] ++ term_rows x)))
fits on (case_cases c colon x end more) t =
    fits_append (on_first t (t + length (tests_rows c [])) (node_rows false x (t + length (tests_rows c [])))) (node_rows false more (t + length (tests_rows c [] ++ term_rows x)))
    (fits_first t (t + length (tests_rows c [])) (node_rows false x (t + length (tests_rows c []))) (fits false x (t + length (tests_rows c [])))) (fits false more (t + length (tests_rows c [] ++ term_rows x)))
fits on (once x) t = fits false x t
fits on (repeated x m) t = fits_node (mark_row m (suc (constructs false x)) (start_of x) (t + length (term_rows x))) (node_rows false x t) (mark_size m (suc (constructs false x)) (start_of x) (t + length (term_rows x)) ∙ ap suc (sym (nodes_counted false x t))) (fits false x t)
fits on (last_member x) t = fits false x t
fits false (and_members x s more) t =
    fits_node _ (node_rows false x t ++ node_rows true more (t + length (term_rows x))) (chain_long x more t (t + length (term_rows x)))
    (fits_append (node_rows false x t) (node_rows true more (t + length (term_rows x))) (fits false x t) (fits true more (t + length (term_rows x))))
fits true (and_members x s more) t = fits_append (node_rows false x t) (node_rows true more (t + length (term_rows x))) (fits false x t) (fits true more (t + length (term_rows x)))
fits on (last_branch x) t = fits false x t
fits false (or_branches x s more) t =
    fits_node _ (node_rows false x t ++ node_rows true more (t + length (term_rows x))) (chain_long x more t (t + length (term_rows x)))
    (fits_append (node_rows false x t) (node_rows true more (t + length (term_rows x))) (fits false x t) (fits true more (t + length (term_rows x))))
fits true (or_branches x s more) t = fits_append (node_rows false x t) (node_rows true more (t + length (term_rows x))) (fits false x t) (fits true more (t + length (term_rows x)))

-- node j of these ends with them
ends_within : {ns : List ℕ} {i m : ℕ} (M : List NodeRow) → FitsIn m M → LikeAt ns i M → (j : ℕ) → i ≤ j → j < i + length M → j + node_size ns j ≤ i + m
ends_within [] fits_none h j a b = absurd (omega arith)
ends_within {ns} {i} (r ∷ M) (fits_more {n} f more) (next_like l ls) j a b =
    compared j i (λ y. absurd (omega arith))
    (λ (y : j ≡ i). let e : node_size ns j ≡ r.size = ap (node_size ns) y ∙ l.size_like in omega arith)
    (λ y. let g : j + node_size ns j ≤ i + 1 + n = ends_within {i = i + 1} M more ls j (omega arith) (omega arith) in omega arith)

-- ---- spots; a is the first node of the rule

module _ (ns : List ℕ) (a : ℕ) where
  -- what else is known where a part is the whole body of a rule or a member of its top concatenation
  abbrev pub Free : Part → Bool → ℕ → Type 0
  Free expression true i = ⊥
  Free expression false i = i ≡ a
  Free concatenation true i = Unit {0}
  Free concatenation false i = i ≡ a
  Free factor on i = Unit {0}
  Free atom on i = Unit {0}
  Free cases on i = ⊥

  -- no node from a up to i holds one of m nodes from i on
  abbrev pub NoHolder : ℕ → ℕ → Type 0
  NoHolder i m = (j k : ℕ) → a ≤ j → j < i → i ≤ k → k < i + m → held ns a k j ≡ false

pub data Spot (ns : List ℕ) (a : ℕ) : Part → Bool → Bool → ℕ → ℕ → ℕ → Type 0 where
  free : {p : Part} {on : Bool} {d i m : ℕ} → Free ns a p on i → d ≡ 0 → NoHolder ns a i m → Spot ns a p on true d i m
  grouped : {p : Part} {on : Bool} {d i m : ℕ} → 1 ≤ d → Spot ns a p on false d i m
  enclosed : {p : Part} {on : Bool} {d i m : ℕ} (j : ℕ) → a ≤ j → j < i → ((k : ℕ) → i ≤ k → k < i + m → held ns a k j ≡ true) → Spot ns a p on false d i m

holds_part : {ns : List ℕ} {i m : ℕ} {r : NodeRow} → Like ns i r → r.size ≡ suc m → (k : ℕ) → i + 1 ≤ k → k < i + 1 + m → holds ns k i ≡ true
holds_part {ns} {i} h e k x y = lt-ltb (k - i) (node_size ns i) (omega (arith, h.size_like))

and_false : (b : Bool) → (b && false) ≡ false
and_false true = refl
and_false false = refl

module _ {ns : List ℕ} {a : ℕ} where
  -- fewer nodes, where one holds all
  pub sub_spot : {p q : Part} {on on' : Bool} {d i i' m m' : ℕ} → i ≤ i' → i' + m' ≤ i + m → Spot ns a p on false d i m → Spot ns a q on' false d i' m'
  sub_spot l e (grouped h) = grouped h
  sub_spot {i' = i'} {m' = m'} l e (enclosed j x y h) = enclosed {i = i'} {m = m'} j x (omega arith) (λ k u v. h k (omega arith) (omega arith))

  -- the same nodes
  pub branch_spot : {on : Bool} {top : Bool} {d i m : ℕ} → Spot ns a expression on top d i m → Spot ns a concatenation false top d i m
  branch_spot {on = true} (free f z h) = absurd f
  branch_spot {on = false} (free f z h) = free f z h
  branch_spot (grouped h) = grouped h
  branch_spot (enclosed j x y h) = enclosed j x y h

  pub member_spot : {on : Bool} {top : Bool} {d i m : ℕ} → Spot ns a concatenation on top d i m → Spot ns a factor false top d i m
  member_spot (free f z h) = free tt z h
  member_spot (grouped h) = grouped h
  member_spot (enclosed j x y h) = enclosed j x y h

  pub once_spot : {on : Bool} {top : Bool} {d i m : ℕ} → Spot ns a factor on top d i m → Spot ns a atom false top d i m
  once_spot (free f z h) = free tt z h
  once_spot (grouped h) = grouped h
  once_spot (enclosed j x y h) = enclosed j x y h

  -- alternatives that go on stand in one; cases stand in a switch
  pub more_spot : {top : Bool} {d i m : ℕ} → Spot ns a expression true top d i m → Spot ns a expression true false d i m
  more_spot (free f z h) = absurd f
  more_spot (grouped h) = grouped h
  more_spot (enclosed j x y h) = enclosed j x y h

  pub case_spot : {on top : Bool} {d i m : ℕ} → Spot ns a cases on top d i m → Spot ns a cases on false d i m
  case_spot (free f z h) = absurd f
  case_spot (grouped h) = grouped h
  case_spot (enclosed j x y h) = enclosed j x y h

  -- what stands behind a node that is no concatenation
  pub inner_spot : {p : Part} {on : Bool} {d i m : ℕ} {r : NodeRow} → a ≤ i → Like ns i r → r.size ≡ suc m → eqb r.kind 2 ≡ false → Spot ns a p on false d (i + 1) m
  inner_spot {i = i} {m = m} {r = r} l h e z = enclosed {i = i + 1} {m = m} i l (omega arith) (λ k x y. ap₂ ◌&&◌ (holds_part h e k x y) (other k))
    where
      other : (k : ℕ) → not (eqb i a && eqb (kind_of ns a) 2) ≡ true
      other k =
          ⊎_elim
          (λ (y : eqb i a ≡ true). let q : kind_of ns a ≡ r.kind = ap (kind_of ns) (sym (eqb-true i a y)) ∙ h.kind_like in rw (y, q, z) refl)
          (λ (y : eqb i a ≡ false). rw y refl)
          (which (eqb i a))

  -- the members of a concatenation
  pub chain_spot : {top : Bool} {d i m : ℕ} {r : NodeRow} → Like ns i r → r.kind ≡ 2 → Spot ns a concatenation false top d i (suc m) → Spot ns a concatenation true top d (i + 1) m
  chain_spot {i = i} {m = m} h e (free f z g) = free tt z only_top
    where
      only_top : NoHolder ns a (i + 1) m
      only_top j k x y u v =
          let q : j ≡ i = omega arith
          in let t : (eqb j a && eqb (kind_of ns a) 2) ≡ true = ap₂ ◌&&◌ (eq-eqb j a (omega arith)) (ap (λ (n : ℕ). eqb n 2) (ap (kind_of ns) (sym f) ∙ h.kind_like ∙ e))
          in ap (λ (b : Bool). holds ns k j && not b) t ∙ and_false (holds ns k j)
  chain_spot h e (grouped g) = grouped g
  chain_spot {i = i} {m = m} h e (enclosed j x y g) = enclosed {i = i + 1} {m = m} j x (omega arith) (λ k u v. g k (omega arith) (omega arith))

  -- the first of them
  pub first_spot : {top : Bool} {d i m n : ℕ} → m ≤ n → Spot ns a concatenation true top d i n → Spot ns a factor false top d i m
  first_spot {i = i} {m = m} l (free f z h) = free {i = i} {m = m} tt z (λ j k x y u v. h j k x y u (omega arith))
  first_spot l (grouped h) = grouped h
  first_spot {i = i} {m = m} l (enclosed j x y h) = enclosed {i = i} {m = m} j x y (λ k u v. h k u (omega arith))

  -- and those after it
  pub rest_spot : {top : Bool} {d i m n : ℕ} (M : List NodeRow) → FitsIn (length M) M → LikeAt ns i M → length M + m ≡ n → Spot ns a concatenation true top d i n → Spot ns a concatenation true top d (i + length M) m
  rest_spot {i = i} {m = m} M f l e (free g z h) = free tt z later
    where
      later : NoHolder ns a (i + length M) m
      later j k x y u v =
          ⊎_elim (λ (w : ltb j i ≡ true). h j k x (ltb-true j i w) (omega arith) (omega arith))
          (λ (w : ltb j i ≡ false).
          let q : i ≤ j = ltb-false j i w
          in let s : j + node_size ns j ≤ i + length M = ends_within M f l j q y
          in ap (λ (b : Bool). b && not (eqb j a && eqb (kind_of ns a) 2)) (le-ltb (k - j) (node_size ns j) (omega arith)))
          (which (ltb j i))
  rest_spot M f l e (grouped h) = grouped h
  rest_spot {i = i} {m = m} M f l e (enclosed j x y h) = enclosed {i = i + length M} {m = m} j x (omega arith) (λ k u v. h k (omega arith) (omega arith))

  -- whether a binder there is misplaced
  pub misplaced : {on top : Bool} {d i : ℕ} → a ≤ i → Spot ns a atom on top d i 1 → (not (eqb (way-bound (d + 1 + 1)) 1) || held_between ns a i) ≡ not top
  misplaced {d = d} {i = i} l (free f z h) =
      let q : d + 1 + 1 ≡ 2 = omega arith
      in rw q (any_false (i - a) a (held ns a i) (λ j x y. h j i x (omega arith) (omega arith) (omega arith)))
  misplaced {d = d} {i = i} l (grouped h) =
      let q : eqb (d + 1 + 1) 2 ≡ false = ne_eqb (d + 1 + 1) 2 (λ e. omega arith)
      in rw q refl
  misplaced {d = d} {i = i} l (enclosed j x y h) =
      or_true (not (eqb (way-bound (d + 1 + 1)) 1)) (held_between ns a i) (any_true (i - a) a (held ns a i) j x (omega arith) (h i (omega arith) (omega arith)))
    where
      or_true : (b c : Bool) → c ≡ true → (b || c) ≡ true
      or_true true c e = refl
      or_true false c e = e
