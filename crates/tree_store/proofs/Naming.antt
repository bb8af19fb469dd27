-- The names at fault in a rule: what the store's words say is what the tree says.
-- Assumes nothing.
use Prim.Native.Nat.{ℕ, suc, ◌+◌, ◌-◌, ◌≤◌, ◌<◌, min}
use mathlib.Core.Path.{◌≡◌, refl, sym, ap, ap₂, subst, ◌∙◌}
use mathlib.Core.Bool.{Bool, true, false, cond, not, ◌&&◌, ◌||◌}
use mathlib.Core.List.{List, [], ◌∷◌, ◌++◌, append_assoc}
use native.Mathlib.Omega.{arith}
use lib.Dec.{eqb}
use lib.ListN.{length, length-append}
use Rattle.text_tokens.specs.Names.{reserved_of}
use Rattle.text_tokens.specs.declared.Kind.{Kind}
use Rattle.text_names.specs.Counting.{nowhere, place_if, least_of}
use Rattle.text_names.specs.Names.{is_reserved, rule_named, bound_between, use_fault, held_between, variable_fault, term_place, list_place, node_place}
use Rattle.text_store.specs.Words.{is_use, stored_term_at}
use Rattle.tree.specs.Lexemes.{Name, Number, Lexeme, sign}
use Rattle.tree.specs.Tree.{tests, Tests, Mark, optional, any_number, one_or_more, counted, Part, expression, concatenation, factor, atom, cases, Tree, literal, range, field, binder, rule_use, eod, group, switch, last_case, case_default, case_cases, once, repeated, last_member, and_members, last_branch, or_branches}
use Rattle.tree.specs.Spelling.{spell_tests, spell_mark, spell}
use Rattle.tree_form.specs.Stored.{start_of, how_bound as way-bound}
use Rattle.tree_meaning.specs.Pieces.{Component, tests_parts, Piece, use_of_rule, width, formula, binding, mark_pieces, pieces}
use Rattle.tree_meaning.specs.Counted.{constructs}
use Rattle.tree_meaning.specs.Places.{place_if as listed-if}
use Rattle.tree_meaning.specs.Names.{is_reserved as is-kept, is_among, use_fault as wrong-use, binder_fault as wrong-binder, variable_fault as wrong-variable, variable_faults, faults_after}
use Rattle.tree_store.proofs.Rows.{NodeRow, a_node, on_first, TermRow, set_rows, counts_rows, tests_rows, mark_rows, term_rows, mark_row, node_rows}
use Rattle.tree_store.proofs.Lengths.{length_first, nodes_counted, chain_long}
use Rattle.tree_store.proofs.Low.{Low, low_as, low_none, low_if, low_both}
use Rattle.tree_store.proofs.Standing.{Standing, past, after_tests, after_tree}
use Rattle.tree_store.proofs.Storing.{NodeIs}
use Rattle.tree_store.proofs.Rowed.{TermsAt, none_at, next_at, terms_left, terms_right}
use Rattle.tree_store.proofs.Uses.{Here, here, UsesAre, no_more, used, other as skipped, uses_of, set_uses, counts_uses, tests_uses}
use Rattle.tree_store.proofs.Spots.{LikeAt, like_first, like_rest, like_left, like_right, like_uncased, mark_size, fits, Spot, grouped, sub_spot, branch_spot, member_spot, once_spot, more_spot, case_spot, inner_spot, chain_spot, first_spot, rest_spot, misplaced}
use Rattle.tree_store.proofs.Binding.{after_bound, mark_quiet, bound_cased, bound_formula, bound_rows, Before, before_node, before_more}

-- ---- rows whose first is no case's body

abbrev pub Plain : List NodeRow → Type 0
Plain [] = ⊥
Plain (r ∷ M) = (r.case_from ≡ 0) × (r.case_end ≡ 0)

abbrev pub PlainFor : Part → List NodeRow → Type 0
PlainFor expression M = Plain M
PlainFor concatenation M = Plain M
PlainFor factor M = Plain M
PlainFor atom M = Plain M
PlainFor cases M = Unit {0}

plain_append : (M L : List NodeRow) → Plain M → Plain (M ++ L)
plain_append [] L h = absurd h
plain_append (r ∷ M) L h = h

plain_mark : (m : Mark) (size p t : ℕ) (M : List NodeRow) → Plain (mark_row m size p t ∷ M)
plain_mark (optional s) size p t M = (refl, refl)
plain_mark (any_number s) size p t M = (refl, refl)
plain_mark (one_or_more s) size p t M = (refl, refl)
plain_mark (counted opens n closes) size p t M = (refl, refl)

pub plain : {p : Part} {d : ℕ} (on : Bool) (x : Tree p d) (t : ℕ) → PlainFor p (node_rows on x t)
unfolding node_rows
plain on (literal l) t = (refl, refl)
plain on (range a s b one one') t = (refl, refl)
plain on (field signed depth u opens n comma x closes) t = (refl, refl)
plain on (binder signed depth u opens n comma v opens' x comma' y closes closes') t = (refl, refl)
plain on (rule_use x other) t = (refl, refl)
plain on (eod s) t = (refl, refl)
plain on (group depth opens x closes) t = plain false x t
plain on (switch depth opens x closes) t = (refl, refl)
plain on (last_case c colon x end) t = tt
plain on (case_default c colon x end colon' y end') t = tt
plain on (case_cases c colon x end more) t = tt
plain on (once x) t = plain false x t
plain on (repeated x m) t = plain_mark m _ _ _ (node_rows false x t)
plain on (last_member x) t = plain false x t
plain false (and_members x s more) t = (refl, refl)
plain true (and_members x s more) t = plain_append (node_rows false x t) (node_rows true more (t + length (term_rows x))) (plain false x t)
plain on (last_branch x) t = plain false x t
plain false (or_branches x s more) t = (refl, refl)
plain true (or_branches x s more) t = plain_append (node_rows false x t) (node_rows true more (t + length (term_rows x))) (plain false x t)

mark_kind : (m : Mark) (size p t : ℕ) → eqb (mark_row m size p t).kind 2 ≡ false
mark_kind (optional s) size p t = refl
mark_kind (any_number s) size p t = refl
mark_kind (one_or_more s) size p t = refl
mark_kind (counted opens n closes) size p t = refl

-- ---- names

pub reserved_here : {xs : List ℕ} {x : Name} → Here xs x → is_reserved xs x.start ≡ is-kept x
unfolding is_reserved
reserved_here h = ap (λ (l : List ℕ). not (eqb (reserved_of l) 0)) h.letters_are

-- the rules of a text, and the variables of the rule whose nodes go from a up to e
pub record Known (xs ns rs : List ℕ) (r a e : ℕ) (rules variables : List Name) : Type 0 where
  pub fits_in : length xs < nowhere
  pub ruled : (y : Name) → Here xs y → rule_named xs rs r y.start ≡ is_among rules y
  pub varied : (y : Name) → Here xs y → bound_between xs ns a e y.start ≡ is_among variables y

faults_append : (rules variables names : List Name) (l m : List Piece) → faults_after rules variables names (l ++ m) ≡ faults_after rules variables names l ++ faults_after rules variables (after_bound l names) m
unfolding faults_after after_bound
faults_append rules variables names [] m = refl
faults_append rules variables names (use_of_rule x ∷ l) m =
    ap (λ (q : List ℕ). listed-if (wrong-use rules variables x) x.start ++ q) (faults_append rules variables names l m)
    ∙ sym (append_assoc (listed-if (wrong-use rules variables x) x.start) (faults_after rules variables names l) (faults_after rules variables (after_bound l names) m))
faults_append rules variables names (width most n ∷ l) m = faults_append rules variables names l m
faults_append rules variables names (formula f ∷ l) m =
    ap (λ (q : List ℕ). variable_faults names (uses_of f) ++ q) (faults_append rules variables names l m)
    ∙ sym (append_assoc (variable_faults names (uses_of f)) (faults_after rules variables names l) (faults_after rules variables (after_bound l names) m))
faults_append rules variables names (binding x signed n placed ∷ l) m =
    ap (λ (q : List ℕ). listed-if (wrong-binder names placed x) x.start ++ q) (faults_append rules variables (x ∷ names) l m)
    ∙ sym (append_assoc (listed-if (wrong-binder names placed x) x.start) (faults_after rules variables (x ∷ names) l) (faults_after rules variables (after_bound l (x ∷ names)) m))

-- ---- numbers

small_min : (n : ℕ) → n ≤ nowhere → n ≡ min nowhere n
small_min n h = omega arith

pad_one : (n : ℕ) → min n nowhere ≡ min (min n (min nowhere nowhere)) nowhere
pad_one n = omega arith

own_min : (n m : ℕ) → m ≤ nowhere → min n m ≡ min (min nowhere (min nowhere n)) m
own_min n m h = omega arith

binder_min : (n p : ℕ) → min n (min p nowhere) ≡ min (min p (min nowhere n)) nowhere
binder_min n p = omega arith

case_min : (n o m l : ℕ) → m ≤ nowhere → min (min n (min l o)) m ≡ min l (min (min n (min nowhere o)) m)
case_min n o m l h = moved ∙ ap (min l) dropped
  where
    moved : min (min n (min l o)) m ≡ min l (min (min n o) m)
    moved = omega arith

    dropped : min (min n o) m ≡ min (min n (min nowhere o)) m
    dropped = omega arith

-- ---- the places of a rule's nodes, by their rows

module _ (xs ns ts rs : List ℕ) (r a e : ℕ) where
  -- terms from f up to g of node i
  abbrev listed : ℕ → ℕ → ℕ → ℕ
  listed i f g = list_place xs ns ts a i f g

  -- the name of node i, where it is at fault
  abbrev pub name_row : ℕ → NodeRow → ℕ
  name_row i x =
      cond (eqb x.kind 5) (place_if (use_fault xs ns rs r a e x.place) x.place)
      (cond (eqb x.kind 8 && not (eqb x.how 0)) (place_if (is_reserved xs x.second || (bound_between xs ns a i x.second || (not (eqb x.how 1) || held_between ns a i))) x.second) nowhere)

  abbrev pub row_place : ℕ → NodeRow → ℕ
  row_place i x = min (name_row i x) (min (listed i x.case_from x.case_end) (listed i x.own_from x.own_end))

  pub row_is : {i : ℕ} {x : NodeRow} → NodeIs ns i x → node_place xs ns ts rs r a e i ≡ row_place i x
  row_is h = rw (h.kind_is, h.place_is, h.second_is, h.how_is, h.case_from_is, h.case_end_is, h.own_from_is, h.own_end_is) refl

  unfoldable pub rows_place : ℕ → List NodeRow → ℕ
  rows_place i [] = nowhere
  rows_place i (x ∷ M) = min (row_place i x) (rows_place (i + 1) M)

  rows_small : (i : ℕ) (M : List NodeRow) → rows_place i M ≤ nowhere
  unfolding rows_place
  rows_small i [] = omega arith
  rows_small i (x ∷ M) = let h : rows_place (i + 1) M ≤ nowhere = rows_small (i + 1) M in small_second (row_place i x) (rows_place (i + 1) M) h
    where
      small_second : (m n : ℕ) → n ≤ nowhere → min m n ≤ nowhere
      small_second m n h = omega arith

  rows_append : (i : ℕ) (M L : List NodeRow) → rows_place i (M ++ L) ≡ min (rows_place i M) (rows_place (i + length M) L)
  unfolding rows_place
  rows_append i [] L =
      ap (λ (q : ℕ). rows_place q L) (let q : i ≡ i + 0 = omega arith in q) ∙ small_min (rows_place (i + 0) L) (rows_small (i + 0) L)
  rows_append i (x ∷ M) L =
      ap (min (row_place i x)) (rows_append (i + 1) M L ∙ ap (λ (q : ℕ). min (rows_place (i + 1) M) (rows_place q L)) (let q : i + 1 + length M ≡ i + suc (length M) = omega arith in q))
      ∙ min_assoc (row_place i x) (rows_place (i + 1) M) (rows_place (i + suc (length M)) L)
    where
      min_assoc : (l m n : ℕ) → min l (min m n) ≡ min (min l m) n
      min_assoc l m n = omega arith

  -- the body of a case
  rows_cased : (i f g : ℕ) (M : List NodeRow) → Plain M → rows_place i (on_first f g M) ≡ min (listed i f g) (rows_place i M)
  unfolding rows_place least_of
  rows_cased i f g [] h = absurd h
  rows_cased i f g (x ∷ M) h =
      case_min (name_row i x) (listed i x.own_from x.own_end) (rows_place (i + 1) M) (listed i f g) (rows_small (i + 1) M)
      ∙ ap (λ (q : ℕ). min (listed i f g) (min (min (name_row i x) (min q (listed i x.own_from x.own_end))) (rows_place (i + 1) M))) (sym (ap₂ (listed i) h.0 h.1))

  -- the names of a rule and its variables
  module _ (rules variables : List Name) (known : Known xs ns rs r a e rules variables) where
    abbrev faults : List Name → List Piece → List ℕ
    faults names l = faults_after rules variables names l

    inside : {x : Name} → Here xs x → x.start < nowhere
    inside h = omega (arith, h.inside, known.fits_in)

    -- a list of terms of node i
    terms_low : {i k : ℕ} {names : List Name} {A : List TermRow} {us : List Name} → Before xs ns a i names → TermsAt ts k A → UsesAre xs A us → Low (least_of (length A) k (term_place xs ns ts a i)) (variable_faults names us)
    unfolding least_of variable_faults
    terms_low b none_at no_more = low_none
    terms_low {i} {k} {names} b (next_at {r = q} f g more) (used {x = x} t p h us) =
        low_both (low_as (sym at_fault) (low_if (wrong-variable names x) x.start (inside h))) (terms_low b more us)
      where
        at_fault : term_place xs ns ts a i k ≡ place_if (wrong-variable names x) x.start
        at_fault =
            ap₂ (λ (m n : ℕ). place_if (is_use m && variable_fault xs ns a i n) n) f (g ∙ p)
            ∙ ap (λ (m : Bool). place_if (m && variable_fault xs ns a i x.start) x.start) t
            ∙ ap (λ (m : Bool). place_if m x.start) (ap₂ (λ (m n : Bool). m || not n) (reserved_here h) (b.before x h))
    terms_low {i} {k} {names} b (next_at {r = q} f g more) (skipped t us) =
        low_as (after_none (terms_low b more us).small) (terms_low b more us)
      where
        no_fault : term_place xs ns ts a i k ≡ nowhere
        no_fault = ap (λ (m : ℕ). place_if (is_use m && variable_fault xs ns a i (stored_term_at ts k)) (stored_term_at ts k)) f ∙ ap (λ (m : Bool). place_if (m && variable_fault xs ns a i (stored_term_at ts k)) (stored_term_at ts k)) t

        after_none : {n : ℕ} → n ≤ nowhere → n ≡ min (term_place xs ns ts a i k) n
        after_none {n} h = small_min n h ∙ ap (λ (m : ℕ). min m n) (sym no_fault)

    list_low : {i : ℕ} (k : ℕ) {names : List Name} (A : List TermRow) {us : List Name} → Before xs ns a i names → TermsAt ts k A → UsesAre xs A us → Low (listed i k (k + length A)) (variable_faults names us)
    list_low {i} k A b t u = low_as (ap (λ (n : ℕ). least_of n k (term_place xs ns ts a i)) (let q : length A ≡ k + length A - k = omega arith in q)) (terms_low b t u)

    -- the least place of these rows from node i on is the least of these pieces, after binders of these names
    pub record Right (i : ℕ) (M : List NodeRow) (names : List Name) (l : List Piece) : Type 0 where
      pub low : Low (rows_place i M) (faults_after rules variables names l)

    -- a node without faults of its own
    node_right : {i : ℕ} {q : NodeRow} {M : List NodeRow} {names : List Name} {l : List Piece} → row_place i q ≡ nowhere → Right (i + 1) M names l → Right i (q ∷ M) names l
    unfolding rows_place
    node_right {i} {q} {M} z h = record { low = low_as (small_min (rows_place (i + 1) M) h.low.small ∙ ap (λ (n : ℕ). min n (rows_place (i + 1) M)) (sym z)) h.low }

    bare_right : {i : ℕ} {q : NodeRow} {names : List Name} → row_place i q ≡ nowhere → Right i (q ∷ []) names []
    unfolding rows_place faults_after
    bare_right z = node_right z (record { low = low_none })

    two_right : {i : ℕ} {names : List Name} {M L : List NodeRow} {l m : List Piece} → Right i M names l → Right (i + length M) L (after_bound l names) m → Right i (M ++ L) names (l ++ m)
    two_right {i} {names} {M} {L} {l} {m} x y =
        record { low = subst (λ (q : List ℕ). Low (rows_place i (M ++ L)) q) (sym (faults_append rules variables names l m)) (low_as (sym (rows_append i M L)) (low_both x.low y.low)) }

    use_right : {i : ℕ} {names : List Name} {x : Name} → Here xs x → Right i (a_node 5 1 x.start 0 0 0 0 0 ∷ []) names (use_of_rule x ∷ [])
    unfolding rows_place least_of faults_after
    use_right {i} {names} {x} h =
        record { low = low_as (pad_one (place_if (use_fault xs ns rs r a e x.start) x.start)) (low_both (low_as (sym at_fault) (low_if (wrong-use rules variables x) x.start (inside h))) low_none) }
      where
        at_fault : place_if (use_fault xs ns rs r a e x.start) x.start ≡ place_if (wrong-use rules variables x) x.start
        at_fault = λ k. place_if (reserved_here h k || (not (known.ruled x h k) || known.varied x h k)) x.start

    field_right : {i t : ℕ} {names : List Name} {u v most : ℕ} {n : Number} {f : List Component} (A : List TermRow) → Before xs ns a i names → TermsAt ts t A → UsesAre xs A (uses_of f)
        → Right i (a_node 8 1 u v 0 t (t + length A) 0 ∷ []) names (width most n ∷ formula f ∷ [])
    unfolding rows_place least_of faults_after
    field_right {i} {t} A b k us = record { low = low_as (own_min (listed i t (t + length A)) nowhere (omega arith)) (low_both (list_low t A b k us) low_none) }

    binder_right : {on top : Bool} {d i t : ℕ} {names : List Name} {u v most : ℕ} {x : Name} {signed : Bool} {n : Number} {f : List Component} (A : List TermRow) → Here xs x → Spot ns a atom on top d i 1 → Before xs ns a i names → TermsAt ts t A
        → UsesAre xs A (uses_of f) → Right i (a_node 8 1 u v x.start t (t + length A) (way-bound (d + 1 + 1)) ∷ []) names (width most n ∷ formula f ∷ binding x signed n top ∷ [])
    unfolding rows_place least_of faults_after
    binder_right {on} {top} {d} {i} {t} {names} {u} {v} {x = x} A h s b k us =
        record {
          low =
              low_as (binder_min (listed i t (t + length A)) (place_if (wrong-binder names top x) x.start) ∙ ap (λ (n : ℕ). min (min n (min nowhere (listed i t (t + length A)))) nowhere) (sym at_fault))
              (low_both (list_low t A b k us) (low_both (low_if (wrong-binder names top x) x.start (inside h)) low_none));
        }
      where
        wrong : Bool
        wrong = is_reserved xs x.start || (bound_between xs ns a i x.start || (not (eqb (way-bound (d + 1 + 1)) 1) || held_between ns a i))

        at_fault : name_row i (a_node 8 1 u v x.start t (t + length A) (way-bound (d + 1 + 1))) ≡ place_if (wrong-binder names top x) x.start
        at_fault =
            picked_bound (eqb (d + 1 + 1) 2)
            ∙ (λ q. place_if (reserved_here h q || (b.before x h q || misplaced b.begins s q)) x.start)
          where
            picked_bound : (c : Bool) → cond (eqb 8 8 && not (eqb (cond c 1 2) 0)) (place_if wrong x.start) nowhere ≡ place_if wrong x.start
            picked_bound true = refl
            picked_bound false = refl

    mark_right : {i t : ℕ} {names : List Name} {l : List Piece} {p : ℕ} (m : Mark) (size at : ℕ) {M : List NodeRow} (w : List Lexeme) → Before xs ns a i names → TermsAt ts t (mark_rows m) → Standing xs p (spell_mark m w)
        → Right (i + 1) M names l → Right i (mark_row m size at t ∷ M) names (mark_pieces m ++ l)
    unfolding rows_place least_of faults_after mark_rows spell_mark
    mark_right (optional s) size at w b k g h = node_right refl h
    mark_right (any_number s) size at w b k g h = node_right refl h
    mark_right (one_or_more s) size at w b k g h = node_right refl h
    mark_right {i} {t} (counted opens n closes) size at {M = M} w b k g h =
        record { low = low_as (own_min (listed i t (t + length (counts_rows n))) (rows_place (i + 1) M) h.low.small) (low_both (list_low t (counts_rows n) b k (counts_uses n (sign Kind.CloseBrace closes ∷ w) (past g))) h.low) }

    case_right : {i t : ℕ} {names : List Name} {l : List Piece} {f : List Component} (A : List TermRow) {M : List NodeRow} → Plain M → Before xs ns a i names → TermsAt ts t A → UsesAre xs A (uses_of f)
        → Right i M names l → Right i (on_first t (t + length A) M) names (formula f ∷ l)
    unfolding faults_after
    case_right {i} {t} A {M} z b k us h = record { low = low_as (sym (rows_cased i t (t + length A) M z)) (low_both (list_low t A b k us) h.low) }

    -- ---- the parts of a chain; how each is right is handed over

    members_right : {d : ℕ} {top : Bool} (x : Tree factor d) (y : Tree concatenation d) (t : ℕ) {i : ℕ} {names : List Name} (w : List Lexeme) {q : ℕ}
        → LikeAt ns i (node_rows false x t ++ node_rows true y (t + length (term_rows x))) → TermsAt ts t (term_rows x ++ term_rows y) → Standing xs q (spell x w)
        → Spot ns a concatenation true top d i (length (node_rows false x t ++ node_rows true y (t + length (term_rows x)))) → Before xs ns a i names
        → (LikeAt ns i (node_rows false x t) → TermsAt ts t (term_rows x) → Spot ns a factor false top d i (length (node_rows false x t)) → Right i (node_rows false x t) names (pieces top x))
        → (LikeAt ns (i + length (node_rows false x t)) (node_rows true y (t + length (term_rows x))) → TermsAt ts (t + length (term_rows x)) (term_rows y)
        → Spot ns a concatenation true top d (i + length (node_rows false x t)) (length (node_rows true y (t + length (term_rows x)))) → Before xs ns a (i + length (node_rows false x t)) (after_bound (pieces top x) names)
        → Right (i + length (node_rows false x t)) (node_rows true y (t + length (term_rows x))) (after_bound (pieces top x) names) (pieces top y))
        → Right i (node_rows false x t ++ node_rows true y (t + length (term_rows x))) names (pieces top x ++ pieces top y)
    members_right {d} {top} x y t {i} {names} w h k s z b f g =
        let M : List NodeRow = node_rows false x t
        in let L : List NodeRow = node_rows true y (t + length (term_rows x))
        in let l : length (M ++ L) ≡ length M + length L = length-append M L
        in let o : LikeAt ns i M = like_left M L h
        in two_right (f o (terms_left (term_rows x) (term_rows y) k) (first_spot (let q : length M ≤ length (M ++ L) = omega arith in q) z))
        (g (like_right M L h) (terms_right (term_rows x) (term_rows y) k) (rest_spot M (fits false x t) o (sym l) z) (before_more M (pieces top x) (bound_rows false top x t w o s) b))

    branches_right : {d : ℕ} (x : Tree concatenation d) (y : Tree expression d) (t : ℕ) {i : ℕ} {names : List Name} (w : List Lexeme) {q : ℕ}
        → LikeAt ns i (node_rows false x t ++ node_rows true y (t + length (term_rows x))) → TermsAt ts t (term_rows x ++ term_rows y) → Standing xs q (spell x w)
        → Spot ns a expression true false d i (length (node_rows false x t ++ node_rows true y (t + length (term_rows x)))) → Before xs ns a i names
        → (LikeAt ns i (node_rows false x t) → TermsAt ts t (term_rows x) → Spot ns a concatenation false false d i (length (node_rows false x t)) → Right i (node_rows false x t) names (pieces false x))
        → (LikeAt ns (i + length (node_rows false x t)) (node_rows true y (t + length (term_rows x))) → TermsAt ts (t + length (term_rows x)) (term_rows y)
        → Spot ns a expression true false d (i + length (node_rows false x t)) (length (node_rows true y (t + length (term_rows x)))) → Before xs ns a (i + length (node_rows false x t)) (after_bound (pieces false x) names)
        → Right (i + length (node_rows false x t)) (node_rows true y (t + length (term_rows x))) (after_bound (pieces false x) names) (pieces false y))
        → Right i (node_rows false x t ++ node_rows true y (t + length (term_rows x))) names (pieces false x ++ pieces false y)
    branches_right {d} x y t {i} {names} w h k s z b f g =
        let M : List NodeRow = node_rows false x t
        in let L : List NodeRow = node_rows true y (t + length (term_rows x))
        in let l : length (M ++ L) ≡ length M + length L = length-append M L
        in let o : LikeAt ns i M = like_left M L h
        in two_right (f o (terms_left (term_rows x) (term_rows y) k) (sub_spot (let q : i ≤ i = omega arith in q) (let q : i + length M ≤ i + length (M ++ L) = omega arith in q) z))
        (g (like_right M L h) (terms_right (term_rows x) (term_rows y) k) (sub_spot (let q : i ≤ i + length M = omega arith in q) (let q : i + length M + length L ≤ i + length (M ++ L) = omega arith in q) z)
        (before_more M (pieces false x) (bound_rows false false x t w o s) b))

    -- a case, and what follows it
    cases_right : {d : ℕ} {p : Part} {on : Bool} (c : Tests tests d) (x : Tree expression d) (y : Tree p d) (t : ℕ) {i : ℕ} {names : List Name} (v w : List Lexeme) {q o : ℕ}
        → LikeAt ns i (on_first t (t + length (tests_rows c [])) (node_rows false x (t + length (tests_rows c []))) ++ node_rows false y (t + length (tests_rows c [] ++ term_rows x)))
        → TermsAt ts t (tests_rows c [] ++ term_rows x ++ term_rows y) → Standing xs q (spell_tests c v) → Standing xs o (spell x w)
        → Spot ns a cases on false d i (length (on_first t (t + length (tests_rows c [])) (node_rows false x (t + length (tests_rows c []))) ++ node_rows false y (t + length (tests_rows c [] ++ term_rows x)))) → Before xs ns a i names
        → (LikeAt ns i (node_rows false x (t + length (tests_rows c []))) → TermsAt ts (t + length (tests_rows c [])) (term_rows x) → Spot ns a expression false false d i (length (node_rows false x (t + length (tests_rows c []))))
        → Right i (node_rows false x (t + length (tests_rows c []))) names (pieces false x))
        → ((j : ℕ) (later : List Name) → LikeAt ns j (node_rows false y (t + length (tests_rows c [] ++ term_rows x))) → TermsAt ts (t + length (tests_rows c [] ++ term_rows x)) (term_rows y)
        → Spot ns a p false false d j (length (node_rows false y (t + length (tests_rows c [] ++ term_rows x)))) → Before xs ns a j later
        → Right j (node_rows false y (t + length (tests_rows c [] ++ term_rows x))) later (pieces false y))
        → Right i (on_first t (t + length (tests_rows c [])) (node_rows false x (t + length (tests_rows c []))) ++ node_rows false y (t + length (tests_rows c [] ++ term_rows x))) names (formula (tests_parts c) ∷ (pieces false x ++ pieces false y))
    cases_right c x y t {i} {names} v w h k s u z b f g =
        let A : List TermRow = tests_rows c []
        in let m : ℕ = t + length (tests_rows c [])
        in let M : List NodeRow = on_first t (t + length (tests_rows c [])) (node_rows false x (t + length (tests_rows c [])))
        in let L : List NodeRow = node_rows false y (t + length (tests_rows c [] ++ term_rows x))
        in let l : length (M ++ L) ≡ length M + length L = length-append M L
        in let n : length M ≡ length (node_rows false x m) = length_first t m (node_rows false x m)
        in let o : LikeAt ns i (node_rows false x m) = like_uncased t m (node_rows false x m) (like_left M L h)
        in let T : TermsAt ts t (A ++ term_rows x) = terms_left (A ++ term_rows x) (term_rows y) k
        in two_right
        (case_right A (plain false x m) b (terms_left A (term_rows x) T) (tests_uses c v no_more s)
        (f o (terms_right A (term_rows x) T) (sub_spot (let q : i ≤ i = omega arith in q) (let q : i + length (node_rows false x m) ≤ i + length (M ++ L) = omega arith in q) z)))
        (g (i + length M) (after_bound (formula (tests_parts c) ∷ pieces false x) names) (like_right M L h) (terms_right (A ++ term_rows x) (term_rows y) k)
        (sub_spot (let q : i ≤ i + length M = omega arith in q) (let q : i + length M + length L ≤ i + length (M ++ L) = omega arith in q) z)
        (before_more M (formula (tests_parts c) ∷ pieces false x) (bound_cased t m (bound_formula (tests_parts c) (bound_rows false false x m w o u))) b))

    -- ---- a tree

    pub named : {p : Part} {d : ℕ} (on top : Bool) (x : Tree p d) (t : ℕ) {i : ℕ} {names : List Name} (w : List Lexeme) {q : ℕ} → LikeAt ns i (node_rows on x t) → TermsAt ts t (term_rows x) → Standing xs q (spell x w)
        → Spot ns a p on top d i (length (node_rows on x t)) → Before xs ns a i names → Right i (node_rows on x t) names (pieces top x)
    unfolding node_rows term_rows pieces spell least_of
    named on top (literal l) t w h k s z b = bare_right refl
    named on top (range a' g c one one') t w h k s z b = bare_right refl
    named on top (field signed depth u opens n comma x closes) t w h k s z b =
        field_right (set_rows x []) b k (set_uses x (sign Kind.CloseParen closes ∷ w) no_more (past (past (past (past s)))))
    named on top (binder signed depth u opens n comma v opens' x comma' y closes closes') t w h k s z b =
        binder_right (set_rows y []) (here (past (past (past (past (past (past s))))))) z b k
        (set_uses y (sign Kind.CloseParen closes ∷ sign Kind.CloseParen closes' ∷ w) no_more (past (past (past (past (past (past (past (past s)))))))))
    named on top (rule_use x fresh) t w h k s z b = use_right (here s)
    named on top (eod g) t w h k s z b = bare_right refl
    named on top (group depth opens x closes) t w h k s z b = named false false x t (sign Kind.CloseParen closes ∷ w) h k (past s) (grouped (omega arith)) b
    named on top (switch depth opens x closes) t w h k s z b =
        node_right refl (named false false x t (sign Kind.CloseBracket closes ∷ w) (like_rest h) k (past s) (grouped (omega arith)) (before_node (like_first h) refl b))
    named on top (last_case c colon x end) t w {q = q} h k s z b =
        let m : ℕ = t + length (tests_rows c [])
        in let u : Standing xs q (spell x (sign Kind.Semicolon end ∷ w)) = past (after_tests c {w = sign Kind.Colon colon ∷ spell x (sign Kind.Semicolon end ∷ w)} s)
        in case_right (tests_rows c []) (plain false x m) b (terms_left (tests_rows c []) (term_rows x) k) (tests_uses c (sign Kind.Colon colon ∷ spell x (sign Kind.Semicolon end ∷ w)) no_more s)
        (named false false x m (sign Kind.Semicolon end ∷ w) (like_uncased t m (node_rows false x m) h) (terms_right (tests_rows c []) (term_rows x) k) u (sub_spot (omega arith) (omega (arith, length_first t m (node_rows false x m))) (case_spot z)) b)
    named on top (once x) t w h k s z b = named false top x t w h k s (once_spot z) b
    named on top (repeated x m) t w h k s z b =
        mark_right m _ _ w b (terms_right (term_rows x) (mark_rows m) k) (after_tree x s)
        (named false false x t (spell_mark m w) (like_rest h) (terms_left (term_rows x) (mark_rows m) k) s (inner_spot b.begins (like_first h) (mark_size m (suc (constructs false x)) (start_of x) (t + length (term_rows x)) ∙ ap suc (sym (nodes_counted false x t))) (mark_kind m (suc (constructs false x)) (start_of x) (t + length (term_rows x)))) (before_node (like_first h) (mark_quiet m _ _ _) b))
    named on top (last_member x) t w h k s z b = named false top x t w h k s (member_spot z) b
    named on top (last_branch x) t w h k s z b = named false top x t w h k s (branch_spot z) b
    named false top (and_members x g more) t w h k s z b =
        node_right refl
        (members_right x more t (sign Kind.Ampersand g ∷ spell more w) (like_rest h) k s (chain_spot (like_first h) refl z) (before_node (like_first h) refl b)
        (λ l m v. named false top x t (sign Kind.Ampersand g ∷ spell more w) l m s v (before_node (like_first h) refl b))
        (λ l m v c. named true top more (t + length (term_rows x)) w l m (past (after_tree x s)) v c))
    named true top (and_members x g more) t w h k s z b =
        members_right x more t (sign Kind.Ampersand g ∷ spell more w) h k s z b
        (λ l m v. named false top x t (sign Kind.Ampersand g ∷ spell more w) l m s v b)
        (λ l m v c. named true top more (t + length (term_rows x)) w l m (past (after_tree x s)) v c)
    named false top (or_branches x g more) t w h k s z b =
        node_right refl
        (branches_right x more t (sign Kind.Bar g ∷ spell more w) (like_rest h) k s (inner_spot b.begins (like_first h) (chain_long x more t (t + length (term_rows x))) refl) (before_node (like_first h) refl b)
        (λ l m v. named false false x t (sign Kind.Bar g ∷ spell more w) l m s v (before_node (like_first h) refl b))
        (λ l m v c. named true false more (t + length (term_rows x)) w l m (past (after_tree x s)) v c))
    named true top (or_branches x g more) t w h k s z b =
        branches_right x more t (sign Kind.Bar g ∷ spell more w) h k s (more_spot z) b
        (λ l m v. named false false x t (sign Kind.Bar g ∷ spell more w) l m s v b)
        (λ l m v c. named true false more (t + length (term_rows x)) w l m (past (after_tree x s)) v c)
    named on top (case_default c colon x end colon' y end') t w {q = q} h k s z b =
        let v : List Lexeme = sign Kind.Semicolon end ∷ sign Kind.Colon colon' ∷ spell y (sign Kind.Semicolon end' ∷ w)
        in let u : Standing xs q (spell x v) = past (after_tests c {w = sign Kind.Colon colon ∷ spell x v} s)
        in cases_right c x y t (sign Kind.Colon colon ∷ spell x v) v h k s u (case_spot z) b
        (λ l m g. named false false x (t + length (tests_rows c [])) v l m u g b)
        (λ j later l m g f. named false false y (t + length (tests_rows c [] ++ term_rows x)) (sign Kind.Semicolon end' ∷ w) l m (past (past (after_tree x {w = v} u))) g f)
    named on top (case_cases c colon x end more) t w {q = q} h k s z b =
        let v : List Lexeme = sign Kind.Semicolon end ∷ spell more w
        in let u : Standing xs q (spell x v) = past (after_tests c {w = sign Kind.Colon colon ∷ spell x v} s)
        in cases_right c x more t (sign Kind.Colon colon ∷ spell x v) v h k s u (case_spot z) b
        (λ l m g. named false false x (t + length (tests_rows c [])) v l m u g b)
        (λ j later l m g f. named false false more (t + length (tests_rows c [] ++ term_rows x)) w l m (past (after_tree x {w = v} u)) g f)
