-- How many terms the lists of all nodes have together, and how many nodes bind: as many as the tree has terms and binders.
-- Assumes nothing.
use Prim.Native.Nat.{ℕ, suc, ◌+◌, ◌-◌}
use mathlib.Core.Path.{◌≡◌, refl, ap, ap₂, ◌∙◌}
use mathlib.Core.Bool.{Bool, true, false, cond, not, ◌&&◌}
use mathlib.Core.List.{List, [], ◌∷◌, ◌++◌}
use native.Mathlib.Omega.{arith}
use lib.Dec.{eqb}
use lib.ListN.{length, length-append}
use Rattle.text_store.specs.Words.{is_binder}
use Rattle.text_encoding.specs.Lists.{sum}
use Rattle.text_encoding.specs.Numbers.{binds_one, binders_before, lists_length, condition_start}
use Rattle.tree.specs.Tree.{Mark, optional, any_number, one_or_more, counted, Part, Tree, literal, range, field, binder, rule_use, eod, group, switch, last_case, case_default, case_cases, once, repeated, last_member, and_members, last_branch, or_branches, Rule, Rules}
use Rattle.tree_form.specs.Stored.{start_of, how_bound as way-bound}
use Rattle.tree_meaning.specs.Pieces.{rules_of as rules_in, rule_body}
use Rattle.tree_meaning.specs.Counted.{constructs}
use Rattle.tree_store.proofs.Rows.{NodeRow, a_node, on_first, tests_rows, mark_rows, term_rows, mark_row, node_rows, binders_in, rules_nodes, rules_terms, rules_binders, tree_nodes, tree_terms, tree_binders}
use Rattle.tree_store.proofs.Naming.{Plain, plain}
use Rattle.tree_store.proofs.Rowed.{NodesAt, no_nodes, node_then, Rowed}
use Rattle.tree_store.proofs.Steps.{row_binds}

-- ---- terms

-- of a row's condition and of its own
abbrev row_lists : NodeRow → ℕ
row_lists r = (r.case_end - r.case_from) + (r.own_end - r.own_from)

unfoldable rows_lists : List NodeRow → ℕ
rows_lists [] = 0
rows_lists (r ∷ M) = row_lists r + rows_lists M

lists_append : (M L : List NodeRow) → rows_lists (M ++ L) ≡ rows_lists M + rows_lists L
unfolding rows_lists
lists_append [] L = omega arith
lists_append (r ∷ M) L = omega (arith, lists_append M L)

lists_cased : (f k : ℕ) (M : List NodeRow) → Plain M → rows_lists (on_first f (f + k) M) ≡ k + rows_lists M
unfolding rows_lists
lists_cased f k [] h = absurd h
lists_cased f k (r ∷ M) h = omega (arith, h.0, h.1)

mark_lists : (m : Mark) (size p t : ℕ) → row_lists (mark_row m size p t) ≡ length (mark_rows m)
unfolding mark_rows
mark_lists (optional s) size p t = refl
mark_lists (any_number s) size p t = refl
mark_lists (one_or_more s) size p t = refl
mark_lists (counted opens n closes) size p t = omega arith

two_lists : (M L : List NodeRow) (i j : ℕ) → rows_lists M ≡ i → rows_lists L ≡ j → rows_lists (M ++ L) ≡ i + j
two_lists M L i j e f = lists_append M L ∙ ap₂ ◌+◌ e f

tree_lists : {p : Part} {d : ℕ} (on : Bool) (x : Tree p d) (t : ℕ) → rows_lists (node_rows on x t) ≡ length (term_rows x)
unfolding rows_lists node_rows term_rows
tree_lists on (literal l) t = refl
tree_lists on (range a s b one one') t = refl
tree_lists on (field signed depth u opens n comma x closes) t = omega arith
tree_lists on (binder signed depth u opens n comma v opens' x comma' y closes closes') t = omega arith
tree_lists on (rule_use x other) t = refl
tree_lists on (eod s) t = refl
tree_lists on (group depth opens x closes) t = tree_lists false x t
tree_lists on (switch depth opens x closes) t = omega (arith, tree_lists false x t)
tree_lists on (last_case c colon x end) t =
    let m : ℕ = t + length (tests_rows c [])
    in omega (arith, lists_cased t (length (tests_rows c [])) (node_rows false x m) (plain false x m), tree_lists false x m, length-append (tests_rows c []) (term_rows x))
tree_lists on (case_default c colon x end colon' y end') t =
    let m : ℕ = t + length (tests_rows c [])
    in let k : ℕ = t + length (tests_rows c [] ++ term_rows x)
    in omega (arith, lists_append (on_first t m (node_rows false x m)) (node_rows false y k), lists_cased t (length (tests_rows c [])) (node_rows false x m) (plain false x m), tree_lists false x m, tree_lists false y k, length-append (tests_rows c []) (term_rows x), length-append (tests_rows c [] ++ term_rows x) (term_rows y))
tree_lists on (case_cases c colon x end more) t =
    let m : ℕ = t + length (tests_rows c [])
    in let k : ℕ = t + length (tests_rows c [] ++ term_rows x)
    in omega (arith, lists_append (on_first t m (node_rows false x m)) (node_rows false more k), lists_cased t (length (tests_rows c [])) (node_rows false x m) (plain false x m), tree_lists false x m, tree_lists false more k, length-append (tests_rows c []) (term_rows x), length-append (tests_rows c [] ++ term_rows x) (term_rows more))
tree_lists on (once x) t = tree_lists false x t
tree_lists on (repeated x m) t =
    omega (arith, mark_lists m (suc (constructs false x)) (start_of x) (t + length (term_rows x)), tree_lists false x t, length-append (term_rows x) (mark_rows m))
tree_lists on (last_member x) t = tree_lists false x t
tree_lists false (and_members x s more) t =
    omega (arith, lists_append (node_rows false x t) (node_rows true more (t + length (term_rows x))), tree_lists false x t, tree_lists true more (t + length (term_rows x)), length-append (term_rows x) (term_rows more))
tree_lists true (and_members x s more) t =
    omega (arith, lists_append (node_rows false x t) (node_rows true more (t + length (term_rows x))), tree_lists false x t, tree_lists true more (t + length (term_rows x)), length-append (term_rows x) (term_rows more))
tree_lists on (last_branch x) t = tree_lists false x t
tree_lists false (or_branches x s more) t =
    omega (arith, lists_append (node_rows false x t) (node_rows true more (t + length (term_rows x))), tree_lists false x t, tree_lists true more (t + length (term_rows x)), length-append (term_rows x) (term_rows more))
tree_lists true (or_branches x s more) t =
    omega (arith, lists_append (node_rows false x t) (node_rows true more (t + length (term_rows x))), tree_lists false x t, tree_lists true more (t + length (term_rows x)), length-append (term_rows x) (term_rows more))

rules_lists : (t : ℕ) (l : List Rule) → rows_lists (rules_nodes t l) ≡ length (rules_terms l)
unfolding rows_lists rules_nodes rules_terms
rules_lists t [] = refl
rules_lists t (r ∷ l) =
    omega (arith, lists_append (node_rows false (rule_body r) t) (rules_nodes (t + length (term_rows (rule_body r))) l), tree_lists false (rule_body r) t, rules_lists (t + length (term_rows (rule_body r))) l, length-append (term_rows (rule_body r)) (rules_terms l))

lists_sum : {ns : List ℕ} {a : ℕ} {M : List NodeRow} → NodesAt ns a M → sum (length M) a (lists_length ns) ≡ rows_lists M
unfolding sum rows_lists
lists_sum no_nodes = refl
lists_sum {ns} {a} (node_then {x = x} h more) = ap₂ ◌+◌ one (lists_sum more)
  where
    one : lists_length ns a ≡ row_lists x
    one = rw (h.case_from_is, h.case_end_is, h.own_from_is, h.own_end_is) refl

-- the table has as many terms as the tree
pub terms_together : {t : Rules} {ns ts ws : List ℕ} {r : ℕ} → Rowed t ns ts ws r → condition_start ns (length (tree_nodes t)) ≡ length (tree_terms t)
terms_together {t} w = lists_sum w.nodes_are ∙ rules_lists 0 (rules_in t)

-- ---- binders

unfoldable rows_bind : List NodeRow → ℕ
rows_bind [] = 0
rows_bind (r ∷ M) = cond (row_binds r) 1 0 + rows_bind M

bind_append : (M L : List NodeRow) → rows_bind (M ++ L) ≡ rows_bind M + rows_bind L
unfolding rows_bind
bind_append [] L = omega arith
bind_append (r ∷ M) L = add_assoc (cond (row_binds r) 1 0) (rows_bind (M ++ L)) (rows_bind M) (rows_bind L) (bind_append M L)
  where
    add_assoc : (a b c d : ℕ) → b ≡ c + d → a + b ≡ a + c + d
    add_assoc a b c d e = omega arith

bind_cased : (f g : ℕ) (M : List NodeRow) → rows_bind (on_first f g M) ≡ rows_bind M
unfolding rows_bind
bind_cased f g [] = refl
bind_cased f g (r ∷ M) = refl

two_bind : (M L : List NodeRow) (i j : ℕ) → rows_bind M ≡ i → rows_bind L ≡ j → rows_bind (M ++ L) ≡ i + j
two_bind M L i j e f = bind_append M L ∙ ap₂ ◌+◌ e f

mark_bind : (m : Mark) (size p t : ℕ) → row_binds (mark_row m size p t) ≡ false
mark_bind (optional s) size p t = refl
mark_bind (any_number s) size p t = refl
mark_bind (one_or_more s) size p t = refl
mark_bind (counted opens n closes) size p t = refl

-- a node in front that binds nothing
quiet_bind : (r : NodeRow) (M : List NodeRow) (i : ℕ) → row_binds r ≡ false → rows_bind M ≡ i → rows_bind (r ∷ M) ≡ i
unfolding rows_bind
quiet_bind r M i e h = ap (λ (b : Bool). cond b 1 0 + rows_bind M) e ∙ (let q : 0 + rows_bind M ≡ i = omega arith in q)

one_bind : (d : ℕ) → cond (eqb 8 8 && not (eqb (way-bound d) 0)) 1 0 + 0 ≡ 1
one_bind d = by (eqb d 2)
  where
    by : (c : Bool) → cond (eqb 8 8 && not (eqb (cond c 1 2) 0)) 1 0 + 0 ≡ 1
    by true = refl
    by false = refl

tree_bind : {p : Part} {d : ℕ} (on : Bool) (x : Tree p d) (t : ℕ) → rows_bind (node_rows on x t) ≡ binders_in x
unfolding rows_bind node_rows binders_in
tree_bind on (literal l) t = refl
tree_bind on (range a s b one one') t = refl
tree_bind on (field signed depth u opens n comma x closes) t = refl
tree_bind on (binder {d} signed depth u opens n comma v opens' x comma' y closes closes') t = one_bind (d + 1 + 1)
tree_bind on (rule_use x other) t = refl
tree_bind on (eod s) t = refl
tree_bind on (group depth opens x closes) t = tree_bind false x t
tree_bind on (switch depth opens x closes) t = quiet_bind (a_node 4 (suc (constructs false x)) opens.start 0 0 0 0 0) (node_rows false x t) (binders_in x) refl (tree_bind false x t)
tree_bind on (last_case c colon x end) t = bind_cased _ _ (node_rows false x (t + length (tests_rows c []))) ∙ tree_bind false x (t + length (tests_rows c []))
tree_bind on (case_default c colon x end colon' y end') t =
    two_bind (on_first t (t + length (tests_rows c [])) (node_rows false x (t + length (tests_rows c [])))) (node_rows false y (t + length (tests_rows c [] ++ term_rows x))) (binders_in x) (binders_in y)
    (bind_cased t (t + length (tests_rows c [])) (node_rows false x (t + length (tests_rows c []))) ∙ tree_bind false x (t + length (tests_rows c []))) (tree_bind false y (t + length (tests_rows c [] ++ term_rows x)))
tree_bind on (case_cases c colon x end more) t =
    two_bind (on_first t (t + length (tests_rows c [])) (node_rows false x (t + length (tests_rows c [])))) (node_rows false more (t + length (tests_rows c [] ++ term_rows x))) (binders_in x) (binders_in more)
    (bind_cased t (t + length (tests_rows c [])) (node_rows false x (t + length (tests_rows c []))) ∙ tree_bind false x (t + length (tests_rows c []))) (tree_bind false more (t + length (tests_rows c [] ++ term_rows x)))
tree_bind on (once x) t = tree_bind false x t
tree_bind on (repeated x m) t = quiet_bind (mark_row m (suc (constructs false x)) (start_of x) (t + length (term_rows x))) (node_rows false x t) (binders_in x) (mark_bind m (suc (constructs false x)) (start_of x) (t + length (term_rows x))) (tree_bind false x t)
tree_bind on (last_member x) t = tree_bind false x t
tree_bind false (and_members x s more) t =
    quiet_bind (a_node 2 (suc (constructs false x + constructs true more)) (start_of x) 0 0 0 0 0) (node_rows false x t ++ node_rows true more (t + length (term_rows x))) (binders_in x + binders_in more) refl
    (two_bind (node_rows false x t) (node_rows true more (t + length (term_rows x))) (binders_in x) (binders_in more) (tree_bind false x t) (tree_bind true more (t + length (term_rows x))))
tree_bind true (and_members x s more) t =
    two_bind (node_rows false x t) (node_rows true more (t + length (term_rows x))) (binders_in x) (binders_in more) (tree_bind false x t) (tree_bind true more (t + length (term_rows x)))
tree_bind on (last_branch x) t = tree_bind false x t
tree_bind false (or_branches x s more) t =
    quiet_bind (a_node 1 (suc (constructs false x + constructs true more)) (start_of x) 0 0 0 0 0) (node_rows false x t ++ node_rows true more (t + length (term_rows x))) (binders_in x + binders_in more) refl
    (two_bind (node_rows false x t) (node_rows true more (t + length (term_rows x))) (binders_in x) (binders_in more) (tree_bind false x t) (tree_bind true more (t + length (term_rows x))))
tree_bind true (or_branches x s more) t =
    two_bind (node_rows false x t) (node_rows true more (t + length (term_rows x))) (binders_in x) (binders_in more) (tree_bind false x t) (tree_bind true more (t + length (term_rows x)))

rules_bind : (t : ℕ) (l : List Rule) → rows_bind (rules_nodes t l) ≡ rules_binders l
unfolding rows_bind rules_nodes rules_binders
rules_bind t [] = refl
rules_bind t (r ∷ l) =
    two_bind (node_rows false (rule_body r) t) (rules_nodes (t + length (term_rows (rule_body r))) l) (binders_in (rule_body r)) (rules_binders l) (tree_bind false (rule_body r) t) (rules_bind (t + length (term_rows (rule_body r))) l)

bind_sum : {ns : List ℕ} {a : ℕ} {M : List NodeRow} → NodesAt ns a M → sum (length M) a (binds_one ns) ≡ rows_bind M
unfolding sum rows_bind
bind_sum no_nodes = refl
bind_sum {ns} {a} (node_then {x = x} h more) = ap₂ ◌+◌ (ap (λ (b : Bool). cond b 1 0) one) (bind_sum more)
  where
    one : is_binder ns a ≡ row_binds x
    one = rw (h.kind_is, h.how_is) refl

-- the table has as many variables as the tree has binders
pub binders_together : {t : Rules} {ns ts ws : List ℕ} {r : ℕ} → Rowed t ns ts ws r → binders_before ns (length (tree_nodes t)) ≡ tree_binders t
binders_together {t} w = bind_sum w.nodes_are ∙ rules_bind 0 (rules_in t)
