-- A switch that is read has a default exactly where its tree has one.
-- Assumes nothing.
use Prim.Native.Nat.{ℕ, ◌+◌, ◌≤◌}
use mathlib.Core.Path.{◌≡◌, sym, ap, ◌∙◌, subst}
use mathlib.Core.Bool.{Bool, true, false}
use mathlib.Core.List.{List, [], ◌∷◌, ◌++◌}
use native.Mathlib.Omega.{arith}
use borrow.Author.Tests.{eq-eqb, ne_eqb}
use lib.ListN.{length}
use Rattle.text_store.specs.Words.{condition_from, condition_end}
use Rattle.text_meaning.specs.Meaning.{is_default, no_default as read-no-default}
use Rattle.tree.specs.Tree.{cases, Tree, last_case, case_default, case_cases}
use Rattle.tree_meaning.specs.Counted.{constructs}
use Rattle.tree_meaning.specs.Grammar.{case_bodies, no_default}
use Rattle.tree_store.proofs.Rows.{on_first, node_rows, term_rows, tests_rows}
use Rattle.tree_store.proofs.Lengths.{length_first, nodes_counted, some_node}
use Rattle.tree_store.proofs.Rowed.{NodesAt, nodes_left, nodes_right}
use Rattle.tree_grammar.proofs.Firsts.{case_at, none_at, some_tests}

-- a node with a condition is not the default
pub is_case : (ns : List ℕ) (i f n : ℕ) → condition_from ns i ≡ f → condition_end ns i ≡ f + n → 1 ≤ n → is_default ns i ≡ false
is_case ns i f n p q l = ne_eqb (condition_from ns i) (condition_end ns i) (λ (z : condition_from ns i ≡ condition_end ns i). omega arith)

case_later : (ns : List ℕ) (i : ℕ) (l : List ℕ) → is_default ns i ≡ false → read-no-default ns (i ∷ l) ≡ read-no-default ns l
unfolding read-no-default
case_later ns i l d = ap (λ (b : Bool). elim b [ true ↦ false | false ↦ read-no-default ns l ]) d

default_here : (ns : List ℕ) (i : ℕ) (l : List ℕ) → is_default ns i ≡ true → read-no-default ns (i ∷ l) ≡ false
unfolding read-no-default
default_here ns i l d = ap (λ (b : Bool). elim b [ true ↦ false | false ↦ read-no-default ns l ]) d

-- of the cases from number i on
pub cases_optional : {ns : List ℕ} {i d : ℕ} (x : Tree cases d) (t : ℕ) → NodesAt ns i (node_rows false x t) → read-no-default ns (case_bodies i x) ≡ no_default x
unfolding node_rows constructs case_bodies no_default read-no-default
cases_optional {ns} {i} (last_case c colon x end) t h =
    let k = t + length (tests_rows c [])
    in let at = case_at t k (node_rows false x k) (some_node false x k) h
    in case_later ns i [] (is_case ns i t (length (tests_rows c [])) at.0 at.1 (some_tests c []))
cases_optional {ns} {i} (case_default c colon x end colon' y end') t h =
    let k = t + length (tests_rows c [])
    in let M = on_first t k (node_rows false x k)
    in let L = node_rows false y (t + length (tests_rows c [] ++ term_rows x))
    in let at = case_at t k (node_rows false x k) (some_node false x k) (nodes_left M L h)
    in let there : NodesAt ns (i + constructs false x) L = subst (λ (j : ℕ). NodesAt ns (i + j) L) (length_first t k (node_rows false x k) ∙ nodes_counted false x k) (nodes_right M L h)
    in let off = none_at y (t + length (tests_rows c [] ++ term_rows x)) tt there
    in case_later ns i ((i + constructs false x) ∷ []) (is_case ns i t (length (tests_rows c [])) at.0 at.1 (some_tests c []))
    ∙ default_here ns (i + constructs false x) [] (eq-eqb (condition_from ns (i + constructs false x)) (condition_end ns (i + constructs false x)) (off.0 ∙ sym off.1))
cases_optional {ns} {i} (case_cases c colon x end more) t h =
    let k = t + length (tests_rows c [])
    in let M = on_first t k (node_rows false x k)
    in let L = node_rows false more (t + length (tests_rows c [] ++ term_rows x))
    in let at = case_at t k (node_rows false x k) (some_node false x k) (nodes_left M L h)
    in let there : NodesAt ns (i + constructs false x) L = subst (λ (j : ℕ). NodesAt ns (i + j) L) (length_first t k (node_rows false x k) ∙ nodes_counted false x k) (nodes_right M L h)
    in case_later ns i (case_bodies (i + constructs false x) more) (is_case ns i t (length (tests_rows c [])) at.0 at.1 (some_tests c []))
    ∙ cases_optional {i = i + constructs false x} more (t + length (tests_rows c [] ++ term_rows x)) there
