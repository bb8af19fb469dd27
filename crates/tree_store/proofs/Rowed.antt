-- Words that are rows, one after the other: a form that follows the lists, for inductions over a tree.
-- Assumes nothing.
use Prim.Native.Nat.{ℕ, suc, ◌+◌, ◌≤◌, ◌<◌, min}
use mathlib.Core.Path.{◌≡◌, sym, subst, ◌∙◌}
use mathlib.Core.List.{List, [], ◌∷◌, ◌++◌}
use native.Mathlib.Omega.{arith}
use lib.ListN.{length, get_or}
use Rattle.text_store.specs.Store.{blank, node_words, term_words, rule_words, rules_of}
use Rattle.text_store.specs.Words.{term_tag, stored_term_at, named_at, first_node, last_node}
use Rattle.tree.specs.Tree.{Rule, Rules}
use Rattle.tree_form.specs.Stored.{stored}
use Rattle.tree_meaning.specs.Pieces.{rules_of as rules_in, rule_name}
use Rattle.tree_meaning.specs.Counted.{Totals, no_rule, with_rule}
use Rattle.tree_store.proofs.Rows.{NodeRow, no_node, TermRow, no_term, no_rule_row, rule_row, rules_rows, totals, tree_nodes, tree_terms, tree_totals}
use Rattle.tree_store.proofs.Storing.{NodeIs, TermIs, RuleIs, totalled_tree, node_read, term_read, rule_read, rules_read}
use Rattle.tree_store.proofs.Limits.{Limited, rows_many}

-- ---- nodes

pub data NodesAt (ns : List ℕ) : ℕ → List NodeRow → Type 0 where
  no_nodes : {i : ℕ} → NodesAt ns i []
  node_then : {i : ℕ} {x : NodeRow} {M : List NodeRow} → NodeIs ns i x → NodesAt ns (i + 1) M → NodesAt ns i (x ∷ M)

nodes_from : {ns : List ℕ} (i : ℕ) (M : List NodeRow) → ((j : ℕ) → j < length M → NodeIs ns (i + j) (get_or M j no_node)) → NodesAt ns i M
nodes_from i [] h = no_nodes
nodes_from {ns} i (x ∷ M) h =
    node_then (subst (λ (q : ℕ). NodeIs ns q x) (let q : i + 0 ≡ i = omega arith in q) (h 0 (omega arith)))
    (nodes_from (i + 1) M (λ j g. subst (λ (q : ℕ). NodeIs ns q (get_or M j no_node)) (let q : i + suc j ≡ i + 1 + j = omega arith in q) (h (suc j) (omega arith))))

pub nodes_left : {ns : List ℕ} {i : ℕ} (M L : List NodeRow) → NodesAt ns i (M ++ L) → NodesAt ns i M
nodes_left [] L h = no_nodes
nodes_left {i = i} (x ∷ M) L (node_then h more) = node_then h (nodes_left {i = i + 1} M L more)

pub nodes_right : {ns : List ℕ} {i : ℕ} (M L : List NodeRow) → NodesAt ns i (M ++ L) → NodesAt ns (i + length M) L
nodes_right {ns} {i} [] L h = subst (λ (q : ℕ). NodesAt ns q L) (let q : i ≡ i + 0 = omega arith in q) h
nodes_right {ns} {i} (x ∷ M) L (node_then h more) = subst (λ (q : ℕ). NodesAt ns q L) (let q : i + 1 + length M ≡ i + suc (length M) = omega arith in q) (nodes_right {i = i + 1} M L more)

-- ---- terms

pub data TermsAt (ts : List ℕ) : ℕ → List TermRow → Type 0 where
  none_at : {k : ℕ} → TermsAt ts k []
  next_at : {k : ℕ} {r : TermRow} {A : List TermRow} → term_tag ts k ≡ r.tag → stored_term_at ts k ≡ r.place → TermsAt ts (k + 1) A → TermsAt ts k (r ∷ A)

pub terms_left : {ts : List ℕ} {k : ℕ} (A B : List TermRow) → TermsAt ts k (A ++ B) → TermsAt ts k A
terms_left [] B h = none_at
terms_left {k = k} (r ∷ A) B (next_at e f more) = next_at e f (terms_left {k = k + 1} A B more)

pub terms_right : {ts : List ℕ} {k : ℕ} (A B : List TermRow) → TermsAt ts k (A ++ B) → TermsAt ts (k + length A) B
terms_right {ts} {k} [] B h = subst (λ (q : ℕ). TermsAt ts q B) (let q : k ≡ k + 0 = omega arith in q) h
terms_right {ts} {k} (r ∷ A) B (next_at e f more) = subst (λ (q : ℕ). TermsAt ts q B) (let q : k + 1 + length A ≡ k + suc (length A) = omega arith in q) (terms_right {k = k + 1} A B more)

terms_from : {ts : List ℕ} (i : ℕ) (A : List TermRow) → ((j : ℕ) → j < length A → TermIs ts (i + j) (get_or A j no_term)) → TermsAt ts i A
terms_from i [] h = none_at
terms_from {ts} i (x ∷ A) h =
    let first : TermIs ts i x = subst (λ (q : ℕ). TermIs ts q x) (let q : i + 0 ≡ i = omega arith in q) (h 0 (omega arith))
    in next_at first.tag_is first.place_is
    (terms_from (i + 1) A (λ j g. subst (λ (q : ℕ). TermIs ts q (get_or A j no_term)) (let q : i + suc j ≡ i + 1 + j = omega arith in q) (h (suc j) (omega arith))))

-- the words of these rules, after rules of these totals
pub data RulesIn (ws : List ℕ) : Totals → List Rule → Type 0 where
  no_rules : {n : Totals} → RulesIn ws n []
  rule_then : {n : Totals} {x : Rule} {more : List Rule} → named_at ws n.rules ≡ (rule_name x).start → first_node ws n.rules ≡ n.all_constructs → last_node ws n.rules ≡ (with_rule n x).all_constructs
      → RulesIn ws (with_rule n x) more → RulesIn ws n (x ∷ more)

totals_grow : (n : Totals) (l : List Rule) → n.all_constructs ≤ (totals n l).all_constructs
unfolding totals
totals_grow n [] = omega arith
totals_grow n (x ∷ l) = omega (arith, totals_grow (with_rule n x) l)

rules_from : {ws : List ℕ} (n : Totals) (l : List Rule) → (totals n l).all_constructs ≤ 256 → ((j : ℕ) → j < length l → RuleIs ws (n.rules + j) (get_or (rules_rows n l) j no_rule_row)) → RulesIn ws n l
unfolding totals rules_rows
rules_from n [] m h = no_rules
rules_from {ws} n (x ∷ l) m h =
    let first : RuleIs ws n.rules (rule_row n x) = subst (λ (q : ℕ). RuleIs ws q (rule_row n x)) (let q : n.rules + 0 ≡ n.rules = omega arith in q) (h 0 (omega arith))
    in let g : (with_rule n x).all_constructs ≤ (totals (with_rule n x) l).all_constructs = totals_grow (with_rule n x) l
    in rule_then first.name_is (first.first_is ∙ (let q : min n.all_constructs 257 ≡ n.all_constructs = omega arith in q)) (first.nodes_is ∙ (let q : min (with_rule n x).all_constructs 257 ≡ (with_rule n x).all_constructs = omega arith in q))
    (rules_from (with_rule n x) l m (λ j k. subst (λ (q : ℕ). RuleIs ws q (get_or (rules_rows (with_rule n x) l) j no_rule_row)) (let q : n.rules + suc j ≡ suc n.rules + j = omega arith in q) (h (suc j) (omega arith))))

-- ---- what is stored of a tree

-- these words are the rows of a tree, of r rules
pub record Rowed (t : Rules) (ns ts ws : List ℕ) (r : ℕ) : Type 0 where
  pub nodes_are : NodesAt ns 0 (tree_nodes t)
  pub terms_are : TermsAt ts 0 (tree_terms t)
  pub rules_are : RulesIn ws no_rule (rules_in t)
  pub number : r ≡ length (rules_in t)

pub rowed : (t : Rules) → Limited t → Rowed t (node_words (stored t blank)) (term_words (stored t blank)) (rule_words (stored t blank)) (rules_of (stored t blank))
rowed t l =
    record {
      nodes_are =
          nodes_from 0 (tree_nodes t)
          (λ j g. subst (λ (q : ℕ). NodeIs (node_words (stored t blank)) q (get_or (tree_nodes t) j no_node)) (let q : j ≡ 0 + j = omega arith in q) (node_read t l.few_constructs l.few_terms j (omega (arith, (totalled_tree t).in_nodes))));
      terms_are =
          terms_from 0 (tree_terms t)
          (λ j g. subst (λ (q : ℕ). TermIs (term_words (stored t blank)) q (get_or (tree_terms t) j no_term)) (let q : j ≡ 0 + j = omega arith in q) (term_read t l.few_terms j (omega (arith, (totalled_tree t).in_terms))));
      rules_are =
          rules_from no_rule (rules_in t) l.few_constructs
          (λ j g. subst (λ (q : ℕ). RuleIs (rule_words (stored t blank)) q (get_or (rules_rows no_rule (rules_in t)) j no_rule_row)) (let q : j ≡ 0 + j = omega arith in q) (rule_read t j (omega (arith, many)) (omega (arith, many, l.few_rules))));
      number = rules_read t ∙ (let q : min (tree_totals t).rules 65 ≡ (tree_totals t).rules = omega (arith, l.few_rules) in q) ∙ many;
    }
  where
    many : (tree_totals t).rules ≡ length (rules_in t)
    many = sym (totalled_tree t).in_rules ∙ rows_many no_rule (rules_in t)
