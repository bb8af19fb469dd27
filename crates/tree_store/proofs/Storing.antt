-- What the reader has stored of a text's tree is its rows.
-- Assumes nothing.
use Prim.Native.Nat.{ℕ, ◌+◌, ◌≤◌, ◌<◌, min}
use mathlib.Core.Path.{◌≡◌, refl, sym, ap, subst, ◌∙◌}
use mathlib.Core.Bool.{true, false}
use mathlib.Core.List.{List, [], ◌∷◌, ◌++◌, append-nil, append_assoc}
use native.Mathlib.Omega.{arith}
use lib.ListN.{length, get_or, length-append}
use Rattle.text_store.specs.Store.{State, blank, node_words, term_words, rule_words, nodes_of, terms_of, binders_of, rules_of, close_rule}
use Rattle.text_store.specs.Words.{kind_of, node_size, place_of, second_place, node_mark, own_from, own_end, how_bound, condition_from, condition_end, term_tag, term_value, stored_term_at, term_origin, named_at, first_node, last_node, terms_at_end, binders_at_end}
use Rattle.tree.specs.Tree.{Rule, rule, Rules, last_rule, and_rules}
use Rattle.tree_form.specs.Stored.{store, store_rule, stored}
use Rattle.tree_meaning.specs.Pieces.{rules_of as rules_in, rule_body}
use Rattle.tree_meaning.specs.Counted.{terms, Totals, no_rule, with_rule}
use Rattle.tree_store.proofs.Rows.{NodeRow, no_node, TermRow, no_term, RuleRow, no_rule_row, term_rows, node_rows, binders_in, rules_nodes, rules_terms, rules_binders, rule_row, rules_rows, totals, tree_nodes, tree_terms, tree_rules, tree_binders, tree_totals}
use Rattle.tree_store.proofs.Holding.{Holds, held_as, holds_blank, closed, close_holds}
use Rattle.tree_store.proofs.Lengths.{nodes_counted, terms_counted, binders_counted}
use Rattle.tree_store.proofs.Building.{tree_builds}

-- ---- one rule

-- rows so far are as many as these totals say
pub record Totalled (n : Totals) (N : List NodeRow) (T : List TermRow) (b : ℕ) (R : List RuleRow) : Type 0 where
  pub in_nodes : length N ≡ n.all_constructs
  pub in_terms : length T ≡ n.all_terms
  pub in_binders : b ≡ n.variables
  pub in_rules : length R ≡ n.rules

pub totalled_rule : {n : Totals} {N : List NodeRow} {T : List TermRow} {b : ℕ} {R : List RuleRow} (r : Rule) → Totalled n N T b R
    → Totalled (with_rule n r) (N ++ node_rows false (rule_body r) (length T)) (T ++ term_rows (rule_body r)) (b + binders_in (rule_body r)) (R ++ rule_row n r ∷ [])
totalled_rule {n} {N} {T} {b} {R} r m =
    record {
      in_nodes = omega (arith, length-append N (node_rows false (rule_body r) (length T)), m.in_nodes, nodes_counted false (rule_body r) (length T));
      in_terms = omega (arith, length-append T (term_rows (rule_body r)), m.in_terms, terms_counted true (rule_body r));
      in_binders = omega (arith, m.in_binders, binders_counted true (rule_body r));
      in_rules = omega (arith, length-append R (rule_row n r ∷ []), m.in_rules);
    }

same_row : {p f f' n n' t t' b b' : ℕ} → f ≡ f' → n ≡ n' → t ≡ t' → b ≡ b' → closed p f n t b ≡ closed p f' n' t' b'
same_row e g h k = rw (e, g, h, k)

pub rule_holds : {n : Totals} {N : List NodeRow} {T : List TermRow} {b : ℕ} {R : List RuleRow} {st : State} (r : Rule) → Totalled n N T b R → Holds N T b R st
    → Holds (N ++ node_rows false (rule_body r) (length T)) (T ++ term_rows (rule_body r)) (b + binders_in (rule_body r)) (R ++ rule_row n r ∷ []) (store_rule r st)
rule_holds {n} {N} {T} {b} {R} {st} (rule x is e end) m h =
    let w : Totalled (with_rule n (rule x is e end)) (N ++ node_rows false e (length T)) (T ++ term_rows e) (b + binders_in e) (R ++ rule_row n (rule x is e end) ∷ []) = totalled_rule (rule x is e end) m
    in subst (λ (q : RuleRow). Holds (N ++ node_rows false e (length T)) (T ++ term_rows e) (b + binders_in e) (R ++ q ∷ []) (close_rule x.start (nodes_of st) (store e false st)))
    (same_row (h.nodes ∙ ap (λ (k : ℕ). min k 257) m.in_nodes) (ap (λ (k : ℕ). min k 257) w.in_nodes) (ap (λ (k : ℕ). min k 1025) w.in_terms) (ap (λ (k : ℕ). min k 65) w.in_binders))
    (close_holds x.start (nodes_of st) (N ++ node_rows false e (length T)) (T ++ term_rows e) (b + binders_in e) R (store e false st) ((tree_builds false e).builds N T b R st h))

-- ---- all rules

-- what is held of rules, after rows of these totals
pub record After (n : Totals) (N : List NodeRow) (T : List TermRow) (b : ℕ) (R : List RuleRow) (rs : List Rule) (st : State) : Type 0 where
  pub held : Holds (N ++ rules_nodes (length T) rs) (T ++ rules_terms rs) (b + rules_binders rs) (R ++ rules_rows n rs) st

after_none : {n : Totals} {N : List NodeRow} {T : List TermRow} {b : ℕ} {R : List RuleRow} {st : State} → Holds N T b R st → After n N T b R [] st
unfolding rules_nodes rules_terms rules_binders rules_rows
after_none {n} {N} {T} {b} {R} {st} h =
    record { held = subst (λ (q : List RuleRow). Holds (N ++ []) (T ++ []) (b + 0) q st) (sym (append-nil R)) (held_as (sym (append-nil N)) (sym (append-nil T)) (let q : b ≡ b + 0 = omega arith in q) h) }

after_more : {n : Totals} {N : List NodeRow} {T : List TermRow} {b : ℕ} {R : List RuleRow} {st : State} (r : Rule) (rs : List Rule)
    → After (with_rule n r) (N ++ node_rows false (rule_body r) (length T)) (T ++ term_rows (rule_body r)) (b + binders_in (rule_body r)) (R ++ rule_row n r ∷ []) rs st
    → After n N T b R (r ∷ rs) st
unfolding rules_nodes rules_terms rules_binders rules_rows
after_more {n} {N} {T} {b} {R} {st} r rs h =
    record {
      held =
          subst (λ (q : List RuleRow). Holds (N ++ rules_nodes (length T) (r ∷ rs)) (T ++ rules_terms (r ∷ rs)) (b + rules_binders (r ∷ rs)) q st) (append_assoc R (rule_row n r ∷ []) (rules_rows (with_rule n r) rs))
          (held_as
          (append_assoc N M (rules_nodes (length (T ++ term_rows (rule_body r))) rs) ∙ ap (λ (k : ℕ). N ++ (M ++ rules_nodes k rs)) (length-append T (term_rows (rule_body r))))
          (append_assoc T (term_rows (rule_body r)) (rules_terms rs))
          (let q : b + binders_in (rule_body r) + rules_binders rs ≡ b + (binders_in (rule_body r) + rules_binders rs) = omega arith in q)
          h.held);
    }
  where
    M : List NodeRow
    M = node_rows false (rule_body r) (length T)

pub rules_hold : {n : Totals} {N : List NodeRow} {T : List TermRow} {b : ℕ} {R : List RuleRow} {st : State} (t : Rules) → Totalled n N T b R → Holds N T b R st → After n N T b R (rules_in t) (stored t st)
unfolding stored rules_in
rules_hold (last_rule r) m h = after_more r [] (after_none (rule_holds r m h))
rules_hold {n = n} (and_rules r more) m h = after_more r (rules_in more) (rules_hold {n = with_rule n r} more (totalled_rule r m) (rule_holds r m h))

nothing_yet : Totalled no_rule [] [] 0 []
nothing_yet = record { in_nodes = refl; in_terms = refl; in_binders = refl; in_rules = refl }

-- all that is stored of a tree: its rows, and as many as there are, counted up to one past each limit
pub holds_tree : (t : Rules) → Holds (tree_nodes t) (tree_terms t) (tree_binders t) (tree_rules t) (stored t blank)
holds_tree t = held_as refl refl (let q : 0 + tree_binders t ≡ tree_binders t = omega arith in q) (rules_hold t nothing_yet holds_blank).held

-- ---- how many there are

totalled_rules : {n : Totals} {N : List NodeRow} {T : List TermRow} {b : ℕ} {R : List RuleRow} (rs : List Rule) → Totalled n N T b R
    → Totalled (totals n rs) (N ++ rules_nodes (length T) rs) (T ++ rules_terms rs) (b + rules_binders rs) (R ++ rules_rows n rs)
unfolding totals rules_nodes rules_terms rules_binders rules_rows
totalled_rules {n} {N} {T} {b} {R} [] m =
    record { in_nodes = ap length (append-nil N) ∙ m.in_nodes; in_terms = ap length (append-nil T) ∙ m.in_terms; in_binders = omega (arith, m.in_binders); in_rules = ap length (append-nil R) ∙ m.in_rules }
totalled_rules {n} {N} {T} {b} {R} (r ∷ rs) m =
    let k = totalled_rules {n = with_rule n r} rs (totalled_rule r m)
    in record {
      in_nodes =
          sym (ap length (append_assoc N M (rules_nodes (length (T ++ term_rows (rule_body r))) rs) ∙ ap (λ (k : ℕ). N ++ (M ++ rules_nodes k rs)) (length-append T (term_rows (rule_body r)))))
          ∙ k.in_nodes;
      in_terms = sym (ap length (append_assoc T (term_rows (rule_body r)) (rules_terms rs))) ∙ k.in_terms;
      in_binders = omega (arith, k.in_binders);
      in_rules = sym (ap length (append_assoc R (rule_row n r ∷ []) (rules_rows (with_rule n r) rs))) ∙ k.in_rules;
    }
  where
    M : List NodeRow
    M = node_rows false (rule_body r) (length T)

-- rows are as many as `Counted` counts
pub totalled_tree : (t : Rules) → Totalled (tree_totals t) (tree_nodes t) (tree_terms t) (tree_binders t) (tree_rules t)
totalled_tree t =
    let k : Totalled (tree_totals t) (tree_nodes t) (tree_terms t) (0 + tree_binders t) (tree_rules t) = totalled_rules (rules_in t) nothing_yet
    in record { in_nodes = k.in_nodes; in_terms = k.in_terms; in_binders = omega (arith, k.in_binders); in_rules = k.in_rules }

-- ---- each word by its name

-- the words of node i are this row
pub record NodeIs (ns : List ℕ) (i : ℕ) (r : NodeRow) : Type 0 where
  pub kind_is : kind_of ns i ≡ r.kind
  pub size_is : node_size ns i ≡ r.size
  pub place_is : place_of ns i ≡ r.place
  -- a repetition's mark, a range's last place, a uint's width's place
  pub first_is : node_mark ns i ≡ r.first
  -- a mark's place, the place of the name that a uint binds
  pub second_is : second_place ns i ≡ r.second
  pub own_from_is : own_from ns i ≡ r.own_from
  pub own_end_is : own_end ns i ≡ r.own_end
  pub how_is : how_bound ns i ≡ r.how
  pub case_from_is : condition_from ns i ≡ r.case_from
  pub case_end_is : condition_end ns i ≡ r.case_end

pub record TermIs (ts : List ℕ) (k : ℕ) (r : TermRow) : Type 0 where
  pub tag_is : term_tag ts k ≡ r.tag
  pub value_is : term_value ts k ≡ r.value
  pub place_is : stored_term_at ts k ≡ r.place
  pub origin_is : term_origin ts k ≡ r.origin

pub record RuleIs (rs : List ℕ) (k : ℕ) (r : RuleRow) : Type 0 where
  pub name_is : named_at rs k ≡ r.place
  pub first_is : first_node rs k ≡ r.first
  pub nodes_is : last_node rs k ≡ r.nodes
  pub terms_is : terms_at_end rs k ≡ r.terms
  pub binders_is : binders_at_end rs k ≡ r.binders

module _ (t : Rules) where
  abbrev all : Totals
  all = tree_totals t

  abbrev st : State
  st = stored t blank

  -- within the limits each node and each term is its row
  pub node_read : all.all_constructs ≤ 256 → all.all_terms ≤ 1024 → (i : ℕ) → i < all.all_constructs → NodeIs (node_words st) i (get_or (tree_nodes t) i no_node)
  node_read l m i h =
      let e : (w : ℕ) → w < 10 → _ = λ w g. (holds_tree t).node (omega (arith, (totalled_tree t).in_nodes)) (omega (arith, (totalled_tree t).in_terms)) i w (omega (arith, (totalled_tree t).in_nodes)) g
      in record {
        kind_is = e 0 (omega arith);
        size_is = e 1 (omega arith);
        place_is = e 2 (omega arith);
        first_is = e 3 (omega arith);
        second_is = e 4 (omega arith);
        own_from_is = e 5 (omega arith);
        own_end_is = e 6 (omega arith);
        how_is = e 7 (omega arith);
        case_from_is = e 8 (omega arith);
        case_end_is = e 9 (omega arith);
      }

  pub term_read : all.all_terms ≤ 1024 → (k : ℕ) → k < all.all_terms → TermIs (term_words st) k (get_or (tree_terms t) k no_term)
  term_read m k h =
      let e : (w : ℕ) → w < 4 → _ = λ w g. (holds_tree t).term (omega (arith, (totalled_tree t).in_terms)) k w (omega (arith, (totalled_tree t).in_terms)) g
      in record { tag_is = e 0 (omega arith); value_is = e 1 (omega arith); place_is = e 2 (omega arith); origin_is = e 3 (omega arith) }

  -- past the limits too: the first 65 rules
  pub rule_read : (k : ℕ) → k < all.rules → k < 65 → RuleIs (rule_words st) k (get_or (tree_rules t) k no_rule_row)
  rule_read k h y =
      let e : (w : ℕ) → w < 5 → _ = λ w g. (holds_tree t).rule k w (omega (arith, (totalled_tree t).in_rules)) y g
      in record { name_is = e 0 (omega arith); first_is = e 1 (omega arith); nodes_is = e 2 (omega arith); terms_is = e 3 (omega arith); binders_is = e 4 (omega arith) }

  -- and the counts, up to one past each limit
  pub nodes_read : nodes_of st ≡ min all.all_constructs 257
  nodes_read = (holds_tree t).nodes ∙ ap (λ (k : ℕ). min k 257) (totalled_tree t).in_nodes

  pub terms_read : terms_of st ≡ min all.all_terms 1025
  terms_read = (holds_tree t).terms ∙ ap (λ (k : ℕ). min k 1025) (totalled_tree t).in_terms

  pub binders_read : binders_of st ≡ min all.variables 65
  binders_read = (holds_tree t).binders ∙ ap (λ (k : ℕ). min k 65) (totalled_tree t).in_binders

  pub rules_read : rules_of st ≡ min all.rules 65
  rules_read = (holds_tree t).rules ∙ ap (λ (k : ℕ). min k 65) (totalled_tree t).in_rules
