-- Refusal 8 of a text is refusal 8 of its tree.
-- Assumes nothing.
use Prim.Native.Nat.{ℕ, suc, ◌+◌, ◌≤◌, min}
use mathlib.Core.Path.{◌≡◌, refl, sym, ap, subst, ◌∙◌}
use mathlib.Core.Logic.Iff
use mathlib.Core.Logic.{◌⊎◌, inl, inr, ⊎_elim, ◌↔◌}
use mathlib.Core.Bool.{true, false}
use mathlib.Core.List.{List, [], ◌∷◌, ◌++◌}
use mathlib.Core.Option.{Option, none, some}
use native.Mathlib.Omega.{arith}
use lib.ListN.{length, length-append}
use Rattle.text_tokens.specs.declared.Kind.{Kind}
use Rattle.text_store.specs.Store.{State, blank, node_words, term_words, rule_words, nodes_of, rules_of}
use Rattle.text_encoding.specs.Lists.{sum}
use Rattle.text_encoding.specs.Numbers.{binders_before, condition_start}
use Rattle.text_wellformed.proofs.EncodedWords.{encoded_words}
use Rattle.text_admission.specs.Extents.{lesser, least_found, width_found, node_found}
use Rattle.text_admission.specs.Admitted.{words_of, fault_8}
use Rattle.text_admission.specs.declared.Found.{Found}
use Rattle.tree.specs.Lexemes.{Lexeme, sign, finish}
use Rattle.tree.specs.Tree.{Rule, rule, Rules, last_rule, and_rules}
use Rattle.tree.specs.Spelling.{spell_rules}
use Rattle.tree_form.specs.Stored.{stored}
use Rattle.tree_meaning.specs.Pieces.{rules_of as rules_in, rule_body}
use Rattle.tree_meaning.specs.Counted.{Totals, no_rule, with_rule, refusal_5}
use Rattle.tree_meaning.specs.Names.{refusal_6}
use Rattle.tree_meaning.specs.Sizes.{size_faults, refusal_8}
use Rattle.tree_meaning.proofs.Passing as Pass
use Rattle.tree_store.proofs.Rows.{NodeRow, node_rows, term_rows, rules_nodes, tree_nodes, tree_totals}
use Rattle.tree_store.proofs.Lengths.{nodes_counted, terms_counted}
use Rattle.tree_store.proofs.Limits.{Limited, limited, rows_many}
use Rattle.tree_store.proofs.Standing.{Standing, past, after_tree, SpelledBy, spelled_stand}
use Rattle.tree_store.proofs.Steps.{in_step}
use Rattle.tree_store.proofs.Storing.{totalled_tree, nodes_read}
use Rattle.tree_store.proofs.Rowed.{NodesAt, nodes_left, nodes_right, Rowed, rowed}
use Rattle.tree_numbers.proofs.Rules.{At}
use Rattle.tree_numbers.proofs.Sums.{terms_together, binders_together}
use Rattle.tree_grammar.proofs.Lists.{text_rows}
use Rattle.tree_sizes.proofs.Hits.{either, Hit, hit_two, Among, among_none, among_next, among_two, among_either, hit_least, Hits, hits_both, hits_dec, as_found, found_least}
use Rattle.tree_sizes.proofs.Gathered.{of_rules, rule_widths, rule_sizes, rules_parts}
use Rattle.tree_sizes.proofs.WrongWidths.{widths_found}
use Rattle.tree_sizes.proofs.NodeLists.{condition_at, own_at}
use Rattle.tree_sizes.proofs.Nodes.{NodesHit}
use Rattle.tree_sizes.proofs.Rules.{Known, rules_hit}

-- ---- nodes that are looked at, one after the other

module _ (p : ℕ) where
  -- the lists of nodes
  lists_among : (ns ts ws : List ℕ) (i : ℕ) (M : List NodeRow) → Among p (length M) i (λ j. lesser (condition_at ns ts ws j) (own_at ns ts ws j)) ↔ NodesHit p ns ts ws i M
  unfolding NodesHit
  lists_among ns ts ws i [] = (λ x. among_none p i (λ j. lesser (condition_at ns ts ws j) (own_at ns ts ws j)) x, λ x. absurd x)
  lists_among ns ts ws i (r ∷ M) =
      Iff.trans (among_next p (length M) i (suc i) (λ j. lesser (condition_at ns ts ws j) (own_at ns ts ws j)) (let z : suc i ≡ i + 1 = omega arith in z))
      (either (hit_two p (condition_at ns ts ws i) (own_at ns ts ws i)) (lists_among ns ts ws (suc i) M))

  -- ---- widths of all rules

  module _ (xs ns : List ℕ) where
    none_wide : (i : ℕ) → Among p 0 i (width_found xs ns) ↔ Hits p []
    unfolding Hits
    none_wide i = (λ x. among_none p i (width_found xs ns) x, λ x. absurd x)

    next_widths : (m : Totals) (x : Rule) (l : List Rule) → Among p (length (node_rows false (rule_body x) m.all_terms)) m.all_constructs (width_found xs ns) ↔ Hits p (rule_widths x)
        → Among p (length (rules_nodes (with_rule m x).all_terms l)) (with_rule m x).all_constructs (width_found xs ns) ↔ Hits p (of_rules rule_widths l)
        → Among p (length (node_rows false (rule_body x) m.all_terms ++ rules_nodes (m.all_terms + length (term_rows (rule_body x))) l)) m.all_constructs (width_found xs ns) ↔ Hits p (rule_widths x ++ of_rules rule_widths l)
    next_widths m x l f g =
        let M = node_rows false (rule_body x) m.all_terms in
        let L = rules_nodes (m.all_terms + length (term_rows (rule_body x))) l in
        let K = rules_nodes (with_rule m x).all_terms l in
        let e : m.all_constructs + length M ≡ (with_rule m x).all_constructs = ap (λ (i : ℕ). m.all_constructs + i) (nodes_counted false (rule_body x) m.all_terms) in
        let d : L ≡ K = ap (λ (i : ℕ). rules_nodes (m.all_terms + i) l) (terms_counted true (rule_body x)) in
        let c : length (M ++ L) ≡ length M + length K = length-append M L ∙ ap (λ (o : List NodeRow). length M + length o) d in
        let t = among_two p (length M) (length K) m.all_constructs (width_found xs ns) in
        let h = hits_both p (rule_widths x) (of_rules rule_widths l) f g in (
          λ y. h.0 (⊎_elim (λ z. inl z) (λ z. inr (subst (λ (i : ℕ). Among p (length K) i (width_found xs ns)) e z)) (t.0 (subst (λ (i : ℕ). Among p i m.all_constructs (width_found xs ns)) c y))),
          λ y. subst (λ (i : ℕ). Among p i m.all_constructs (width_found xs ns)) (sym c) (t.1 (⊎_elim (λ z. inl z) (λ z. inr (subst (λ (i : ℕ). Among p (length K) i (width_found xs ns)) (sym e) z)) (h.1 y))),
        )

    rules_widths : (t : Rules) (m : Totals) (w : List Lexeme) {q : ℕ} → NodesAt ns m.all_constructs (rules_nodes m.all_terms (rules_in t)) → Standing xs q (spell_rules t w)
        → Among p (length (rules_nodes m.all_terms (rules_in t))) m.all_constructs (width_found xs ns) ↔ Hits p (of_rules rule_widths (rules_in t))
    unfolding rules_in rules_nodes spell_rules of_rules
    rules_widths (last_rule (rule y is c close)) m w nodes s =
        let x = rule y is c close in
        next_widths m x [] (widths_found p xs ns (in_step false true c m.all_terms (sign Kind.Semicolon close ∷ w) (past (past s))) (nodes_left (node_rows false c m.all_terms) [] nodes)) (none_wide (with_rule m x).all_constructs)
    rules_widths (and_rules (rule y is c close) t) m w nodes s =
        let x = rule y is c close in
        let M = node_rows false c m.all_terms in
        let L = rules_nodes (m.all_terms + length (term_rows c)) (rules_in t) in
        next_widths m x (rules_in t) (widths_found p xs ns (in_step false true c m.all_terms (sign Kind.Semicolon close ∷ spell_rules t w) (past (past s))) (nodes_left M L nodes))
        (rules_widths t (with_rule m x) w
        (subst (λ (i : ℕ). NodesAt ns i (rules_nodes (with_rule m x).all_terms (rules_in t))) (ap (λ (i : ℕ). m.all_constructs + i) (nodes_counted false c m.all_terms))
        (subst (λ (i : ℕ). NodesAt ns (m.all_constructs + length M) (rules_nodes i (rules_in t))) (ap (λ (i : ℕ). m.all_terms + i) (terms_counted true c)) (nodes_right M L nodes)))
        (past (after_tree c (past (past s)))))

-- ---- a text

module _ {xs : List ℕ} {t : Rules} (spelled : SpelledBy xs t) (five : refusal_5 t ≡ none) (six : refusal_6 t ≡ none) where
  abbrev st : State
  st = stored t blank

  abbrev ns : List ℕ
  ns = node_words st

  abbrev ts : List ℕ
  ts = term_words st

  abbrev ws : List ℕ
  ws = words_of xs st

  small : Limited t
  small = limited t five

  rows : Rowed t ns ts (rule_words st) (rules_of st)
  rows = rowed t small

  many_nodes : nodes_of st ≡ length (tree_nodes t)
  many_nodes = nodes_read t ∙ (let q : min (tree_totals t).all_constructs 257 ≡ (tree_totals t).all_constructs = omega (arith, small.few_constructs) in q) ∙ sym (totalled_tree t).in_nodes

  few_nodes : nodes_of st ≤ 256
  few_nodes = omega (arith, many_nodes, (totalled_tree t).in_nodes, small.few_constructs)

  few_terms : condition_start ns (nodes_of st) ≤ 1024
  few_terms = omega (arith, ap (condition_start ns) many_nodes, terms_together rows, (totalled_tree t).in_terms, small.few_terms)

  few_binders : binders_before ns (nodes_of st) ≤ 64
  few_binders = omega (arith, ap (binders_before ns) many_nodes, binders_together rows, (totalled_tree t).in_binders, small.few_variables)

  few_rules : rules_of st ≤ 64
  few_rules = omega (arith, rows.number, (totalled_tree t).in_rules, rows_many no_rule (rules_in t), small.few_rules)

  known : Known t xs ns ts (rule_words st) ws (nodes_of st) (rules_of st)
  known = record { rowed = rows; words = encoded_words xs ns ts (rule_words st) (nodes_of st) (rules_of st) few_nodes few_rules few_binders few_terms; few_nodes = few_nodes; few_terms = few_terms; few_binders = few_binders }

  module _ (p : ℕ) where
    as_many : {n m i : ℕ} {f : ℕ → Found} → n ≡ m → Among p n i f ↔ Among p m i f
    as_many {i = i} {f = f} e = (λ h. subst (λ (k : ℕ). Among p k i f) e h, λ h. subst (λ (k : ℕ). Among p k i f) (sym e) h)

    -- widths
    widths_same : Among p (nodes_of st) 0 (width_found xs ns) ↔ Hits p (of_rules rule_widths (rules_in t))
    widths_same = Iff.trans (as_many many_nodes) (rules_widths p xs ns t no_rule (finish spelled.end ∷ []) rows.nodes_are (spelled_stand spelled))

    -- calculations, where the widths up to p are right
    lists_same : (Hits p (of_rules rule_widths (rules_in t)) → ⊥) → Among p (nodes_of st) 0 (λ j. lesser (condition_at ns ts ws j) (own_at ns ts ws j)) ↔ Hits p (of_rules rule_sizes (rules_in t))
    unfolding sum
    lists_same right =
        Iff.trans (as_many many_nodes)
        (Iff.trans (lists_among p ns ts ws 0 (tree_nodes t))
        (rules_hit p known t no_rule [] (finish spelled.end ∷ []) (λ j x m. subst (λ (k : ℕ). At (rules_in t) k x) (let q : j ≡ 0 + j = omega arith in q) m) rows.nodes_are (text_rows t small) rows.rules_are (spelled_stand spelled) refl
        (omega (arith, (Pass.limited t five).variables_fit)) (omega (arith, many_nodes)) (Pass.named t six) right))

    -- nodes: a width, or a list
    nodes_found : Hit p (least_found (nodes_of st) 0 (node_found xs ns ts ws)) ↔ (Among p (nodes_of st) 0 (width_found xs ns) ⊎ Among p (nodes_of st) 0 (λ j. lesser (condition_at ns ts ws j) (own_at ns ts ws j)))
    nodes_found = Iff.trans (hit_least p (nodes_of st) 0 (node_found xs ns ts ws)) (among_either p (nodes_of st) 0 (width_found xs ns) (λ j. lesser (condition_at ns ts ws j) (own_at ns ts ws j)))

    same_hits : Hit p (fault_8 xs st) ↔ Hits p (size_faults (rules_in t))
    same_hits = by (hits_dec p (of_rules rule_widths (rules_in t)))
      where
        parts : Hits p (size_faults (rules_in t)) ↔ (Hits p (of_rules rule_widths (rules_in t)) ⊎ Hits p (of_rules rule_sizes (rules_in t)))
        parts = rules_parts p (rules_in t)

        by : Hits p (of_rules rule_widths (rules_in t)) ⊎ (Hits p (of_rules rule_widths (rules_in t)) → ⊥) → Hit p (fault_8 xs st) ↔ Hits p (size_faults (rules_in t))
        by (inl wrong) = (λ h. parts.1 (inl wrong), λ h. nodes_found.1 (inl (widths_same.1 wrong)))
        by (inr right) = (
          λ h. parts.1 (⊎_elim (λ y. inl (widths_same.0 y)) (λ y. inr ((lists_same right).0 y)) (nodes_found.0 h)),
          λ h. nodes_found.1 (⊎_elim (λ y. inl (widths_same.1 y)) (λ y. inr ((lists_same right).1 y)) (parts.0 h)),
        )

  -- what is found is the tree's refusal
  pub found_same : fault_8 xs st ≡ as_found (refusal_8 t)
  found_same = found_least (fault_8 xs st) (size_faults (rules_in t)) same_hits

-- ---- the claim

at_some : (o : Option ℕ) (p : ℕ) → as_found o ≡ Found.At p → o ≡ some p
at_some none p e = let z : ◌≡◌ {A = ℕ} 0 1 = cc e in absurd (omega arith)
at_some (some q) p e = ap some (let z : q ≡ p = cc e in z)

nothing_none : (o : Option ℕ) → as_found o ≡ Found.Nothing → o ≡ none
nothing_none none e = refl
nothing_none (some q) e = let z : ◌≡◌ {A = ℕ} 0 1 = cc e in absurd (omega arith)

-- A text that spells a tree, which 5 and 6 have passed, is refused by 8 at p exactly when the tree is.
pub refused_8 : (xs : List ℕ) (t : Rules) → SpelledBy xs t → refusal_5 t ≡ none → refusal_6 t ≡ none → (p : ℕ) → (fault_8 xs (stored t blank) ≡ Found.At p) ↔ (refusal_8 t ≡ some p)
refused_8 xs t spelled five six p =
    let e = found_same spelled five six in
    (λ h. at_some (refusal_8 t) p (sym e ∙ h), λ h. e ∙ ap as_found h)

-- and is not refused by it exactly when the tree is not
pub passed_8 : (xs : List ℕ) (t : Rules) → SpelledBy xs t → refusal_5 t ≡ none → refusal_6 t ≡ none → (fault_8 xs (stored t blank) ≡ Found.Nothing) ↔ (refusal_8 t ≡ none)
passed_8 xs t spelled five six =
    let e = found_same spelled five six in
    (λ h. nothing_none (refusal_8 t) (sym e ∙ h), λ h. e ∙ ap as_found h)
