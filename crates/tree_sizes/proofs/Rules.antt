-- A rule of a text: what refusal 8 finds in its nodes' lists up to p is what the tree says, where its widths up to p are right.
-- Assumes nothing.
use Prim.Native.Nat.{ℕ, suc, ◌+◌, ◌≤◌, ◌<◌, min}
use mathlib.Core.Path.{◌≡◌, refl, sym, ap, subst, ◌∙◌}
use mathlib.Core.Logic.{⊎_elim, ◌↔◌}
use mathlib.Core.Bool.{Bool, true, false, not, ◌&&◌}
use mathlib.Core.List.{List, [], ◌∷◌, ◌++◌}
use native.Mathlib.Omega.{arith}
use borrow.Author.Tests.{leb-true}
use lib.Dec.{leb}
use lib.IntN.{pos, nat_abs}
use lib.ListN.{length, get_or, length-append}
use Rattle.basis.specs.Limits.{max_bound_width}
use Rattle.basis.specs.Patterns.{greatest_size}
use Rattle.basis.proofs.Booleans.{which, both_first, both_second}
use Rattle.text_tokens.specs.declared.Kind.{Kind}
use Rattle.text_store.specs.Words.{first_node, last_node}
use Rattle.text_encoding.specs.Numbers.{binders_before, variable_of, condition_start}
use Rattle.text_wellformed.specs.Context.{Words}
use Rattle.table_sizes.specs.Measures.{widest as table-widest}
use Rattle.tree.specs.Lexemes.{Name, Number, Lexeme, sign}
use Rattle.tree.specs.Tree.{Rule, rule, Rules, last_rule, and_rules}
use Rattle.tree.specs.Spelling.{spell, spell_rules}
use Rattle.tree_meaning.specs.Pieces.{Piece, use_of_rule, width, formula, binding, bound_in, rules_of as rules_in, rule_body, rule_pieces, variables_of}
use Rattle.tree_meaning.specs.Counted.{Totals, with_rule, rule_constructs}
use Rattle.tree_meaning.specs.Names.{is_among, rule_names}
use Rattle.tree_meaning.specs.Places.{place_if}
use Rattle.tree_meaning.specs.Sizes.{widest_in, wrong_width}
use Rattle.tree_meaning.specs.Grammar.{variable_of as number-among}
use Rattle.tree_meaning.proofs.Passing.{NamesRight, RulesNamed, all_variables}
use Rattle.tree_meaning.proofs.Binding.{Own, all_own}
use Rattle.tree_meaning.proofs.Numbers.{variable_under}
use Rattle.tree_store.proofs.Rows.{node_rows, term_rows, rules_nodes, rules_terms}
use Rattle.tree_store.proofs.Lengths.{nodes_counted, terms_counted, some_node}
use Rattle.tree_store.proofs.Standing.{Standing, past, after_tree}
use Rattle.tree_store.proofs.Binding.{before_none}
use Rattle.tree_store.proofs.Naming.{plain}
use Rattle.tree_store.proofs.Steps.{InStep, in_step}
use Rattle.tree_store.proofs.Rowed.{NodesAt, nodes_left, nodes_right, RulesIn, rule_then, Rowed}
use Rattle.tree_numbers.proofs.Rules.{At, at_first, at_later}
use Rattle.tree_numbers.proofs.Owners.{owner}
use Rattle.tree_numbers.proofs.Variables.{variable_number, binders_after}
use Rattle.tree_grammar.proofs.Lists.{RowsAt, rows_left, rows_right}
use Rattle.tree_grammar.proofs.Firsts.{whole_first}
use Rattle.tree_sizes.proofs.Hits.{Hits, hits_left, hits_right, hits_if, hits_both}
use Rattle.tree_sizes.proofs.Gathered.{widths_of, gathered, of_rules, rule_widths, rule_sizes}
use Rattle.tree_sizes.proofs.Widths.{cut_in, OwnCut, all_cut, variable_size}
use Rattle.tree_sizes.proofs.NodeLists.{Ruled, cut}
use Rattle.tree_sizes.proofs.Ready.{Ready, settled_none}
use Rattle.tree_sizes.proofs.Nodes.{NodesHit, nodes_two}
use Rattle.tree_sizes.proofs.Walk.{bare, walk}

-- ---- its pieces

-- a width up to p that is not wrong
right_width : (p most : ℕ) (n : Number) → (Hits p (place_if (wrong_width most n) n.start) → ⊥) → n.start ≤ p → (1 ≤ n.value) × (n.value ≤ most)
right_width p most n h l =
    ⊎_elim (λ (e : wrong_width most n ≡ true). absurd (h ((hits_if p (wrong_width most n) n.start).1 (e, l))))
    (λ (e : wrong_width most n ≡ false).
    let b : (leb 1 n.value && leb n.value most) ≡ true = not_not (leb 1 n.value && leb n.value most) e in
    (leb-true 1 n.value (both_first (leb 1 n.value) (leb n.value most) b), leb-true n.value most (both_second (leb 1 n.value) (leb n.value most) b)))
    (which (wrong_width most n))
  where
    not_not : (b : Bool) → not b ≡ false → b ≡ true
    not_not true e = refl
    not_not false e = sym e

module _ (p : ℕ) (ws : List ℕ) (numbered : List ℕ → ℕ) (rules variables : List Name) (whole : List Piece)
    (sized : (y : Name) → is_among (bound_in whole) y ≡ true → (numbered y.letters < 64) × (get_or (table-widest ws) (numbered y.letters) (pos 0) ≡ pos (cut_in whole y.letters))) where
  ready_from : (names : List Name) (ps : List Piece) → NamesRight rules variables names ps → Own whole ps → OwnCut whole ps → (Hits p (gathered widths_of ps) → ⊥) → Ready p ws numbered (widest_in whole) names ps
  unfolding Ready NamesRight Own OwnCut gathered
  ready_from names [] h o c n = tt
  ready_from names (use_of_rule x ∷ ps) h o c n = ready_from names ps h.2 o c n
  ready_from names (width most v ∷ ps) h o c n =
      let F = place_if (wrong_width most v) v.start in (right_width p most v (λ z. n (hits_left p F (gathered widths_of ps) z)), ready_from names ps h o c (λ z. n (hits_right p F (gathered widths_of ps) z)))
  ready_from names (formula f ∷ ps) h o c n = (h.0, ready_from names ps h.1 o c n)
  ready_from names (binding x signed v placed ∷ ps) h o c n =
      let s = sized x o.1 in
      let e : cut ws numbered x.letters ≡ cut_in whole x.letters = ap nat_abs s.1 in
      let f : v.value ≤ max_bound_width → min max_bound_width v.value ≡ v.value = λ l. omega arith in
      (record { few = s.0; sized = s.1 ∙ ap pos (sym e); own = λ l. e ∙ c.0 ∙ ap (greatest_size signed) (f l) ∙ sym o.0 }, ready_from (x ∷ names) ps h.2 o.2 c.1 n)

-- ---- one rule

-- what is known of a text's words
pub record Known (all : Rules) (xs ns ts rs ws : List ℕ) (n r : ℕ) : Type 0 where
  pub rowed : Rowed all ns ts rs r
  pub words : Words xs ns ts rs n r ws
  pub few_nodes : n ≤ 256
  pub few_terms : condition_start ns n ≤ 1024
  pub few_binders : binders_before ns n ≤ 64

module _ (p : ℕ) {all : Rules} {xs ns ts rs ws : List ℕ} {n r : ℕ} (known : Known all xs ns ts rs ws n r) where
  -- rule k, whose first node is a, first term t, and first variable b
  rule_hit : (k a t b q : ℕ) (x : Rule) (rest : List Lexeme) → At (rules_in all) k x → first_node rs k ≡ a → last_node rs k ≡ a + rule_constructs x → NodesAt ns a (node_rows false (rule_body x) t) → RowsAt ts t (term_rows (rule_body x)) → Standing xs q (spell (rule_body x) rest)
      → binders_before ns a ≡ b → b + length (variables_of x) ≤ 64 → a + rule_constructs x ≤ n → NamesRight (rule_names all) (variables_of x) [] (rule_pieces x) → (Hits p (rule_widths x) → ⊥) → NodesHit p ns ts ws a (node_rows false (rule_body x) t) ↔ Hits p (rule_sizes x)
  rule_hit k a t b q x rest there first last nodes rows st bound few inside named right =
      let M = node_rows false (rule_body x) t in
      let e = bare p ruled (widest_in (rule_pieces x)) a M (omega (arith, inside, many, some_node false (rule_body x) t)) nodes (plain false (rule_body x) t) in
      let f = walk p ruled (widest_in (rule_pieces x)) true false (rule_body x) a t [] rest (whole_first M nodes) rows st before_none (omega arith)
      (ready_from p ws numbered (rule_names all) (variables_of x) (rule_pieces x) sized [] (rule_pieces x) named (all_own (rule_names all) (variables_of x) (rule_pieces x) named) (all_cut (rule_names all) (variables_of x) (rule_pieces x) named) right) (settled_none p ws numbered (widest_in (rule_pieces x)) q) in
      (λ z. f.same.0 (e.0 z), λ z. e.1 (f.same.1 z))
    where
      numbered : List ℕ → ℕ
      numbered = number-among b (variables_of x)

      step : InStep xs (node_rows false (rule_body x) t) (rule_pieces x)
      step = in_step false true (rule_body x) t rest st

      many : length (node_rows false (rule_body x) t) ≡ rule_constructs x
      many = nodes_counted false (rule_body x) t

      ruled : Ruled xs ns ts rs ws n r numbered a (a + rule_constructs x)
      ruled =
          record {
            words = known.words;
            few_nodes = known.few_nodes;
            few_terms = known.few_terms;
            few_binders = known.few_binders;
            inside = inside;
            variables = λ i y g l m e.
                ap (λ (f : ℕ). variable_of xs ns f i y.start) (owner known.rowed i there (omega (arith, first)) (omega (arith, last)) ∙ first)
                ∙ variable_number b i y step nodes g bound (omega (arith, many)) e;
          }

      sized : (y : Name) → is_among (bound_in (rule_pieces x)) y ≡ true → (numbered y.letters < 64) × (get_or (table-widest ws) (numbered y.letters) (pos 0) ≡ pos (cut_in (rule_pieces x) y.letters))
      sized y e = (omega (arith, variable_under b (variables_of x) y e, few), variable_size known.words b y step nodes (omega (arith, many, inside)) bound few e)

  -- ---- all rules

  -- the words after a rule
  nodes_after : (m : Totals) (x : Rule) (l : List Rule) → NodesAt ns m.all_constructs (node_rows false (rule_body x) m.all_terms ++ rules_nodes (m.all_terms + length (term_rows (rule_body x))) l)
      → NodesAt ns (with_rule m x).all_constructs (rules_nodes (with_rule m x).all_terms l)
  nodes_after m x l h =
      subst (λ (i : ℕ). NodesAt ns i (rules_nodes (with_rule m x).all_terms l)) (ap (λ (i : ℕ). m.all_constructs + i) (nodes_counted false (rule_body x) m.all_terms))
      (subst (λ (i : ℕ). NodesAt ns (m.all_constructs + length (node_rows false (rule_body x) m.all_terms)) (rules_nodes i l)) (ap (λ (i : ℕ). m.all_terms + i) (terms_counted true (rule_body x)))
      (nodes_right (node_rows false (rule_body x) m.all_terms) (rules_nodes (m.all_terms + length (term_rows (rule_body x))) l) h))

  rows_after : (m : Totals) (x : Rule) (l : List Rule) → RowsAt ts m.all_terms (term_rows (rule_body x) ++ rules_terms l) → RowsAt ts (with_rule m x).all_terms (rules_terms l)
  rows_after m x l h =
      subst (λ (i : ℕ). RowsAt ts (m.all_terms + i) (rules_terms l)) (terms_counted true (rule_body x)) (rows_right (term_rows (rule_body x)) (rules_terms l) h)

  -- the rest of the rows, by their number
  rest_is : (m : Totals) (x : Rule) (l : List Rule) → rules_nodes (m.all_terms + length (term_rows (rule_body x))) l ≡ rules_nodes (with_rule m x).all_terms l
  rest_is m x l = ap (λ (i : ℕ). rules_nodes (m.all_terms + i) l) (terms_counted true (rule_body x))

  -- what is found in a rule's nodes, and in those after it
  next_rules : (m : Totals) (x : Rule) (l : List Rule) → NodesHit p ns ts ws m.all_constructs (node_rows false (rule_body x) m.all_terms) ↔ Hits p (rule_sizes x)
      → NodesHit p ns ts ws (with_rule m x).all_constructs (rules_nodes (with_rule m x).all_terms l) ↔ Hits p (of_rules rule_sizes l)
      → NodesHit p ns ts ws m.all_constructs (node_rows false (rule_body x) m.all_terms ++ rules_nodes (m.all_terms + length (term_rows (rule_body x))) l) ↔ Hits p (rule_sizes x ++ of_rules rule_sizes l)
  next_rules m x l f g =
      let M = node_rows false (rule_body x) m.all_terms in
      let L = rules_nodes (m.all_terms + length (term_rows (rule_body x))) l in
      let t = nodes_two p ns ts ws m.all_constructs M L in
      let e : m.all_constructs + length M ≡ (with_rule m x).all_constructs = ap (λ (i : ℕ). m.all_constructs + i) (nodes_counted false (rule_body x) m.all_terms) in
      let z : NodesHit p ns ts ws (m.all_constructs + length M) L ≡ NodesHit p ns ts ws (with_rule m x).all_constructs (rules_nodes (with_rule m x).all_terms l) = λ j. NodesHit p ns ts ws (e j) (rest_is m x l j) in
      let h = hits_both p (rule_sizes x) (of_rules rule_sizes l) f (subst (λ (A : Type 0). A ↔ Hits p (of_rules rule_sizes l)) (sym z) g) in
      (λ y. h.0 (t.0 y), λ y. t.1 (h.1 y))

  none_hit : (i : ℕ) → NodesHit p ns ts ws i [] ↔ Hits p []
  unfolding NodesHit Hits
  none_hit i = (λ z. z, λ z. z)

  -- what is found in the nodes of all rules is what the tree says of their calculations
  pub rules_hit : (t : Rules) (m : Totals) (earlier : List Name) (w : List Lexeme) {q : ℕ} → ((j : ℕ) (x : Rule) → At (rules_in t) j x → At (rules_in all) (m.rules + j) x) → NodesAt ns m.all_constructs (rules_nodes m.all_terms (rules_in t))
      → RowsAt ts m.all_terms (rules_terms (rules_in t)) → RulesIn rs m (rules_in t) → Standing xs q (spell_rules t w) → binders_before ns m.all_constructs ≡ m.variables → m.variables + all_variables (rules_in t) ≤ 64
      → m.all_constructs + length (rules_nodes m.all_terms (rules_in t)) ≤ n → RulesNamed (rule_names all) earlier (rules_in t) → (Hits p (of_rules rule_widths (rules_in t)) → ⊥)
      → NodesHit p ns ts ws m.all_constructs (rules_nodes m.all_terms (rules_in t)) ↔ Hits p (of_rules rule_sizes (rules_in t))
  unfolding rules_in rules_nodes rules_terms spell_rules all_variables RulesNamed of_rules
  rules_hit (last_rule (rule y is c close)) m earlier w {q} at nodes rows (rule_then e f g more) s bound few inside named right =
      let x = rule y is c close in
      let M = node_rows false c m.all_terms in
      let here = subst (λ (j : ℕ). At (rules_in all) j x) (let z : m.rules + 0 ≡ m.rules = omega arith in z) (at 0 x at_first) in
      next_rules m x []
      (rule_hit m.rules m.all_constructs m.all_terms m.variables q x (sign Kind.Semicolon close ∷ w) here f g (nodes_left M [] nodes) (rows_left (term_rows c) [] rows) (past (past s)) bound (omega arith) (omega (arith, inside, length-append M [], nodes_counted false c m.all_terms)) named.1
      (λ z. right (hits_left p (rule_widths x) [] z)))
      (none_hit (with_rule m x).all_constructs)
  rules_hit (and_rules (rule y is c close) t) m earlier w {q} at nodes rows (rule_then e f g more) s bound few inside named right =
      let x = rule y is c close in
      let M = node_rows false c m.all_terms in
      let L = rules_nodes (m.all_terms + length (term_rows c)) (rules_in t) in
      let here = subst (λ (j : ℕ). At (rules_in all) j x) (let z : m.rules + 0 ≡ m.rules = omega arith in z) (at 0 x at_first) in
      let counts = nodes_counted false c m.all_terms in
      let both = length-append M L in
      next_rules m x (rules_in t)
      (rule_hit m.rules m.all_constructs m.all_terms m.variables q x (sign Kind.Semicolon close ∷ spell_rules t w) here f g (nodes_left M L nodes) (rows_left (term_rows c) (rules_terms (rules_in t)) rows) (past (past s)) bound (omega arith) (omega (arith, inside, both, counts)) named.1
      (λ z. right (hits_left p (rule_widths x) (of_rules rule_widths (rules_in t)) z)))
      (rules_hit t (with_rule m x) (y ∷ earlier) w (λ j z a. subst (λ (k : ℕ). At (rules_in all) k z) (let u : m.rules + suc j ≡ suc m.rules + j = omega arith in u) (at (suc j) z (at_later a)))
      (nodes_after m x (rules_in t) nodes) (rows_after m x (rules_in t) rows) more (past (after_tree c (past (past s))))
      (ap (λ (k : ℕ). binders_before ns (m.all_constructs + k)) (sym counts) ∙ binders_after (in_step false true c m.all_terms (sign Kind.Semicolon close ∷ spell_rules t w) (past (past s))) (nodes_left M L nodes) bound)
      (omega arith) (omega (arith, inside, both, counts, ap length (rest_is m x (rules_in t)))) named.2 (λ z. right (hits_right p (rule_widths x) (of_rules rule_widths (rules_in t)) z)))
