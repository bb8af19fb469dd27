-- Refusal 6 of what is stored is refusal 6 of the tree.
-- Assumes nothing.
use Prim.Native.Nat.{ℕ, suc, ◌+◌, ◌-◌, ◌≤◌, ◌<◌, min}
use mathlib.Core.Path.{◌≡◌, refl, sym, ap, ap₂, subst, ◌∙◌}
use mathlib.Core.Bool.{Bool, true, false, ◌||◌}
use mathlib.Core.Option.{none, some}
use mathlib.Core.List.{List, [], ◌∷◌, ◌++◌, map, append_assoc}
use native.Mathlib.Omega.{arith}
use lib.ListN.{length}
use Rattle.text_tokens.specs.Names.{is_same}
use Rattle.text_tokens.specs.declared.Kind.{Kind}
use Rattle.text_store.specs.Store.{blank, node_words, term_words, rule_words, rules_of}
use Rattle.text_store.specs.Words.{named_at, first_node, last_node}
use Rattle.text_names.specs.Counting.{nowhere, place_if, least_of, any_of}
use Rattle.text_names.specs.Names.{same_name, is_reserved, rule_named, binds, rule_fault, node_place, nodes_place, rule_place, refusal_6}
use Rattle.tree.specs.Lexemes.{Name, Lexeme, sign, finish}
use Rattle.tree.specs.Tree.{expression, Tree, rule, Rules, last_rule, and_rules}
use Rattle.tree.specs.Spelling.{spell, spell_rules}
use Rattle.tree_form.specs.Stored.{stored}
use Rattle.tree_meaning.specs.Pieces.{pieces, bound_in, rules_of as rules_in, rule_name}
use Rattle.tree_meaning.specs.Counted.{constructs, Totals, no_rule, with_rule}
use Rattle.tree_meaning.specs.Places.{place_if as listed-if}
use Rattle.tree_meaning.specs.Names.{is_among, rule_fault as wrong-rule, faults_after, name_faults, rule_names, refusal_6 as tree-refusal-6}
use Rattle.tree_store.proofs.Rows.{NodeRow, TermRow, term_rows, node_rows, rules_nodes, rules_terms}
use Rattle.tree_store.proofs.Lengths.{nodes_counted, terms_counted}
use Rattle.tree_store.proofs.Low.{told_none, told_some, Low, low_as, low_none, low_if, low_both, any_suc, any_between_on}
use Rattle.tree_store.proofs.Limits.{Limited}
use Rattle.tree_store.proofs.Rowed.{NodesAt, no_nodes, node_then, nodes_left, nodes_right, TermsAt, terms_left, terms_right, RulesIn, rule_then, Rowed, rowed}
use Rattle.tree_store.proofs.Standing.{Standing, past, after_tree, SpelledBy, spelled_stand}
use Rattle.tree_store.proofs.Uses.{Here, here}
use Rattle.tree_store.proofs.Spots.{LikeAt, none_like, next_like, Spot, free}
use Rattle.tree_store.proofs.Binding.{same_here, bound_rows, before_none}
use Rattle.tree_store.proofs.Naming.{reserved_here, Known, row_is, rows_place, named}

-- ---- nodes that are rows

nodes_like : {ns : List ℕ} {i : ℕ} (M : List NodeRow) → NodesAt ns i M → LikeAt ns i M
nodes_like [] no_nodes = none_like
nodes_like {i = i} (x ∷ M) (node_then h more) =
    next_like (record { kind_like = h.kind_is; size_like = h.size_is; second_like = h.second_is; how_like = h.how_is }) (nodes_like {i = i + 1} M more)

nodes_least : (xs ns ts rs : List ℕ) (r a e : ℕ) {i : ℕ} (M : List NodeRow) → NodesAt ns i M → rows_place xs ns ts rs r a e i M ≡ least_of (length M) i (node_place xs ns ts rs r a e)
unfolding rows_place least_of
nodes_least xs ns ts rs r a e [] no_nodes = refl
nodes_least xs ns ts rs r a e {i = i} (x ∷ M) (node_then h more) = ap₂ min (sym (row_is xs ns ts rs r a e h)) (nodes_least xs ns ts rs r a e {i = i + 1} M more)

-- ---- the names of rules

-- rules up to k have these names
pub record Earlier (xs ws : List ℕ) (k : ℕ) (names : List Name) : Type 0 where
  pub earlier_are : (y : Name) → Here xs y → rule_named xs ws k y.start ≡ is_among names y

earlier_none : {xs ws : List ℕ} → Earlier xs ws 0 []
unfolding any_of is_among
earlier_none = record { earlier_are = λ y h. refl }

or_turned : (a b : Bool) → (a || (b || false)) ≡ (b || a)
or_turned true true = refl
or_turned true false = refl
or_turned false true = refl
or_turned false false = refl

-- whether rule k has the name y
abbrev pub named_so : List ℕ → List ℕ → Name → ℕ → Bool
named_so xs ws y k = same_name xs (named_at ws k) y.start

pub named_here : {xs : List ℕ} (ws : List ℕ) (k : ℕ) {x y : Name} → named_at ws k ≡ x.start → Here xs x → Here xs y → named_so xs ws y k ≡ is_same x.letters y.letters
named_here {xs} ws k {x} {y} e h g = ap (λ (q : ℕ). same_name xs q y.start) e ∙ same_here h g

earlier_more : {xs ws : List ℕ} {k : ℕ} {names : List Name} {x : Name} → named_at ws k ≡ x.start → Here xs x → Earlier xs ws k names → Earlier xs ws (k + 1) (x ∷ names)
unfolding any_of is_among
earlier_more {xs} {ws} {k} {names} {x} e h b =
    record {
      earlier_are = λ y g.
          any_between_on 0 k 1 (named_so xs ws y) (omega arith)
          ∙ ap₂ ◌||◌ (b.earlier_are y g) (any_suc 0 k (named_so xs ws y) ∙ ap (λ (c : Bool). c || false) (named_here ws k e h g))
          ∙ or_turned (is_among names y) (is_same x.letters y.letters);
    }

-- all of them
all_named : {xs ws : List ℕ} (t : Rules) (n : Totals) (w : List Lexeme) {q : ℕ} → RulesIn ws n (rules_in t) → Standing xs q (spell_rules t w) → (y : Name) → Here xs y → any_of (length (rules_in t)) n.rules (named_so xs ws y) ≡ is_among (map rule_name (rules_in t)) y
unfolding spell_rules rules_in any_of is_among
all_named {xs} {ws} (last_rule (rule x is b end)) n w (rule_then e f g more) s y h = any_suc 0 n.rules (named_so xs ws y) ∙ ap (λ (c : Bool). c || false) (named_here ws n.rules e (here s) h)
all_named {xs} {ws} (and_rules (rule x is b end) t) n w (rule_then e f g more) s y h =
    any_suc (length (rules_in t)) n.rules (named_so xs ws y)
    ∙ ap₂ ◌||◌ (named_here ws n.rules e (here s) h)
    (ap (λ (k : ℕ). any_of (length (rules_in t)) k (named_so xs ws y)) (let q : n.rules + 1 ≡ suc n.rules = omega arith in q)
    ∙ all_named t (with_rule n (rule x is b end)) w more (past (after_tree b (past (past s)))) y h)

-- ---- one rule

module _ (xs ns ts ws : List ℕ) (r : ℕ) (rules : List Name) (small : length xs < nowhere) (ruled : (y : Name) → Here xs y → rule_named xs ws r y.start ≡ is_among rules y) where
  -- the nodes of a body
  body_low : (x : Tree expression 0) (t a e : ℕ) (w : List Lexeme) {q : ℕ} → e ≡ a + constructs false x → NodesAt ns a (node_rows false x t) → TermsAt ts t (term_rows x) → Standing xs q (spell x w)
      → Low (nodes_place xs ns ts ws r a e) (faults_after rules (bound_in (pieces true x)) [] (pieces true x))
  body_low x t a e w z h k s = low_as many (named xs ns ts ws r a e rules (bound_in (pieces true x)) known false true x t w (nodes_like M h) k s spot before_none).low
    where
      M : List NodeRow
      M = node_rows false x t

      long : e - a ≡ length (node_rows false x t)
      long = omega (arith, nodes_counted false x t)

      known : Known xs ns ws r a e rules (bound_in (pieces true x))
      known = record { fits_in = small; ruled = ruled; varied = λ y g. ap (λ (n : ℕ). any_of n a (binds xs ns y.start)) long ∙ (bound_rows false true x t w (nodes_like M h) s).bound y g }

      spot : Spot ns a expression false true 0 a (length (node_rows false x t))
      spot = free {i = a} {m = length (node_rows false x t)} refl refl (λ j m f g u v. absurd (omega arith))

      many : rows_place xs ns ts ws r a e a M ≡ nodes_place xs ns ts ws r a e
      many = nodes_least xs ns ts ws r a e M h ∙ ap (λ (n : ℕ). least_of n a (node_place xs ns ts ws r a e)) (sym long)

  rule_low : {x : Name} {names : List Name} (k : ℕ) (l : List ℕ) (a e : ℕ) → named_at ws k ≡ x.start → first_node ws k ≡ a → last_node ws k ≡ e → Here xs x → Earlier xs ws k names → Low (nodes_place xs ns ts ws r a e) l
      → Low (rule_place xs ns ts ws r k) (listed-if (wrong-rule names x) x.start ++ l)
  rule_low {x} {names} k l a e f g z h b low = low_as (sym whole) (low_both (low_if (wrong-rule names x) x.start (omega (arith, h.inside))) low)
    where
      own : place_if (rule_fault xs ws k) (named_at ws k) ≡ place_if (wrong-rule names x) x.start
      own = ap (λ (p : ℕ). place_if (is_reserved xs p || rule_named xs ws k p) p) f ∙ (λ i. place_if (reserved_here h i || b.earlier_are x h i) x.start)

      whole : rule_place xs ns ts ws r k ≡ min (place_if (wrong-rule names x) x.start) (nodes_place xs ns ts ws r a e)
      whole = ap₂ min own (ap₂ (nodes_place xs ns ts ws r) g z)

  -- ---- all rules

  assoc_low : {m n : ℕ} (l k : List ℕ) {j : List ℕ} → Low m (l ++ k) → Low n j → Low (min m n) (l ++ (k ++ j))
  assoc_low {m} {n} l k {j} a b = subst (Low (min m n)) (append_assoc l k j) (low_both a b)

  rules_low : (t : Rules) (n : Totals) {names : List Name} (w : List Lexeme) {q : ℕ} → NodesAt ns n.all_constructs (rules_nodes n.all_terms (rules_in t)) → TermsAt ts n.all_terms (rules_terms (rules_in t)) → RulesIn ws n (rules_in t)
      → Standing xs q (spell_rules t w) → Earlier xs ws n.rules names → Low (least_of (length (rules_in t)) n.rules (rule_place xs ns ts ws r)) (name_faults rules names (rules_in t))
  unfolding spell_rules rules_in least_of name_faults rules_nodes rules_terms
  rules_low (last_rule (rule x is b end)) n {names} w h k (rule_then e f g more) s c =
      let A : List TermRow = term_rows b
      in let M : List NodeRow = node_rows false b n.all_terms
      in assoc_low (listed-if (wrong-rule names x) x.start) (faults_after rules (bound_in (pieces true b)) [] (pieces true b))
      (rule_low n.rules (faults_after rules (bound_in (pieces true b)) [] (pieces true b)) n.all_constructs (with_rule n (rule x is b end)).all_constructs e f g (here s) c
      (body_low b n.all_terms n.all_constructs (with_rule n (rule x is b end)).all_constructs (sign Kind.Semicolon end ∷ w) refl (nodes_left M [] h) (terms_left A [] k) (past (past s)))) low_none
  rules_low (and_rules (rule x is b end) t) n {names} w h k (rule_then e f g more) s c =
      let A : List TermRow = term_rows b
      in let M : List NodeRow = node_rows false b n.all_terms
      in let m : Totals = with_rule n (rule x is b end)
      in assoc_low (listed-if (wrong-rule names x) x.start) (faults_after rules (bound_in (pieces true b)) [] (pieces true b))
      (rule_low n.rules (faults_after rules (bound_in (pieces true b)) [] (pieces true b)) n.all_constructs m.all_constructs e f g (here s) c
      (body_low b n.all_terms n.all_constructs m.all_constructs (sign Kind.Semicolon end ∷ spell_rules t w) refl (nodes_left M (rules_nodes (n.all_terms + length A) (rules_in t)) h) (terms_left A (rules_terms (rules_in t)) k) (past (past s))))
      (low_as (ap (λ (i : ℕ). least_of (length (rules_in t)) i (rule_place xs ns ts ws r)) (let q : suc n.rules ≡ n.rules + 1 = omega arith in q))
      (rules_low t m w (subst (λ (i : ℕ). NodesAt ns i (rules_nodes m.all_terms (rules_in t))) (ap (λ (i : ℕ). n.all_constructs + i) (nodes_counted false b n.all_terms))
      (subst (λ (i : ℕ). NodesAt ns (n.all_constructs + length M) (rules_nodes i (rules_in t))) (ap (λ (i : ℕ). n.all_terms + i) (terms_counted true b)) (nodes_right M (rules_nodes (n.all_terms + length A) (rules_in t)) h))) (subst (λ (i : ℕ). TermsAt ts i (rules_terms (rules_in t))) (ap (λ (i : ℕ). n.all_terms + i) (terms_counted true b)) (terms_right A (rules_terms (rules_in t)) k)) more (past (after_tree b (past (past s)))) (subst (λ (i : ℕ). Earlier xs ws i (x ∷ names)) (let q : n.rules + 1 ≡ suc n.rules = omega arith in q) (earlier_more e (here s) c))))

-- ---- a text

-- of any words that hold the rows of a tree that the text spells
names_of : (xs ns ts ws : List ℕ) (r : ℕ) (t : Rules) → length xs < nowhere → SpelledBy xs t → Rowed t ns ts ws r → Low (refusal_6 xs ns ts ws r) (name_faults (rule_names t) [] (rules_in t))
names_of xs ns ts ws r t small h w =
    low_as (ap (λ (n : ℕ). least_of n 0 (rule_place xs ns ts ws r)) (let q : length (rules_in t) ≡ r - 0 = omega (arith, w.number) in q))
    (rules_low xs ns ts ws r (rule_names t) small ruled t no_rule (finish h.end ∷ []) w.nodes_are w.terms_are w.rules_are (spelled_stand h) earlier_none)
  where
    ruled : (y : Name) → Here xs y → rule_named xs ws r y.start ≡ is_among (rule_names t) y
    ruled y g = ap (λ (n : ℕ). any_of n 0 (named_so xs ws y)) (let q : r - 0 ≡ length (rules_in t) = omega (arith, w.number) in q) ∙ all_named t no_rule (finish h.end ∷ []) w.rules_are (spelled_stand h) y g

-- Refusal 6 of what the reader stores of a text that spells a tree within the limits is refusal 6 of the tree.
module _ {xs : List ℕ} {t : Rules} (small : length xs < nowhere) (h : SpelledBy xs t) (l : Limited t) where
  -- where it stands
  abbrev pub stored_6 : ℕ
  stored_6 = refusal_6 xs (node_words (stored t blank)) (term_words (stored t blank)) (rule_words (stored t blank)) (rules_of (stored t blank))

  same_6 : Low stored_6 (name_faults (rule_names t) [] (rules_in t))
  same_6 = names_of xs (node_words (stored t blank)) (term_words (stored t blank)) (rule_words (stored t blank)) (rules_of (stored t blank)) t small h (rowed t l)

  pub passed_6 : stored_6 ≡ nowhere → tree-refusal-6 t ≡ none
  passed_6 = told_none stored_6 (tree-refusal-6 t) same_6.is same_6.told_apart

  pub given_6 : (stored_6 ≡ nowhere → ⊥) → tree-refusal-6 t ≡ some stored_6
  given_6 = told_some stored_6 (tree-refusal-6 t) same_6.is
