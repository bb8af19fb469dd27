-- Rules by their numbers: what is stored of each, and which number a name has.
-- Assumes nothing.
use Prim.Native.Nat.{ℕ, zero, suc, ◌+◌, ◌<◌}
use mathlib.Core.Path.{◌≡◌, refl, sym, ap, subst, ◌∙◌}
use mathlib.Core.Logic.{⊎_elim}
use mathlib.Core.Bool.{Bool, true, false, ◌||◌}
use mathlib.Core.List.{List, [], ◌∷◌, ◌++◌, map, Memᴰ}
use native.Mathlib.Omega.{arith}
use lib.ListN.{length}
use Rattle.basis.proofs.Booleans.{which, neither_first, neither_second}
use Rattle.text_header.proofs.Runs.{word_equal, word_self}
use Rattle.text_tokens.specs.Names.{is_same}
use Rattle.text_tokens.specs.declared.Kind.{Kind}
use Rattle.text_store.specs.Words.{named_at, first_node, last_node}
use Rattle.text_encoding.specs.Lists.{first_of}
use Rattle.tree.specs.Lexemes.{Name, Lexeme, sign}
use Rattle.tree.specs.Tree.{Rule, rule, Rules, last_rule, and_rules}
use Rattle.tree.specs.Spelling.{spell, spell_rules}
use Rattle.tree_meaning.specs.Pieces.{rules_of as rules_in, rule_name, rule_body, rule_pieces}
use Rattle.tree_meaning.specs.Counted.{Totals, with_rule}
use Rattle.tree_meaning.specs.Names.{is_among}
use Rattle.tree_meaning.proofs.Passing.{RulesNamed}
use Rattle.tree_store.proofs.Rows.{term_rows, node_rows, rules_nodes}
use Rattle.tree_store.proofs.Lengths.{nodes_counted, terms_counted}
use Rattle.tree_store.proofs.Standing.{Standing, past, after_tree}
use Rattle.tree_store.proofs.Uses.{Here, here}
use Rattle.tree_store.proofs.Rowed.{NodesAt, nodes_left, nodes_right, RulesIn, rule_then}
use Rattle.tree_store.proofs.Names.{named_so, named_here}
use Rattle.tree_store.proofs.Steps.{InStep, in_step}

-- ---- rule number j of a list

pub data At : List Rule → ℕ → Rule → Type 0 where
  at_first : {x : Rule} {l : List Rule} → At (x ∷ l) zero x
  at_later : {y x : Rule} {l : List Rule} {j : ℕ} → At l j x → At (y ∷ l) (suc j) x

pub at_member : {l : List Rule} {j : ℕ} {x : Rule} → At l j x → Memᴰ x l
at_member at_first = Memᴰ.head refl
at_member (at_later a) = Memᴰ.tail (at_member a)

pub record Numbered (l : List Rule) (x : Rule) : Type 0 where
  pub number : ℕ
  pub there : At l number x

pub member_at : {x : Rule} {l : List Rule} → Memᴰ x l → Numbered l x
member_at (Memᴰ.head {x = y} {xs} e) = record { number = zero; there = subst (At (y ∷ xs) zero) (sym e) at_first }
member_at (Memᴰ.tail m) = let n = member_at m in record { number = suc n.number; there = at_later n.there }

pub at_below : {l : List Rule} {j : ℕ} {x : Rule} → At l j x → j < length l
at_below at_first = omega arith
at_below (at_later a) = let h = at_below a in omega arith

pub record RuleAt (l : List Rule) (j : ℕ) : Type 0 where
  pub which_rule : Rule
  pub there : At l j which_rule

pub rule_at : (l : List Rule) (j : ℕ) → j < length l → RuleAt l j
rule_at [] j h = absurd (omega arith)
rule_at (x ∷ l) zero h = record { which_rule = x; there = at_first }
rule_at (x ∷ l) (suc j) h = let r = rule_at l j (omega arith) in record { which_rule = r.which_rule; there = at_later r.there }

-- ---- what is stored of it

pub record RuleFacts (xs ns ws : List ℕ) (k : ℕ) (x : Rule) : Type 0 where
  -- its first node and its first term
  pub node : ℕ
  pub term : ℕ
  pub name_is : named_at ws k ≡ (rule_name x).start
  pub first_is : first_node ws k ≡ node
  pub last_is : last_node ws k ≡ node + length (node_rows false (rule_body x) term)
  pub nodes_are : NodesAt ns node (node_rows false (rule_body x) term)
  pub name_here : Here xs (rule_name x)
  pub step : InStep xs (node_rows false (rule_body x) term) (rule_pieces x)

-- the first of rules, after rules of these totals
one_rule : {xs ns ws : List ℕ} (n : Totals) (x : Rule) (w : List Lexeme) {q : ℕ} → named_at ws n.rules ≡ (rule_name x).start → first_node ws n.rules ≡ n.all_constructs → last_node ws n.rules ≡ (with_rule n x).all_constructs
    → NodesAt ns n.all_constructs (node_rows false (rule_body x) n.all_terms) → Here xs (rule_name x) → Standing xs q (spell (rule_body x) w) → RuleFacts xs ns ws n.rules x
one_rule n x w e f g h k s =
    record {
      node = n.all_constructs;
      term = n.all_terms;
      name_is = e;
      first_is = f;
      last_is = g ∙ ap (λ (i : ℕ). n.all_constructs + i) (sym (nodes_counted false (rule_body x) n.all_terms));
      nodes_are = h;
      name_here = k;
      step = in_step false true (rule_body x) n.all_terms w s;
    }

later_nodes : {ns : List ℕ} (t : Rules) (n : Totals) (x : Rule) → NodesAt ns n.all_constructs (node_rows false (rule_body x) n.all_terms ++ rules_nodes (n.all_terms + length (term_rows (rule_body x))) (rules_in t))
    → NodesAt ns (with_rule n x).all_constructs (rules_nodes (with_rule n x).all_terms (rules_in t))
later_nodes {ns} t n x h =
    subst (λ (i : ℕ). NodesAt ns i (rules_nodes (with_rule n x).all_terms (rules_in t))) (ap (λ (i : ℕ). n.all_constructs + i) (nodes_counted false (rule_body x) n.all_terms))
    (subst (λ (i : ℕ). NodesAt ns (n.all_constructs + length (node_rows false (rule_body x) n.all_terms)) (rules_nodes i (rules_in t))) (ap (λ (i : ℕ). n.all_terms + i) (terms_counted true (rule_body x)))
    (nodes_right (node_rows false (rule_body x) n.all_terms) (rules_nodes (n.all_terms + length (term_rows (rule_body x))) (rules_in t)) h))

pub rule_facts : {xs ns ws : List ℕ} (t : Rules) (n : Totals) (w : List Lexeme) {q : ℕ} → NodesAt ns n.all_constructs (rules_nodes n.all_terms (rules_in t)) → RulesIn ws n (rules_in t) → Standing xs q (spell_rules t w)
    → {j : ℕ} {x : Rule} → At (rules_in t) j x → RuleFacts xs ns ws (n.rules + j) x
unfolding spell_rules rules_in rules_nodes
rule_facts {xs} {ns} {ws} (last_rule (rule y is b end)) n w h (rule_then e f g more) s at_first =
    subst (λ (k : ℕ). RuleFacts xs ns ws k (rule y is b end)) (let q : n.rules ≡ n.rules + 0 = omega arith in q)
    (one_rule n (rule y is b end) (sign Kind.Semicolon end ∷ w) e f g (nodes_left (node_rows false b n.all_terms) [] h) (here s) (past (past s)))
rule_facts (last_rule (rule y is b end)) n w h (rule_then e f g more) s (at_later a) = elim a [ ]
rule_facts {xs} {ns} {ws} (and_rules (rule y is b end) t) n w h (rule_then e f g more) s at_first =
    subst (λ (k : ℕ). RuleFacts xs ns ws k (rule y is b end)) (let q : n.rules ≡ n.rules + 0 = omega arith in q)
    (one_rule n (rule y is b end) (sign Kind.Semicolon end ∷ spell_rules t w) e f g (nodes_left (node_rows false b n.all_terms) (rules_nodes (n.all_terms + length (term_rows b)) (rules_in t)) h) (here s) (past (past s)))
rule_facts {xs} {ns} {ws} (and_rules (rule y is b end) t) n w h (rule_then e f g more) s (at_later {x = x} {j = j} a) =
    let m : Totals = with_rule n (rule y is b end)
    in subst (λ (k : ℕ). RuleFacts xs ns ws k x) (let q : m.rules + j ≡ n.rules + suc j = omega arith in q)
    (rule_facts t m w (later_nodes t n (rule y is b end) h) more (past (after_tree b (past (past s)))) a)

-- ---- which number a name has

-- the first rule of this name, of those from number k on
pub record NumberOf (xs ws : List ℕ) (l : List Rule) (k : ℕ) (y : Name) : Type 0 where
  pub number : ℕ
  pub rule_there : Rule
  pub there : At l number rule_there
  pub found : first_of (length l) k (named_so xs ws y) ≡ k + number
  pub same : (rule_name rule_there).letters ≡ y.letters

pub first_here : (n i : ℕ) (f : ℕ → Bool) → f i ≡ true → first_of (suc n) i f ≡ i
unfolding first_of
first_here n i f e = rw (e, first_of) refl

pub first_later : (n i : ℕ) (f : ℕ → Bool) → f i ≡ false → first_of (suc n) i f ≡ first_of n (i + 1) f
unfolding first_of
first_later n i f e = rw (e, first_of) refl

-- it has one where a rule has that name
pub number_of : {xs ns ws : List ℕ} (l : List Rule) (k : ℕ) (y : Name) → Here xs y → ((j : ℕ) (x : Rule) → At l j x → RuleFacts xs ns ws (k + j) x) → is_among (map rule_name l) y ≡ true → NumberOf xs ws l k y
unfolding is_among
number_of [] k y h f e = let z : ◌≡◌ {A = ℕ} 0 1 = cc in absurd (omega arith)
number_of {xs} {ns} {ws} (x ∷ l) k y h f e =
    ⊎_elim
    (λ (z : is_same (rule_name x).letters y.letters ≡ true).
    record { number = zero; rule_there = x; there = at_first; found = first_here (length l) k (named_so xs ws y) (tested ∙ z) ∙ (let q : k ≡ k + 0 = omega arith in q); same = word_equal (rule_name x).letters y.letters z })
    (λ (z : is_same (rule_name x).letters y.letters ≡ false).
    let m = number_of l (k + 1) y h (λ j u a. subst (λ (i : ℕ). RuleFacts xs ns ws i u) (let q : k + suc j ≡ k + 1 + j = omega arith in q) (f (suc j) u (at_later a))) (among z) in
    record { number = suc m.number; rule_there = m.rule_there; there = at_later m.there; found = first_later (length l) k (named_so xs ws y) (tested ∙ z) ∙ m.found ∙ (let q : k + 1 + m.number ≡ k + suc m.number = omega arith in q); same = m.same })
    (which (is_same (rule_name x).letters y.letters))
  where
    first : RuleFacts xs ns ws k x
    first = subst (λ (i : ℕ). RuleFacts xs ns ws i x) (let q : k + 0 ≡ k = omega arith in q) (f 0 x at_first)

    tested : named_so xs ws y k ≡ is_same (rule_name x).letters y.letters
    tested = named_here ws k first.name_is first.name_here h

    among : is_same (rule_name x).letters y.letters ≡ false → is_among (map rule_name l) y ≡ true
    among z = ap (λ (b : Bool). b || is_among (map rule_name l) y) (sym z) ∙ e

pub among_at : {l : List Rule} {j : ℕ} {x : Rule} (y : Name) → At l j x → (rule_name x).letters ≡ y.letters → is_among (map rule_name l) y ≡ true
unfolding is_among
among_at y (at_first {x} {l}) e = ap (λ (b : Bool). b || is_among (map rule_name l) y) (ap (λ (q : List ℕ). is_same q y.letters) e ∙ word_self y.letters)
among_at y (at_later {y = z} {l = l} a) e = or_second (is_same (rule_name z).letters y.letters) (is_among (map rule_name l) y) (among_at y a e)
  where
    or_second : (b c : Bool) → c ≡ true → (b || c) ≡ true
    or_second true c h = refl
    or_second false c h = h

-- ---- no two rules have one name

not_earlier : (rules earlier : List Name) {l : List Rule} {j : ℕ} {x : Rule} → RulesNamed rules earlier l → At l j x → is_among earlier (rule_name x) ≡ false
unfolding RulesNamed is_among
not_earlier rules earlier h at_first = h.0
not_earlier rules earlier h (at_later {y = y} {x = x} a) =
    neither_second (is_same (rule_name y).letters (rule_name x).letters) (is_among earlier (rule_name x)) (not_earlier rules (rule_name y ∷ earlier) h.2 a)

not_same : (u v : List ℕ) → u ≡ v → is_same u v ≡ false → ⊥
not_same u v e n = let z : ◌≡◌ {A = Bool} true false = sym (ap (is_same u) (sym e) ∙ word_self u) ∙ n in let y : ◌≡◌ {A = ℕ} 0 1 = cc in omega arith

-- a rule is not named as one before it
apart : (rules earlier : List Name) {l : List Rule} {j : ℕ} (x : Rule) {y : Rule} → RulesNamed rules (rule_name x ∷ earlier) l → At l j y → (rule_name x).letters ≡ (rule_name y).letters → ⊥
unfolding is_among
apart rules earlier x {y} h a e =
    not_same (rule_name x).letters (rule_name y).letters e (neither_first (is_same (rule_name x).letters (rule_name y).letters) (is_among earlier (rule_name y)) (not_earlier rules (rule_name x ∷ earlier) h a))

pub distinct : (rules earlier : List Name) {l : List Rule} {i j : ℕ} {x y : Rule} → RulesNamed rules earlier l → At l i x → At l j y → (rule_name x).letters ≡ (rule_name y).letters → i ≡ j
unfolding RulesNamed
distinct rules earlier h at_first at_first e = refl
distinct rules earlier h (at_later {y = z} a) (at_later b) e = ap suc (distinct rules (rule_name z ∷ earlier) h.2 a b e)
distinct rules earlier h (at_first {x = x}) (at_later b) e = absurd (apart rules earlier x h.2 b e)
distinct rules earlier h (at_later b) (at_first {x = x}) e = absurd (apart rules earlier x h.2 b (sym e))
