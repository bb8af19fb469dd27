-- Every node of a rule means what the tree's construct of its number means: one walk over the rule's tree.
-- Assumes nothing.
use Prim.Native.Nat.{ℕ, suc, ◌+◌, ◌≤◌, ◌<◌, min}
use mathlib.Core.Path.{◌≡◌, refl, sym, ap, ap₂, ◌∙◌, subst}
use mathlib.Core.Bool.{Bool, true, false, cond, not, ◌&&◌}
use mathlib.Core.List.{List, [], ◌∷◌, ◌++◌}
use mathlib.Core.Option.{Option, none, some}
use native.Mathlib.Omega.{arith}
use borrow.Author.Tests.{eq-eqb}
use lib.Dec.{eqb}
use lib.ListN.{length, get_or, set}
use Rattle.text_header.proofs.Runs.{word_self}
use Rattle.basis.specs.Limits.{max_width}
use Rattle.text_tokens.specs.Numbers.{number_value, capped}
use Rattle.text_tokens.specs.declared.Kind.{Kind}
use Rattle.text_literals.specs.Literals.{characters_at}
use Rattle.text_store.specs.Words.{node_mark, is_binder, condition_from, condition_end, first_node}
use Rattle.text_names.specs.Names.{binds, same_name}
use Rattle.text_encoding.specs.Numbers.{rule_of, binders_before, width_of, is_signed}
use Rattle.term_words.specs.declared.Term.{Term as WordTerm}
use Rattle.text_meaning.specs.Meaning.{own_list, counts_in, static_counts, passes, is_fixed, is_default, is_true as list-true, first_true}
use Rattle.text_meaning.specs.Claims.{is_exact_count as is-exact-tree}
use Rattle.text_meaning.proofs.TreeLists.{form_is}
use Rattle.tree.specs.Lexemes.{Name, Lexeme, sign}
use Rattle.tree.specs.Tree.{Counts, exactly, at_least_count, at_most, span, Mark, optional, any_number, one_or_more, counted, Part, cases, Tree, literal, range, field, binder, rule_use, eod, group, switch, last_case, case_default, case_cases, once, repeated, last_member, and_members, last_branch, or_branches}
use Rattle.tree.specs.Spelling.{spell, spell_mark}
use Rattle.tree_form.specs.Stored.{start_of, how_bound as way-bound}
use Rattle.tree_meaning.specs.Pieces.{counts_parts, terms_of, Piece, use_of_rule, width, formula, binding, mark_pieces, pieces}
use Rattle.tree_meaning.specs.Counted.{constructs}
use Rattle.tree_meaning.specs.Names.{is_among}
use Rattle.tree_meaning.specs.Grammar.{Values, Construct, is_exact_count, members, branches, case_bodies, chosen, no_default, repetition_node, constructs_of}
use Rattle.tree_meaning.proofs.Keeping.{BindingKeeps}
use Rattle.tree_meaning.proofs.Lengths.{as_counted}
use Rattle.tree_terms.specs.Terms.{counts_tree}
use Rattle.tree_store.proofs.Rows.{NodeRow, on_first, mark_row, node_rows, term_rows, mark_rows, tests_rows}
use Rattle.tree_store.proofs.Lengths.{length_first, nodes_counted, some_node}
use Rattle.tree_store.proofs.Standing.{Standing, past, shown, after_tests, after_tree}
use Rattle.tree_store.proofs.Uses.{Here, here, no_more, set_uses, counts_uses, tests_uses}
use Rattle.tree_store.proofs.Spots.{Like}
use Rattle.tree_store.proofs.Flags.{flagged}
use Rattle.tree_store.proofs.Binding.{same_here, after_bound, Quiet, mark_quiet, bound_rows, Before, before_node, before_more}
use Rattle.tree_store.proofs.Rowed.{NodesAt, nodes_left, nodes_right}
use Rattle.tree_grammar.proofs.Parts.{member_parts, branch_parts, case_parts}
use Rattle.tree_grammar.proofs.Nodes.{Means, alternative_means, concatenation_means, literal_means, range_means, use_means, eod_means, uint_means, repetition_means, switch_means, SameUint, no_uint}
use Rattle.tree_grammar.proofs.Lists.{RowsAt, rows_left, rows_right}
use Rattle.tree_grammar.proofs.Widths.{all_wide, all_known}
use Rattle.tree_grammar.proofs.Formulas.{FormulaRight, InRule, set_same, set_first, counts_list, condition_same}
use Rattle.tree_grammar.proofs.Counting.{counts_answers, counts_static}
use Rattle.tree_grammar.proofs.Firsts.{Plain, FirstAt, first_then, whole_first, uncased, first_left, first_right, first_like, case_at, none_at, some_tests, parts_sized}
use Rattle.tree_grammar.proofs.Defaults.{is_case, cases_optional}

-- ---- what 6 and 8 leave of a rule's pieces

module _ (P : Values → Type 0) (numbered widest : List ℕ → ℕ) (rules whole : List Name) where
  -- of pieces after variables of these names
  unfoldable pub Right : List Name → List Piece → Type 0
  Right names [] = Unit {0}
  Right names (use_of_rule x ∷ more) = (is_among rules x ≡ true) × Right names more
  Right names (width most n ∷ more) = (n.value ≤ most) × Right names more
  Right names (formula f ∷ more) = FormulaRight widest whole names f × Right names more
  Right names (binding x signed n placed ∷ more) = (is_among names x ≡ false) × BindingKeeps P numbered (binding x signed n placed) × Right (x ∷ names) more

  right_one : (names : List Name) (l m : List Piece) → Right names (l ++ m) → Right names l
  unfolding Right
  right_one names [] m h = tt
  right_one names (use_of_rule x ∷ l) m h = (h.0, right_one names l m h.1)
  right_one names (width most n ∷ l) m h = (h.0, right_one names l m h.1)
  right_one names (formula f ∷ l) m h = (h.0, right_one names l m h.1)
  right_one names (binding x signed n placed ∷ l) m h = (h.0, h.1, right_one (x ∷ names) l m h.2)

  right_two : (names : List Name) (l m : List Piece) → Right names (l ++ m) → Right (after_bound l names) m
  unfolding Right after_bound
  right_two names [] m h = h
  right_two names (use_of_rule x ∷ l) m h = right_two names l m h.1
  right_two names (width most n ∷ l) m h = right_two names l m h.1
  right_two names (formula f ∷ l) m h = right_two names l m h.1
  right_two names (binding x signed n placed ∷ l) m h = right_two (x ∷ names) l m h.2

  right_marked : (names : List Name) (m : Mark) (l : List Piece) → Right names (mark_pieces m ++ l) → Right names l
  unfolding Right
  right_marked names (optional s) l h = h
  right_marked names (any_number s) l h = h
  right_marked names (one_or_more s) l h = h
  right_marked names (counted opens n closes) l h = h.1

-- ---- all nodes from i on

module _ (P : Values → Type 0) (xs ns ts rs : List ℕ) (r : ℕ) where
  unfoldable pub AllMeant : ℕ → List Construct → Type 0
  AllMeant i [] = Unit {0}
  AllMeant i (c ∷ more) = Means P xs ns ts rs r i c.node × SameUint xs ns ts rs r i c.uint × AllMeant (suc i) more

  pub meant_both : (i : ℕ) (cs ds : List Construct) → AllMeant i cs → AllMeant (i + length cs) ds → AllMeant i (cs ++ ds)
  unfolding AllMeant
  meant_both i [] ds p q = subst (λ (k : ℕ). AllMeant k ds) (let z : i + 0 ≡ i = omega arith in z) q
  meant_both i (c ∷ cs) ds p q = (p.0, p.1, meant_both (suc i) cs ds p.2 (subst (λ (k : ℕ). AllMeant k ds) (let z : i + suc (length cs) ≡ suc i + length cs = omega arith in z) q))

-- ---- repetitions and fields

mark_kind : (m : Mark) (size p t : ℕ) → (mark_row m size p t).kind ≡ 3
mark_kind (optional s) size p t = refl
mark_kind (any_number s) size p t = refl
mark_kind (one_or_more s) size p t = refl
mark_kind (counted opens n closes) size p t = refl

bound_so : (d : ℕ) → not (eqb (way-bound d) 0) ≡ true
bound_so d = by (eqb d 2)
  where
    by : (c : Bool) → not (eqb (cond c 1 2) 0) ≡ true
    by true = refl
    by false = refl

exact_same : (numbered : List ℕ → ℕ) (x : Counts) → is-exact-tree (counts_tree numbered x) ≡ is_exact_count x
exact_same numbered (exactly n) = refl
exact_same numbered (at_least_count a s) = refl
exact_same numbered (at_most s b) = refl
exact_same numbered (span a s b) = refl

module _ {P : Values → Type 0} {xs ns rs : List ℕ} {r : ℕ} {body numbered widest : List ℕ → ℕ} {rules whole : List Name} {a end : ℕ} (rule : InRule P xs ns rs r body numbered widest rules whole a end) (ts : List ℕ) where
  width_is : (i p n : ℕ) → node_mark ns i ≡ p → number_value xs p ≡ n → n ≤ max_width → width_of xs ns i ≡ n
  width_is i p n e f l =
      ap (λ (k : ℕ). min 65 (capped (number_value xs k))) e ∙ ap (λ (k : ℕ). min 65 (capped k)) f ∙ (let z : min 65 (capped n) ≡ n = omega arith in z)

  -- ---- a repetition's mark

  mark_means : (m : Mark) (i size p t : ℕ) (names : List Name) (w : List Lexeme) {q : ℕ} (l : List Piece) → Plain ns i (mark_row m size p t) → RowsAt ts t (mark_rows m) → Standing xs q (spell_mark m w) → Before xs ns a i names → i < end
      → Right P numbered widest rules whole names (mark_pieces m ++ l) → Means P xs ns ts rs r i (repetition_node numbered m (suc i))
  unfolding Right mark_rows spell_mark
  mark_means (optional s) i size p t names w l h rows st b e ok =
      repetition_means P xs ns ts rs r i numbered (optional s) h.kind_is (λ v p. ap (λ (k : ℕ). passes k (counts_in (own_list xs ns ts rs r i) v)) h.first_is) (ap (λ (k : ℕ). passes k (static_counts (own_list xs ns ts rs r i))) h.first_is) (ap (λ (k : ℕ). is_fixed k (own_list xs ns ts rs r i)) h.first_is)
  mark_means (any_number s) i size p t names w l h rows st b e ok =
      repetition_means P xs ns ts rs r i numbered (any_number s) h.kind_is (λ v p. ap (λ (k : ℕ). passes k (counts_in (own_list xs ns ts rs r i) v)) h.first_is) (ap (λ (k : ℕ). passes k (static_counts (own_list xs ns ts rs r i))) h.first_is) (ap (λ (k : ℕ). is_fixed k (own_list xs ns ts rs r i)) h.first_is)
  mark_means (one_or_more s) i size p t names w l h rows st b e ok =
      repetition_means P xs ns ts rs r i numbered (one_or_more s) h.kind_is (λ v p. ap (λ (k : ℕ). passes k (counts_in (own_list xs ns ts rs r i) v)) h.first_is) (ap (λ (k : ℕ). passes k (static_counts (own_list xs ns ts rs r i))) h.first_is) (ap (λ (k : ℕ). is_fixed k (own_list xs ns ts rs r i)) h.first_is)
  mark_means (counted opens n closes) i size p t names w l h rows st b e ok =
      let right = ok.0
      in let list = counts_list rule ts i names b e n t h.own_from_is h.own_end_is rows right (counts_uses n (sign Kind.CloseBrace closes ∷ w) (past st))
      in repetition_means P xs ns ts rs r i numbered (counted opens n closes) h.kind_is
      (λ v p.
      let m = rule.measured v p
      in ap₂ (λ (k : ℕ) (l : List WordTerm). passes k (counts_in l v)) h.first_is list
      ∙ counts_answers numbered widest v m.sizes m.inside n (all_wide numbered widest m.sizes whole m.wide m.known (terms_of (counts_parts n)) right.owned) (all_known numbered widest m.sizes whole m.wide m.known (terms_of (counts_parts n)) right.owned) right.small)
      (ap₂ (λ (k : ℕ) (l : List WordTerm). passes k (static_counts l)) h.first_is list ∙ counts_static numbered widest n right.small)
      (ap₂ (λ (k : ℕ) (l : List WordTerm). is_fixed k l) h.first_is list ∙ form_is (counts_tree numbered n) ∙ exact_same numbered n)

  -- ---- variables that are bound before a node

  past_node : {i : ℕ} {row : NodeRow} {names : List Name} → Plain ns i row → Quiet row → Before xs ns a i names → Before xs ns a (suc i) names
  past_node {i} {row} {names} h q b =
      let like : Like ns i row = record { kind_like = h.kind_is; size_like = h.size_is; second_like = h.second_is; how_like = h.how_is }
      in subst (λ (k : ℕ). Before xs ns a k names) (let z : i + 1 ≡ suc i = omega arith in z) (before_node like q b)

  past_tree : {p : Part} {d : ℕ} (begun top : Bool) (x : Tree p d) (t : ℕ) (w : List Lexeme) {i q : ℕ} {names : List Name} → FirstAt ns i (node_rows begun x t) → Standing xs q (spell x w) → Before xs ns a i names
      → Before xs ns a (i + constructs begun x) (after_bound (pieces top x) names)
  past_tree begun top x t w {i} {names = names} h s b =
      subst (λ (k : ℕ). Before xs ns a (i + k) (after_bound (pieces top x) names)) (nodes_counted begun x t)
      (before_more (node_rows begun x t) (pieces top x) (bound_rows begun top x t w (first_like (node_rows begun x t) h) s) b)

  -- ---- a switch

  elim_cond : (c : Bool) (x y : Option ℕ) → elim c [ true ↦ x | false ↦ y ] ≡ cond c x y
  elim_cond true x y = refl
  elim_cond false x y = refl

  case_step : (v : Values) (i : ℕ) (l : List ℕ) (z : Bool) (o : Option ℕ) → is_default ns i ≡ false → list-true xs ns ts rs r v i ≡ z → first_true xs ns ts rs r v l ≡ o → first_true xs ns ts rs r v (i ∷ l) ≡ cond z (some i) o
  unfolding first_true
  case_step v i l z o d e f = (λ t. elim (d t) [ true ↦ some i | false ↦ elim (e t) [ true ↦ some i | false ↦ f t ] ]) ∙ elim_cond z (some i) o

  default_step : (v : Values) (i : ℕ) (l : List ℕ) → is_default ns i ≡ true → first_true xs ns ts rs r v (i ∷ l) ≡ some i
  unfolding first_true
  default_step v i l d = λ t. elim (d t) [ true ↦ some i | false ↦ elim (list-true xs ns ts rs r v i) [ true ↦ some i | false ↦ first_true xs ns ts rs r v l ] ]

  no_more_cases : (v : Values) → first_true xs ns ts rs r v [] ≡ none
  unfolding first_true
  no_more_cases v = refl

  cases_chosen : {d : ℕ} (x : Tree cases d) (i t : ℕ) (names : List Name) (w : List Lexeme) {q : ℕ} → NodesAt ns i (node_rows false x t) → RowsAt ts t (term_rows x) → Standing xs q (spell x w) → Before xs ns a i names → i + constructs false x ≤ end
      → Right P numbered widest rules whole names (pieces false x) → (v : Values) → P v → first_true xs ns ts rs r v (case_bodies i x) ≡ chosen numbered i x v
  unfolding Right node_rows term_rows spell constructs pieces case_bodies chosen
  cases_chosen (last_case c colon x close) i t names w h rows s b e ok v p =
      let k = t + length (tests_rows c [])
      in let at = case_at t k (node_rows false x k) (some_node false x k) h
      in case_step v i [] _ none (is_case ns i t (length (tests_rows c [])) at.0 at.1 (some_tests c [])) (condition_same rule ts i names b (omega (arith, nodes_counted false x k, some_node false x k)) c t at.0 at.1 (rows_left (tests_rows c []) (term_rows x) rows) ok.0 (tests_uses c (sign Kind.Colon colon ∷ spell x (sign Kind.Semicolon close ∷ w)) no_more s) v p) (no_more_cases v)
  cases_chosen (case_default c colon x close colon' y close') i t names w h rows s b e ok v p =
      let k = t + length (tests_rows c [])
      in let M = on_first t k (node_rows false x k)
      in let L = node_rows false y (t + length (tests_rows c [] ++ term_rows x))
      in let at = case_at t k (node_rows false x k) (some_node false x k) (nodes_left M L h)
      in let there : NodesAt ns (i + constructs false x) L = subst (λ (j : ℕ). NodesAt ns (i + j) L) (length_first t k (node_rows false x k) ∙ nodes_counted false x k) (nodes_right M L h)
      in let off = none_at y (t + length (tests_rows c [] ++ term_rows x)) tt there
      in case_step v i ((i + constructs false x) ∷ []) _ (some (i + constructs false x)) (is_case ns i t (length (tests_rows c [])) at.0 at.1 (some_tests c [])) (condition_same rule ts i names b (omega (arith, nodes_counted false x k, some_node false x k)) c t at.0 at.1 (rows_left (tests_rows c []) (term_rows x) (rows_left (tests_rows c [] ++ term_rows x) (term_rows y) rows)) ok.0 (tests_uses c (sign Kind.Colon colon ∷ spell x (sign Kind.Semicolon close ∷ sign Kind.Colon colon' ∷ spell y (sign Kind.Semicolon close' ∷ w))) no_more s) v p)
      (default_step v (i + constructs false x) [] (eq-eqb (condition_from ns (i + constructs false x)) (condition_end ns (i + constructs false x)) (off.0 ∙ sym off.1)))
  cases_chosen (case_cases c colon x close more) i t names w h rows s b e ok v p =
      let k = t + length (tests_rows c [])
      in let M = on_first t k (node_rows false x k)
      in let L = node_rows false more (t + length (tests_rows c [] ++ term_rows x))
      in let at = case_at t k (node_rows false x k) (some_node false x k) (nodes_left M L h)
      in let there : NodesAt ns (i + constructs false x) L = subst (λ (j : ℕ). NodesAt ns (i + j) L) (length_first t k (node_rows false x k) ∙ nodes_counted false x k) (nodes_right M L h)
      in case_step v i (case_bodies (i + constructs false x) more) _ _ (is_case ns i t (length (tests_rows c [])) at.0 at.1 (some_tests c [])) (condition_same rule ts i names b (omega (arith, nodes_counted false x k, some_node false x k)) c t at.0 at.1 (rows_left (tests_rows c []) (term_rows x) (rows_left (tests_rows c [] ++ term_rows x) (term_rows more) rows)) ok.0 (tests_uses c (sign Kind.Colon colon ∷ spell x (sign Kind.Semicolon close ∷ spell more w)) no_more s) v p)
      (cases_chosen more (i + constructs false x) (t + length (tests_rows c [] ++ term_rows x)) (after_bound (pieces false x) names) w there (rows_right (tests_rows c [] ++ term_rows x) (term_rows more) rows) (past (after_tree x (past (after_tests c s))))
      (past_tree false false x k (sign Kind.Semicolon close ∷ spell more w) (uncased t k (node_rows false x k) (whole_first M (nodes_left M L h))) (past (after_tests c s)) b) (omega arith)
      (right_two P numbered widest rules whole names (pieces false x) (pieces false more) ok.1) v p)

  -- ---- the walk

  two : {p q : Part} {d e : ℕ} (bx by : Bool) (i : ℕ) (x : Tree p d) (y : Tree q e) → AllMeant P xs ns ts rs r i (constructs_of body numbered bx i x)
      → AllMeant P xs ns ts rs r (i + constructs bx x) (constructs_of body numbered by (i + constructs bx x) y)
      → AllMeant P xs ns ts rs r i (constructs_of body numbered bx i x ++ constructs_of body numbered by (i + constructs bx x) y)
  two bx by i x y p q =
      meant_both P xs ns ts rs r i (constructs_of body numbered bx i x) (constructs_of body numbered by (i + constructs bx x) y) p
      (subst (λ (k : ℕ). AllMeant P xs ns ts rs r (i + k) (constructs_of body numbered by (i + constructs bx x) y)) (sym (as_counted body numbered bx i x)) q)

  -- what stands after a tree in a chain
  after : {p q : Part} {d e : ℕ} (x : Tree p d) (y : Tree q e) (by : Bool) (i t u : ℕ) → FirstAt ns i (node_rows false x t ++ node_rows by y u) → NodesAt ns (i + constructs false x) (node_rows by y u)
  after x y by i t u h = subst (λ (k : ℕ). NodesAt ns (i + k) (node_rows by y u)) (nodes_counted false x t) (first_right (node_rows false x t) (node_rows by y u) (some_node false x t) h)

  after_case : {p q : Part} {d e : ℕ} (x : Tree p d) (y : Tree q e) (f g i t u : ℕ) → FirstAt ns i (on_first f g (node_rows false x t) ++ node_rows false y u) → NodesAt ns (i + constructs false x) (node_rows false y u)
  after_case x y f g i t u h =
      let M = on_first f g (node_rows false x t)
      in subst (λ (k : ℕ). NodesAt ns (i + k) (node_rows false y u)) (length_first f g (node_rows false x t) ∙ nodes_counted false x t) (first_right M (node_rows false y u) (omega (arith, length_first f g (node_rows false x t), some_node false x t)) h)

  pub walk : {p : Part} {d : ℕ} (top begun : Bool) (x : Tree p d) (i t : ℕ) (names : List Name) (w : List Lexeme) {q : ℕ} → FirstAt ns i (node_rows begun x t) → RowsAt ts t (term_rows x) → Standing xs q (spell x w) → Before xs ns a i names → i + constructs begun x ≤ end
      → Right P numbered widest rules whole names (pieces top x) → AllMeant P xs ns ts rs r i (constructs_of body numbered begun i x)
  unfolding AllMeant Right node_rows term_rows spell constructs pieces constructs_of
  walk top begun (literal l) i t names w (first_then h more) rows s b e ok = (literal_means P xs ns ts rs r i l.characters h.kind_is (ap (characters_at xs) h.place_is ∙ shown s), no_uint xs ns ts rs r i 6 h.kind_is (λ z. omega arith), tt)
  walk top begun (range c g z one one') i t names w (first_then h more) rows s b e ok =
      (range_means P xs ns ts rs r i (get_or c.characters 0 0) (get_or z.characters 0 0) h.kind_is (ap (λ (k : ℕ). get_or (characters_at xs k) 0 0) h.place_is ∙ ap (λ (k : List ℕ). get_or k 0 0) (shown s)) (ap (λ (k : ℕ). get_or (characters_at xs k) 0 0) h.first_is ∙ ap (λ (k : List ℕ). get_or k 0 0) (shown (past (past s)))), no_uint xs ns ts rs r i 7 h.kind_is (λ z. omega arith), tt)
  walk top begun (field signed depth u opens n comma x closes) i t names w (first_then h more) rows s b e ok =
      let uses = set_uses x (sign Kind.CloseParen closes ∷ w) no_more (past (past (past (past s))))
      in let below : i < end = omega arith
      in let wide : width_of xs ns i ≡ n.value = width_is i n.start n.value h.first_is (shown (past (past s))) ok.0
      in let sign : is_signed xs ns i ≡ signed = ap (λ (k : ℕ). eqb (get_or xs k 0) 115) h.place_is ∙ flagged signed s
      in let static = set_first rule ts i names b below x t h.own_from_is h.own_end_is rows ok.1.0 uses
      in let free : is_binder ns i ≡ false = ap₂ (λ (k j : ℕ). eqb k 8 && not (eqb j 0)) h.kind_is h.how_is
      in (
        uint_means P xs ns ts rs r i numbered signed n x (λ v k. v) h.kind_is sign wide (set_same rule ts i names b below x t h.own_from_is h.own_end_is rows ok.1.0 uses) static
            (λ v k. ap (λ (c : Bool). cond c (set v (binders_before ns i) k) v) free) (λ v bits l p. p),
        (h.kind_is, wide, static, sign),
        tt,
      )
  walk top begun (binder {d} signed depth u opens n comma v opens' x comma' y closes closes') i t names w (first_then h more) rows s b e ok =
      let uses = set_uses y (sign Kind.CloseParen closes ∷ sign Kind.CloseParen closes' ∷ w) no_more (past (past (past (past (past (past (past (past s))))))))
      in let below : i < end = omega arith
      in let wide : width_of xs ns i ≡ n.value = width_is i n.start n.value h.first_is (shown (past (past s))) (omega (arith, ok.0))
      in let sign : is_signed xs ns i ≡ signed = ap (λ (k : ℕ). eqb (get_or xs k 0) 115) h.place_is ∙ flagged signed s
      in let static = set_first rule ts i names b below y t h.own_from_is h.own_end_is rows ok.1.0 uses
      in let name : Here xs x = here (past (past (past (past (past (past s))))))
      in let bound : is_binder ns i ≡ true = ap₂ (λ (k j : ℕ). eqb k 8 && not (eqb j 0)) h.kind_is h.how_is ∙ bound_so (d + 1 + 1)
      in let this : binds xs ns x.start i ≡ true = ap₂ (λ (c : Bool) (k : ℕ). c && same_name xs k x.start) bound h.second_is ∙ same_here name name ∙ word_self x.letters
      in let number : binders_before ns i ≡ numbered x.letters = rule.binders i x name b.begins below (b.before x name ∙ ok.1.1.0) this
      in (
        uint_means P xs ns ts rs r i numbered signed n y (λ v k. set v (numbered x.letters) k) h.kind_is sign wide (set_same rule ts i names b below y t h.own_from_is h.own_end_is rows ok.1.0 uses) static
            (λ v k. ap₂ (λ (c : Bool) (j : ℕ). cond c (set v j k) v) bound number) (λ v bits l p. ok.1.1.1 v bits l p),
        (h.kind_is, wide, static, sign),
        tt,
      )
  walk top begun (rule_use x other) i t names w (first_then h more) rows s b e ok =
      (use_means P xs ns ts rs r i (body x.letters) h.kind_is (ap (λ (k : ℕ). first_node rs (rule_of xs rs r k)) h.place_is ∙ rule.bodies x (here s) ok.0), no_uint xs ns ts rs r i 5 h.kind_is (λ z. omega arith), tt)
  walk top begun (eod g) i t names w (first_then h more) rows s b e ok = (eod_means P xs ns ts rs r i h.kind_is, no_uint xs ns ts rs r i 9 h.kind_is (λ z. omega arith), tt)
  walk top begun (group depth opens x closes) i t names w h rows s b e ok = walk false false x i t names (sign Kind.CloseParen closes ∷ w) h rows (past s) b e ok
  walk top begun (switch depth opens x closes) i t names w (first_then h more) rows s b e ok =
      let b' = past_node h refl b
      in (
        switch_means P xs ns ts rs r i (λ v. chosen numbered (suc i) x v) (no_default x) (case_bodies (suc i) x) h.kind_is (parts_sized ns i (constructs false x) (case_bodies (suc i) x) h.size_is (case_parts x t (suc (constructs false x)) (omega arith) more)) (cases_optional x t more)
            (λ v p. cases_chosen x (suc i) t names (sign Kind.CloseBracket closes ∷ w) more rows (past s) b' (omega arith) ok v p),
        no_uint xs ns ts rs r i 4 h.kind_is (λ z. omega arith),
        walk false false x (suc i) t names (sign Kind.CloseBracket closes ∷ w) (whole_first (node_rows false x t) more) rows (past s) b' (omega arith) ok,
      )
  walk top begun (last_case c colon x close) i t names w h rows s b e ok =
      let k = t + length (tests_rows c [])
      in walk false false x i k names (sign Kind.Semicolon close ∷ w) (uncased t k (node_rows false x k) h) (rows_right (tests_rows c []) (term_rows x) rows) (past (after_tests c s)) b e ok.1
  walk top begun (case_default c colon x close colon' y close') i t names w h rows s b e ok =
      let k = t + length (tests_rows c [])
      in let u = t + length (tests_rows c [] ++ term_rows x)
      in let M = on_first t k (node_rows false x k)
      in let first = uncased t k (node_rows false x k) (first_left M (node_rows false y u) h)
      in let w' = sign Kind.Semicolon close ∷ sign Kind.Colon colon' ∷ spell y (sign Kind.Semicolon close' ∷ w)
      in two false false i x y
      (walk false false x i k names w' first (rows_right (tests_rows c []) (term_rows x) (rows_left (tests_rows c [] ++ term_rows x) (term_rows y) rows)) (past (after_tests c s)) b (omega arith) (right_one P numbered widest rules whole names (pieces false x) (pieces false y) ok.1))
      (walk false false y (i + constructs false x) u (after_bound (pieces false x) names) (sign Kind.Semicolon close' ∷ w) (whole_first (node_rows false y u) (after_case x y t k i k u h)) (rows_right (tests_rows c [] ++ term_rows x) (term_rows y) rows) (past (past (after_tree x (past (after_tests c s)))))
      (past_tree false false x k w' first (past (after_tests c s)) b) (omega arith) (right_two P numbered widest rules whole names (pieces false x) (pieces false y) ok.1))
  walk top begun (case_cases c colon x close y) i t names w h rows s b e ok =
      let k = t + length (tests_rows c [])
      in let u = t + length (tests_rows c [] ++ term_rows x)
      in let M = on_first t k (node_rows false x k)
      in let first = uncased t k (node_rows false x k) (first_left M (node_rows false y u) h)
      in let w' = sign Kind.Semicolon close ∷ spell y w
      in two false false i x y
      (walk false false x i k names w' first (rows_right (tests_rows c []) (term_rows x) (rows_left (tests_rows c [] ++ term_rows x) (term_rows y) rows)) (past (after_tests c s)) b (omega arith) (right_one P numbered widest rules whole names (pieces false x) (pieces false y) ok.1))
      (walk false false y (i + constructs false x) u (after_bound (pieces false x) names) w (whole_first (node_rows false y u) (after_case x y t k i k u h)) (rows_right (tests_rows c [] ++ term_rows x) (term_rows y) rows) (past (after_tree x (past (after_tests c s))))
      (past_tree false false x k w' first (past (after_tests c s)) b) (omega arith) (right_two P numbered widest rules whole names (pieces false x) (pieces false y) ok.1))
  walk top begun (once x) i t names w h rows s b e ok = walk top false x i t names w h rows s b e ok
  walk top begun (repeated x m) i t names w (first_then h more) rows s b e ok = (
    mark_means m i (suc (constructs false x)) (start_of x) (t + length (term_rows x)) names w (pieces false x) h (rows_right (term_rows x) (mark_rows m) rows) (after_tree x s) b (omega arith) ok,
    no_uint xs ns ts rs r i 3 (h.kind_is ∙ mark_kind m (suc (constructs false x)) (start_of x) (t + length (term_rows x))) (λ z. omega arith),
    walk false false x (suc i) t names (spell_mark m w) (whole_first (node_rows false x t) more) (rows_left (term_rows x) (mark_rows m) rows) s (past_node h (mark_quiet m (suc (constructs false x)) (start_of x) (t + length (term_rows x))) b) (omega arith) (right_marked P numbered widest rules whole names m (pieces false x) ok),
  )
  walk top begun (last_member x) i t names w h rows s b e ok = walk top false x i t names w h rows s b e ok
  walk top false (and_members x g y) i t names w (first_then h more) rows s b e ok =
      let u = t + length (term_rows x)
      in let b' = past_node h refl b
      in let both = whole_first (node_rows false x t ++ node_rows true y u) more
      in let first = first_left (node_rows false x t) (node_rows true y u) both
      in (
        concatenation_means P xs ns ts rs r i (members (suc i) (and_members x g y)) h.kind_is (parts_sized ns i (constructs false x + constructs true y) (members (suc i) (and_members x g y)) h.size_is (member_parts (and_members x g y) t (suc (constructs false x + constructs true y)) (omega arith) more)),
        no_uint xs ns ts rs r i 2 h.kind_is (λ z. omega arith),
        two false true (suc i) x y (walk top false x (suc i) t names (sign Kind.Ampersand g ∷ spell y w) first (rows_left (term_rows x) (term_rows y) rows) s b' (omega arith) (right_one P numbered widest rules whole names (pieces top x) (pieces top y) ok))
            (walk top true y (suc i + constructs false x) u (after_bound (pieces top x) names) w (whole_first (node_rows true y u) (after x y true (suc i) t u both)) (rows_right (term_rows x) (term_rows y) rows) (past (after_tree x s)) (past_tree false top x t (sign Kind.Ampersand g ∷ spell y w) first s b') (omega arith) (right_two P numbered widest rules whole names (pieces top x) (pieces top y) ok)),
      )
  walk top true (and_members x g y) i t names w h rows s b e ok =
      let u = t + length (term_rows x)
      in let first = first_left (node_rows false x t) (node_rows true y u) h
      in two false true i x y (walk top false x i t names (sign Kind.Ampersand g ∷ spell y w) first (rows_left (term_rows x) (term_rows y) rows) s b (omega arith) (right_one P numbered widest rules whole names (pieces top x) (pieces top y) ok))
      (walk top true y (i + constructs false x) u (after_bound (pieces top x) names) w (whole_first (node_rows true y u) (after x y true i t u h)) (rows_right (term_rows x) (term_rows y) rows) (past (after_tree x s)) (past_tree false top x t (sign Kind.Ampersand g ∷ spell y w) first s b) (omega arith) (right_two P numbered widest rules whole names (pieces top x) (pieces top y) ok))
  walk top begun (last_branch x) i t names w h rows s b e ok = walk top false x i t names w h rows s b e ok
  walk top false (or_branches x g y) i t names w (first_then h more) rows s b e ok =
      let u = t + length (term_rows x)
      in let b' = past_node h refl b
      in let both = whole_first (node_rows false x t ++ node_rows true y u) more
      in let first = first_left (node_rows false x t) (node_rows true y u) both
      in (
        alternative_means P xs ns ts rs r i (branches (suc i) (or_branches x g y)) h.kind_is (parts_sized ns i (constructs false x + constructs true y) (branches (suc i) (or_branches x g y)) h.size_is (branch_parts (or_branches x g y) t (suc (constructs false x + constructs true y)) (omega arith) more)),
        no_uint xs ns ts rs r i 1 h.kind_is (λ z. omega arith),
        two false true (suc i) x y (walk false false x (suc i) t names (sign Kind.Bar g ∷ spell y w) first (rows_left (term_rows x) (term_rows y) rows) s b' (omega arith) (right_one P numbered widest rules whole names (pieces false x) (pieces false y) ok))
            (walk false true y (suc i + constructs false x) u (after_bound (pieces false x) names) w (whole_first (node_rows true y u) (after x y true (suc i) t u both)) (rows_right (term_rows x) (term_rows y) rows) (past (after_tree x s)) (past_tree false false x t (sign Kind.Bar g ∷ spell y w) first s b') (omega arith) (right_two P numbered widest rules whole names (pieces false x) (pieces false y) ok)),
      )
  walk top true (or_branches x g y) i t names w h rows s b e ok =
      let u = t + length (term_rows x)
      in let first = first_left (node_rows false x t) (node_rows true y u) h
      in two false true i x y (walk false false x i t names (sign Kind.Bar g ∷ spell y w) first (rows_left (term_rows x) (term_rows y) rows) s b (omega arith) (right_one P numbered widest rules whole names (pieces false x) (pieces false y) ok))
      (walk false true y (i + constructs false x) u (after_bound (pieces false x) names) w (whole_first (node_rows true y u) (after x y true i t u h)) (rows_right (term_rows x) (term_rows y) rows) (past (after_tree x s)) (past_tree false false x t (sign Kind.Bar g ∷ spell y w) first s b) (omega arith) (right_two P numbered widest rules whole names (pieces false x) (pieces false y) ok))
