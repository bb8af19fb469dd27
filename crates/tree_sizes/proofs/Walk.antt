-- What refusal 8 finds in the lists of a rule's nodes, up to a place p, is what the tree says of the rule's formulas: one walk over the rule's tree.
-- Assumes nothing.
use Prim.Native.Nat.{ℕ, suc, ◌+◌, ◌≤◌, ◌<◌}
use mathlib.Core.Path.{◌≡◌, refl, sym, ap, ap₂, subst, ◌∙◌}
use mathlib.Core.Logic.Iff
use mathlib.Core.Logic.{◌⊎◌, inl, ⊎_elim, ◌↔◌}
use mathlib.Core.Bool.{Bool, true, false, cond, not, ◌&&◌}
use mathlib.Core.List.{List, [], ◌∷◌, ◌++◌}
use native.Mathlib.Omega.{arith}
use lib.Dec.{eqb}
use lib.ListN.{length}
use Rattle.text_tokens.specs.declared.Kind.{Kind}
use Rattle.tree.specs.Lexemes.{Name, Lexeme, sign, place_of}
use Rattle.tree.specs.Tree.{Mark, optional, any_number, one_or_more, counted, Part, expression, concatenation, factor, atom, cases, Tree, literal, range, field, binder, rule_use, eod, group, switch, last_case, case_default, case_cases, once, repeated, last_member, and_members, last_branch, or_branches}
use Rattle.tree.specs.Spelling.{spell, spell_mark}
use Rattle.tree_form.specs.Stored.{start_of}
use Rattle.tree_meaning.specs.Pieces.{counts_parts, set_parts, tests_parts, Piece, use_of_rule, formula, mark_pieces, pieces}
use Rattle.tree_meaning.specs.Counted.{constructs}
use Rattle.tree_meaning.specs.Sizes.{calculation_faults}
use Rattle.tree_store.proofs.Rows.{NodeRow, on_first, tests_rows, mark_rows, term_rows, mark_row, node_rows}
use Rattle.tree_store.proofs.Lengths.{length_first, nodes_counted, some_node}
use Rattle.tree_store.proofs.Standing.{Standing, stands, past, shown, after_tests, after_mark as mark-passed, after_set, after_tree}
use Rattle.tree_store.proofs.Spots.{Like}
use Rattle.tree_store.proofs.Binding.{after_bound, Quiet, mark_quiet, bound_rows, Before, before_node, before_more}
use Rattle.tree_store.proofs.Naming.{PlainFor, plain}
use Rattle.tree_store.proofs.Rowed.{NodesAt, no_nodes, node_then, nodes_left, nodes_right}
use Rattle.tree_grammar.proofs.Lists.{RowsAt, rows_left, rows_right}
use Rattle.tree_grammar.proofs.Firsts.{Plain, FirstAt, first_then, whole_first, uncased, first_left, first_right, first_like, case_at}
use Rattle.tree_sizes.proofs.Hits.{either, dropped, Hit, Hits, hits_both}
use Rattle.tree_sizes.proofs.Gathered.{sizes_of, gathered, gathered_both}
use Rattle.tree_sizes.proofs.NodeLists.{Ruled, own_at, Settled, condition_hit, counts_hit, set_hit, no_own_hit, no_condition_hit}
use Rattle.tree_sizes.proofs.Nodes.{NodesHit, FirstHit, nodes_two, first_two, cased, unconditioned}
use Rattle.tree_sizes.proofs.Ready.{Ready, ready_one, ready_two, ready_marked, settled_on, settled_more, after_append, after_mark}

-- what stands behind a token, from it on
after_token : {xs : List ℕ} {q : ℕ} {l : Lexeme} {ls : List Lexeme} → Standing xs q (l ∷ ls) → (q ≤ place_of l) × Standing xs (place_of l) ls
after_token (stands b c d more) = (b, more)

-- ---- a rule's tree

module _ (p : ℕ) {xs ns ts rs ws : List ℕ} {n r : ℕ} {numbered : List ℕ → ℕ} {a end : ℕ} (rule : Ruled xs ns ts rs ws n r numbered a end) (widest : List ℕ → ℕ) where
  -- nodes of a part: of cases with the first one's condition, of all others without
  abbrev AtPart : Part → ℕ → List NodeRow → Type 0
  AtPart expression i M = FirstAt ns i M
  AtPart concatenation i M = FirstAt ns i M
  AtPart factor i M = FirstAt ns i M
  AtPart atom i M = FirstAt ns i M
  AtPart cases i M = NodesAt ns i M

  abbrev HitPart : Part → ℕ → List NodeRow → Type 0
  HitPart expression i M = FirstHit p ns ts ws i M
  HitPart concatenation i M = FirstHit p ns ts ws i M
  HitPart factor i M = FirstHit p ns ts ws i M
  HitPart atom i M = FirstHit p ns ts ws i M
  HitPart cases i M = NodesHit p ns ts ws i M

  -- what is found is the tree's; and what stands behind it, with the names that are bound there
  pub record Walked (q : Part) (i : ℕ) (M : List NodeRow) (l : List Piece) (names : List Name) (w : List Lexeme) : Type 0 where
    pub same : HitPart q i M ↔ Hits p (gathered (sizes_of widest) l)
    pub mid : ℕ
    pub left : Standing xs mid w
    pub settled : Settled p ws numbered widest mid (after_bound l names)

  -- ---- variables that are bound before a node

  past_node : {i : ℕ} {row : NodeRow} {names : List Name} → Plain ns i row → Quiet row → Before xs ns a i names → Before xs ns a (suc i) names
  past_node {i} {row} {names} h q b =
      let like : Like ns i row = record { kind_like = h.kind_is; size_like = h.size_is; second_like = h.second_is; how_like = h.how_is }
      in subst (λ (k : ℕ). Before xs ns a k names) (let z : i + 1 ≡ suc i = omega arith in z) (before_node like q b)

  past_tree : {q : Part} {d : ℕ} (begun top : Bool) (x : Tree q d) (t : ℕ) (w : List Lexeme) {i m : ℕ} {names : List Name} → FirstAt ns i (node_rows begun x t) → Standing xs m (spell x w) → Before xs ns a i names
      → Before xs ns a (i + constructs begun x) (after_bound (pieces top x) names)
  past_tree begun top x t w {i} {names = names} h s b =
      subst (λ (k : ℕ). Before xs ns a (i + k) (after_bound (pieces top x) names)) (nodes_counted begun x t)
      (before_more (node_rows begun x t) (pieces top x) (bound_rows begun top x t w (first_like (node_rows begun x t) h) s) b)

  -- what stands after a tree in a chain
  after : {q q' : Part} {d e : ℕ} (x : Tree q d) (y : Tree q' e) (by : Bool) (i t u : ℕ) → FirstAt ns i (node_rows false x t ++ node_rows by y u) → NodesAt ns (i + constructs false x) (node_rows by y u)
  after x y by i t u h = subst (λ (k : ℕ). NodesAt ns (i + k) (node_rows by y u)) (nodes_counted false x t) (first_right (node_rows false x t) (node_rows by y u) (some_node false x t) h)

  -- ---- nodes without a condition or a list

  -- a tree's first node has no condition, but in a case
  pub bare : (i : ℕ) (M : List NodeRow) → i < n → NodesAt ns i M → PlainFor expression M → NodesHit p ns ts ws i M ↔ FirstHit p ns ts ws i M
  bare i [] l no_nodes c = absurd c
  bare i (x ∷ M) l (node_then h more) c = unconditioned p ns ts ws i (x ∷ M) (no_condition_hit p rule widest i l (h.case_from_is ∙ c.0) (h.case_end_is ∙ c.1))

  quiet : {i : ℕ} {row : NodeRow} → i < n → Plain ns i row → eqb row.kind 8 ≡ false → row.kind < 10 → (row.kind ≡ 3 → row.first < 4) → Hit p (own_at ns ts ws i) → ⊥
  quiet {i} {row} l h e k m =
      no_own_hit p rule widest i l (ap (λ (j : ℕ). eqb j 8) h.kind_is ∙ e) (omega (arith, k, h.kind_is)) (λ z. omega (arith, m (sym h.kind_is ∙ z), h.first_is))

  -- a node alone that has no list
  leaf : {i : ℕ} {row : NodeRow} {names : List Name} {w : List Lexeme} {m : ℕ} (l : List Piece) → gathered (sizes_of widest) l ≡ [] → after_bound l names ≡ names → i < n → Plain ns i row → eqb row.kind 8 ≡ false → row.kind < 10 → (row.kind ≡ 3 → row.first < 4)
      → Standing xs m w → Settled p ws numbered widest m names → Walked atom i (row ∷ []) l names w
  unfolding NodesHit FirstHit Hits
  leaf {m = m} l g b below h e k f s settled =
      record {
        same = (λ x. ⊎_elim (λ y. absurd (quiet below h e k f y)) (λ (y : ⊥). absurd y) x, λ x. absurd (subst (Hits p) g x));
        mid = m;
        left = s;
        settled = subst (Settled p ws numbered widest m) (sym b) settled;
      }

  -- a formula alone
  alone : {A : Type 0} (l : List ℕ) → A ↔ Hits p l → (A ⊎ ⊥) ↔ Hits p (l ++ [])
  unfolding Hits
  alone l f = hits_both p l [] f (λ z. z, λ z. z)

  -- ---- a repetition's mark, whose item is settled up to q

  mark_hit : (m : Mark) (i size o t : ℕ) (names : List Name) (w : List Lexeme) {q : ℕ} (l : List Piece) → Plain ns i (mark_row m size o t) → RowsAt ts t (mark_rows m) → Standing xs q (spell_mark m w) → Before xs ns a i names → i < end → 2 ≤ size → i + size ≤ n
      → Ready p ws numbered widest names (mark_pieces m ++ l) → Settled p ws numbered widest q names → Hit p (own_at ns ts ws i) ↔ Hits p (gathered (sizes_of widest) (mark_pieces m))
  unfolding Ready mark_rows spell_mark gathered Hits
  mark_hit (optional s) i size o t names w l h rows st b e two inside ok settled = (λ x. quiet (omega (arith, rule.inside)) h refl (omega arith) (λ z. omega arith) x, λ x. absurd x)
  mark_hit (any_number s) i size o t names w l h rows st b e two inside ok settled = (λ x. quiet (omega (arith, rule.inside)) h refl (omega arith) (λ z. omega arith) x, λ x. absurd x)
  mark_hit (one_or_more s) i size o t names w l h rows st b e two inside ok settled = (λ x. quiet (omega (arith, rule.inside)) h refl (omega arith) (λ z. omega arith) x, λ x. absurd x)
  mark_hit (counted opens k closes) i size o t names w {q} l h rows st b e two inside ok settled =
      let F = calculation_faults widest (counts_parts k) in
      let c = counts_hit p rule widest i names b e q settled k t (sign Kind.CloseBrace closes ∷ w) h.own_from_is h.own_end_is rows (past st) ok.0 h.kind_is h.first_is (omega (arith, h.size_is, two)) (omega (arith, h.size_is, inside)) in
      let f = alone F c in
      (λ x. f.0 (inl x), λ x. ⊎_elim (λ y. y) (λ (y : ⊥). absurd y) (f.1 x))

  -- ---- two trees one after the other

  two : {A B : Type 0} (l m : List Piece) (names : List Name) {w : List Lexeme} (q : Part) (i : ℕ) (M : List NodeRow) → A ↔ Hits p (gathered (sizes_of widest) l) → B ↔ Hits p (gathered (sizes_of widest) m) → HitPart q i M ↔ (A ⊎ B)
      → (mid : ℕ) → Standing xs mid w → Settled p ws numbered widest mid (after_bound m (after_bound l names)) → Walked q i M (l ++ m) names w
  two l m names q i M f g e mid s c =
      record { same = Iff.trans e (gathered_both p (sizes_of widest) l m f g); mid = mid; left = s; settled = subst (Settled p ws numbered widest mid) (sym (after_append l m names)) c }

  -- nodes that begin at the number that constructs are counted to
  counted_to : {q : Part} {d : ℕ} (x : Tree q d) (t i : ℕ) (L : List NodeRow) → NodesHit p ns ts ws (i + length (node_rows false x t)) L ↔ NodesHit p ns ts ws (i + constructs false x) L
  counted_to x t i L = let z = nodes_counted false x t in (λ h. subst (λ (k : ℕ). NodesHit p ns ts ws (i + k) L) z h, λ h. subst (λ (k : ℕ). NodesHit p ns ts ws (i + k) L) (sym z) h)

  moved : (i j : ℕ) (L : List NodeRow) → i ≡ j → NodesHit p ns ts ws i L ↔ NodesHit p ns ts ws j L
  moved i j L e = (λ h. subst (λ (k : ℕ). NodesHit p ns ts ws k L) e h, λ h. subst (λ (k : ℕ). NodesHit p ns ts ws k L) (sym e) h)

  -- a node binds, by its words
  abbrev binds_by : ℕ → ℕ → Bool
  binds_by kind how = eqb kind 8 && not (eqb how 0)

  bound_so : (c : Bool) → binds_by 8 (cond c 1 2) ≡ true
  bound_so true = refl
  bound_so false = refl

  -- ---- the walk

  -- every part of a rule's tree
  pub walk : {q : Part} {d : ℕ} (top begun : Bool) (x : Tree q d) (i t : ℕ) (names : List Name) (w : List Lexeme) {m : ℕ} → AtPart q i (node_rows begun x t) → RowsAt ts t (term_rows x) → Standing xs m (spell x w) → Before xs ns a i names
      → i + constructs begun x ≤ end → Ready p ws numbered widest names (pieces top x) → Settled p ws numbered widest m names → Walked q i (node_rows begun x t) (pieces top x) names w
  unfolding node_rows term_rows spell constructs pieces Ready gathered after_bound NodesHit FirstHit
  walk top begun (literal l) i t names w (first_then h more) rows s b e ok settled = leaf [] refl refl (omega (arith, rule.inside)) h refl (omega arith) (λ z. omega arith) (past s) settled
  walk top begun (range c g z one one') i t names w (first_then h more) rows s b e ok settled = leaf [] refl refl (omega (arith, rule.inside)) h refl (omega arith) (λ z. omega arith) (past (past (past s))) settled
  walk top begun (field signed depth u opens k comma x closes) i t names w {m} (first_then h more) rows s b e ok settled =
      let st = after_token (past (past s)) in
      let set = past st.1 in
      let on = settled_on p ws numbered widest m k.start names st.0 settled in
      record {
        same = alone (calculation_faults widest (set_parts x)) (set_hit p rule widest i names b (omega arith) k.start on x t k (sign Kind.CloseParen closes ∷ w) h.own_from_is h.own_end_is rows set ok.1.0 false (ap₂ binds_by h.kind_is h.how_is) h.kind_is h.size_is h.first_is (shown (past (past s))) (omega arith) ok.0);
        mid = k.start;
        left = past (after_set x set);
        settled = on;
      }
  walk top begun (binder {d} signed depth u opens k comma v opens' x comma' y closes closes') i t names w {m} (first_then h more) rows s b e ok settled =
      let st = after_token (past (past s)) in
      let set = past (past (past (past (past st.1)))) in
      let on = settled_on p ws numbered widest m k.start names st.0 settled in
      record {
        same = alone (calculation_faults widest (set_parts y)) (set_hit p rule widest i names b (omega arith) k.start on y t k (sign Kind.CloseParen closes ∷ sign Kind.CloseParen closes' ∷ w) h.own_from_is h.own_end_is rows set ok.1.0 true (ap₂ binds_by h.kind_is h.how_is ∙ bound_so (eqb (d + 1 + 1) 2)) h.kind_is h.size_is h.first_is (shown (past (past s))) (omega arith) ok.0);
        mid = k.start;
        left = past (past (after_set y set));
        settled = settled_more p ws numbered widest k.start names x k ok.1.1.0 (omega arith) ok.0 on;
      }
  walk top begun (rule_use x other) i t names w (first_then h more) rows s b e ok settled = leaf (use_of_rule x ∷ []) refl refl (omega (arith, rule.inside)) h refl (omega arith) (λ z. omega arith) (past s) settled
  walk top begun (eod g) i t names w (first_then h more) rows s b e ok settled = leaf [] refl refl (omega (arith, rule.inside)) h refl (omega arith) (λ z. omega arith) (past s) settled
  walk top begun (group depth opens x closes) i t names w h rows s b e ok settled =
      let r = walk false false x i t names (sign Kind.CloseParen closes ∷ w) h rows (past s) b e ok settled in record { same = r.same; mid = r.mid; left = past r.left; settled = r.settled }
  walk top begun (switch depth opens x closes) i t names w (first_then h more) rows s b e ok settled =
      let r = walk false false x (suc i) t names (sign Kind.CloseBracket closes ∷ w) more rows (past s) (past_node h refl b) (omega arith) ok settled in
      record { same = dropped (quiet (omega (arith, rule.inside)) h refl (omega arith) (λ z. omega arith)) r.same; mid = r.mid; left = past r.left; settled = r.settled }
  walk top begun (last_case c colon x close) i t names w {m} h rows s b e ok settled =
      let k = t + length (tests_rows c []) in
      let M = node_rows false x k in
      let at = case_at t k M (some_node false x k) h in
      let f = condition_hit p rule widest i names b (omega (arith, nodes_counted false x k, some_node false x k)) m settled c t (sign Kind.Colon colon ∷ spell x (sign Kind.Semicolon close ∷ w)) at.0 at.1 (rows_left (tests_rows c []) (term_rows x) rows) s ok.0 in
      let r = walk false false x i k names (sign Kind.Semicolon close ∷ w) (uncased t k M (whole_first (on_first t k M) h)) (rows_right (tests_rows c []) (term_rows x) rows) (past (after_tests c s)) b e ok.1 settled in
      record {
        same = Iff.trans (cased p ns ts ws i t k M (some_node false x k)) (hits_both p (calculation_faults widest (tests_parts c)) (gathered (sizes_of widest) (pieces false x)) f r.same);
        mid = r.mid;
        left = past r.left;
        settled = r.settled;
      }
  walk top begun (case_default c colon x close colon' y close') i t names w {m} h rows s b e ok settled =
      let k = t + length (tests_rows c []) in
      let u = t + length (tests_rows c [] ++ term_rows x) in
      let X = node_rows false x k in
      let M = on_first t k X in
      let L = node_rows false y u in
      let rest = sign Kind.Colon colon' ∷ spell y (sign Kind.Semicolon close' ∷ w) in
      let at = case_at t k X (some_node false x k) (nodes_left M L h) in
      let first = uncased t k X (whole_first M (nodes_left M L h)) in
      let there : NodesAt ns (i + constructs false x) L = subst (λ (j : ℕ). NodesAt ns (i + j) L) (length_first t k X ∙ nodes_counted false x k) (nodes_right M L h) in
      let front = rows_left (tests_rows c [] ++ term_rows x) (term_rows y) rows in
      let f = condition_hit p rule widest i names b (omega (arith, nodes_counted false x k, some_node false x k)) m settled c t (sign Kind.Colon colon ∷ spell x (sign Kind.Semicolon close ∷ rest)) at.0 at.1 (rows_left (tests_rows c []) (term_rows x) front) s ok.0 in
      let r = walk false false x i k names (sign Kind.Semicolon close ∷ rest) first (rows_right (tests_rows c []) (term_rows x) front) (past (after_tests c s)) b (omega arith) (ready_one p ws numbered widest names (pieces false x) (pieces false y) ok.1) settled in
      let r' = walk false false y (i + constructs false x) u (after_bound (pieces false x) names) (sign Kind.Semicolon close' ∷ w) (whole_first L there) (rows_right (tests_rows c [] ++ term_rows x) (term_rows y) rows) (past (past r.left))
      (past_tree false false x k (sign Kind.Semicolon close ∷ rest) first (past (after_tests c s)) b) (omega arith) (ready_two p ws numbered widest names (pieces false x) (pieces false y) ok.1) r.settled in
      two (formula (tests_parts c) ∷ pieces false x) (pieces false y) names cases i (M ++ L)
      (Iff.trans (cased p ns ts ws i t k X (some_node false x k)) (hits_both p (calculation_faults widest (tests_parts c)) (gathered (sizes_of widest) (pieces false x)) f r.same))
      (Iff.trans (bare (i + constructs false x) L (omega (arith, rule.inside, nodes_counted false y u, some_node false y u)) there (plain false y u)) r'.same)
      (Iff.trans (nodes_two p ns ts ws i M L) (either Iff.rfl (moved (i + length M) (i + constructs false x) L (ap (λ (j : ℕ). i + j) (length_first t k X ∙ nodes_counted false x k)))))
      r'.mid (past r'.left) r'.settled
  walk top begun (case_cases c colon x close y) i t names w {m} h rows s b e ok settled =
      let k = t + length (tests_rows c []) in
      let u = t + length (tests_rows c [] ++ term_rows x) in
      let X = node_rows false x k in
      let M = on_first t k X in
      let L = node_rows false y u in
      let rest = spell y w in
      let at = case_at t k X (some_node false x k) (nodes_left M L h) in
      let first = uncased t k X (whole_first M (nodes_left M L h)) in
      let there : NodesAt ns (i + constructs false x) L = subst (λ (j : ℕ). NodesAt ns (i + j) L) (length_first t k X ∙ nodes_counted false x k) (nodes_right M L h) in
      let front = rows_left (tests_rows c [] ++ term_rows x) (term_rows y) rows in
      let f = condition_hit p rule widest i names b (omega (arith, nodes_counted false x k, some_node false x k)) m settled c t (sign Kind.Colon colon ∷ spell x (sign Kind.Semicolon close ∷ rest)) at.0 at.1 (rows_left (tests_rows c []) (term_rows x) front) s ok.0 in
      let r = walk false false x i k names (sign Kind.Semicolon close ∷ rest) first (rows_right (tests_rows c []) (term_rows x) front) (past (after_tests c s)) b (omega arith) (ready_one p ws numbered widest names (pieces false x) (pieces false y) ok.1) settled in
      let r' = walk false false y (i + constructs false x) u (after_bound (pieces false x) names) w there (rows_right (tests_rows c [] ++ term_rows x) (term_rows y) rows) (past r.left)
      (past_tree false false x k (sign Kind.Semicolon close ∷ rest) first (past (after_tests c s)) b) (omega arith) (ready_two p ws numbered widest names (pieces false x) (pieces false y) ok.1) r.settled in
      two (formula (tests_parts c) ∷ pieces false x) (pieces false y) names cases i (M ++ L)
      (Iff.trans (cased p ns ts ws i t k X (some_node false x k)) (hits_both p (calculation_faults widest (tests_parts c)) (gathered (sizes_of widest) (pieces false x)) f r.same))
      r'.same
      (Iff.trans (nodes_two p ns ts ws i M L) (either Iff.rfl (moved (i + length M) (i + constructs false x) L (ap (λ (j : ℕ). i + j) (length_first t k X ∙ nodes_counted false x k)))))
      r'.mid r'.left r'.settled
  walk top begun (once x) i t names w h rows s b e ok settled =
      let r = walk top false x i t names w h rows s b e ok settled in record { same = r.same; mid = r.mid; left = r.left; settled = r.settled }
  walk top begun (repeated x k) i t names w {m} (first_then h more) rows s b e ok settled =
      let X = node_rows false x t in
      let some = some_node false x t in
      let count = nodes_counted false x t in
      let r = walk false false x (suc i) t names (spell_mark k w) (whole_first X more) (rows_left (term_rows x) (mark_rows k) rows) s (past_node h (mark_quiet k _ _ _) b) (omega arith) (ready_marked p ws numbered widest names k (pieces false x) ok) settled in
      let f = mark_hit k i (suc (constructs false x)) (start_of x) (t + length (term_rows x)) names w (pieces false x) h (rows_right (term_rows x) (mark_rows k) rows) (after_tree x s) b (omega arith) (omega (arith, some, count)) (omega (arith, rule.inside)) ok settled in
      record {
        same = gathered_both p (sizes_of widest) (mark_pieces k) (pieces false x) f (Iff.trans (bare (suc i) X (omega (arith, rule.inside, some, count)) more (plain false x t)) r.same);
        mid = r.mid;
        left = mark-passed k r.left;
        settled = subst (Settled p ws numbered widest r.mid) (sym (after_mark k (pieces false x) names)) r.settled;
      }
  walk top begun (last_member x) i t names w h rows s b e ok settled =
      let r = walk top false x i t names w h rows s b e ok settled in record { same = r.same; mid = r.mid; left = r.left; settled = r.settled }
  walk top false (and_members x g y) i t names w {m} (first_then h more) rows s b e ok settled =
      let u = t + length (term_rows x) in
      let X = node_rows false x t in
      let Y = node_rows true y u in
      let whole = whole_first (X ++ Y) more in
      let first = first_left X Y whole in
      let there = after x y true (suc i) t u whole in
      let b' = past_node h refl b in
      let r = walk top false x (suc i) t names (sign Kind.Ampersand g ∷ spell y w) first (rows_left (term_rows x) (term_rows y) rows) s b' (omega arith) (ready_one p ws numbered widest names (pieces top x) (pieces top y) ok) settled in
      let r' = walk top true y (suc i + constructs false x) u (after_bound (pieces top x) names) w (whole_first Y there) (rows_right (term_rows x) (term_rows y) rows) (past r.left) (past_tree false top x t (sign Kind.Ampersand g ∷ spell y w) first s b') (omega arith)
      (ready_two p ws numbered widest names (pieces top x) (pieces top y) ok) r.settled in
      two (pieces top x) (pieces top y) names concatenation i _
      (Iff.trans (bare (suc i) X (omega (arith, rule.inside, some_node false x t, nodes_counted false x t)) (nodes_left X Y more) (plain false x t)) r.same)
      (Iff.trans (bare (suc i + constructs false x) Y (omega (arith, rule.inside, some_node true y u, nodes_counted true y u)) there (plain true y u)) r'.same)
      (dropped (quiet (omega (arith, rule.inside)) h refl (omega arith) (λ z. omega arith)) (Iff.trans (nodes_two p ns ts ws (suc i) X Y) (either Iff.rfl (counted_to x t (suc i) Y))))
      r'.mid r'.left r'.settled
  walk top true (and_members x g y) i t names w {m} h rows s b e ok settled =
      let u = t + length (term_rows x) in
      let X = node_rows false x t in
      let Y = node_rows true y u in
      let first = first_left X Y h in
      let there = after x y true i t u h in
      let r = walk top false x i t names (sign Kind.Ampersand g ∷ spell y w) first (rows_left (term_rows x) (term_rows y) rows) s b (omega arith) (ready_one p ws numbered widest names (pieces top x) (pieces top y) ok) settled in
      let r' = walk top true y (i + constructs false x) u (after_bound (pieces top x) names) w (whole_first Y there) (rows_right (term_rows x) (term_rows y) rows) (past r.left) (past_tree false top x t (sign Kind.Ampersand g ∷ spell y w) first s b) (omega arith)
      (ready_two p ws numbered widest names (pieces top x) (pieces top y) ok) r.settled in
      two (pieces top x) (pieces top y) names concatenation i (X ++ Y) r.same (Iff.trans (bare (i + constructs false x) Y (omega (arith, rule.inside, some_node true y u, nodes_counted true y u)) there (plain true y u)) r'.same)
      (Iff.trans (first_two p ns ts ws i X Y (some_node false x t)) (either Iff.rfl (counted_to x t i Y))) r'.mid r'.left r'.settled
  walk top begun (last_branch x) i t names w h rows s b e ok settled =
      let r = walk top false x i t names w h rows s b e ok settled in record { same = r.same; mid = r.mid; left = r.left; settled = r.settled }
  walk top false (or_branches x g y) i t names w {m} (first_then h more) rows s b e ok settled =
      let u = t + length (term_rows x) in
      let X = node_rows false x t in
      let Y = node_rows true y u in
      let whole = whole_first (X ++ Y) more in
      let first = first_left X Y whole in
      let there = after x y true (suc i) t u whole in
      let b' = past_node h refl b in
      let r = walk false false x (suc i) t names (sign Kind.Bar g ∷ spell y w) first (rows_left (term_rows x) (term_rows y) rows) s b' (omega arith) (ready_one p ws numbered widest names (pieces false x) (pieces false y) ok) settled in
      let r' = walk false true y (suc i + constructs false x) u (after_bound (pieces false x) names) w (whole_first Y there) (rows_right (term_rows x) (term_rows y) rows) (past r.left) (past_tree false false x t (sign Kind.Bar g ∷ spell y w) first s b') (omega arith)
      (ready_two p ws numbered widest names (pieces false x) (pieces false y) ok) r.settled in
      two (pieces false x) (pieces false y) names expression i _
      (Iff.trans (bare (suc i) X (omega (arith, rule.inside, some_node false x t, nodes_counted false x t)) (nodes_left X Y more) (plain false x t)) r.same)
      (Iff.trans (bare (suc i + constructs false x) Y (omega (arith, rule.inside, some_node true y u, nodes_counted true y u)) there (plain true y u)) r'.same)
      (dropped (quiet (omega (arith, rule.inside)) h refl (omega arith) (λ z. omega arith)) (Iff.trans (nodes_two p ns ts ws (suc i) X Y) (either Iff.rfl (counted_to x t (suc i) Y))))
      r'.mid r'.left r'.settled
  walk top true (or_branches x g y) i t names w {m} h rows s b e ok settled =
      let u = t + length (term_rows x) in
      let X = node_rows false x t in
      let Y = node_rows true y u in
      let first = first_left X Y h in
      let there = after x y true i t u h in
      let r = walk false false x i t names (sign Kind.Bar g ∷ spell y w) first (rows_left (term_rows x) (term_rows y) rows) s b (omega arith) (ready_one p ws numbered widest names (pieces false x) (pieces false y) ok) settled in
      let r' = walk false true y (i + constructs false x) u (after_bound (pieces false x) names) w (whole_first Y there) (rows_right (term_rows x) (term_rows y) rows) (past r.left) (past_tree false false x t (sign Kind.Bar g ∷ spell y w) first s b) (omega arith)
      (ready_two p ws numbered widest names (pieces false x) (pieces false y) ok) r.settled in
      two (pieces false x) (pieces false y) names expression i (X ++ Y) r.same (Iff.trans (bare (i + constructs false x) Y (omega (arith, rule.inside, some_node true y u, nodes_counted true y u)) there (plain true y u)) r'.same)
      (Iff.trans (first_two p ns ts ws i X Y (some_node false x t)) (either Iff.rfl (counted_to x t i Y))) r'.mid r'.left r'.settled
