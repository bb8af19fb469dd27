-- Rows that a store's words are, and what each of the store's operations does to them. Counts hold past the limits too, words of nodes and terms within them.
-- Assumes nothing.
use Prim.Native.Nat.{ℕ, zero, suc, ◌+◌, ◌-◌, ◌≤◌, ◌<◌, min}
use mathlib.Core.Path.{◌≡◌, refl, sym, ap, subst, ◌∙◌}
use mathlib.Core.Logic.{⊎_elim, ◌≢◌}
use mathlib.Core.Bool.{true, false}
use mathlib.Core.List.{List, [], ◌∷◌, ◌++◌}
use native.Mathlib.Omega.{arith}
use borrow.Author.Tests.{ltb-true, ltb-false, eqb-true, eqb-false, leb-true, leb-false}
use lib.Dec.{eqb, ltb, leb}
use lib.ListN.{length, get_or, length-append, length-replicate, get_or-append}
use lib.Seq.{get_or-append-add, get_or-append_seam}
use Rattle.basis.proofs.Booleans.{which}
use Rattle.text_store.specs.Store.{State, state, blank, marked_tag, node_words, term_words, rule_words, nodes_of, terms_of, binders_of, rules_of, counted, put_term, put_node, put_condition, put_rule, add, single, insert, condition_on, bind, close_rule}
use Rattle.text_store.specs.Words.{node_start, term_start, rule_start, node_word, term_word, rule_word}
use Rattle.text_store.proofs.StoreLaws.{length_put_node, node_before, node_at, node_after, length_put_condition, condition_before, condition_after, from_put, end_put, length_put_term, length_put_single, term_before, term_put, marked_at, single_marks, marked_other, marked_here, length_put_rule, rule_before, rule_at}
use Rattle.tree_store.proofs.Rows.{NodeRow, node_fields, a_node, no_node, in_case, on_first, TermRow, term_fields, a_term, no_term, marked, last_marked, RuleRow, rule_fields, no_rule_row}

-- ---- lists

-- by cases on which of two numbers is less
pub compared : {P : Type 0} (j i : ℕ) → (j < i → P) → (j ≡ i → P) → (i < j → P) → P
compared j i f g h =
    ⊎_elim (λ (z : ltb j i ≡ true). f (ltb-true j i z))
    (λ (z : ltb j i ≡ false).
    let y : i ≤ j = ltb-false j i z
    in ⊎_elim (λ (x : eqb j i ≡ true). g (eqb-true j i x)) (λ (x : eqb j i ≡ false). let u : j ≢ i = eqb-false j i x in h (omega arith)) (which (eqb j i)))
    (which (ltb j i))

module _ {A : Type 0} (d : A) where
  -- element j of two lists, by where it stands
  pub at_second : (l m : List A) (j k : ℕ) → j ≡ length l + k → get_or (l ++ m) j d ≡ get_or m k d
  at_second l m j k e = rw e (get_or-append-add l m k d)

  pub at_seam : (l m : List A) (a : A) (j : ℕ) → j ≡ length l → get_or (l ++ a ∷ m) j d ≡ a
  at_seam l m a j e = rw e (get_or-append_seam l a m d)

-- ---- a count up to one past a limit

pub counted_min : (limit n t : ℕ) → t ≡ min n (limit + 1) → counted limit t ≡ min (n + 1) (limit + 1)
counted_min limit n t e =
    ⊎_elim (λ (z : leb t limit ≡ true). let y : t ≤ limit = leb-true t limit z in rw z (let x : t + 1 ≡ min (n + 1) (limit + 1) = omega arith in x))
    (λ (z : leb t limit ≡ false). let y : limit < t = leb-false t limit z in rw z (let x : t ≡ min (n + 1) (limit + 1) = omega arith in x))
    (which (leb t limit))

-- ---- words that are rows

abbrev pub NodesAre : List ℕ → List NodeRow → Type 0
NodesAre ns rows = (i w : ℕ) → i < length rows → w < 10 → node_word ns i w ≡ get_or (node_fields (get_or rows i no_node)) w 0

abbrev pub TermsAre : List ℕ → List TermRow → Type 0
TermsAre ts rows = (k w : ℕ) → k < length rows → w < 4 → term_word ts k w ≡ get_or (term_fields (get_or rows k no_term)) w 0

-- the first 65 of them
abbrev pub RulesAre : List ℕ → List RuleRow → Type 0
RulesAre rs rows = (k w : ℕ) → k < length rows → k < 65 → w < 5 → rule_word rs k w ≡ get_or (rule_fields (get_or rows k no_rule_row)) w 0

pub record Holds (N : List NodeRow) (T : List TermRow) (b : ℕ) (R : List RuleRow) (st : State) : Type 0 where
  pub nodes : nodes_of st ≡ min (length N) 257
  pub terms : terms_of st ≡ min (length T) 1025
  pub binders : binders_of st ≡ min b 65
  pub rules : rules_of st ≡ min (length R) 65
  pub long_nodes : length (node_words st) ≡ 2560
  pub long_terms : length (term_words st) ≡ 4096
  pub long_rules : length (rule_words st) ≡ 325
  pub node : length N ≤ 256 → length T ≤ 1024 → NodesAre (node_words st) N
  pub term : length T ≤ 1024 → TermsAre (term_words st) T
  pub rule : RulesAre (rule_words st) R

pub holds_blank : Holds [] [] 0 [] blank
holds_blank =
    record {
      nodes = refl;
      terms = refl;
      binders = refl;
      rules = refl;
      long_nodes = length-replicate {A = ℕ} 2560 0;
      long_terms = length-replicate {A = ℕ} 4096 0;
      long_rules = length-replicate {A = ℕ} 325 0;
      node = λ l m i w h g. absurd (omega arith);
      term = λ l k w h g. absurd (omega arith);
      rule = λ k w h y g. absurd (omega arith);
    }

-- the same rows, said otherwise
pub held_as : {N M : List NodeRow} {T S : List TermRow} {b c : ℕ} {R : List RuleRow} {st : State} → N ≡ M → T ≡ S → b ≡ c → Holds N T b R st → Holds M S c R st
held_as {N} {M} {T} {S} {b} {c} {R} {st} e f g h =
    subst (λ (n : List NodeRow). Holds n S c R st) e (subst (λ (t : List TermRow). Holds N t c R st) f (subst (λ (k : ℕ). Holds N T k R st) g h))

-- ---- one term more

module _ (tag value place origin : ℕ) where
  abbrev row : TermRow
  row = a_term tag value place origin

  term_more : (ts : List ℕ) (T : List TermRow) (t : ℕ) → t ≡ length T → t < 1024 → length ts ≡ 4096 → TermsAre ts T → TermsAre (put_term ts t tag value place origin) (T ++ row ∷ [])
  term_more ts T t e l z all k w h g =
      compared k t
      (λ y.
      term_before ts t tag value place origin l (term_start k + w) (omega arith)
      ∙ all k w (omega arith) g
      ∙ ap (λ (x : TermRow). get_or (term_fields x) w 0) (sym (get_or-append T (row ∷ []) no_term k (omega arith))))
      (λ (y : k ≡ t).
      ap (λ (x : ℕ). term_word (put_term ts t tag value place origin) x w) y
      ∙ term_put ts t tag value place origin l z w g
      ∙ ap (λ (x : TermRow). get_or (term_fields x) w 0) (sym (at_seam no_term T [] row k (y ∙ e))))
      (λ y. absurd (omega (arith, length-append T (row ∷ []))))

  pub add_holds : (N : List NodeRow) (T : List TermRow) (b : ℕ) (R : List RuleRow) (st : State) → Holds N T b R st → Holds N (T ++ row ∷ []) b R (add tag value place origin st)
  add_holds N T b R (state ns ts rs n t u r) h =
      let c : t ≡ min (length T) 1025 = h.terms
      in let l : length (T ++ row ∷ []) ≡ length T + 1 = length-append T (row ∷ [])
      in record {
        nodes = h.nodes;
        terms = counted_min 1024 (length T) t c ∙ ap (λ (x : ℕ). min x 1025) (sym l);
        binders = h.binders;
        rules = h.rules;
        long_nodes = h.long_nodes;
        long_terms = length_put_term ts t tag value place origin ∙ h.long_terms;
        long_rules = h.long_rules;
        node = λ x y. h.node x (omega arith);
        term = λ x. term_more ts T t (omega arith) (omega arith) h.long_terms (h.term (omega arith));
        rule = h.rule;
      }

-- ---- the last term marked

pub length_marked : (A : List TermRow) → length (last_marked A) ≡ length A
unfolding last_marked
length_marked [] = refl
length_marked (r ∷ []) = refl
length_marked (r ∷ q ∷ more) = ap suc (length_marked (q ∷ more))

marked_last : (A : List TermRow) (k : ℕ) → k + 1 ≡ length A → get_or (last_marked A) k no_term ≡ marked (get_or A k no_term)
unfolding last_marked
marked_last [] k e = absurd (omega arith)
marked_last (r ∷ []) k e = let z : k ≡ 0 = omega arith in rw z
marked_last (r ∷ q ∷ more) zero e = absurd (omega arith)
marked_last (r ∷ q ∷ more) (suc k) e = marked_last (q ∷ more) k (omega arith)

marked_before : (A : List TermRow) (k : ℕ) → k + 1 < length A → get_or (last_marked A) k no_term ≡ get_or A k no_term
unfolding last_marked
marked_before [] k h = absurd (omega arith)
marked_before (r ∷ []) k h = absurd (omega arith)
marked_before (r ∷ q ∷ more) zero h = refl
marked_before (r ∷ q ∷ more) (suc k) h = marked_before (q ∷ more) k (omega arith)

-- the first of two lists is not touched, where the second has a term
pub marked_second : (T A : List TermRow) → 1 ≤ length A → last_marked (T ++ A) ≡ T ++ last_marked A
unfolding last_marked
marked_second [] A h = refl
marked_second (r ∷ []) [] h = absurd (omega arith)
marked_second (r ∷ []) (a ∷ more) h = refl
marked_second (r ∷ q ∷ T) A h = ap {B = List TermRow} (λ x. r ∷ x) (marked_second (q ∷ T) A h)

single_more : (ts : List ℕ) (T : List TermRow) (t : ℕ) → t + 1 ≡ length T → t < 1024 → length ts ≡ 4096 → TermsAre ts T → TermsAre (marked_at ts t) (last_marked T)
single_more ts T t e l z all k w h g =
    let y : length (last_marked T) ≡ length T = length_marked T in
    compared k t
    (λ x.
    marked_other ts t (term_start k + w) (omega arith)
    ∙ all k w (omega arith) g
    ∙ ap (λ (x : TermRow). get_or (term_fields x) w 0) (sym (marked_before T k (omega arith))))
    (λ (x : k ≡ t).
    ap (λ (x : ℕ). term_word (marked_at ts t) x w) x
    ∙ here w g
    ∙ ap (λ (x : TermRow). get_or (term_fields x) w 0) (sym (ap (λ (x : ℕ). get_or (last_marked T) x no_term) x ∙ marked_last T t e)))
    (λ x. absurd (omega arith))
  where
    here : (v : ℕ) → v < 4 → term_word (marked_at ts t) t v ≡ get_or (term_fields (marked (get_or T t no_term))) v 0
    here zero f = marked_here ts t (omega arith) ∙ ap marked_tag (all t 0 (omega arith) (omega arith))
    here (suc v) f = marked_other ts t (term_start t + suc v) (omega arith) ∙ all t (suc v) (omega arith) f

pub single_holds : (N : List NodeRow) (T : List TermRow) (b : ℕ) (R : List RuleRow) (st : State) → 1 ≤ length T → Holds N T b R st → Holds N (last_marked T) b R (single st)
single_holds N T b R (state ns ts rs n t u r) some h =
    let c : t ≡ min (length T) 1025 = h.terms
    in let l : length (last_marked T) ≡ length T = length_marked T
    in record {
      nodes = h.nodes;
      terms = c ∙ ap (λ (x : ℕ). min x 1025) (sym l);
      binders = h.binders;
      rules = h.rules;
      long_nodes = h.long_nodes;
      long_terms = length_put_single ts t ∙ h.long_terms;
      long_rules = h.long_rules;
      node = λ x y. h.node x (omega arith);
      term = λ x. rw (single_marks ts t (omega arith)) (single_more ts T (t - 1) (omega arith) (omega arith) h.long_terms (h.term (omega arith)));
      rule = h.rule;
    }

-- ---- one binder more

pub bind_holds : (N : List NodeRow) (T : List TermRow) (b : ℕ) (R : List RuleRow) (st : State) → Holds N T b R st → Holds N T (b + 1) R (bind st)
bind_holds N T b R (state ns ts rs n t u r) h =
    record {
      nodes = h.nodes;
      terms = h.terms;
      binders = counted_min 64 b u h.binders;
      rules = h.rules;
      long_nodes = h.long_nodes;
      long_terms = h.long_terms;
      long_rules = h.long_rules;
      node = h.node;
      term = h.term;
      rule = h.rule;
    }

-- ---- a node in front of those from node i on

module _ (kind size place a b c d e : ℕ) where
  abbrev new : NodeRow
  new = a_node kind size place a b c d e

  node_more : (ns : List ℕ) (N M : List NodeRow) (i : ℕ) → i ≡ length N → length N + length M < 256 → length ns ≡ 2560 → NodesAre ns (N ++ M) → NodesAre (put_node ns i kind size place a b c d e) (N ++ new ∷ M)
  node_more ns N M i at l z all j w h g =
      compared j i
      (λ y.
      node_before ns i kind size place a b c d e (omega arith) z (node_start j + w) (omega arith)
      ∙ all j w (omega (arith, length-append N M)) g
      ∙ ap field_of (get_or-append N M no_node j (omega arith) ∙ sym (get_or-append N (new ∷ M) no_node j (omega arith))))
      (λ (y : j ≡ i).
      ap (λ (x : ℕ). node_word (put_node ns i kind size place a b c d e) x w) y
      ∙ node_at ns i kind size place a b c d e (omega arith) z w g
      ∙ ap field_of (sym (at_seam no_node N M new j (y ∙ at))))
      (λ y.
      node_after ns i kind size place a b c d e (omega arith) z (node_start (j - 1) + w) (node_start j + w) (omega arith) (omega arith) (omega (arith, length-append N (new ∷ M)))
      ∙ all (j - 1) w (omega (arith, length-append N M, length-append N (new ∷ M))) g
      ∙ ap field_of (at_second no_node N M (j - 1) (j - 1 - i) (omega arith) ∙ sym (at_second no_node N (new ∷ M) j (suc (j - 1 - i)) (omega arith))))
    where
      field_of : NodeRow → ℕ
      field_of x = get_or (node_fields x) w 0

pub insert_holds : (kind size place a b c c' d d' e i : ℕ) (N M : List NodeRow) (T : List TermRow) (u : ℕ) (R : List RuleRow) (st : State) → i ≡ min (length N) 257 → size ≡ suc (length M)
    → (length T ≤ 1024 → c ≡ c') → (length T ≤ 1024 → d ≡ d') → Holds (N ++ M) T u R st
    → Holds (N ++ a_node kind size place a b c' d' e ∷ M) T u R (insert kind place i a b c d e st)
insert_holds kind size place a b c c' d d' e i N M T u R (state ns ts rs n t us r) at long from up_to_lem h =
    let x : n ≡ min (length (N ++ M)) 257 = h.nodes
    in let y : length (N ++ M) ≡ length N + length M = length-append N M
    in let z : length (N ++ new kind size place a b c' d' e ∷ M) ≡ length N + suc (length M) = length-append N (new kind size place a b c' d' e ∷ M)
    in let v : counted 256 n ≡ min (length (N ++ M) + 1) 257 = counted_min 256 (length (N ++ M)) n x
    in record {
      nodes = v ∙ ap (λ (k : ℕ). min k 257) (let q : length (N ++ M) + 1 ≡ length (N ++ new kind size place a b c' d' e ∷ M) = omega arith in q);
      terms = h.terms;
      binders = h.binders;
      rules = h.rules;
      long_nodes = length_put_node ns i kind (counted 256 n - i) place a b c d e ∙ h.long_nodes;
      long_terms = h.long_terms;
      long_rules = h.long_rules;
      node = λ f g. (
          let q : counted 256 n - i ≡ size = omega arith in
          rw (q, from g, up_to_lem g) (node_more kind size place a b c' d' e ns N M i (omega arith) (omega arith) h.long_nodes (h.node (omega arith) g))
          );
      term = h.term;
      rule = h.rule;
    }

-- ---- a condition on the first of the nodes from node i on

in_case_word : (f g : ℕ) (r : NodeRow) (w : ℕ) → w < 8 → get_or (node_fields r) w 0 ≡ get_or (node_fields (in_case f g r)) w 0
in_case_word f g r zero h = refl
in_case_word f g r (suc zero) h = refl
in_case_word f g r (suc (suc zero)) h = refl
in_case_word f g r (suc (suc (suc zero))) h = refl
in_case_word f g r (suc (suc (suc (suc zero)))) h = refl
in_case_word f g r (suc (suc (suc (suc (suc zero))))) h = refl
in_case_word f g r (suc (suc (suc (suc (suc (suc zero)))))) h = refl
in_case_word f g r (suc (suc (suc (suc (suc (suc (suc zero))))))) h = refl
in_case_word f g r (suc (suc (suc (suc (suc (suc (suc (suc w)))))))) h = absurd (omega arith)

condition_more : (f g : ℕ) (ns : List ℕ) (N M : List NodeRow) (r : NodeRow) (i : ℕ) → i ≡ length N → i < 256 → length ns ≡ 2560 → NodesAre ns (N ++ r ∷ M) → NodesAre (put_condition ns i f g) (N ++ in_case f g r ∷ M)
condition_more f g ns N M r i at l z all j w h v =
    compared j i
    (λ y.
    condition_before ns i f g l (node_start j + w) (omega arith)
    ∙ all j w (omega (arith, length-append N (r ∷ M))) v
    ∙ ap field_of (get_or-append N (r ∷ M) no_node j (omega arith) ∙ sym (get_or-append N (in_case f g r ∷ M) no_node j (omega arith))))
    (λ (y : j ≡ i).
    ap (λ (x : ℕ). node_word (put_condition ns i f g) x w) y
    ∙ here
    ∙ ap field_of (sym (at_seam no_node N M (in_case f g r) j (y ∙ at))))
    (λ y.
    condition_after ns i f g l (node_start j + w) (omega arith)
    ∙ all j w (omega (arith, length-append N (r ∷ M), length-append N (in_case f g r ∷ M))) v
    ∙ ap field_of (at_second no_node N (r ∷ M) j (suc (j - 1 - i)) (omega arith) ∙ sym (at_second no_node N (in_case f g r ∷ M) j (suc (j - 1 - i)) (omega arith))))
  where
    field_of : NodeRow → ℕ
    field_of x = get_or (node_fields x) w 0

    here : node_word (put_condition ns i f g) i w ≡ get_or (node_fields (in_case f g r)) w 0
    here =
        compared w 8
        (λ y.
        condition_before ns i f g l (node_start i + w) (omega arith)
        ∙ all i w (omega (arith, length-append N (r ∷ M))) v
        ∙ ap field_of (at_seam no_node N M r i at)
        ∙ in_case_word f g r w y)
        (λ (y : w ≡ 8). rw y (from_put ns i f g l z))
        (λ y. let x : w ≡ 9 = omega arith in rw x (end_put ns i f g l z))

pub condition_holds : (f f' g g' i : ℕ) (N M : List NodeRow) (T : List TermRow) (u : ℕ) (R : List RuleRow) (st : State) → i ≡ min (length N) 257 → 1 ≤ length M
    → (length T ≤ 1024 → f ≡ f') → (length T ≤ 1024 → g ≡ g') → Holds (N ++ M) T u R st → Holds (N ++ on_first f' g' M) T u R (condition_on i f g st)
condition_holds f f' g g' i N [] T u R (state ns ts rs n t us q) at some from up_to_lem h = absurd (omega arith)
condition_holds f f' g g' i N (r ∷ M) T u R (state ns ts rs n t us q) at some from up_to_lem h =
    let y : length (N ++ r ∷ M) ≡ length N + suc (length M) = length-append N (r ∷ M)
    in let z : length (N ++ in_case f' g' r ∷ M) ≡ length N + suc (length M) = length-append N (in_case f' g' r ∷ M)
    in record {
      nodes = h.nodes ∙ ap (λ (k : ℕ). min k 257) (y ∙ sym z);
      terms = h.terms;
      binders = h.binders;
      rules = h.rules;
      long_nodes = length_put_condition ns i f g ∙ h.long_nodes;
      long_terms = h.long_terms;
      long_rules = h.long_rules;
      node = λ x v. rw (from v, up_to_lem v) (condition_more f' g' ns N M r i (omega arith) (omega arith) h.long_nodes (h.node (omega arith) v));
      term = h.term;
      rule = h.rule;
    }

-- ---- a rule ends

abbrev pub closed : (place first nodes terms binders : ℕ) → RuleRow
closed place first nodes terms binders = record { place = place; first = first; nodes = nodes; terms = terms; binders = binders }

rule_more : (place first n t u : ℕ) (rs : List ℕ) (R : List RuleRow) (q : ℕ) → q ≡ min (length R) 65 → length rs ≡ 325 → RulesAre rs R → RulesAre (put_rule rs q place first n t u) (R ++ closed place first n t u ∷ [])
unfolding put_rule
rule_more place first n t u rs R q at z all k w h y g =
    let l : length (R ++ row ∷ []) ≡ length R + 1 = length-append R (row ∷ []) in
    compared k q
    (λ x. ⊎_elim (λ (e : ltb q 65 ≡ true). rule_before rs q place first n t u (ltb-true q 65 e) (rule_start k + w) (omega arith) ∙ old (omega arith)) (λ (e : ltb q 65 ≡ false). rw e (old (omega arith))) (which (ltb q 65)))
    (λ (x : k ≡ q).
    ap (λ (v : ℕ). rule_word (put_rule rs q place first n t u) v w) x
    ∙ rule_at rs q place first n t u (omega arith) z w g
    ∙ ap field_of (sym (at_seam no_rule_row R [] row k (omega arith))))
    (λ x. absurd (omega arith))
  where
    row : RuleRow
    row = closed place first n t u

    field_of : RuleRow → ℕ
    field_of x = get_or (rule_fields x) w 0

    old : k < length R → rule_word rs k w ≡ get_or (rule_fields (get_or (R ++ row ∷ []) k no_rule_row)) w 0
    old x = all k w x y g ∙ ap field_of (sym (get_or-append R (row ∷ []) no_rule_row k x))

pub close_holds : (place first : ℕ) (N : List NodeRow) (T : List TermRow) (b : ℕ) (R : List RuleRow) (st : State) → Holds N T b R st
    → Holds N T b (R ++ closed place first (min (length N) 257) (min (length T) 1025) (min b 65) ∷ []) (close_rule place first st)
close_holds place first N T b R (state ns ts rs n t u q) h =
    let l : length (R ++ closed place first n t u ∷ []) ≡ length R + 1 = length-append R (closed place first n t u ∷ [])
    in rw (sym h.nodes, sym h.terms, sym h.binders)
    record {
      nodes = h.nodes;
      terms = h.terms;
      binders = h.binders;
      rules = counted_min 64 (length R) q h.rules ∙ ap (λ (x : ℕ). min x 65) (sym l);
      long_nodes = h.long_nodes;
      long_terms = h.long_terms;
      long_rules = length_put_rule rs q place first n t u ∙ h.long_rules;
      node = h.node;
      term = h.term;
      rule = rule_more place first n t u rs R q h.rules h.long_rules h.rule;
    }
