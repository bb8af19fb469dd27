-- Lists of terms as they are read are sets, counts and conditions.
-- Assumes nothing.
use Prim.Native.Nat.{ℕ, ◌+◌, ◌-◌, ◌≤◌, ◌<◌}
use mathlib.Core.Path.{◌≡◌, refl, sym, ap, subst, ◌∙◌}
use mathlib.Core.List.{List, [], ◌∷◌, ◌++◌}
use native.Mathlib.Omega.{arith}
use lib.ListN.{length, get_or, length-append}
use Rattle.basis.specs.Limits.{max_nesting, max_terms}
use Rattle.text_store.specs.Words.{term_start, terms_room}
use Rattle.text_store.specs.Store.{State, state, terms_of, single, term_words}
use Rattle.text_parsing.specs.Symbols.{Symbol, want, sign, paren, primary, operand, factors, summands, calculation, item, item_tail, bound, exception, excluded, alternative, alternatives, value_set, counts, counts_tail, test, comparison, condition, joined, chain, atom, factor, concatenation, expression, marked, counts_end, members, branches, character_tail, last_character, width, field_set, bound_name, field_end, colon, case_end, cases, switch_end, rules, rule_end}
use Rattle.term_words.specs.declared.Term.{Term}
use Rattle.term_trees.specs.Trees.{ValueSet, everything, only, between, from, up_to, either, without, Condition, both, any, Repeats, exact, on_from, up_to_bound, spanning}
use Rattle.term_trees.specs.Postfix.{last_sign, before, calculation_terms, set_terms, condition_terms, repeat_terms}
use Rattle.text_productions.specs.Phrases.{Production, terminal, signed, opened, number, variable, negated, plain, no_factor, times, no_summand, plus, minus, sum, open_item, value_item, to_bound, alone, some_bound, no_bound, no_exception, except, except_set, except_item, set_alternative, no_alternative, or_alternative, set, counts_to, counts_from, counts_exact, counts_range, test_group, test_compare, compare, tests, one_test, all_of, any_of, no_link, link, literal_atom, character_atom, field_atom, eod_atom, use_atom, group_atom, switch_atom, an_item, one_member, one_branch, no_mark, a_mark, counted_mark, counted, and_member, last_member, or_branch, last_branch, to_character, one_character, range, field_width, binding, not_binding, binder, field, a_case, case_done, no_default, default, further_case, switched, no_rule, a_rule, ruled, Phrases, nothing, then}
use Rattle.text_shapes.specs.TermShapes.{read_terms, SetShape, ConditionShape, CountsShape}
use Rattle.text_shapes.proofs.Adding.{TermsOnly, only_both, Added, Reads, none, next, reads_as, term_read, adds_term}
use Rattle.text_shapes.proofs.Marking.{marked_added, single_only}
use Rattle.text_shapes.proofs.Spelling.{Spells, Turns, Extends, followed, no_more, and_more, weaker, SetsRoom, TestsRoom, Deep, less, less_deep, shallow, inner}
use Rattle.text_shapes.proofs.Sentences.{Calc, CalcMore, Item, Sets, SetMore, ItemTail, Bound, limit, no_limit, Times, TimesTail, Comparing, Tests, TestMore, Links, number_spelled, variable_spelled, opposite_spelled, times_more, plus_more, minus_more, except_more, or_more, open_spelled, tail_spelled, only_fine, exact_spelled, up_to_spelled, span_spelled, compare_spelled, and_joint, or_joint, link_more, links_both}

-- ---- what is shown of each part

-- an item goes on after its calculation, or is that alone
data Tail (a b : State) : Type 0 where
  on : Reads ItemTail a b → Tail a b
  only_one : b ≡ single a → Tail a b

abbrev Claim : Symbol → State → State → Type 0
Claim (want k) a b = a ≡ b
Claim (sign tag p o) a b = Reads (λ L. L ≡ term_read tag 0 p ∷ []) a b
Claim (paren _) a b = Unit {0}
Claim (primary o) a b = Reads (Calc 3) a b
Claim (operand o) a b = Reads (Calc 3) a b
Claim (factors o) a b = Reads (CalcMore 2) a b
Claim (summands o) a b = Reads (CalcMore 1) a b
Claim calculation a b = Reads (Calc 1) a b
Claim item a b = Reads Item a b
Claim item_tail a b = Tail a b
Claim (bound some none p) a b = Reads (Bound some none p) a b
Claim (exception d) a b = Reads (SetMore 27 d) a b
Claim (excluded d) a b = Reads (Sets 28 d) a b
Claim (alternative d) a b = Reads (Sets 27 d) a b
Claim (alternatives d) a b = Reads (SetMore 26 d) a b
Claim (value_set d) a b = Reads (Sets 26 d) a b
Claim counts a b = Reads Times a b
Claim counts_tail a b = Reads TimesTail a b
Claim (test d) a b = Reads (Tests 27 d) a b
Claim comparison a b = Reads Comparing a b
Claim (condition d) a b = Reads (Tests 26 d) a b
Claim (joined d) a b = Reads (TestMore 26 d) a b
Claim (chain k tag d) a b = Reads (Links tag d) a b
Claim (atom _) a b = Unit {0}
Claim (factor _) a b = Unit {0}
Claim (concatenation _) a b = Unit {0}
Claim (expression _) a b = Unit {0}
Claim (marked _ _) a b = Unit {0}
Claim (counts_end _ _ _ _) a b = Unit {0}
Claim (members _ _ _ _) a b = Unit {0}
Claim (branches _ _ _ _) a b = Unit {0}
Claim (character_tail _) a b = Unit {0}
Claim (last_character _) a b = Unit {0}
Claim (width _ _) a b = Unit {0}
Claim (field_set _ _ _) a b = Unit {0}
Claim (bound_name _ _ _) a b = Unit {0}
Claim (field_end _ _ _ _ _) a b = Unit {0}
Claim (colon _ _) a b = Unit {0}
Claim (case_end _ _ _) a b = Unit {0}
Claim (cases _ _ _) a b = Unit {0}
Claim (switch_end _ _) a b = Unit {0}
Claim (rules _) a b = Unit {0}
Claim (rule_end _ _) a b = Unit {0}

data Claimed : List Symbol → State → State → Type 0 where
  end : {a : State} → Claimed [] a a
  more : {k : Symbol} {ks : List Symbol} {a b c : State} → Claim k a b → Claimed ks b c → Claimed (k ∷ ks) a c

-- ---- each part by a production

same : {P : List Term → Type 0} {a b c : State} → b ≡ c → Reads P a c → Reads P a b
same {P} {a} e r = subst (Reads P a) (sym e) r

-- a tree, and what makes a larger one of it
module _ {T : Type 0} {terms : T → List Term} {ok : T → Type 0} {a b : State} where
  tree_and : {c : State} {U : Type 0} {terms' : U → List Term} {ok' : U → Type 0} → Reads (Spells terms ok) a b → Reads (Turns terms ok terms' ok') b c → Reads (Spells terms' ok') a c
  tree_and p q = next (λ L M. followed {L = L} {M = M}) p q

  more_and : {c : State} → Reads (Extends terms ok) a b → Reads (Extends terms ok) b c → Reads (Extends terms ok) a c
  more_and p q = next (λ L M. and_more {L = L} {M = M}) p q

  fine_as : {ok' : T → Type 0} → ((x : T) → ok x → ok' x) → Reads (Spells terms ok) a b → Reads (Spells terms ok') a b
  fine_as f p = reads_as (λ L. weaker {L = L} f) p

product : {a b c : State} → Reads (Calc 3) a b → Reads (CalcMore 2) b c → Reads (Calc 2) a c
product p q = tree_and (fine_as (λ x. less 2 (omega arith)) p) q

alone_item : (a b : State) → Reads (Calc 1) a b → Reads Item a (single b)
unfolding set_terms
alone_item a (state ns ts rs n t c r) p =
    record {
      only = only_both p.only (single_only (state ns ts rs n t c r));
      adds = λ h w.
          let l = p.adds h w in
          let z = l.is in
          record {
            list = before z.tree ++ (Term.Single (last_sign z.tree) ∷ []);
            is = record { tree = only z.tree; is = refl; fine = only_fine z.tree z.fine };
            added =
                marked_added (before z.tree) (last_sign z.tree) a (state ns ts rs n t c r) (p.only.same_length ∙ w) h
                (subst (λ (L : List Term). Added L a (state ns ts rs n t c r)) z.is l.added);
          };
    }

item_read : {a b c : State} → Reads (Calc 1) a b → Tail b c → Reads Item a c
item_read p (on q) = tree_and p q
item_read {a} {b} p (only_one e) = same e (alone_item a b p)

alternative_read : {d : ℕ} {a b c : State} → Reads Item a b → Reads (SetMore 27 d) b c → Reads (Sets 27 d) a c
alternative_read p q = tree_and (fine_as (λ x. shallow 27 (omega arith)) p) q

linked : {tag d : ℕ} (p : ℕ) {a b c e : State} → Reads (Tests 27 d) a b → Reads (λ L. L ≡ term_read tag 0 p ∷ []) b c → Reads (Links tag d) c e → Reads (Links tag d) a e
linked p q r t = next links_both (next (link_more p) q r) t

law : {xs : List ℕ} {k : Symbol} {a b c : State} {qs : List Symbol} → Production xs k a b qs → Claimed qs b c → Claim k a c
law terminal end = refl
law (signed {tag} {p} {o} {a} e) end = same e (adds_term tag 0 p o a)
law (opened _) _ = tt
law (number {o} {a} {s = s} v t e) end = same e (reads_as (λ L z. number_spelled s.start L s.value z) (adds_term 1 s.value s.start o a))
law (variable {o} {a} {s = s} v t e) end = same e (reads_as (λ L z. variable_spelled s.start L 0 z) (adds_term 2 0 s.start o a))
law (negated {p = p}) (more c (more e end)) = next (opposite_spelled p) c e
law plain (more c end) = c
law no_factor end = none no_more
law (times {p = p}) (more c (more e (more f end))) = more_and (next (times_more p) c e) f
law no_summand end = none no_more
law (plus {p = p}) (more c (more f (more e (more g end)))) = more_and (next (plus_more p) (product c f) e) g
law (minus {p = p}) (more c (more f (more e (more g end)))) = more_and (next (minus_more p) (product c f) e) g
law sum (more c (more f (more g end))) = tree_and (fine_as (λ x. less 1 (omega arith)) (product c f)) g
law (open_item {p = p}) (more b end) = reads_as (open_spelled p) b
law value_item (more c (more t end)) = item_read c t
law (to_bound {p = p}) (more b end) = on (reads_as (tail_spelled p) b)
law (alone e) end = only_one e
law some_bound (more c (more e end)) = next (λ L M h z. limit h z refl) c e
law (no_bound {some} {none} {p} {a} e) end = same e (reads_as (λ L. no_limit) (adds_term none 0 p 0 a))
law no_exception end = none no_more
law (except {d} {p}) (more c (more e end)) = next (λ L M. except_more p L M d) c e
law (except_set {d} l z) (more c (more w end)) = subst (Reads (Sets 28 d) _) w (fine_as (λ x h. inner 28 l (omega arith) (subst (λ (e : ℕ). Deep SetsRoom 26 e x) z h)) c)
law except_item (more c end) = fine_as (λ x. shallow 28 (omega arith)) c
law set_alternative (more c (more e end)) = alternative_read c e
law no_alternative end = none no_more
law (or_alternative {d} {p}) (more c (more e (more f end))) = more_and (next (λ L M. or_more p L M d) c e) f
law set (more c (more e (more f end))) = tree_and (fine_as (λ x. less_deep 26 (omega arith)) (alternative_read c e)) f
law (counts_to {p}) (more c (more e end)) = next (up_to_spelled p) c e
law counts_from (more c (more t end)) = tree_and c t
law counts_exact end = none exact_spelled
law (counts_range {p}) (more b end) = reads_as (span_spelled p) b
law (test_group {d} l z) (more c (more w end)) = subst (Reads (Tests 27 d) _) w (fine_as (λ x h. inner 27 l (omega arith) (subst (λ (e : ℕ). Deep TestsRoom 26 e x) z h)) c)
law test_compare (more c (more t end)) = fine_as (λ x. shallow 27 (omega arith)) (tree_and c t)
law (compare {tag} {p} l m) (more c (more e end)) = next (compare_spelled tag p l m) c e
law tests (more c (more j end)) = tree_and (fine_as (λ x. less_deep 26 (omega arith)) c) j
law one_test end = none no_more
law (all_of {d} {p}) (more c (more e (more f end))) = reads_as (λ L (h : Links 13 d L). h.by both and_joint) (linked p c e f)
law (any_of {d} {p}) (more c (more e (more f end))) = reads_as (λ L (h : Links 11 d L). h.by any or_joint) (linked p c e f)
law no_link end = none (record { by = λ join j. no_more })
law (link {p = p}) (more c (more e (more f end))) = linked p c e f
law (literal_atom _ _ _) _ = tt
law (character_atom _ _ _) _ = tt
law (field_atom _) _ = tt
law (eod_atom _ _) _ = tt
law (use_atom _ _ _) _ = tt
law (group_atom _ _) _ = tt
law (switch_atom _ _ _ _) _ = tt
law (an_item _) _ = tt
law (one_member _) _ = tt
law (one_branch _) _ = tt
law no_mark _ = tt
law (a_mark _ _ _ _ _) _ = tt
law (counted_mark _) _ = tt
law (counted _) _ = tt
law and_member _ = tt
law (last_member _) _ = tt
law or_branch _ = tt
law (last_branch _) _ = tt
law to_character _ = tt
law (one_character _) _ = tt
law (range _ _ _) _ = tt
law (field_width _ _ _) _ = tt
law (binding _) _ = tt
law (not_binding _) _ = tt
law (binder _ _ _ _ _ _) _ = tt
law (field _) _ = tt
law (a_case _ _) _ = tt
law (case_done _) _ = tt
law (no_default _) _ = tt
law default _ = tt
law (further_case _) _ = tt
law (switched _) _ = tt
law no_rule _ = tt
law (a_rule _ _ _ _) _ = tt
law (ruled _) _ = tt

all_claimed : {xs : List ℕ} {ks : List Symbol} {a b : State} → Phrases xs ks a b → Claimed ks a b
all_claimed nothing = end
all_claimed (then p q r) = more (law p (all_claimed q)) (all_claimed r)

claimed : {xs : List ℕ} {k : Symbol} {a b : State} → Phrases xs (k ∷ []) a b → Claim k a b
claimed (then p q nothing) = law p (all_claimed q)

-- ---- sets, counts and conditions

some_last : (L : List Term) (z : Term) → 0 < length (L ++ (z ∷ []))
some_last L z = rw (length-append L (z ∷ [])) (omega arith)

set_some : (x : ValueSet) → 0 < length (set_terms x)
unfolding set_terms
set_some everything = omega arith
set_some (only a) = some_last (before a) (Term.Single (last_sign a))
set_some (between a b) = some_last (calculation_terms a ++ calculation_terms b) Term.Range
set_some (from a) = some_last (calculation_terms a) Term.From
set_some (up_to b) = some_last (calculation_terms b) Term.UpTo
set_some (either x y) = some_last (set_terms x ++ set_terms y) Term.Or
set_some (without x y) = some_last (set_terms x ++ set_terms y) Term.Except

condition_some : (x : Condition) → 0 < length (condition_terms x)
unfolding condition_terms
condition_some (Condition.compare k a b) = some_last (calculation_terms a ++ calculation_terms b) (Term.Compare k)
condition_some (both x y) = some_last (condition_terms x ++ condition_terms y) Term.And
condition_some (any x y) = some_last (condition_terms x ++ condition_terms y) Term.Or

repeats_some : (x : Repeats) → 0 < length (repeat_terms x)
unfolding repeat_terms
repeats_some (exact n) = some_last (before n) (Term.Part (last_sign n))
repeats_some (on_from a) = some_last (calculation_terms a) Term.From
repeats_some (up_to_bound b) = some_last (calculation_terms b) Term.UpTo
repeats_some (spanning a b) = some_last (calculation_terms a ++ calculation_terms b) Term.Range

-- what is read, for a tree whose terms were added
record Read {T : Type 0} (terms : T → List Term) (ok : T → Type 0) (a b : State) : Type 0 where
  tree : T
  fine : ok tree
  is : read_terms (term_words b) (terms_of a) (terms_of b - terms_of a) ≡ terms tree
  ends : terms_of b ≡ terms_of a + length (terms tree)
  kept : (k : ℕ) → k < term_start (terms_of a) → get_or (term_words b) k 0 ≡ get_or (term_words a) k 0

read_tree : {T : Type 0} {terms : T → List Term} {ok : T → Type 0} {a b : State} → Reads (Spells terms ok) a b → length (term_words a) ≡ terms_room → terms_of b ≤ max_terms → Read terms ok a b
read_tree {T} {terms} {ok} {a} {b} r w h =
    let l = r.adds h w in
    let n : terms_of b ≡ terms_of a + length l.list = l.added.count in
    let z : terms_of b - terms_of a ≡ length l.list = omega arith in
    record {
      tree = l.is.tree;
      fine = l.is.fine;
      is = ap (read_terms (term_words b) (terms_of a)) z ∙ l.added.read ∙ l.is.is;
      ends = n ∙ ap (λ (L : List Term). terms_of a + length L) l.is.is;
      kept = l.added.kept;
    }

-- the words of the terms before
abbrev pub Before : State → State → Type 0
Before a b = (k : ℕ) → k < term_start (terms_of a) → get_or (term_words b) k 0 ≡ get_or (term_words a) k 0

module _ {xs : List ℕ} {a b : State} where
  pub set_only : {d : ℕ} → Phrases xs (value_set d ∷ []) a b → TermsOnly a b
  set_only p = (claimed p).only

  pub condition_only : {d : ℕ} → Phrases xs (condition d ∷ []) a b → TermsOnly a b
  condition_only p = (claimed p).only

  pub counts_only : Phrases xs (counts ∷ []) a b → TermsOnly a b
  counts_only p = (claimed p).only

  pub set_read : {d : ℕ} → Phrases xs (value_set d ∷ []) a b → length (term_words a) ≡ terms_room → terms_of b ≤ max_terms → d ≤ max_nesting → SetShape (term_words b) (terms_of a) (terms_of b) × TermsOnly a b × Before a b
  set_read p w h l =
      let r = read_tree (claimed p) w h in
      let some : 0 < length (set_terms r.tree) = set_some r.tree in
      (record { some = omega (arith, r.ends); tree = r.tree; is = r.is; room = (r.fine.deep l).at 0 (omega arith) }, set_only p, r.kept)

  pub condition_read : {d : ℕ} → Phrases xs (condition d ∷ []) a b → length (term_words a) ≡ terms_room → terms_of b ≤ max_terms → d ≤ max_nesting → ConditionShape (term_words b) (terms_of a) (terms_of b) × TermsOnly a b × Before a b
  condition_read p w h l =
      let r = read_tree (claimed p) w h in
      let some : 0 < length (condition_terms r.tree) = condition_some r.tree in
      (record { some = omega (arith, r.ends); tree = r.tree; is = r.is; room = (r.fine.deep l).at 0 (omega arith) }, condition_only p, r.kept)

  pub counts_read : Phrases xs (counts ∷ []) a b → length (term_words a) ≡ terms_room → terms_of b ≤ max_terms → CountsShape (term_words b) (terms_of a) (terms_of b) × TermsOnly a b × Before a b
  counts_read p w h =
      let r = read_tree (claimed p) w h in
      let some : 0 < length (repeat_terms r.tree) = repeats_some r.tree in
      (record { some = omega (arith, r.ends); tree = r.tree; is = r.is; room = r.fine }, counts_only p, r.kept)
