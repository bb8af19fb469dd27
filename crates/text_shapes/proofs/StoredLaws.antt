-- Every node and every term has the words of its kind: zeros have, and every store keeps it.
-- Assumes nothing.
use Prim.Native.Nat.{ℕ, ◌+◌, ◌-◌, ◌≤◌, ◌<◌}
use mathlib.Core.Path.{◌≡◌, refl, sym, subst, ◌∙◌}
use mathlib.Core.Logic.{◌⊎◌, ◌≢◌, inl, inr, ⊎_elim}
use mathlib.Core.Bool.{true, false}
use mathlib.Core.List.{List, [], ◌∷◌}
use native.Mathlib.Omega.{arith}
use borrow.Author.Tests.{ltb-true, ltb-false, leb-true, eqb-true, eqb-false, ne_eqb}
use lib.Dec.{eqb, ltb, leb}
use lib.ListN.{length, length-replicate}
use Rattle.basis.specs.Limits.{max_constructs, max_terms}
use Rattle.basis.proofs.Booleans.{which, picked, both_first, both_second}
use Rattle.text_store.specs.Words.{node_start, term_start, node_word, term_word, term_tag, is_use, nodes_room, terms_room}
use Rattle.text_store.proofs.Numbers.{at_kind, at_mark, at_own_from, at_own_end, at_tag, at_value, at_term}
use Rattle.text_parsing.specs.Symbols.{Symbol, rules}
use Rattle.text_store.specs.Store.{State, state, node_words, term_words, marked_tag, put_term, put_single, put_node, put_condition, blank}
use Rattle.text_productions.specs.Phrases.{Phrases, nothing, then}
use Rattle.text_shapes.specs.Stored.{OwnList, of_field, of_counts, no_list, TermWords, a_number, a_use, a_sign, Stored}
use Rattle.text_store.proofs.StoreLaws.{ten, node_before, node_at, node_after, condition_before, condition_after, term_before, term_after, term_put, marked_at, marked_other, marked_here, node_blank, term_blank}
use Rattle.text_shapes.proofs.Changes.{fit, fits, Change, same, term, last_term, node, condition_of, binder_more, rule_more, changed}
use Rattle.text_shapes.proofs.Growth.{production_grows}

-- by cases on which of two numbers is less
compared : {P : Type 0} (j i : ℕ) → (j < i → P) → (j ≡ i → P) → (i < j → P) → P
compared j i f g h =
    ⊎_elim (λ (z : ltb j i ≡ true). f (ltb-true j i z))
    (λ (z : ltb j i ≡ false).
    let y : i ≤ j = ltb-false j i z
    in ⊎_elim (λ (x : eqb j i ≡ true). g (eqb-true j i x)) (λ (x : eqb j i ≡ false). let u : j ≢ i = eqb-false j i x in h (omega arith)) (which (eqb j i)))
    (which (ltb j i))

-- ---- nodes

-- what a node has is said of its words alone, wherever they stand
own_moved : {ns ms : List ℕ} {j k : ℕ} → ((w : ℕ) → w < 8 → node_word ms j w ≡ node_word ns k w) → OwnList ns k → OwnList ms j
own_moved e (of_field a) = of_field (e at_kind (omega arith) ∙ a)
own_moved e (of_counts a b) = of_counts (e at_kind (omega arith) ∙ a) (e at_mark (omega arith) ∙ b)
own_moved e (no_list a b) = no_list (e at_own_from (omega arith) ∙ a) (e at_own_end (omega arith) ∙ b)

-- every node has
abbrev Lists : List ℕ → Type 0
Lists ns = (j : ℕ) → j < max_constructs → OwnList ns j

module _ (ns : List ℕ) (all : Lists ns) where
  -- a node in front of node i: those before it stay, it is new, and those after it are old ones, each moved by one
  node_lists : (i kind size place a b c d e : ℕ) → length ns ≡ nodes_room → OwnList (ten kind size place a b c d e) 0 → Lists (put_node ns i kind size place a b c d e)
  unfolding put_node
  node_lists i kind size place a b c d e l new j h =
      ⊎_elim
      (λ (z : ltb i max_constructs ≡ true). inside (ltb-true i max_constructs z))
      (λ (z : ltb i max_constructs ≡ false). rw (z, put_node) (all j h))
      (which (ltb i max_constructs))
    where
      inside : i < max_constructs → OwnList (put_node ns i kind size place a b c d e) j
      inside g =
          compared j i
          (λ y. own_moved (λ w v. node_before ns i kind size place a b c d e g l (node_start j + w) (omega arith)) (all j h))
          (λ (y : j ≡ i).
          rw y (own_moved (λ w v. let q : node_start 0 + w ≡ w = omega arith in rw q (node_at ns i kind size place a b c d e g l w (omega arith))) new))
          (λ y. own_moved (λ w v. node_after ns i kind size place a b c d e g l (node_start (j - 1) + w) (node_start j + w) (omega arith) (omega arith) (omega arith)) (all (j - 1) (omega arith)))

  -- a case's condition is in words that do not matter
  condition_lists : (i from end : ℕ) → Lists (put_condition ns i from end)
  unfolding put_condition
  condition_lists i from end j h =
      ⊎_elim
      (λ (z : ltb i max_constructs ≡ true). own_moved (inside (ltb-true i max_constructs z)) (all j h))
      (λ (z : ltb i max_constructs ≡ false). rw (z, put_condition) (all j h))
      (which (ltb i max_constructs))
    where
      inside : i < max_constructs → (w : ℕ) → w < 8 → node_word (put_condition ns i from end) j w ≡ node_word ns j w
      inside g w v =
          compared j i
          (λ y. condition_before ns i from end g (node_start j + w) (omega arith))
          (λ y. condition_before ns i from end g (node_start j + w) (omega arith))
          (λ y. condition_after ns i from end g (node_start j + w) (omega arith))

-- ---- terms

term_moved : {xs ts us : List ℕ} {j k : ℕ} → ((w : ℕ) → w < 3 → term_word us j w ≡ term_word ts k w) → TermWords xs ts k → TermWords xs us j
term_moved e (a_number a b) = a_number (rw (e at_tag (omega arith)) a) (rw (e at_value (omega arith)) b)
term_moved e (a_use a b c) = a_use (rw (e at_tag (omega arith)) a) (e at_value (omega arith) ∙ b) (rw (e at_term (omega arith)) c)
term_moved e (a_sign a b c) = a_sign (rw (e at_tag (omega arith)) a) (rw (e at_tag (omega arith)) b) (e at_value (omega arith) ∙ c)

-- every term has
abbrev Terms : List ℕ → List ℕ → Type 0
Terms xs ts = (j : ℕ) → j < max_terms → TermWords xs ts j

-- 32 more in the tag: a sign's tag is no use's then either
unused_marked : (w : ℕ) → is_use w ≡ false → is_use (marked_tag w) ≡ false
unused_marked w e =
    picked (λ (m : ℕ). is_use m ≡ false) (ltb w 32)
    (λ z. rw (ne_eqb (w + 32) 2 (omega arith), ne_eqb (w + 32) 34 (λ q. no_use (omega arith))))
    (λ z. e)
  where
    no_use : w ≡ 2 → ⊥
    no_use q = let z : is_use w ≡ true = rw q in let y : ◌≡◌ {A = ℕ} 0 1 = cc in omega arith

small_marked : (w : ℕ) → w < 64 → marked_tag w < 64
small_marked w h = picked (λ (m : ℕ). m < 64) (ltb w 32) (λ z. omega (arith, ltb-true w 32 z)) (λ z. h)

-- a number stays a number, a use a use and a sign a sign
marked_words : {xs ts us : List ℕ} {k : ℕ} → term_tag us k ≡ marked_tag (term_tag ts k) → ((w : ℕ) → 1 ≤ w → w < 3 → term_word us k w ≡ term_word ts k w) → TermWords xs ts k → TermWords xs us k
marked_words e f (a_number (inl a) b) = a_number (inr (e ∙ rw a)) (rw (f at_value (omega arith) (omega arith)) b)
marked_words e f (a_number (inr a) b) = a_number (inr (e ∙ rw a)) (rw (f at_value (omega arith) (omega arith)) b)
marked_words e f (a_use (inl a) b c) = a_use (inr (e ∙ rw a)) (f at_value (omega arith) (omega arith) ∙ b) (rw (f at_term (omega arith) (omega arith)) c)
marked_words e f (a_use (inr a) b c) = a_use (inr (e ∙ rw a)) (f at_value (omega arith) (omega arith) ∙ b) (rw (f at_term (omega arith) (omega arith)) c)
marked_words {ts = ts} {k = k} e f (a_sign a b c) =
    a_sign (rw e (unused_marked (term_tag ts k) a)) (rw e (small_marked (term_tag ts k) b)) (f at_value (omega arith) (omega arith) ∙ c)

module _ {xs : List ℕ} (ts : List ℕ) (l : length ts ≡ terms_room) (all : Terms xs ts) where
  term_terms : (t tag value place origin : ℕ) → TermWords xs (tag ∷ value ∷ place ∷ origin ∷ []) 0 → Terms xs (put_term ts t tag value place origin)
  unfolding put_term
  term_terms t tag value place origin new j h =
      ⊎_elim
      (λ (z : ltb t max_terms ≡ true). inside (ltb-true t max_terms z))
      (λ (z : ltb t max_terms ≡ false). rw (z, put_term) (all j h))
      (which (ltb t max_terms))
    where
      inside : t < max_terms → TermWords xs (put_term ts t tag value place origin) j
      inside g =
          compared j t
          (λ y. term_moved (λ w v. term_before ts t tag value place origin g (term_start j + w) (omega arith)) (all j h))
          (λ (y : j ≡ t).
          rw y (term_moved (λ w v. let q : term_start 0 + w ≡ w = omega arith in rw q (term_put ts t tag value place origin g l w (omega arith))) new))
          (λ y. term_moved (λ w v. term_after ts t tag value place origin g (term_start j + w) (omega arith)) (all j h))

  marked_terms : (k : ℕ) → k < max_terms → Terms xs (marked_at ts k)
  marked_terms k g j h = compared j k (λ y. elsewhere (omega arith)) (λ (y : j ≡ k). rw y here) (λ y. elsewhere (omega arith))
    where
      elsewhere : j ≢ k → TermWords xs (marked_at ts k) j
      elsewhere y = term_moved (λ w a. marked_other ts k (term_start j + w) (omega arith)) (all j h)

      here : TermWords xs (marked_at ts k) k
      here =
          marked_words (marked_here ts k (omega arith)) (λ w a b. marked_other ts k (term_start k + w) (omega arith)) (all k g)

  single_terms : (t : ℕ) → Terms xs (put_single ts t)
  unfolding put_single
  single_terms t = picked (Terms xs) (leb t max_terms) (λ z. marked_terms (t - 1) (omega (arith, leb-true t max_terms z))) (λ z. all)

-- ---- what is read

record Kept (xs : List ℕ) (st : State) : Type 0 where
  node_length : length (node_words st) ≡ nodes_room
  term_length : length (term_words st) ≡ terms_room
  all : Stored xs (node_words st) (term_words st)

along : {xs : List ℕ} {b c : State} → b ≡ c → Stored xs (node_words c) (term_words c) → Stored xs (node_words b) (term_words b)
along {xs} e s = subst (λ (st : State). Stored xs (node_words st) (term_words st)) (sym e) s

change_stored : {xs : List ℕ} {k : Symbol} {a b : State} → Change xs k a b → fit k ≡ true → Kept xs a → Stored xs (node_words b) (term_words b)
change_stored (same e) f s = along e s.all
change_stored {a = state ns ts rs n t c r} (term tag value place origin new e) f s =
    along e (record { lists = s.all.lists; terms = term_terms ts s.term_length s.all.terms t tag value place origin (new f) })
change_stored {a = state ns ts rs n t c r} (last_term e) f s =
    along e (record { lists = s.all.lists; terms = single_terms ts s.term_length s.all.terms t })
change_stored {a = state ns ts rs n t c r} (node kind place i u v w x y new e) f s =
    along e (record { lists = node_lists ns s.all.lists i kind _ place u v w x y s.node_length (new _); terms = s.all.terms })
change_stored {a = state ns ts rs n t c r} (condition_of i from end e) f s =
    along e (record { lists = condition_lists ns s.all.lists i from end; terms = s.all.terms })
change_stored {a = state ns ts rs n t c r} (binder_more e) f s = along e s.all
change_stored {a = state ns ts rs n t c r} (rule_more place first e) f s = along e s.all

phrases_kept : {xs : List ℕ} {ks : List Symbol} {a b : State} → Phrases xs ks a b → fits ks ≡ true → Kept xs a → Kept xs b
phrases_kept nothing f s = s
phrases_kept {xs} (then {k = k} {ks = ks} {b = b} p u v) f s =
    phrases_kept v (both_second (fit k) (fits ks) f) (phrases_kept u ((changed p).1 h) t)
  where
    h : fit k ≡ true
    h = both_first (fit k) (fits ks) f

    t : Kept xs b
    t = record { node_length = (production_grows p).node_length ∙ s.node_length; term_length = (production_grows p).term_length ∙ s.term_length; all = change_stored (changed p).0 h s }

blank_kept : {xs : List ℕ} → Kept xs blank
blank_kept {xs} =
    record {
      node_length = length-replicate {A = ℕ} nodes_room 0;
      term_length = length-replicate {A = ℕ} terms_room 0;
      all =
          record {
            lists = λ j h. no_list (node_blank j at_own_from h (omega arith)) (node_blank j at_own_end h (omega arith));
            terms = zero_term;
          };
    }
  where
    zero_term : (t : ℕ) → t < max_terms → TermWords xs (term_words blank) t
    zero_term t h =
        let e : term_tag (term_words blank) t ≡ 0 = term_blank t at_tag h (omega arith) in
        a_sign (rw e) (rw e (omega arith)) (term_blank t at_value h (omega arith))

pub stored : (xs ns ts rs : List ℕ) (n t b r : ℕ) → Phrases xs (rules false ∷ []) blank (state ns ts rs n t b r) → Stored xs ns ts
stored xs ns ts rs n t b r p = (phrases_kept p refl blank_kept).all
