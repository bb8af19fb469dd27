-- Places that are stored: what is at most a bound stays so when something is put, if what is put is. A column is one word of every entry; no
-- length is needed, because a store past the end changes nothing.
-- Assumes nothing.
use Prim.Native.Nat.{ℕ, zero, suc, ◌+◌, ◌*◌, ◌-◌, ◌%◌, ◌≤◌, ◌<◌}
use mathlib.Core.Path.{◌≡◌, refl, sym, ap, ◌∙◌}
use mathlib.Core.Logic.{⊎_elim}
use mathlib.Core.Bool.{true, false}
use mathlib.Core.List.{List, [], ◌∷◌}
use native.Mathlib.Omega.{arith}
use native.Mathlib.Numerals.{towards_suc}
use native.Mathlib.Nat.{mod-eq_of_lt, mul-add-mod_self_left}
use lib.Dec.{ltb, leb}
use lib.ListN.{length, get_or, set, replicate, get_or-eq_default}
use lib.Seq.{sets}
use borrow.Author.Tests.{ltb-true, ltb-false}
use Rattle.basis.specs.Limits.{max_constructs, max_terms}
use Rattle.basis.proofs.Booleans.{which, picked}
use Rattle.text_store.specs.Store.{State, state, blank, nodes_of, counted, marked_tag, put_term, add, put_single, single, room, put_node, insert, leaf, put_condition, condition_on, bind, put_rule, close_rule, node_words, term_words, rule_words}
use Rattle.text_store.specs.Words.{place_of, second_place, stored_term_at, term_origin, named_at, nodes_room, terms_room, rules_kept, rules_room}
use Rattle.text_store.proofs.Rooms.{length_room, room_below, room_above, room_beyond}
use Rattle.text_store.proofs.StoreLaws.{ten, words_sets}

-- ---- a column

-- word w of every entry of a size
abbrev Column : (size w most : ℕ) → List ℕ → Type 0
Column size w most l = (j : ℕ) → get_or l (size * j + w) 0 ≤ most

set_most : (l : List ℕ) (k v q most : ℕ) → get_or l q 0 ≤ most → (k ≡ q → v ≤ most) → get_or (set l k v) q 0 ≤ most
set_most [] k v q most h f = h
set_most (a ∷ l) zero v zero most h f = f refl
set_most (a ∷ l) zero v (suc q) most h f = h
set_most (a ∷ l) (suc k) v zero most h f = h
set_most (a ∷ l) (suc k) v (suc q) most h f = set_most l k v q most h (λ e. f (ap suc e))

sets_most : (vs l : List ℕ) (k q most : ℕ) → get_or l q 0 ≤ most → ((u : ℕ) → u < length vs → k + u ≡ q → get_or vs u 0 ≤ most) → get_or (sets l k vs) q 0 ≤ most
sets_most [] l k q most h f = h
sets_most (a ∷ vs) l k q most h f =
    sets_most vs (set l k a) (suc k) q most (set_most l k a q most h (λ e. f 0 (omega arith) (omega arith))) (λ u i e. f (suc u) (omega arith) (omega arith))

same_word : (size i j u w : ℕ) → u < size → w < size → size * i + u ≡ size * j + w → u ≡ w
same_word size i j u w g h e =
    sym (mul-add-mod_self_left size i u ∙ mod-eq_of_lt g) ∙ ap (λ (x : ℕ). x % size) e ∙ mul-add-mod_self_left size j w ∙ mod-eq_of_lt h

-- the words of entry i are put
entry_put : (size w most i : ℕ) (vs l : List ℕ) → length vs ≤ size → w < size → get_or vs w 0 ≤ most → Column size w most l → Column size w most (sets l (size * i) vs)
entry_put size w most i vs l g h b c j =
    sets_most vs l (size * i) (size * j + w) most (c j) (λ u k e. let z : u ≡ w = same_word size i j u w (omega arith) h e in rw z b)

zeros_most : (n q most : ℕ) → get_or (replicate n 0) q 0 ≤ most
zeros_most zero q most = omega arith
zeros_most (suc n) zero most = omega arith
zeros_most (suc n) (suc q) most = zeros_most n q most

-- ---- nodes

-- each word of the room is 0 or an old word of its column
room_column : (ns : List ℕ) (i w most : ℕ) → w < 10 → Column 10 w most ns → Column 10 w most (room ns i)
room_column ns i w most h c j =
    ⊎_elim
    (λ (e : ltb (10 * j + w) (length ns) ≡ true). inside (ltb-true (10 * j + w) (length ns) e))
    (λ (e : ltb (10 * j + w) (length ns) ≡ false). (
    let z : get_or (room ns i) (10 * j + w) 0 ≡ 0 = get_or-eq_default (room ns i) 0 (omega (arith, ltb-false (10 * j + w) (length ns) e, length_room ns i)) in omega arith
    ))
    (which (ltb (10 * j + w) (length ns)))
  where
    later : 10 * j + w < length ns → i + 1 ≤ j → get_or (room ns i) (10 * j + w) 0 ≤ most
    later l g =
        ⊎_elim
        (λ (e : ltb j max_constructs ≡ true). (
        let m : j < max_constructs = ltb-true j max_constructs e in
        let z : 10 * j + w - 10 ≡ 10 * (j - 1) + w = omega arith in
        rw (room_above ns i (10 * j + w) (omega arith) (omega arith) l, z) (c (j - 1))
        ))
        (λ (e : ltb j max_constructs ≡ false). (let m : max_constructs ≤ j = ltb-false j max_constructs e in rw (room_beyond ns i (10 * j + w) (omega arith) (omega arith) l) (c j)))
        (which (ltb j max_constructs))

    inside : 10 * j + w < length ns → get_or (room ns i) (10 * j + w) 0 ≤ most
    inside l =
        ⊎_elim
        (λ (e : ltb j (i + 1) ≡ true). (let g : j < i + 1 = ltb-true j (i + 1) e in rw (room_below ns i (10 * j + w) (omega arith) l) (c j)))
        (λ (e : ltb j (i + 1) ≡ false). later l (ltb-false j (i + 1) e))
        (which (ltb j (i + 1)))

node_column : (ns : List ℕ) (i kind size place a b c d e w most : ℕ) → w < 10 → get_or (ten kind size place a b c d e) w 0 ≤ most → Column 10 w most ns → Column 10 w most (put_node ns i kind size place a b c d e)
unfolding put_node
node_column ns i kind size place a b c d e w most h z f =
    picked (Column 10 w most) (ltb i max_constructs)
    (λ y. rw words_sets (entry_put 10 w most i (ten kind size place a b c d e) (room ns i) (omega arith) h z (room_column ns i w most h f)))
    (λ y. f)

condition_column : (ns : List ℕ) (i from end w most : ℕ) → w < 8 → Column 10 w most ns → Column 10 w most (put_condition ns i from end)
unfolding put_condition
condition_column ns i from end w most h f =
    picked (Column 10 w most) (ltb i max_constructs)
    (λ y j. set_most (set ns (10 * i + 8) from) (10 * i + 9) end (10 * j + w) most (set_most ns (10 * i + 8) from (10 * j + w) most (f j) (λ z. absurd (omega arith))) (λ z. absurd (omega arith)))
    (λ y. f)

-- ---- terms and rules

term_column : (ts : List ℕ) (t tag value place origin w most : ℕ) → w < 4 → get_or (tag ∷ value ∷ place ∷ origin ∷ []) w 0 ≤ most → Column 4 w most ts → Column 4 w most (put_term ts t tag value place origin)
unfolding put_term
term_column ts t tag value place origin w most h z f =
    picked (Column 4 w most) (ltb t max_terms) (λ y. simp towards_suc (entry_put 4 w most t (tag ∷ value ∷ place ∷ origin ∷ []) ts (omega arith) h z f)) (λ y. f)

-- only a tag changes
single_column : (ts : List ℕ) (t w most : ℕ) → suc w < 4 → Column 4 (suc w) most ts → Column 4 (suc w) most (put_single ts t)
unfolding put_single
single_column ts t w most h f =
    picked (Column 4 (suc w) most) (leb t max_terms) (λ y. entry_put 4 (suc w) most (t - 1) (marked_tag (get_or ts (4 * (t - 1)) 0) ∷ []) ts (omega arith) h (omega arith) f) (λ y. f)

rule_column : (rs : List ℕ) (r place first nodes terms binders w most : ℕ) → w < 5 → get_or (place ∷ first ∷ nodes ∷ terms ∷ binders ∷ []) w 0 ≤ most → Column 5 w most rs → Column 5 w most (put_rule rs r place first nodes terms binders)
unfolding put_rule
rule_column rs r place first nodes terms binders w most h z f =
    picked (Column 5 w most) (ltb r rules_kept) (λ y. simp towards_suc (entry_put 5 w most r (place ∷ first ∷ nodes ∷ terms ∷ binders ∷ []) rs (omega arith) h z f)) (λ y. f)

-- ---- all that is read

pub record Bounded (most : ℕ) (st : State) : Type 0 where
  pub nodes : (j : ℕ) → place_of (node_words st) j ≤ most
  -- the name that a node binds, or its repetition mark
  pub seconds : (j : ℕ) → second_place (node_words st) j ≤ most
  pub terms : (j : ℕ) → stored_term_at (term_words st) j ≤ most
  pub origins : (j : ℕ) → term_origin (term_words st) j ≤ most
  pub rules : (j : ℕ) → named_at (rule_words st) j ≤ most

pub blank_bounded : {most : ℕ} → Bounded most blank
blank_bounded {most} =
    record {
      nodes = λ j. zeros_most nodes_room (10 * j + 2) most;
      seconds = λ j. zeros_most nodes_room (10 * j + 4) most;
      terms = λ j. zeros_most terms_room (4 * j + 2) most;
      origins = λ j. zeros_most terms_room (4 * j + 3) most;
      rules = λ j. zeros_most rules_room (5 * j + 0) most;
    }

module _ {most : ℕ} where
  pub add_bounded : (tag value place origin : ℕ) (st : State) → place ≤ most → origin ≤ most → Bounded most st → Bounded most (add tag value place origin st)
  add_bounded tag value place origin (state ns ts rs n t b r) p o g =
      record {
        nodes = g.nodes;
        seconds = g.seconds;
        terms = term_column ts t tag value place origin 2 most (omega arith) p g.terms;
        origins = term_column ts t tag value place origin 3 most (omega arith) o g.origins;
        rules = g.rules;
      }

  pub single_bounded : (st : State) → Bounded most st → Bounded most (single st)
  single_bounded (state ns ts rs n t b r) g =
      record { nodes = g.nodes; seconds = g.seconds; terms = single_column ts t 1 most (omega arith) g.terms; origins = single_column ts t 2 most (omega arith) g.origins; rules = g.rules }

  pub insert_bounded : (kind place i a b c d e : ℕ) (st : State) → place ≤ most → b ≤ most → Bounded most st → Bounded most (insert kind place i a b c d e st)
  insert_bounded kind place i a b c d e (state ns ts rs n t u r) p q g =
      record {
        nodes = node_column ns i kind (counted max_constructs n - i) place a b c d e 2 most (omega arith) p g.nodes;
        seconds = node_column ns i kind (counted max_constructs n - i) place a b c d e 4 most (omega arith) q g.seconds;
        terms = g.terms;
        origins = g.origins;
        rules = g.rules;
      }

  pub leaf_bounded : (kind place a c d e : ℕ) (st : State) → place ≤ most → Bounded most st → Bounded most (leaf kind place a 0 c d e st)
  leaf_bounded kind place a c d e st p g = insert_bounded kind place (nodes_of st) a 0 c d e st p (omega arith) g

  pub condition_bounded : (i from end : ℕ) (st : State) → Bounded most st → Bounded most (condition_on i from end st)
  condition_bounded i from end (state ns ts rs n t b r) g =
      record {
        nodes = condition_column ns i from end 2 most (omega arith) g.nodes;
        seconds = condition_column ns i from end 4 most (omega arith) g.seconds;
        terms = g.terms;
        origins = g.origins;
        rules = g.rules;
      }

  pub bind_bounded : (st : State) → Bounded most st → Bounded most (bind st)
  bind_bounded (state ns ts rs n t b r) g = record { nodes = g.nodes; seconds = g.seconds; terms = g.terms; origins = g.origins; rules = g.rules }

  pub rule_bounded : (place first : ℕ) (st : State) → place ≤ most → Bounded most st → Bounded most (close_rule place first st)
  rule_bounded place first (state ns ts rs n t b r) p g =
      record { nodes = g.nodes; seconds = g.seconds; terms = g.terms; origins = g.origins; rules = rule_column rs r place first n t b 0 most (omega arith) p g.rules }
