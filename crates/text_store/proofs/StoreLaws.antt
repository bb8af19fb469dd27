-- The words of nodes, terms and rules after something is put: what is where. Each put is a run of stores, so one law of such runs serves all.
-- Assumes nothing.
use Prim.Native.Nat.{ℕ, zero, suc, ◌+◌, ◌-◌, ◌≤◌, ◌<◌}
use mathlib.Core.Path.{◌≡◌, refl, sym, ap, ◌∙◌}
use mathlib.Core.Logic.{◌≢◌}
use mathlib.Core.List.{List, [], ◌∷◌}
use native.Mathlib.Omega.{arith}
use native.Mathlib.Numerals.{towards_suc}
use borrow.Author.Tests.{lt-ltb, le-leb}
use lib.Dec.{ltb, leb}
use lib.ListN.{length, get_or, set, length-set, get_or-replicate, get_or-eq_default}
use lib.Seq.{get_or-set_same, get_or-set_other, sets, length-sets}
use Rattle.basis.specs.Limits.{max_constructs, max_terms}
use Rattle.basis.proofs.Booleans.{picked}
use Rattle.text_store.specs.Store.{blank, node_words, term_words, marked_tag, put_term, put_single, put_words, room, put_node, put_condition, put_rule}
use Rattle.text_store.proofs.Rooms.{length_room, room_below, room_above}
use Rattle.text_store.specs.Words.{node_start, term_start, rule_start, node_word, term_word, rule_word, condition_from, condition_end, term_tag, nodes_room, terms_room, rules_kept, rules_room}

-- ---- a run of stores

pub sets_below : (vs l : List ℕ) (k j : ℕ) → j < k → get_or (sets l k vs) j 0 ≡ get_or l j 0
sets_below [] l k j h = refl
sets_below (a ∷ vs) l k j h = sets_below vs (set l k a) (suc k) j (omega arith) ∙ get_or-set_other l k j a 0 (omega arith)

pub sets_above : (vs l : List ℕ) (k j : ℕ) → k + length vs ≤ j → get_or (sets l k vs) j 0 ≡ get_or l j 0
sets_above [] l k j h = refl
sets_above (a ∷ vs) l k j h = sets_above vs (set l k a) (suc k) j (omega arith) ∙ get_or-set_other l k j a 0 (omega arith)

pub sets_at : (vs l : List ℕ) (k w : ℕ) → k + length vs ≤ length l → w < length vs → get_or (sets l k vs) (k + w) 0 ≡ get_or vs w 0
sets_at [] l k w h i = absurd (omega arith)
sets_at (a ∷ vs) l k zero h i =
    let e : k + zero ≡ k = omega arith in rw e (sets_below vs (set l k a) (suc k) k (omega arith) ∙ get_or-set_same l k a 0 (omega arith))
sets_at (a ∷ vs) l k (suc w) h i =
    let e : k + suc w ≡ suc k + w = omega arith in rw e (sets_at vs (set l k a) (suc k) w (simp length-set (omega arith)) (omega arith))

-- ---- nodes

-- the ten words of a node
abbrev pub ten : (kind size place a b c d e : ℕ) → List ℕ
ten kind size place a b c d e = kind ∷ size ∷ place ∷ a ∷ b ∷ c ∷ d ∷ e ∷ 0 ∷ 0 ∷ []

pub words_sets : (ns : List ℕ) (k kind size place a b c d e : ℕ) → put_words ns k kind size place a b c d e ≡ sets ns k (ten kind size place a b c d e)
unfolding put_words
words_sets ns k kind size place a b c d e =
    let z : k + 9 ≡ suc (suc (suc (suc (suc (suc (suc (suc (suc k)))))))) = omega arith in simp (towards_suc, z)

length_put_words : (ns : List ℕ) (k kind size place a b c d e : ℕ) → length (put_words ns k kind size place a b c d e) ≡ length ns
length_put_words ns k kind size place a b c d e = rw words_sets (length-sets ns k (ten kind size place a b c d e))

pub length_put_node : (ns : List ℕ) (i kind size place a b c d e : ℕ) → length (put_node ns i kind size place a b c d e) ≡ length ns
unfolding put_node
length_put_node ns i kind size place a b c d e =
    picked (λ (l : List ℕ). length l ≡ length ns) (ltb i max_constructs)
    (λ z. length_put_words (room ns i) (node_start i) kind size place a b c d e ∙ length_room ns i)
    (λ z. refl)

module _ (ns : List ℕ) (i kind size place a b c d e : ℕ) (h : i < max_constructs) (l : length ns ≡ nodes_room) where
  node_sets : put_node ns i kind size place a b c d e ≡ sets (room ns i) (node_start i) (ten kind size place a b c d e)
  unfolding put_node
  node_sets = rw (lt-ltb i max_constructs h) (words_sets (room ns i) (node_start i) kind size place a b c d e)

  room_length : length (room ns i) ≡ nodes_room
  room_length = length_room ns i ∙ l

  pub node_before : (j : ℕ) → j < node_start i → get_or (put_node ns i kind size place a b c d e) j 0 ≡ get_or ns j 0
  node_before j g = rw node_sets (sets_below (ten kind size place a b c d e) (room ns i) (node_start i) j g ∙ room_below ns i j (omega arith) (omega arith))

  pub node_at : (w : ℕ) → w < 10 → node_word (put_node ns i kind size place a b c d e) i w ≡ get_or (ten kind size place a b c d e) w 0
  node_at w g = rw node_sets (sets_at (ten kind size place a b c d e) (room ns i) (node_start i) w (omega (arith, room_length)) g)

  pub node_after : (j q : ℕ) → node_start i ≤ j → q ≡ j + 10 → q < nodes_room → get_or (put_node ns i kind size place a b c d e) q 0 ≡ get_or ns j 0
  node_after j q g y z =
      rw node_sets
      (sets_above (ten kind size place a b c d e) (room ns i) (node_start i) q (omega arith)
      ∙ room_above ns i q (omega arith) z (omega arith)
      ∙ ap (λ (k : ℕ). get_or ns k 0) (let x : q - 10 ≡ j = omega arith in x))

-- ---- conditions

condition_sets : (ns : List ℕ) (i from end : ℕ) → i < max_constructs → put_condition ns i from end ≡ sets ns (node_start i + 8) (from ∷ end ∷ [])
unfolding put_condition
condition_sets ns i from end h = let z : node_start i + 9 ≡ suc (node_start i + 8) = omega arith in rw (lt-ltb i max_constructs h, z)

pub length_put_condition : (ns : List ℕ) (i from end : ℕ) → length (put_condition ns i from end) ≡ length ns
unfolding put_condition
length_put_condition ns i from end =
    picked (λ (l : List ℕ). length l ≡ length ns) (ltb i max_constructs)
    (λ z. length-set (set ns (node_start i + 8) from) (node_start i + 9) end ∙ length-set ns (node_start i + 8) from)
    (λ z. refl)

module _ (ns : List ℕ) (i from end : ℕ) (h : i < max_constructs) where
  pub condition_before : (j : ℕ) → j < node_start i + 8 → get_or (put_condition ns i from end) j 0 ≡ get_or ns j 0
  condition_before j g = rw (condition_sets ns i from end h) (sets_below (from ∷ end ∷ []) ns (node_start i + 8) j g)

  pub condition_after : (j : ℕ) → node_start (i + 1) ≤ j → get_or (put_condition ns i from end) j 0 ≡ get_or ns j 0
  condition_after j g = rw (condition_sets ns i from end h) (sets_above (from ∷ end ∷ []) ns (node_start i + 8) j (omega arith))

  -- the two words of the condition: w is 0 or 1, q its place
  condition_at : length ns ≡ nodes_room → (w q : ℕ) → w < 2 → node_start i + 8 + w ≡ q → get_or (put_condition ns i from end) q 0 ≡ get_or (from ∷ end ∷ []) w 0
  condition_at l w q g y =
      rw (condition_sets ns i from end h)
      (ap (λ (p : ℕ). get_or (sets ns (node_start i + 8) (from ∷ end ∷ [])) p 0) (sym y) ∙ sets_at (from ∷ end ∷ []) ns (node_start i + 8) w (omega arith) g)

  pub from_put : length ns ≡ nodes_room → condition_from (put_condition ns i from end) i ≡ from
  from_put l = condition_at l 0 (node_start i + 8) (omega arith) (omega arith)

  pub end_put : length ns ≡ nodes_room → condition_end (put_condition ns i from end) i ≡ end
  end_put l = condition_at l 1 (node_start i + 9) (omega arith) (omega arith)

-- ---- terms

pub length_put_term : (ts : List ℕ) (t tag value place origin : ℕ) → length (put_term ts t tag value place origin) ≡ length ts
unfolding put_term
length_put_term ts t tag value place origin =
    picked (λ (l : List ℕ). length l ≡ length ts) (ltb t max_terms) (λ z. simp length-set) (λ z. refl)

pub length_put_single : (ts : List ℕ) (t : ℕ) → length (put_single ts t) ≡ length ts
unfolding put_single
length_put_single ts t = picked (λ (l : List ℕ). length l ≡ length ts) (leb t max_terms) (λ z. length-set ts (term_start (t - 1)) (marked_tag (get_or ts (term_start (t - 1)) 0))) (λ z. refl)

term_sets : (ts : List ℕ) (t tag value place origin : ℕ) → t < max_terms → put_term ts t tag value place origin ≡ sets ts (term_start t) (tag ∷ value ∷ place ∷ origin ∷ [])
unfolding put_term
term_sets ts t tag value place origin h = rw (lt-ltb t max_terms h) (simp towards_suc)

module _ (ts : List ℕ) (t tag value place origin : ℕ) (h : t < max_terms) where
  abbrev four : List ℕ
  four = tag ∷ value ∷ place ∷ origin ∷ []

  pub term_before : (j : ℕ) → j < term_start t → get_or (put_term ts t tag value place origin) j 0 ≡ get_or ts j 0
  term_before j g = rw (term_sets ts t tag value place origin h) (sets_below four ts (term_start t) j g)

  pub term_after : (j : ℕ) → term_start (t + 1) ≤ j → get_or (put_term ts t tag value place origin) j 0 ≡ get_or ts j 0
  term_after j g = rw (term_sets ts t tag value place origin h) (sets_above four ts (term_start t) j (omega arith))

  pub term_put : length ts ≡ terms_room → (w : ℕ) → w < 4 → term_word (put_term ts t tag value place origin) t w ≡ get_or (tag ∷ value ∷ place ∷ origin ∷ []) w 0
  term_put l w g = rw (term_sets ts t tag value place origin h) (sets_at four ts (term_start t) w (omega arith) g)

-- term k's tag marked
abbrev pub marked_at : List ℕ → ℕ → List ℕ
marked_at ts k = set ts (term_start k) (marked_tag (get_or ts (term_start k) 0))

pub single_marks : (ts : List ℕ) (t : ℕ) → t ≤ max_terms → put_single ts t ≡ marked_at ts (t - 1)
unfolding put_single
single_marks ts t h = rw (le-leb t max_terms h)

pub marked_other : (ts : List ℕ) (k j : ℕ) → j ≢ term_start k → get_or (marked_at ts k) j 0 ≡ get_or ts j 0
marked_other ts k j h = get_or-set_other ts (term_start k) j (marked_tag (get_or ts (term_start k) 0)) 0 h

pub marked_here : (ts : List ℕ) (k : ℕ) → term_start k < length ts → term_tag (marked_at ts k) k ≡ marked_tag (term_tag ts k)
marked_here ts k h =
    let e : term_start k + 0 ≡ term_start k = omega arith in
    rw e (get_or-set_same ts (term_start k) (marked_tag (get_or ts (term_start k) 0)) 0 h)

-- ---- rules

rule_sets : (rs : List ℕ) (r place first nodes terms binders : ℕ) → r < rules_kept → put_rule rs r place first nodes terms binders ≡ sets rs (rule_start r) (place ∷ first ∷ nodes ∷ terms ∷ binders ∷ [])
unfolding put_rule
rule_sets rs r place first nodes terms binders h = rw (lt-ltb r rules_kept h) (simp towards_suc)

pub length_put_rule : (rs : List ℕ) (r place first nodes terms binders : ℕ) → length (put_rule rs r place first nodes terms binders) ≡ length rs
unfolding put_rule
length_put_rule rs r place first nodes terms binders =
    picked (λ (l : List ℕ). length l ≡ length rs) (ltb r rules_kept) (λ z. simp length-set) (λ z. refl)

module _ (rs : List ℕ) (r place first nodes terms binders : ℕ) (h : r < rules_kept) where
  pub rule_before : (j : ℕ) → j < rule_start r → get_or (put_rule rs r place first nodes terms binders) j 0 ≡ get_or rs j 0
  rule_before j g = rw (rule_sets rs r place first nodes terms binders h) (sets_below (place ∷ first ∷ nodes ∷ terms ∷ binders ∷ []) rs (rule_start r) j g)

  pub rule_at : length rs ≡ rules_room → (w : ℕ) → w < 5 → rule_word (put_rule rs r place first nodes terms binders) r w ≡ get_or (place ∷ first ∷ nodes ∷ terms ∷ binders ∷ []) w 0
  rule_at l w g = rw (rule_sets rs r place first nodes terms binders h) (sets_at (place ∷ first ∷ nodes ∷ terms ∷ binders ∷ []) rs (rule_start r) w (omega arith) g)

-- ---- past the last entry all words are 0

pub node_none : (ns : List ℕ) (i w : ℕ) → length ns ≡ nodes_room → max_constructs ≤ i → node_word ns i w ≡ 0
node_none ns i w l h = get_or-eq_default ns 0 (omega arith)

pub term_none : (ts : List ℕ) (t w : ℕ) → length ts ≡ terms_room → max_terms ≤ t → term_word ts t w ≡ 0
term_none ts t w l h = get_or-eq_default ts 0 (omega arith)

pub rule_none : (rs : List ℕ) (r w : ℕ) → length rs ≡ rules_room → rules_kept ≤ r → rule_word rs r w ≡ 0
rule_none rs r w l h = get_or-eq_default rs 0 (omega arith)

-- ---- before anything is stored all words are 0

pub node_blank : (i w : ℕ) → i < max_constructs → w < 10 → node_word (node_words blank) i w ≡ 0
node_blank i w h g = get_or-replicate {A = ℕ} nodes_room (node_start i + w) 0 0 (omega arith)

pub term_blank : (t w : ℕ) → t < max_terms → w < 4 → term_word (term_words blank) t w ≡ 0
term_blank t w h g = get_or-replicate {A = ℕ} terms_room (term_start t + w) 0 0 (omega arith)
