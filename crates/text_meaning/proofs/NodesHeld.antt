-- Each node of a right text is what its words hold.
-- Assumes nothing.
use Prim.Native.Nat.{ℕ, zero, suc, ◌+◌, ◌*◌, ◌-◌, ◌/◌, ◌%◌, ◌^◌, ◌≤◌, ◌<◌}
use mathlib.Core.Path.{◌≡◌, refl, sym, ap, subst, ◌∙◌}
use mathlib.Core.Logic.{inl, inr, ⊎_elim}
use mathlib.Core.Bool.{Bool, true, false, cond, not}
use mathlib.Core.List.Memᴰ
use mathlib.Core.List.{List, [], ◌∷◌}
use mathlib.Core.Option.{Option, some}
use native.Mathlib.Omega.{arith}
use native.Mathlib.Numerals.{add-one}
use borrow.Author.Tests.{lt-ltb, eq-eqb, ne_eqb, ltb-true, ltb-false}
use lib.Dec.{eqb, ltb}
use lib.IntN.{ℤ}
use lib.ListN.{length, get_or, drop, set}
use lib.Seq.{drop-cons, drop-length}
use Rattle.basis.specs.Limits.{max_literal_bytes}
use Rattle.basis.specs.Patterns.{pattern_value}
use Rattle.basis.specs.Counts.{Counts}
use Rattle.basis.proofs.Booleans.{which}
use Rattle.text_literals.specs.Literals.{characters_at}
use Rattle.term_words.specs.Words.{term_at, terms}
use Rattle.term_words.specs.declared.Mode.{Mode}
use Rattle.term_words.specs.declared.Term.{Term}
use Rattle.term_evaluation.specs.Meaning.{membership, condition}
use Rattle.term_evaluation.specs.Counts.{form_of, counts}
use Rattle.term_evaluation.specs.Variables.{has_variable}
use Rattle.theory.specs.Grammar.{◌∈◌, alternative, concatenation, repetition, switch, use_of, field}
use Rattle.table_layout.specs.Places.{word, construct_word, literals_at}
use Rattle.table_layout.specs.Constructs.{construct_at}
use Rattle.table_layout.specs.Held.{Values, HeldNode, term_words, size_of, parts, allowed, is_yes, is_exact, passes_allowed, passes_static, passes_fixed, first_case, no_default, literal_byte, literal_bytes, literal_node, bound, node_of}
use Rattle.table_layout.specs.declared.Construct.{Construct}
use Rattle.text_wellformed.proofs.NoFaults.{use_below}
use Rattle.text_shapes.specs.NodeShapes.{NameAt, Marked, Conditioned, Unconditioned, Holds, tree, literal_tree, range_tree, use_tree, eod_tree, uint_tree, marked_tree, counted_tree, chain_tree, switch_tree}
use Rattle.text_shapes.specs.Stored.{Stored}
use Rattle.text_shapes.specs.Placed.{Placed}
use Rattle.text_store.specs.Words.{kind_of, node_size, place_of, node_mark, how_bound, condition_from, condition_end}
use Rattle.text_encoding.specs.Numbers.{rule_of, binders_before, width_of, is_signed, condition_length, own_length, condition_start, own_start}
use Rattle.text_encoding.specs.Encoded.{encoded}
use Rattle.text_wellformed.specs.Context.{Readable, TreeAt, ConditionAt, without, with_one}
use Rattle.text_wellformed.specs.Meant.{passes_meant, meant}
use Rattle.text_wellformed.proofs.LaidOut.{words_by_place, constructs_known, few_binders, few_terms, quiet, term_placed, literal_small}
use Rattle.text_wellformed.proofs.NodeFacts.{nodes, tree_below, tree_size}
use Rattle.text_wellformed.proofs.PartsLaid.{size_is}
use Rattle.text_wellformed.proofs.BytesLaid.{byte_is}
use Rattle.text_wellformed.proofs.RuleWords.{body_is}
use Rattle.text_wellformed.proofs.ListsFormed.{no_condition, a_condition}
use Rattle.text_meaning.specs.Meaning
use Rattle.text_meaning.specs.Meaning.{parts_from, parts_of, last_of, counts_in, static_counts, passes, is_fixed, own_list, condition_list, is_default, is_true, first_true, no_default as text-no-default, meant_node}
use Rattle.text_meaning.proofs.TermLists.{same_membership, same_condition, last_at, counts_as}
use Rattle.text_meaning.proofs.PartLists.{parts_next, parts_end, part_below, given}
use Rattle.text_meaning.proofs.ListsHeld.{OwnShape, own_of_set, own_of_counts, own_held, condition_held}

-- both spellings of a byte's place
powers : (q : ℕ) → q < 4 → 2 ^ (8 * q) ≡ 256 ^ q
powers zero h = refl
powers (suc zero) h = refl
powers (suc (suc zero)) h = refl
powers (suc (suc (suc zero))) h = refl
powers (suc (suc (suc (suc q)))) h = absurd (omega arith)

-- a binder sets its variable
binder_bound : (binds : Bool) (k : ℕ) (v : Values) (n : ℤ) → bound (cond binds (k + 1) 0) v n ≡ cond binds (set v k n) v
binder_bound true k v n = rw add-one refl
binder_bound false k v n = refl

-- `?`, `*` and `+`
module _ (ws : List ℕ) (i s e : ℕ) (list : List Term) where
  abbrev Same : ℕ → Type 0
  Same how =
      ◌≡◌ {A = HeldNode} (repetition (λ c v. passes_allowed ws (passes_meant how s e) v) (passes_static ws (passes_meant how s e)) (passes_fixed ws (passes_meant how s e)) (i + 1))
      (repetition (λ c v. passes how (counts_in list v)) (passes how (static_counts list)) (is_fixed how list) (i + 1))

  marked_same : (how : ℕ) → 1 ≤ how → how ≤ 3 → Same how
  marked_same zero l m = absurd (omega arith)
  marked_same (suc zero) l m = refl
  marked_same (suc (suc zero)) l m = refl
  marked_same (suc (suc (suc zero))) l m = refl
  marked_same (suc (suc (suc (suc how)))) l m = absurd (omega arith)

  -- counts
  counted_same : s < e → terms (term_words ws) s e ≡ list → Same 4
  unfolding counts
  counted_same l is =
      let at : (v : Values) → counts v (term_words ws) s e ≡ (Meaning.counted Mode.Values v list).counted = λ v. counts_as (term_words ws) s e l Mode.Values v list is in
      let end : term_at (term_words ws) (e - 1) ≡ last_of list = last_at (term_words ws) s e l ∙ ap last_of is in
      λ t. repetition (λ c v. allowed (at v t)) (cond (has_variable (is t)) (Counts.from 0) (allowed (at [] t))) (is_exact (form_of (end t))) (i + 1)

  -- a uint or sint
  uint_same : (signed : Bool) (width k : ℕ) (binds : Bool) → terms (term_words ws) s e ≡ list
      → node_of ws i (Construct.Uint signed width s e (cond binds (k + 1) 0)) ≡ Meaning.uint_node signed width list binds k
  unfolding node_of
  uint_same signed width k binds is =
      let at : (v : Values) (n : ℤ) → membership v n s (terms (term_words ws) s e) ≡ membership v n 0 list =
      λ v n. same_membership v n s 0 (terms (term_words ws) s e) ∙ ap (membership v n 0) is in
      λ t. field (λ bits. width) (λ c v bits. is_yes (at v (pattern_value signed bits) t)) (λ bits. cond (has_variable (is t)) true (is_yes (at [] (pattern_value signed bits) t))) (λ c v bits. binder_bound binds k v (pattern_value signed bits) t)

-- the bytes from byte k on are the characters from there on
bytes_same : (ws : List ℕ) (i : ℕ) (list : List ℕ) → ((k : ℕ) → k < length list → literal_byte ws i k ≡ get_or list k 0) → (n k : ℕ) → k + n ≡ length list → literal_bytes ws i k n ≡ drop k list
unfolding literal_bytes
bytes_same ws i list at zero k e = let z : k ≡ length list = omega arith in rw z (sym (drop-length list))
bytes_same ws i list at (suc n) k e =
    let z : k + 1 ≡ suc k = omega arith in
    let h : k < length list = omega arith in
    (λ t. at k h t ∷ bytes_same ws i list at n (k + 1) (omega arith) t) ∙ rw (z, drop-cons list k 0 h)

module _ {xs ns ts rs : List ℕ} {n t b r : ℕ} (text : Readable xs ns ts rs n t b r) (stored : Stored xs ns ts) (places : Placed (length xs) ns ts rs) where
  abbrev ws : List ℕ
  ws = encoded xs ns ts rs n r

  -- ---- parts

  size_held : (j : ℕ) → j < n → size_of (construct_at ws j) ≡ node_size ns j
  size_held j h = size_is text (words_by_place text stored places) (quiet text stored places) j h

  parts_held : (most j end : ℕ) → end ≤ n → parts most ws j end ≡ parts_from ns most j end
  unfolding parts parts_from
  parts_held zero j end l = refl
  parts_held (suc most) j end l =
      ⊎_elim
      (λ (e : ltb j end ≡ true).
      let h : j < n = omega (arith, ltb-true j end e) in
      let tree_at : TreeAt xs ns ts n t j = (nodes text).trees j h in
      let some : eqb (size_of (construct_at ws j)) 0 ≡ false = ne_eqb (size_of (construct_at ws j)) 0 (λ z. omega (arith, size_held j h, tree_size tree_at.holds, tree_below tree_at.holds)) in
      let rest : parts most ws (j + size_of (construct_at ws j)) end ≡ parts_from ns most (j + node_size ns j) end =
      parts_held most (j + size_of (construct_at ws j)) end l ∙ ap (λ (s : ℕ). parts_from ns most (j + s) end) (size_held j h) in
      let first : parts (suc most) ws j end ≡ j ∷ parts most ws (j + size_of (construct_at ws j)) end =
      λ t. elim (e t) [ true ↦ j ∷ elim (some t) [ true ↦ [] | false ↦ parts most ws (j + size_of (construct_at ws j)) end ] | false ↦ [] ] in
      first ∙ ap (λ (l : List ℕ). j ∷ l) rest ∙ sym (parts_next ns most j end (ltb-true j end e)))
      (λ (e : ltb j end ≡ false).
      (λ t. elim (e t) [ true ↦ j ∷ elim (eqb (size_of (construct_at ws j)) 0) [ true ↦ [] | false ↦ parts most ws (j + size_of (construct_at ws j)) end ] | false ↦ [] ])
      ∙ sym (parts_end ns (suc most) j end (ltb-false j end e)))
      (which (ltb j end))

  -- ---- cases

  -- what the words say of a case, and what the text says
  abbrev by_words : Values → ℕ → Option ℕ → Option ℕ
  by_words v c x =
      elim (ltb (construct_word ws c 6) (construct_word ws c 7)) [
        | true ↦ elim (is_yes (condition v (construct_word ws c 6) (terms (term_words ws) (construct_word ws c 6) (construct_word ws c 7)))) [ true ↦ some c | false ↦ x ]
        | false ↦ some c
      ]

  abbrev by_text : Values → ℕ → Option ℕ → Option ℕ
  by_text v c x = elim (is_default ns c) [ true ↦ some c | false ↦ elim (is_true xs ns ts rs r v c) [ true ↦ some c | false ↦ x ] ]

  -- the words of a node's condition: none, or its terms
  no_words : (c : ℕ) → c < n → Unconditioned ns c → (construct_word ws c 6 ≡ 0) × (construct_word ws c 7 ≡ 0)
  no_words c h u = no_condition (words_by_place text stored places) (nodes text) text (few_binders text stored places) (few_terms text stored places) (term_placed text stored places) c h (omega (arith, u.from_is, u.end_is))

  condition_words : (c : ℕ) → c < n → {f g : ℕ} → Conditioned ns ts c f g → (construct_word ws c 6 ≡ condition_start ns c) × (construct_word ws c 7 ≡ condition_start ns c + condition_length ns c)
  condition_words c h d =
      let some_terms : 0 < condition_length ns c = omega (arith, d.from_is, d.end_is, d.shape.some) in
      a_condition (words_by_place text stored places) (nodes text) text (few_binders text stored places) (few_terms text stored places) (term_placed text stored places) c h some_terms

  case_held : (v : Values) (c : ℕ) (x y : Option ℕ) → c < n → x ≡ y → ConditionAt ns ts t c → by_words v c x ≡ by_text v c y
  case_held v c x y h same (without u) =
      let z = no_words c h u in
      let d : is_default ns c ≡ true = eq-eqb (condition_from ns c) (condition_end ns c) (u.from_is ∙ sym u.end_is) in
      (λ t.
      elim (ltb (z.0 t) (z.1 t))
      [ true ↦ elim (is_yes (condition v (z.0 t) (terms (term_words ws) (z.0 t) (z.1 t)))) [ true ↦ some c | false ↦ x ] | false ↦ some c ])
      ∙ sym (λ t. elim (d t) [ true ↦ some c | false ↦ elim (is_true xs ns ts rs r v c) [ true ↦ some c | false ↦ y ] ])
  case_held v c x y h same (with_one d l) =
      let z = condition_words c h d in
      let from : ℕ = condition_start ns c in
      let e : ltb from (from + condition_length ns c) ≡ true = lt-ltb from (from + condition_length ns c) (omega (arith, d.from_is, d.end_is, d.shape.some)) in
      let same_test : condition v from (terms (term_words ws) from (from + condition_length ns c)) ≡ condition v 0 (condition_list xs ns ts rs r c) =
      same_condition v from 0 (terms (term_words ws) from (from + condition_length ns c)) ∙ ap (condition v 0) (condition_held text stored places c h d l) in
      (λ t.
      elim (ltb (z.0 t) (z.1 t))
      [ true ↦ elim (is_yes (condition v (z.0 t) (terms (term_words ws) (z.0 t) (z.1 t)))) [ true ↦ some c | false ↦ x ] | false ↦ some c ])
      ∙ (λ t. elim (e t) [ true ↦ elim (is_yes (same_test t)) [ true ↦ some c | false ↦ same t ] | false ↦ some c ])
      ∙ sym (λ t. elim (given d t) [ true ↦ some c | false ↦ elim (is_true xs ns ts rs r v c) [ true ↦ some c | false ↦ y ] ])

  cases_held : (v : Values) (cs : List ℕ) → ((c : ℕ) → c ∈ cs → c < n) → first_case ws v cs ≡ first_true xs ns ts rs r v cs
  unfolding first_case first_true
  cases_held v [] a = refl
  cases_held v (c ∷ cs) a =
      let h : c < n = a c (Memᴰ.head refl) in
      case_held v c (first_case ws v cs) (first_true xs ns ts rs r v cs) h (cases_held v cs (λ d m. a d (Memᴰ.tail m))) ((nodes text).conditions c h)

  -- the words have no default where the text has none
  default_one : (c : ℕ) (x y : Bool) → c < n → x ≡ y → ConditionAt ns ts t c
      → ◌≡◌ {A = Bool} (elim (ltb (construct_word ws c 6) (construct_word ws c 7)) [ true ↦ x | false ↦ false ]) (elim (is_default ns c) [ true ↦ false | false ↦ y ])
  default_one c x y h same (without u) =
      let z = no_words c h u in
      let d : is_default ns c ≡ true = eq-eqb (condition_from ns c) (condition_end ns c) (u.from_is ∙ sym u.end_is) in
      (λ t. elim (ltb (z.0 t) (z.1 t)) [ true ↦ x | false ↦ false ]) ∙ sym (λ t. elim (d t) [ true ↦ false | false ↦ y ])
  default_one c x y h same (with_one d l) =
      let z = condition_words c h d in
      let from : ℕ = condition_start ns c in
      let e : ltb from (from + condition_length ns c) ≡ true = lt-ltb from (from + condition_length ns c) (omega (arith, d.from_is, d.end_is, d.shape.some)) in
      (λ t. elim (ltb (z.0 t) (z.1 t)) [ true ↦ x | false ↦ false ]) ∙ (λ t. elim (e t) [ true ↦ same t | false ↦ false ]) ∙ sym (λ t. elim (given d t) [ true ↦ false | false ↦ y ])

  default_held : (cs : List ℕ) → ((c : ℕ) → c ∈ cs → c < n) → no_default ws cs ≡ text-no-default ns cs
  unfolding no_default text-no-default
  default_held [] a = refl
  default_held (c ∷ cs) a =
      let h : c < n = a c (Memᴰ.head refl) in
      default_one c (no_default ws cs) (text-no-default ns cs) h (default_held cs (λ d m. a d (Memᴰ.tail m))) ((nodes text).conditions c h)

  -- ---- by kind

  module _ (i : ℕ) (h : i < n) (fits : i + node_size ns i ≤ n) where
    parts_are : parts (node_size ns i) ws (i + 1) (i + node_size ns i) ≡ parts_of ns i
    parts_are = parts_held (node_size ns i) (i + 1) (i + node_size ns i) fits

    Held : Type 0
    Held = node_of ws i (meant xs ns rs r i) ≡ meant_node xs ns ts rs r i

    alternative_held : kind_of ns i ≡ 1 → Held
    unfolding Held node_of meant meant_node
    alternative_held k = rw k (ap alternative parts_are)

    concatenation_held : kind_of ns i ≡ 2 → Held
    unfolding Held node_of meant meant_node
    concatenation_held k = rw k (ap concatenation parts_are)

    marked_held : kind_of ns i ≡ 3 → Marked ns i → Held
    unfolding Held node_of meant meant_node
    marked_held k m = rw k (marked_same ws i (own_start ns i) (own_start ns i + own_length ns i) (own_list xs ns ts rs r i) (node_mark ns i) m.least m.most)

    counted_held : kind_of ns i ≡ 3 → node_mark ns i ≡ 4 → Held
    unfolding Held node_of meant meant_node
    counted_held k w =
        let o : OwnShape ns ts t i = own_of_counts text i h k w in
        rw k
        (subst (Same ws i (own_start ns i) (own_start ns i + own_length ns i) (own_list xs ns ts rs r i)) (sym w)
        (counted_same ws i (own_start ns i) (own_start ns i + own_length ns i) (own_list xs ns ts rs r i) (omega (arith, o.some)) (own_held text stored places i h o)))

    switch_held : kind_of ns i ≡ 4 → Held
    unfolding Held node_of meant meant_node
    switch_held k =
        let first : (v : Values) → first_case ws v (parts (node_size ns i) ws (i + 1) (i + node_size ns i)) ≡ first_true xs ns ts rs r v (parts_of ns i) =
        λ v. ap (first_case ws v) parts_are ∙ cases_held v (parts_of ns i) (λ c m. omega (arith, part_below ns (node_size ns i) (i + 1) (i + node_size ns i) c m)) in
        let optional : no_default ws (parts (node_size ns i) ws (i + 1) (i + node_size ns i)) ≡ text-no-default ns (parts_of ns i) =
        ap (no_default ws) parts_are ∙ default_held (parts_of ns i) (λ c m. omega (arith, part_below ns (node_size ns i) (i + 1) (i + node_size ns i) c m)) in
        rw k (λ t. switch (λ c v. first v t) (optional t) (parts_are t))

    use_held : kind_of ns i ≡ 5 → NameAt xs (place_of ns i) → Held
    unfolding Held node_of meant meant_node
    use_held k at =
        rw k
        (ap (λ (body : ℕ). use_of (λ c. some c) (λ c v. v) (λ v v'. v') body)
        (body_is (words_by_place text stored places) text (few_binders text stored places) (rule_of xs rs r (place_of ns i)) (use_below text i h k at)))

    literal_held : kind_of ns i ≡ 6 → Held
    unfolding Held node_of meant meant_node
    literal_held k =
        let list : List ℕ = characters_at xs (place_of ns i) in
        let at : (j : ℕ) → j < length list → literal_byte ws i j ≡ get_or list j 0 =
        λ j l.
        let m : j < max_literal_bytes = omega (arith, (literal_small text stored places i h k).0) in
        let p : 2 ^ (8 * (j % 4)) ≡ 256 ^ (j % 4) = powers (j % 4) (omega arith) in
        ap (λ (d : ℕ). word ws (literals_at + 8 * i + j / 4) / d % 256) p ∙ byte_is (words_by_place text stored places) (constructs_known text stored places) (literal_small text stored places) i j h m k in
        rw k (ap literal_node (bytes_same ws i list at (length list) 0 (omega arith)))

    range_held : kind_of ns i ≡ 7 → Held
    unfolding Held node_of meant meant_node
    range_held k = rw k refl

    uint_held : kind_of ns i ≡ 8 → Held
    unfolding Held meant meant_node
    uint_held k =
        rw k
        (uint_same ws i (own_start ns i) (own_start ns i + own_length ns i) (own_list xs ns ts rs r i) (is_signed xs ns i) (width_of xs ns i) (binders_before ns i) (not (eqb (how_bound ns i) 0))
        (own_held text stored places i h (own_of_set text i h k)))

    eod_held : kind_of ns i ≡ 9 → Held
    unfolding Held node_of meant meant_node
    eod_held k = rw k refl

  -- ---- any node

  node_held : {i e f g β : ℕ} → i < n → i + node_size ns i ≤ n → Holds xs ns ts tree i e f g β → node_of ws i (meant xs ns rs r i) ≡ meant_node xs ns ts rs r i
  unfolding Held
  node_held {i} h l (literal_tree x z c w) = literal_held i h l x.kind_is
  node_held {i} h l (range_tree x z c w d) = range_held i h l x.kind_is
  node_held {i} h l (use_tree x z c w) = use_held i h l x.kind_is w
  node_held {i} h l (eod_tree x z c) = eod_held i h l x.kind_is
  node_held {i} h l (uint_tree x z c w) = uint_held i h l x.kind_is
  node_held {i} h l (marked_tree x z m u y) = marked_held i h l x.kind_is m
  node_held {i} h l (counted_tree x z c u y) = counted_held i h l x.kind_is c.how
  node_held {i} h l (chain_tree x (inl w) z c y) = alternative_held i h l (x.kind_is ∙ w)
  node_held {i} h l (chain_tree x (inr w) z c y) = concatenation_held i h l (x.kind_is ∙ w)
  node_held {i} h l (switch_tree x z y) = switch_held i h l x.kind_is

  pub node_says : (i : ℕ) → i < n → node_of ws i (construct_at ws i) ≡ meant_node xs ns ts rs r i
  node_says i h =
      let tree_at : TreeAt xs ns ts n t i = (nodes text).trees i h in
      ap (node_of ws i) (constructs_known text stored places i h)
      ∙ node_held h (omega (arith, tree_size tree_at.holds, tree_below tree_at.holds, tree_at.within)) tree_at.holds
