-- The table's words of a text's nodes: the rows of their lists are the table's terms, and refusal 8 looks at those lists, whatever the numbers and widths are.
-- Assumes nothing.
use Prim.Native.Nat.{ℕ, suc, ◌+◌, ◌*◌, ◌/◌, ◌%◌, ◌≤◌, ◌<◌}
use mathlib.Core.Path.{◌≡◌, refl, sym, ap, ◌∙◌}
use mathlib.Core.Logic.{◌⊎◌, inl, inr}
use mathlib.Core.Bool.{Bool, true, false, cond, ◌&&◌}
use mathlib.Core.List.{List, [], ◌∷◌, ◌++◌}
use native.Mathlib.Omega.{arith}
use borrow.Author.Tests.{lt-ltb, le-ltb, le-leb, eqb-true, ne_eqb}
use lib.Dec.{leb, ltb, eqb}
use lib.IntN.{ℤ}
use lib.ListN.{length, get_or}
use Rattle.basis.specs.Limits.{max_width, max_bound_width}
use Rattle.basis.proofs.Booleans.{picked, picked as chosen}
use Rattle.term_words.specs.Words.{term_of, term_at}
use Rattle.term_words.specs.declared.Kind.{Kind}
use Rattle.term_words.specs.declared.Operation.{Operation}
use Rattle.term_words.specs.declared.Term.{Term as WordTerm}
use Rattle.term_sizes.specs.Sizes.{sizes, count_sizes}
use Rattle.table_layout.specs.Places.{construct_word}
use Rattle.table_layout.specs.Constructs.{branches, listed, widest_for, construct_of, construct_at}
use Rattle.table_layout.specs.Attributes.{attributes_of}
use Rattle.table_layout.specs.Held
use Rattle.table_layout.specs.declared.Construct.{Construct}
use Rattle.table_layout.specs.declared.OwnList.{OwnList}
use Rattle.table_sizes.specs.Measures.{widest, condition_size, list_size, own_size}
use Rattle.text_store.specs.Words.{kind_of, node_size, node_mark, is_binder, own_from, condition_from, is_use, term_tag, term_value, stored_term_at}
use Rattle.text_shapes.specs.TermShapes.{rename_term}
use Rattle.text_encoding.specs.Numbers.{first_at, variable_of, binds_one, binders_before, width_of, is_signed, condition_length, own_length, lists_length, condition_start, own_start}
use Rattle.text_encoding.specs.Encoded.{term_words, start_word, end_word, operands}
use Rattle.text_wellformed.specs.Context.{Words}
use Rattle.text_wellformed.proofs.Sums.{total_last, sum_below}
use Rattle.text_wellformed.proofs.Coding.{construct_is}
use Rattle.text_wellformed.proofs.TermsKnown.{shown_words, shown_term}
use Rattle.text_wellformed.proofs.TermsListed.{table_term}
use Rattle.tree_meaning.specs.Pieces.{Term}
use Rattle.tree_store.proofs.Rows.{TermRow}
use Rattle.tree_store.proofs.Storing.{TermIs}
use Rattle.tree_grammar.proofs.Lists.{RowsAt, row_then}
use Rattle.tree_sizes.proofs.Tells.{SignTag, Tells, told, a_number_row, a_use_row, a_sign_row, skipped}
use Rattle.tree_sizes.proofs.Reckoning.{Measured}
use Rattle.tree_sizes.proofs.Founds.{Written}
use Rattle.std.specs.Prelude.{Ok}

-- ---- a row's three words

-- a number of two words is both of them
number_back : (value : ℕ) → value ≤ 4611686018427387905 → value % 4294967296 + 4294967296 * (value / 4294967296 % 4294967296) ≡ value + 4294967296 * 0
number_back value h = omega arith

module _ (g : ℕ → ℕ) where
  number_shown : (tag value place v : ℕ) → (tag ≡ 1) ⊎ (tag ≡ 33) → value ≤ 4611686018427387905 → shown_term (shown_words (is_use tag) tag value v) ≡ rename_term g (term_of tag (cond (is_use tag) place value) 0)
  unfolding term_of
  number_shown tag value place v (inl z) h = rw z (ap (λ (n : ℕ). WordTerm.Part (Operation.Number n)) (number_back value h))
  number_shown tag value place v (inr z) h = rw z (ap (λ (n : ℕ). WordTerm.Single (Operation.Number n)) (number_back value h))

  use_shown : (tag value place v : ℕ) → (tag ≡ 2) ⊎ (tag ≡ 34) → v ≡ g place → v < 4294967296 → shown_term (shown_words (is_use tag) tag value v) ≡ rename_term g (term_of tag (cond (is_use tag) place value) 0)
  unfolding term_of
  use_shown tag value place v (inl z) e h = let w : v % 4294967296 ≡ g place = omega arith in rw z (ap (λ (k : ℕ). WordTerm.Part (Operation.Variable k)) w)
  use_shown tag value place v (inr z) e h = let w : v % 4294967296 ≡ g place = omega arith in rw z (ap (λ (k : ℕ). WordTerm.Single (Operation.Variable k)) w)

  sign_shown : (tag value place v : ℕ) → SignTag tag → value ≡ 0 → shown_term (shown_words (is_use tag) tag value v) ≡ rename_term g (term_of tag (cond (is_use tag) place value) 0)
  sign_shown tag value place v s e =
      (λ t. shown_term (shown_words (s.no_use t) tag (e t) v)) ∙ s.shown g ∙ sym (λ t. rename_term g (term_of tag (cond (s.no_use t) place (e t)) 0))

  -- what the table's term says of a stored row
  abbrev shown_at : List ℕ → ℕ → WordTerm
  shown_at ts k = shown_term (shown_words (is_use (term_tag ts k)) (term_tag ts k) (term_value ts k) (g (stored_term_at ts k)))

  row_first : (W ts : List ℕ) (s f : ℕ) (r : TermRow) → TermIs ts f r → term_at W (s + 0) ≡ shown_at ts (f + 0) → term_at W s ≡ shown_term (shown_words (is_use r.tag) r.tag r.value (g r.place))
  row_first W ts s f r is e =
      ap (term_at W) (let z : s ≡ s + 0 = omega arith in z) ∙ e ∙ ap (shown_at ts) (let z : f + 0 ≡ f = omega arith in z)
      ∙ (λ t. shown_term (shown_words (is_use (is.tag_is t)) (is.tag_is t) (is.value_is t) (g (is.place_is t))))

  row_later : (W ts : List ℕ) (s f m : ℕ) → term_at W (s + suc m) ≡ shown_at ts (f + suc m) → term_at W (s + 1 + m) ≡ shown_at ts (f + 1 + m)
  row_later W ts s f m e = ap (term_at W) (let z : s + 1 + m ≡ s + suc m = omega arith in z) ∙ e ∙ ap (shown_at ts) (let z : f + suc m ≡ f + 1 + m = omega arith in z)

  -- rows whose words are the table's
  told_written : (w : List ℤ) (wide : List ℕ → ℕ) (W ts : List ℕ) → length w ≤ 64 → {A : List TermRow} {l : List Term} (f s : ℕ) → Tells A l → Measured g w wide l → RowsAt ts f A
      → ((m : ℕ) → m < length A → term_at W (s + m) ≡ shown_at ts (f + m)) → Written g W s A
  unfolding Measured Written
  told_written w wide W ts few f s told h rows at = tt
  told_written w wide W ts few f s (a_number_row {r = r} {A = A} {n = n} t v q a) h (row_then is more) at =
      (row_first W ts s f r is (at 0 (omega arith)) ∙ number_shown r.tag r.value r.place (g r.place) t (omega (arith, v)), told_written w wide W ts few (f + 1) (s + 1) a h more (λ m l. row_later W ts s f m (at (suc m) (omega arith))))
  told_written w wide W ts few f s (a_use_row {r = r} {A = A} {x = x} t q a) h (row_then is more) at =
      (row_first W ts s f r is (at 0 (omega arith)) ∙ use_shown r.tag r.value r.place (g r.place) t refl (omega (arith, h.0, ap g q)), told_written w wide W ts few (f + 1) (s + 1) a h.2 more (λ m l. row_later W ts s f m (at (suc m) (omega arith))))
  told_written w wide W ts few f s (a_sign_row {r = r} {A = A} t v a) h (row_then is more) at =
      (row_first W ts s f r is (at 0 (omega arith)) ∙ sign_shown r.tag r.value r.place (g r.place) t v, told_written w wide W ts few (f + 1) (s + 1) a h more (λ m l. row_later W ts s f m (at (suc m) (omega arith))))
  told_written w wide W ts few f s (skipped a) h rows at = told_written w wide W ts few f s a h rows at

-- ---- what a construct's own list is

module _ (i : ℕ) where
  -- none, but of a uint and of counts in braces
  no_own : (kind size a b c d : ℕ) → eqb kind 8 ≡ false → kind < 10 → (eqb kind 3 ≡ true → eqb a 4 ≡ false) → (attributes_of (construct_of i kind size a b c d)).own ≡ OwnList.None
  unfolding construct_of
  no_own kind size a b c d u few v =
      picked P (leb 1 kind && leb kind 4)
      (λ z. picked P (branches i size)
      (λ z. picked P (eqb kind 1) (λ z. refl)
      (λ z. picked P (eqb kind 2) (λ z. refl)
      (λ z. picked P (eqb kind 3)
      (λ (e : eqb kind 3 ≡ true).
      picked P (eqb a 1) (λ z. refl) (λ z. picked P (eqb a 2) (λ z. refl) (λ z. picked P (eqb a 3) (λ z. refl) (λ z. picked P (eqb a 4 && listed b c) (λ (y : (eqb a 4 && listed b c) ≡ true). absurd (clash (eqb a 4 && listed b c) y (ap (λ (x : Bool). x && listed b c) (v e)))) (λ z. refl)))))
      (λ z. refl)))) (λ z. refl))
      (λ z. picked P (eqb size 1)
      (λ z. picked P (eqb kind 5) (λ z. picked P (ltb a 64) (λ z. refl) (λ z. refl))
      (λ z. picked P (eqb kind 6) (λ z. picked P (leb 1 a && leb a 32) (λ z. refl) (λ z. refl))
      (λ z. picked P (eqb kind 7) (λ z. picked P (ltb a 128 && ltb b 128) (λ z. refl) (λ z. refl))
      (λ z. picked P (eqb kind 8) (λ (e : eqb kind 8 ≡ true). absurd (clash (eqb kind 8) e u))
      (λ z. picked P (eqb kind 9) (λ z. refl)
      (λ z. picked P (eqb kind 12) (λ (e : eqb kind 12 ≡ true). absurd (omega (arith, eqb-true kind 12 e, few))) (λ z. refl))))))) (λ z. refl))
    where
      P : Construct → Type 0
      P x = (attributes_of x).own ≡ OwnList.None

      clash : (x : Bool) → x ≡ true → x ≡ false → ⊥
      clash x p q = let z : true ≡ false = sym p ∙ q in let w : ◌≡◌ {A = ℕ} 0 1 = cc in omega arith

  -- a uint's, and a sint's
  uint_own : (signed : Bool) (w s e b : ℕ) → 1 ≤ w → w ≤ widest_for b → s ≤ e → e ≤ 1024 → b ≤ 64 → (attributes_of (construct_of i (cond signed 12 8) 1 w s e b)).own ≡ OwnList.Set s e
  unfolding construct_of
  uint_own true w s e b p q r t u = rw (le-leb 1 w p, le-leb w (widest_for b) q, le-leb s e r, le-leb e 1024 t, le-leb b 64 u) refl
  uint_own false w s e b p q r t u = rw (le-leb 1 w p, le-leb w (widest_for b) q, le-leb s e r, le-leb e 1024 t, le-leb b 64 u) refl

  -- a wrong width leaves no construct
  wrong_own : (signed : Bool) (w s e b : ℕ) → (leb 1 w && leb w (widest_for b)) ≡ false → (attributes_of (construct_of i (cond signed 12 8) 1 w s e b)).own ≡ OwnList.None
  unfolding construct_of
  wrong_own true w s e b p = rw p refl
  wrong_own false w s e b p = rw p refl

  counts_own : (size s e d : ℕ) → 2 ≤ size → i + size ≤ 256 → s ≤ e → e ≤ 1024 → (attributes_of (construct_of i 3 size 4 s e d)).own ≡ OwnList.Counts s e
  unfolding construct_of
  counts_own size s e d p q r t = rw (le-leb 2 size p, le-leb (i + size) 256 q, le-leb s e r, le-leb e 1024 t) refl

-- ---- there are four operands

module _ (xs ns rs : List ℕ) (r i kind a b : ℕ) where
  behind : (P : List ℕ → Type 0) → ((p q s u : ℕ) → P (p ∷ q ∷ s ∷ u ∷ [])) → P (operands xs ns rs r i kind)
  behind P f =
      chosen P (eqb kind 3) (λ e. f _ _ _ _)
      (λ e. chosen P (eqb kind 5) (λ e. f _ _ _ _)
      (λ e. chosen P (eqb kind 6) (λ e. f _ _ _ _)
      (λ e. chosen P (eqb kind 7) (λ e. f _ _ _ _)
      (λ e. chosen P (eqb kind 8) (λ e. f _ _ _ _) (λ e. f _ _ _ _)))))

  word_6 : get_or (operands xs ns rs r i kind ++ (a ∷ b ∷ [])) 4 0 ≡ a
  word_6 = behind (λ (l : List ℕ). get_or (l ++ (a ∷ b ∷ [])) 4 0 ≡ a) (λ p q s u. refl)

  word_7 : get_or (operands xs ns rs r i kind ++ (a ∷ b ∷ [])) 5 0 ≡ b
  word_7 = behind (λ (l : List ℕ). get_or (l ++ (a ∷ b ∷ [])) 5 0 ≡ b) (λ p q s u. refl)

-- the variable that a name at p is, in node i
abbrev pub number_at : (xs ns rs : List ℕ) → (r i p : ℕ) → ℕ
number_at xs ns rs r i p = variable_of xs ns (first_at rs r i) i p

-- the most that the width of node i may be, as the table has it
abbrev pub most_at : List ℕ → ℕ → ℕ
most_at ns i = widest_for (cond (is_binder ns i) (binders_before ns i + 1) 0)

pub most_bound : (ns : List ℕ) (i : ℕ) (binds : Bool) → is_binder ns i ≡ binds → most_at ns i ≡ cond binds max_bound_width max_width
most_bound ns i true e = ap (λ (c : Bool). widest_for (cond c (binders_before ns i + 1) 0)) e ∙ ap (λ (c : Bool). cond c max_bound_width max_width) (lt-ltb 0 (binders_before ns i + 1) (omega arith))
most_bound ns i false e = ap (λ (c : Bool). widest_for (cond c (binders_before ns i + 1) 0)) e

-- ---- node i of a text

module _ {xs ns ts rs ws : List ℕ} {n r : ℕ} (words : Words xs ns ts rs n r ws) (few_nodes : n ≤ 256) (few_terms : condition_start ns n ≤ 1024) (few_binders : binders_before ns n ≤ 64) (i : ℕ) (h : i < n) where
  abbrev g : ℕ → ℕ
  g p = number_at xs ns rs r i p

  list_end : own_start ns i + own_length ns i ≤ 1024
  list_end = omega (arith, total_last (lists_length ns) i, sum_below (lists_length ns) (i + 1) n (omega arith), few_terms)

  module _ (w : List ℤ) (wide : List ℕ → ℕ) (few : length w ≤ 64) {A : List TermRow} {l : List Term} (tells : Tells A l) (measured : Measured g w wide l) where
    -- its own list is in the table
    pub own_written : own_length ns i ≡ length A → RowsAt ts (own_from ns i) A → Written g (Held.term_words ws) (own_start ns i) A
    own_written e rows =
        told_written g w wide (Held.term_words ws) ts few (own_from ns i) (own_start ns i) tells measured rows
        (λ m k.
        let d : m < own_length ns i = omega (arith, k, e) in
        table_term ws words.many (own_start ns i + m) (omega (arith, list_end, d)) ∙ (λ t. term_of (words.own_term i m 0 h d (omega arith) t) (words.own_term i m 1 h d (omega arith) t) (words.own_term i m 2 h d (omega arith) t)))

    -- and that of its condition
    pub condition_written : condition_length ns i ≡ length A → RowsAt ts (condition_from ns i) A → Written g (Held.term_words ws) (condition_start ns i) A
    condition_written e rows =
        told_written g w wide (Held.term_words ws) ts few (condition_from ns i) (condition_start ns i) tells measured rows
        (λ m k.
        let d : m < condition_length ns i = omega (arith, k, e) in
        table_term ws words.many (condition_start ns i + m) (omega (arith, list_end, d)) ∙ (λ t. term_of (words.condition_term i m 0 h d (omega arith) t) (words.condition_term i m 1 h d (omega arith) t) (words.condition_term i m 2 h d (omega arith) t)))

  -- ---- its own list

  own_by : (kind size a b c d : ℕ) → construct_word ws i 0 ≡ kind → construct_word ws i 1 ≡ size → construct_word ws i 2 ≡ a → construct_word ws i 3 ≡ b → construct_word ws i 4 ≡ c → construct_word ws i 5 ≡ d → (o : OwnList)
      → (attributes_of (construct_of i kind size a b c d)).own ≡ o → own_size ws (construct_at ws i) ≡ list_size ws o
  unfolding construct_at
  own_by kind size a b c d p q s t u v o e =
      ap (λ (x : Bool). own_size ws (cond x (construct_of i (construct_word ws i 0) (construct_word ws i 1) (construct_word ws i 2) (construct_word ws i 3) (construct_word ws i 4) (construct_word ws i 5)) Construct.Missing)) (lt-ltb i 256 (omega (arith, few_nodes)))
      ∙ (λ z. own_size ws (construct_of i (p z) (q z) (s z) (t z) (u z) (v z))) ∙ ap (list_size ws) e

  -- it has none
  pub no_list : eqb (kind_of ns i) 8 ≡ false → kind_of ns i < 10 → (kind_of ns i ≡ 3 → node_mark ns i < 4) → own_size ws (construct_at ws i) ≡ Ok tt
  no_list e k m =
      let p = construct_is words i h 0 (kind_of ns i) (omega arith) (ap (λ (c : Bool). cond (c && is_signed xs ns i) 12 (kind_of ns i)) e) (omega arith) in
      own_by (kind_of ns i) (construct_word ws i 1) (construct_word ws i 2) (construct_word ws i 3) (construct_word ws i 4) (construct_word ws i 5) p refl refl refl refl refl OwnList.None
      (no_own i (kind_of ns i) (construct_word ws i 1) (construct_word ws i 2) (construct_word ws i 3) (construct_word ws i 4) (construct_word ws i 5) e k
      (λ z.
      let y : kind_of ns i ≡ 3 = eqb-true (kind_of ns i) 3 z in
      let u : construct_word ws i 2 ≡ node_mark ns i = construct_is words i h 2 (node_mark ns i) (omega arith) (rw y refl) (omega (arith, m y)) in
      ne_eqb (construct_word ws i 2) 4 (λ v. omega (arith, m y, u, v))))

  module _ (some : 0 < own_length ns i) where
    start_is : start_word (own_start ns i) (own_length ns i) ≡ own_start ns i
    start_is = ap (λ (x : Bool). cond x (own_start ns i) 0) (lt-ltb 0 (own_length ns i) some)

    end_is : end_word (own_start ns i) (own_length ns i) ≡ own_start ns i + own_length ns i
    end_is = ap (λ (x : Bool). cond x (own_start ns i + own_length ns i) 0) (lt-ltb 0 (own_length ns i) some)

    binder_most : cond (is_binder ns i) (binders_before ns i + 1) 0 ≤ 64
    binder_most =
        chosen (λ (m : ℕ). m ≤ 64) (is_binder ns i)
        (λ e.
        let one : binds_one ns i ≡ 1 = rw e in
        omega (arith, total_last (binds_one ns) i, sum_below (binds_one ns) (i + 1) n (omega arith), few_binders))
        (λ e. omega arith)

    module _ (k : kind_of ns i ≡ 8) (size : node_size ns i ≡ 1) where
      uint_words : (o : OwnList) → (attributes_of (construct_of i (cond (is_signed xs ns i) 12 8) 1 (width_of xs ns i) (own_start ns i) (own_start ns i + own_length ns i) (cond (is_binder ns i) (binders_before ns i + 1) 0))).own ≡ o → own_size ws (construct_at ws i) ≡ list_size ws o
      uint_words o e =
          own_by (cond (is_signed xs ns i) 12 8) 1 (width_of xs ns i) (own_start ns i) (own_start ns i + own_length ns i) (cond (is_binder ns i) (binders_before ns i + 1) 0)
          (construct_is words i h 0 (cond (is_signed xs ns i) 12 8) (omega arith) (rw k refl) (picked (λ (m : ℕ). m < 4294967296) (is_signed xs ns i) (λ e. omega arith) (λ e. omega arith))) (construct_is words i h 1 1 (omega arith) size (omega arith)) (construct_is words i h 2 (width_of xs ns i) (omega arith) (rw k refl) (omega arith))
          (construct_is words i h 3 (own_start ns i) (omega arith) (rw k start_is) (omega (arith, list_end))) (construct_is words i h 4 (own_start ns i + own_length ns i) (omega arith) (rw k end_is) (omega (arith, list_end)))
          (construct_is words i h 5 (cond (is_binder ns i) (binders_before ns i + 1) 0) (omega arith) (rw k refl) (omega (arith, binder_most))) o e

      -- a uint's set is looked at
      pub set_list : 1 ≤ width_of xs ns i → width_of xs ns i ≤ most_at ns i → own_size ws (construct_at ws i) ≡ sizes Kind.Set (widest ws) (own_start ns i) (Held.terms_of ws (own_start ns i) (own_start ns i + own_length ns i))
      set_list p q =
          uint_words (OwnList.Set (own_start ns i) (own_start ns i + own_length ns i)) (uint_own i (is_signed xs ns i) (width_of xs ns i) (own_start ns i) (own_start ns i + own_length ns i) (cond (is_binder ns i) (binders_before ns i + 1) 0) p q (omega arith) list_end binder_most)

      -- but where its width is wrong
      pub wrong_list : (leb 1 (width_of xs ns i) && leb (width_of xs ns i) (most_at ns i)) ≡ false → own_size ws (construct_at ws i) ≡ Ok tt
      wrong_list p = uint_words OwnList.None (wrong_own i (is_signed xs ns i) (width_of xs ns i) (own_start ns i) (own_start ns i + own_length ns i) (cond (is_binder ns i) (binders_before ns i + 1) 0) p)

    -- counts in braces are looked at
    pub counts_list : kind_of ns i ≡ 3 → node_mark ns i ≡ 4 → 2 ≤ node_size ns i → i + node_size ns i ≤ n → own_size ws (construct_at ws i) ≡ count_sizes (widest ws) (Held.term_words ws) (own_start ns i) (own_start ns i + own_length ns i)
    counts_list k m two inside =
        own_by 3 (node_size ns i) 4 (own_start ns i) (own_start ns i + own_length ns i) 0 (construct_is words i h 0 3 (omega arith) (rw k refl) (omega arith)) (construct_is words i h 1 (node_size ns i) (omega arith) refl (omega arith))
        (construct_is words i h 2 4 (omega arith) (rw k m) (omega arith)) (construct_is words i h 3 (own_start ns i) (omega arith) (rw k start_is) (omega (arith, list_end)))
        (construct_is words i h 4 (own_start ns i + own_length ns i) (omega arith) (rw k end_is) (omega (arith, list_end))) (construct_is words i h 5 0 (omega arith) (rw k refl) (omega arith))
        (OwnList.Counts (own_start ns i) (own_start ns i + own_length ns i)) (counts_own i (node_size ns i) (own_start ns i) (own_start ns i + own_length ns i) 0 two (omega arith) (omega arith) list_end)

  -- ---- its condition

  condition_by : (a b : ℕ) → start_word (condition_start ns i) (condition_length ns i) ≡ a → end_word (condition_start ns i) (condition_length ns i) ≡ b → a ≤ 1024 → b ≤ 1024
      → condition_size ws i ≡ cond (ltb a b) (sizes Kind.Condition (widest ws) a (Held.terms_of ws a b)) (Ok tt)
  condition_by a b p q s t =
      let u = construct_is words i h 6 a (omega arith) (word_6 xs ns rs r i (kind_of ns i) (start_word (condition_start ns i) (condition_length ns i)) (end_word (condition_start ns i) (condition_length ns i)) ∙ p) (omega arith) in
      let v = construct_is words i h 7 b (omega arith) (word_7 xs ns rs r i (kind_of ns i) (start_word (condition_start ns i) (condition_length ns i)) (end_word (condition_start ns i) (condition_length ns i)) ∙ q) (omega arith) in
      λ z. cond (ltb (u z) (v z)) (sizes Kind.Condition (widest ws) (u z) (Held.terms_of ws (u z) (v z))) (Ok tt)

  -- a condition is looked at
  pub condition_list : 0 < condition_length ns i → condition_size ws i ≡ sizes Kind.Condition (widest ws) (condition_start ns i) (Held.terms_of ws (condition_start ns i) (condition_start ns i + condition_length ns i))
  condition_list some =
      let s = condition_start ns i in
      let e = condition_start ns i + condition_length ns i in
      condition_by s e (ap (λ (x : Bool). cond x s 0) (lt-ltb 0 (condition_length ns i) some)) (ap (λ (x : Bool). cond x e 0) (lt-ltb 0 (condition_length ns i) some)) (omega (arith, list_end)) (omega (arith, list_end))
      ∙ ap (λ (x : Bool). cond x (sizes Kind.Condition (widest ws) s (Held.terms_of ws s e)) (Ok tt)) (lt-ltb s e (omega arith))

  -- there is none
  pub no_condition : condition_length ns i ≡ 0 → condition_size ws i ≡ Ok tt
  no_condition z =
      let p : ltb 0 (condition_length ns i) ≡ false = le-ltb 0 (condition_length ns i) (omega arith) in
      condition_by 0 0 (ap (λ (x : Bool). cond x (condition_start ns i) 0) p) (ap (λ (x : Bool). cond x (condition_start ns i + condition_length ns i) 0) p) (omega arith) (omega arith)
