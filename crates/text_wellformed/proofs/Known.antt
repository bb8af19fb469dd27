-- The words of a construct say what its node is.
-- Assumes nothing.
use Prim.Native.Nat.{ℕ, zero, suc, ◌+◌, ◌-◌, ◌≤◌, ◌<◌}
use mathlib.Core.Path.{◌≡◌, refl, sym, ◌∙◌}
use mathlib.Core.Logic.{◌⊎◌, inl, inr, ⊎_elim}
use mathlib.Core.Bool.{Bool, true, false, cond}
use mathlib.Core.List.{List}
use native.Mathlib.Omega.{arith}
use borrow.Author.Tests.{lt-ltb, le-leb}
use lib.Dec.{leb, ltb}
use lib.ListN.{length, get_or}
use Rattle.basis.specs.Limits.{max_rules, max_constructs, max_variables, max_terms, max_literal_bytes}
use Rattle.text_literals.specs.Literals.{characters_at}
use Rattle.text_literals.proofs.Sizes.{character_small}
use Rattle.table_layout.specs.Constructs.{widest_for, construct_of, construct_at}
use Rattle.table_layout.specs.declared.Construct.{Construct}
use Rattle.table_layout.specs.declared.Passes.{Passes}
use Rattle.text_wellformed.proofs.NoFaults.{use_below}
use Rattle.text_shapes.specs.NodeShapes.{Headed, NameAt, LiteralAt, CharacterAt, Marked, tree, Holds, literal_tree, range_tree, use_tree, eod_tree, uint_tree, marked_tree, counted_tree, chain_tree, switch_tree}
use Rattle.text_store.specs.Words.{kind_of, node_size, place_of, node_mark, last_place}
use Rattle.text_encoding.specs.Numbers.{rule_of, width_of, is_signed, own_length, own_start}
use Rattle.text_wellformed.specs.Context.{Readable, Words, TreeAt, Quiet}
use Rattle.text_wellformed.specs.Meant.{passes_meant, meant, Known}
use Rattle.text_wellformed.proofs.NodeFacts.{tree_below, forest_below, cases_below, nodes}
use Rattle.text_wellformed.proofs.Totals.{marked_list}
use Rattle.text_wellformed.proofs.Standing.{Sized, literal_sized}
use Rattle.text_wellformed.proofs.Coding.{Coded, list_end, binder_word, binder_limit, alternative_coded, concatenation_coded, switch_coded, eod_coded, marked_coded, counted_coded, use_coded, literal_coded, range_coded, uint_coded}

-- ---- what six words say

read : {ws : List ℕ} {i kind size a b c d : ℕ} → Coded ws i kind size a b c d → i < max_constructs → construct_at ws i ≡ construct_of i kind size a b c d
unfolding construct_at
read {ws} {i} {kind} {size} {a} {b} {c} {d} w h =
    let t : ltb i max_constructs ≡ true = lt-ltb i max_constructs h in
    rw (t, w.word_0, w.word_1, w.word_2, w.word_3, w.word_4, w.word_5)

-- a construct with parts: its size leaves it within the 256
module _ (i size : ℕ) (two : 2 ≤ size) (fits : i + size ≤ max_constructs) where
  two_leb : leb 2 size ≡ true
  two_leb = le-leb 2 size two

  fits_leb : leb (i + size) max_constructs ≡ true
  fits_leb = le-leb (i + size) max_constructs fits

  alternative_of : construct_of i 1 size 0 0 0 0 ≡ Construct.Alternative size
  unfolding construct_of
  alternative_of = rw (two_leb, fits_leb)

  concatenation_of : construct_of i 2 size 0 0 0 0 ≡ Construct.Concatenation size
  unfolding construct_of
  concatenation_of = rw (two_leb, fits_leb)

  switch_of : construct_of i 4 size 0 0 0 0 ≡ Construct.Switch size
  unfolding construct_of
  switch_of = rw (two_leb, fits_leb)

  -- `?`, `*` or `+`
  marked_of : (how start end : ℕ) → (how ≡ 1) ⊎ ((how ≡ 2) ⊎ (how ≡ 3)) → construct_of i 3 size how 0 0 0 ≡ Construct.Repetition size (passes_meant how start end)
  unfolding construct_of
  marked_of how start end w =
      ⊎_elim (λ (z : how ≡ 1). rw (z, two_leb, fits_leb)) (λ v. ⊎_elim (λ (z : how ≡ 2). rw (z, two_leb, fits_leb)) (λ (z : how ≡ 3). rw (z, two_leb, fits_leb)) v) w

  counted_of : (start end : ℕ) → start ≤ end → end ≤ max_terms → construct_of i 3 size 4 start end 0 ≡ Construct.Repetition size (Passes.Counted start end)
  unfolding construct_of
  counted_of start end h k =
      let a : leb start end ≡ true = le-leb start end h in
      let b : leb end max_terms ≡ true = le-leb end max_terms k in
      rw (two_leb, fits_leb, a, b)

-- one without
module _ (i : ℕ) where
  use_of : (rule : ℕ) → rule < max_rules → construct_of i 5 1 rule 0 0 0 ≡ Construct.Use rule
  unfolding construct_of
  use_of rule h = rw (lt-ltb rule max_rules h)

  literal_of : (n : ℕ) → 1 ≤ n → n ≤ max_literal_bytes → construct_of i 6 1 n 0 0 0 ≡ Construct.Literal n
  unfolding construct_of
  literal_of n h k = rw (le-leb 1 n h, le-leb n max_literal_bytes k)

  range_of : (low high : ℕ) → low < 128 → high < 128 → construct_of i 7 1 low high 0 0 ≡ Construct.Range low high
  unfolding construct_of
  range_of low high h k = rw (lt-ltb low 128 h, lt-ltb high 128 k)

  uint_of : (signed : Bool) (width start end binder : ℕ) → 1 ≤ width → width ≤ widest_for binder → start ≤ end → end ≤ max_terms → binder ≤ max_variables → construct_of i (cond signed 12 8) 1 width start end binder ≡ Construct.Uint signed width start end binder
  unfolding construct_of
  uint_of true width start end binder h k l m v = rw (le-leb 1 width h, le-leb width (widest_for binder) k, le-leb start end l, le-leb end max_terms m, le-leb binder max_variables v)
  uint_of false width start end binder h k l m v = rw (le-leb 1 width h, le-leb width (widest_for binder) k, le-leb start end l, le-leb end max_terms m, le-leb binder max_variables v)

  eod_of : construct_of i 9 1 0 0 0 0 ≡ Construct.Eod
  unfolding construct_of
  eod_of = refl

-- 1, 2 or 3
pub mark_kinds : {ns : List ℕ} (i : ℕ) → Marked ns i → (node_mark ns i ≡ 1) ⊎ ((node_mark ns i ≡ 2) ⊎ (node_mark ns i ≡ 3))
mark_kinds {ns} i m = kinds (node_mark ns i) m.least m.most
  where
    kinds : (k : ℕ) → 1 ≤ k → k ≤ 3 → (k ≡ 1) ⊎ ((k ≡ 2) ⊎ (k ≡ 3))
    kinds zero h l = absurd (omega arith)
    kinds (suc zero) h l = inl refl
    kinds (suc (suc zero)) h l = inr (inl refl)
    kinds (suc (suc (suc zero))) h l = inr (inr refl)
    kinds (suc (suc (suc (suc k)))) h l = absurd (omega arith)

-- ---- each kind of node

module _ {xs ns ts rs ws : List ℕ} {n t b r : ℕ} (known-text : Readable xs ns ts rs n t b r) (words : Words xs ns ts rs n r ws) (quiet : Quiet ns n) where
  module _ (i e : ℕ) (h : i < n) (within : e ≤ n) where
    small : i < max_constructs
    small = omega (arith, known-text.nodes_limit)

    -- what the six words are read as is meant
    said : {kind size a c d f : ℕ} {x : Construct} → Coded ws i kind size a c d f → construct_of i kind size a c d f ≡ x → meant xs ns rs r i ≡ x → construct_at ws i ≡ meant xs ns rs r i
    said w p q = read w small ∙ p ∙ sym q

    -- one with parts
    module _ {kind : ℕ} (head : Headed ns i e kind) (two : 2 ≤ e - i) where
      size : ℕ
      size = node_size ns i

      least : 2 ≤ size
      unfolding size
      least = omega (arith, head.size_is)

      most : i + size ≤ max_constructs
      unfolding size
      most = omega (arith, head.size_is, head.below, known-text.nodes_limit)

      limit : size ≤ max_constructs
      limit = omega (arith, most)

      chain_says : (kind ≡ 1) ⊎ (kind ≡ 2) → construct_at ws i ≡ meant xs ns rs r i
      unfolding meant size
      chain_says w =
          ⊎_elim
          (λ (z : kind ≡ 1).
          let k : kind_of ns i ≡ 1 = head.kind_is ∙ z in
          said (alternative_coded known-text words i h (node_size ns i) refl limit k) (alternative_of i (node_size ns i) least most) (rw k))
          (λ (z : kind ≡ 2).
          let k : kind_of ns i ≡ 2 = head.kind_is ∙ z in
          said (concatenation_coded known-text words i h (node_size ns i) refl limit k) (concatenation_of i (node_size ns i) least most) (rw k))
          w

      switch_says : kind_of ns i ≡ 4 → construct_at ws i ≡ meant xs ns rs r i
      unfolding meant size
      switch_says k = said (switch_coded known-text words i h (node_size ns i) refl limit k) (switch_of i (node_size ns i) least most) (rw k)

      marked_says : kind_of ns i ≡ 3 → Marked ns i → construct_at ws i ≡ meant xs ns rs r i
      unfolding meant size
      marked_says k m =
          said (marked_coded known-text words i h (node_size ns i) refl limit (node_mark ns i) k refl m.most (marked_list ns n quiet i h k m))
          (marked_of i (node_size ns i) least most (node_mark ns i) (own_start ns i) (own_start ns i + own_length ns i) (mark_kinds i m))
          (rw k)

      counted_says : kind_of ns i ≡ 3 → node_mark ns i ≡ 4 → 0 < own_length ns i → construct_at ws i ≡ meant xs ns rs r i
      unfolding meant size
      counted_says k w l =
          said (counted_coded known-text words i h (node_size ns i) refl limit quiet k w l)
          (counted_of i (node_size ns i) least most (own_start ns i) (own_start ns i + own_length ns i) (omega arith) (list_end known-text i h quiet))
          (rw (k, w))

    -- one without
    module _ {kind : ℕ} (head : Headed ns i e kind) (one : e ≡ i + 1) where
      single : node_size ns i ≡ 1
      single = omega (arith, head.size_is)

      use_says : kind_of ns i ≡ 5 → NameAt xs (place_of ns i) → construct_at ws i ≡ meant xs ns rs r i
      unfolding meant
      use_says k at =
          let l : rule_of xs rs r (place_of ns i) < r = use_below known-text i h k at in
          said (use_coded known-text words i h 1 single (omega arith) k l) (use_of i (rule_of xs rs r (place_of ns i)) (omega (arith, known-text.rules_limit))) (rw k)

      literal_says : kind_of ns i ≡ 6 → LiteralAt xs (place_of ns i) ⊎ CharacterAt xs (place_of ns i) → construct_at ws i ≡ meant xs ns rs r i
      unfolding meant
      literal_says k at =
          let l : Sized xs (place_of ns i) = literal_sized at in
          said (literal_coded known-text words i h 1 single (omega arith) k l) (literal_of i (length (characters_at xs (place_of ns i))) l.0 l.1) (rw k)

      range_says : kind_of ns i ≡ 7 → construct_at ws i ≡ meant xs ns rs r i
      unfolding meant
      range_says k =
          said (range_coded known-text words i h 1 single (omega arith) k)
          (range_of i (get_or (characters_at xs (place_of ns i)) 0 0) (get_or (characters_at xs (last_place ns i)) 0 0) (character_small xs (place_of ns i) 0) (character_small xs (last_place ns i) 0))
          (rw k)

      uint_says : kind_of ns i ≡ 8 → 0 < own_length ns i → construct_at ws i ≡ meant xs ns rs r i
      unfolding meant
      uint_says k l =
          said (uint_coded known-text words i h 1 single (omega arith) quiet k l)
          (uint_of i (is_signed xs ns i) (width_of xs ns i) (own_start ns i) (own_start ns i + own_length ns i) (binder_word known-text i h) (known-text.widths i h k).0 (known-text.widths i h k).1 (omega arith) (list_end known-text i h quiet) (binder_limit known-text i h))
          (rw k)

      eod_says : kind_of ns i ≡ 9 → construct_at ws i ≡ meant xs ns rs r i
      unfolding meant
      eod_says k = said (eod_coded known-text words i h 1 single (omega arith) k) (eod_of i) (rw k)

  -- ---- any node

  node_says : {i e f g β : ℕ} → i < n → e ≤ n → Holds xs ns ts tree i e f g β → construct_at ws i ≡ meant xs ns rs r i
  node_says h w (literal_tree {i = i} {e = e} x z b l) = literal_says i e h w x z x.kind_is l
  node_says h w (range_tree {i = i} {e = e} x z b l m) = range_says i e h w x z x.kind_is
  node_says h w (use_tree {i = i} {e = e} x z b l) = use_says i e h w x z x.kind_is l
  node_says h w (eod_tree {i = i} {e = e} x z b) = eod_says i e h w x z x.kind_is
  node_says h w (uint_tree {i = i} {e = e} x z c b) = uint_says i e h w x z x.kind_is (omega (arith, c.from_is, c.end_is, c.shape.some))
  node_says h w (marked_tree {i = i} {e = e} x z m u y) = marked_says i e h w x (omega (arith, tree_below y)) x.kind_is m
  node_says h w (counted_tree {i = i} {e = e} x z c u y) = counted_says i e h w x (omega (arith, tree_below y)) x.kind_is c.how (omega (arith, c.from_is, c.end_is, c.shape.some))
  node_says h w (chain_tree {i = i} {e = e} x v z l y) = chain_says i e h w x (omega (arith, forest_below y (omega arith))) v
  node_says h w (switch_tree {i = i} {e = e} x z y) = switch_says i e h w x (omega (arith, cases_below y)) x.kind_is

  pub known : Known xs ns rs n r ws
  known i h = let tree_at : TreeAt xs ns ts n t i = (nodes known-text).trees i h in node_says h tree_at.within tree_at.holds
