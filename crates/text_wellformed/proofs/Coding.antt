-- The first six words of a construct, by the kind of its node.
-- Assumes nothing.
use Prim.Native.Nat.{ℕ, ◌+◌, ◌≤◌, ◌<◌}
use mathlib.Core.Path.{◌≡◌, refl, ap, ◌∙◌}
use mathlib.Core.Bool.{true, cond}
use mathlib.Core.List.{List, [], ◌∷◌}
use native.Mathlib.Omega.{arith}
use borrow.Author.Tests.{lt-ltb}
use lib.Dec.{ltb}
use lib.ListN.{length, get_or}
use Rattle.basis.specs.Limits.{max_constructs, max_variables, max_terms}
use Rattle.basis.proofs.Booleans.{picked}
use Rattle.text_literals.specs.Literals.{characters_at}
use Rattle.text_literals.proofs.Sizes.{character_small}
use Rattle.table_layout.specs.Places.{construct_word}
use Rattle.text_store.specs.Words.{kind_of, node_size, place_of, node_mark, last_place, is_binder}
use Rattle.text_encoding.specs.Lists.{narrow}
use Rattle.text_encoding.specs.Numbers.{rule_of, binds_one, binders_before, width_of, is_signed, own_length, lists_length, own_start}
use Rattle.text_encoding.specs.Encoded.{operands, kind_word, construct_words}
use Rattle.text_wellformed.specs.Context.{Readable, Words, Quiet}
use Rattle.text_wellformed.proofs.Sums.{total_last, sum_below}
use Rattle.text_wellformed.proofs.Totals.{binders_total, terms_total}
use Rattle.text_wellformed.proofs.Standing.{Sized}

-- ---- words

pub record Coded (ws : List ℕ) (i kind size a b c d : ℕ) : Type 0 where
  pub word_0 : construct_word ws i 0 ≡ kind
  pub word_1 : construct_word ws i 1 ≡ size
  pub word_2 : construct_word ws i 2 ≡ a
  pub word_3 : construct_word ws i 3 ≡ b
  pub word_4 : construct_word ws i 4 ≡ c
  pub word_5 : construct_word ws i 5 ≡ d

-- a word holds a number below 2^32 as it is
pub narrow_same : (w v : ℕ) → w ≡ narrow v → v < 4294967296 → w ≡ v
narrow_same w v e h = omega arith

-- four operands below 2^32
record Four (list : List ℕ) (a b c d : ℕ) : Type 0 where
  are : list ≡ a ∷ b ∷ c ∷ d ∷ []
  small_a : a < 4294967296
  small_b : b < 4294967296
  small_c : c < 4294967296
  small_d : d < 4294967296

module _ {xs ns ts rs ws : List ℕ} {n r : ℕ} (words : Words xs ns ts rs n r ws) (i : ℕ) (h : i < n) where
  pub construct_is : (j v : ℕ) → j < 8 → get_or (construct_words xs ns rs r i) j 0 ≡ v → v < 4294967296 → construct_word ws i j ≡ v
  construct_is j v l e s = narrow_same (construct_word ws i j) v (words.construct_numbered i j h l ∙ ap narrow e) s

  -- a node of a kind, whose word is the kind but of a sint
  coded : (kind first size a b c d : ℕ) → kind_of ns i ≡ kind → kind_word xs ns i ≡ first → node_size ns i ≡ size → first < 4294967296 → size < 4294967296 → Four (operands xs ns rs r i kind) a b c d → Coded ws i first size a b c d
  coded kind first size a b c d k w s l m f =
      let all : operands xs ns rs r i (kind_of ns i) ≡ a ∷ b ∷ c ∷ d ∷ [] = ap (operands xs ns rs r i) k ∙ f.are in
      record {
        word_0 = construct_is 0 first (omega arith) w l;
        word_1 = construct_is 1 size (omega arith) s m;
        word_2 = construct_is 2 a (omega arith) (rw all) f.small_a;
        word_3 = construct_is 3 b (omega arith) (rw all) f.small_b;
        word_4 = construct_is 4 c (omega arith) (rw all) f.small_c;
        word_5 = construct_is 5 d (omega arith) (rw all) f.small_d;
      }

-- ---- lists and binders within their limits

module _ {xs ns ts rs : List ℕ} {n t b r : ℕ} (known : Readable xs ns ts rs n t b r) (i : ℕ) (h : i < n) where
  pub list_end : Quiet ns n → own_start ns i + own_length ns i ≤ max_terms
  list_end quiet = omega (arith, total_last (lists_length ns) i, sum_below (lists_length ns) (i + 1) n (omega arith), terms_total known quiet, known.terms_limit)

  -- 1 + the variable that a node binds, or 0
  abbrev pub binder_word : ℕ
  binder_word = cond (is_binder ns i) (binders_before ns i + 1) 0

  pub binder_limit : binder_word ≤ max_variables
  binder_limit =
      picked (λ (m : ℕ). m ≤ max_variables) (is_binder ns i)
      (λ e.
      let one : binds_one ns i ≡ 1 = rw e in
      omega (arith, total_last (binds_one ns) i, sum_below (binds_one ns) (i + 1) n (omega arith), binders_total known, known.binders_limit))
      (λ e. omega arith)

-- ---- by kind

module _ {xs ns ts rs ws : List ℕ} {n t b r : ℕ} (known : Readable xs ns ts rs n t b r) (words : Words xs ns ts rs n r ws) (i : ℕ) (h : i < n) where
  plain_coded : (kind size : ℕ) → kind_of ns i ≡ kind → kind_word xs ns i ≡ kind → node_size ns i ≡ size → size ≤ max_constructs → kind ≤ 9 → operands xs ns rs r i kind ≡ 0 ∷ 0 ∷ 0 ∷ 0 ∷ [] → Coded ws i kind size 0 0 0 0
  plain_coded kind size k w s l m e =
      coded words i h kind kind size 0 0 0 0 k w s (omega arith) (omega arith) (record { are = e; small_a = omega arith; small_b = omega arith; small_c = omega arith; small_d = omega arith })

  module _ (size : ℕ) (s : node_size ns i ≡ size) (limit : size ≤ max_constructs) where
    pub alternative_coded : kind_of ns i ≡ 1 → Coded ws i 1 size 0 0 0 0
    alternative_coded k = plain_coded 1 size k (rw k) s limit (omega arith) refl

    pub concatenation_coded : kind_of ns i ≡ 2 → Coded ws i 2 size 0 0 0 0
    concatenation_coded k = plain_coded 2 size k (rw k) s limit (omega arith) refl

    pub switch_coded : kind_of ns i ≡ 4 → Coded ws i 4 size 0 0 0 0
    switch_coded k = plain_coded 4 size k (rw k) s limit (omega arith) refl

    pub eod_coded : kind_of ns i ≡ 9 → Coded ws i 9 size 0 0 0 0
    eod_coded k = plain_coded 9 size k (rw k) s limit (omega arith) refl

    pub marked_coded : (how : ℕ) → kind_of ns i ≡ 3 → node_mark ns i ≡ how → how ≤ 3 → own_length ns i ≡ 0 → Coded ws i 3 size how 0 0 0
    marked_coded how k w l z =
        coded words i h 3 3 size how 0 0 0 k (rw k) s (omega arith) (omega arith)
        (record { are = rw (w, z); small_a = omega arith; small_b = omega arith; small_c = omega arith; small_d = omega arith })

    pub counted_coded : Quiet ns n → kind_of ns i ≡ 3 → node_mark ns i ≡ 4 → 0 < own_length ns i → Coded ws i 3 size 4 (own_start ns i) (own_start ns i + own_length ns i) 0
    counted_coded quiet k w l =
        let e : ltb 0 (own_length ns i) ≡ true = lt-ltb 0 (own_length ns i) l in
        let m : own_start ns i + own_length ns i ≤ max_terms = list_end known i h quiet in
        coded words i h 3 3 size 4 (own_start ns i) (own_start ns i + own_length ns i) 0 k (rw k) s (omega arith) (omega arith)
        (record { are = rw (w, e); small_a = omega arith; small_b = omega arith; small_c = omega arith; small_d = omega arith })

    pub use_coded : kind_of ns i ≡ 5 → rule_of xs rs r (place_of ns i) < r → Coded ws i 5 size (rule_of xs rs r (place_of ns i)) 0 0 0
    use_coded k l =
        coded words i h 5 5 size (rule_of xs rs r (place_of ns i)) 0 0 0 k (rw k) s (omega arith) (omega arith)
        (record { are = refl; small_a = omega (arith, known.rules_limit); small_b = omega arith; small_c = omega arith; small_d = omega arith })

    pub literal_coded : kind_of ns i ≡ 6 → Sized xs (place_of ns i) → Coded ws i 6 size (length (characters_at xs (place_of ns i))) 0 0 0
    literal_coded k l =
        coded words i h 6 6 size (length (characters_at xs (place_of ns i))) 0 0 0 k (rw k) s (omega arith) (omega arith)
        (record { are = refl; small_a = omega (arith, l.1); small_b = omega arith; small_c = omega arith; small_d = omega arith })

    pub range_coded : kind_of ns i ≡ 7 → Coded ws i 7 size (get_or (characters_at xs (place_of ns i)) 0 0) (get_or (characters_at xs (last_place ns i)) 0 0) 0 0
    range_coded k =
        coded words i h 7 7 size (get_or (characters_at xs (place_of ns i)) 0 0) (get_or (characters_at xs (last_place ns i)) 0 0) 0 0 k (rw k) s (omega arith) (omega arith)
        (record {
          are = refl;
          small_a = omega (arith, character_small xs (place_of ns i) 0);
          small_b = omega (arith, character_small xs (last_place ns i) 0);
          small_c = omega arith;
          small_d = omega arith;
        })

    -- a uint or sint
    pub uint_coded : Quiet ns n → kind_of ns i ≡ 8 → 0 < own_length ns i → Coded ws i (cond (is_signed xs ns i) 12 8) size (width_of xs ns i) (own_start ns i) (own_start ns i + own_length ns i) (binder_word known i h)
    uint_coded quiet k l =
        let e : ltb 0 (own_length ns i) ≡ true = lt-ltb 0 (own_length ns i) l in
        let m : own_start ns i + own_length ns i ≤ max_terms = list_end known i h quiet in
        coded words i h 8 (cond (is_signed xs ns i) 12 8) size (width_of xs ns i) (own_start ns i) (own_start ns i + own_length ns i) (binder_word known i h) k (rw k) s
        (picked (λ (m : ℕ). m < 4294967296) (is_signed xs ns i) (λ z. omega arith) (λ z. omega arith)) (omega arith)
        (record {
          are = rw e;
          small_a = omega arith;
          small_b = omega arith;
          small_c = omega arith;
          small_d = omega (arith, binder_limit known i h);
        })
