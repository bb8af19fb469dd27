-- The lists of terms stand one after the other: those of construct i begin at `condition_start ns i`, where those before it end.
-- Assumes nothing.
use Prim.Native.Nat.{ℕ, zero, suc, ◌+◌, ◌≤◌, ◌<◌}
use mathlib.Core.Path.{◌≡◌, refl, sym, ap, subst, ◌∙◌}
use mathlib.Core.Logic.{inl, inr}
use mathlib.Core.Bool.{true}
use mathlib.Core.List.{List, [], ◌∷◌, ◌++◌}
use native.Mathlib.Omega.{arith}
use native.Mathlib.Nat.{mod-eq_of_lt, zero-add}
use borrow.Author.Tests.{eq-eqb, eqb-true, eqb-false, ltb-false}
use lib.Dec.{eqb, ltb}
use lib.ListN.{get_or}
use lib.Seq.{get_or-append-add}
use Rattle.basis.specs.Limits.{max_terms}
use Rattle.basis.proofs.Booleans.{which, picked, both_pass}
use Rattle.table_layout.specs.Places.{term_count, construct_word}
use Rattle.table_layout.specs.Constructs.{construct_at}
use Rattle.table_layout.specs.Attributes.{counts_list}
use Rattle.table_layout.specs.declared.Construct.{Construct}
use Rattle.table_layout.specs.declared.Passes.{Passes}
use Rattle.table_wellformed.specs.Lists.{own_start as list_start, own_end as list_end, list_start as Counts-start, list_end as counts_end, begins, after, lists_begin, after_lists, lists_from, lists_laid}
use Rattle.text_store.specs.Words.{kind_of, node_mark}
use Rattle.text_encoding.proofs.Sizes.{operands_length}
use Rattle.text_encoding.specs.Lists.{sum, narrow}
use Rattle.text_encoding.specs.Numbers.{condition_length, own_length, lists_length, condition_start, own_start}
use Rattle.text_encoding.specs.Encoded.{start_word, end_word, operands, construct_words}
use Rattle.text_wellformed.specs.Context.{Words, Quiet}
use Rattle.text_wellformed.specs.Meant.{passes_meant, meant, Known}
use Rattle.text_wellformed.proofs.Areas.{sum_next, sum_part}

-- ---- a list of c terms from p on, with the words `start` and `end`

record Follows (p c start end : ℕ) : Type 0 where
  begin : begins p start end ≡ true
  next : after p start end ≡ p + c

present : (p c : ℕ) → Follows p c p (p + c)
present p c =
    elim (which (ltb p (p + c))) [
      | inl t ↦ record { begin = rw t (eq-eqb p p refl); next = rw t }
      | inr t ↦ let z : p + c ≤ p = ltb-false p (p + c) t in record { begin = rw t; next = rw t (omega arith) }
    ]

-- no list has the words 0, 0
absent : (p c : ℕ) → c ≡ 0 → Follows p c 0 0
absent p c e = record { begin = refl; next = omega arith }

worded : (p c : ℕ) → Follows p c (start_word p c) (end_word p c)
worded p c =
    elim (which (ltb 0 c)) [
      | inl t ↦ rw t (present p c)
      | inr t ↦ rw t (absent p c (omega (arith, ltb-false 0 c t)))
    ]

-- ---- the words of a condition

condition_words : (xs ns rs : List ℕ) (r i k : ℕ) → get_or (construct_words xs ns rs r i) (suc (suc (4 + k))) 0 ≡ get_or (start_word (condition_start ns i) (condition_length ns i) ∷ end_word (condition_start ns i) (condition_length ns i) ∷ []) k 0
condition_words xs ns rs r i k =
    let ops : List ℕ = operands xs ns rs r i (kind_of ns i) in
    let tail : List ℕ = start_word (condition_start ns i) (condition_length ns i) ∷ end_word (condition_start ns i) (condition_length ns i) ∷ [] in
    subst (λ (z : ℕ). get_or (ops ++ tail) (z + k) 0 ≡ get_or tail k 0) (operands_length xs ns rs r i (kind_of ns i)) (get_or-append-add ops tail k 0)

-- of a list that ends before 2^32 they are words
narrow_words : (p c : ℕ) → p + c < 4294967296 → (narrow (start_word p c) ≡ start_word p c) × (narrow (end_word p c) ≡ end_word p c)
narrow_words p c h = elim (which (ltb 0 c)) [ inl t ↦ rw t (mod-eq_of_lt (omega arith), mod-eq_of_lt h) | inr t ↦ rw t (refl, refl) ]

module _ {xs ns ts rs : List ℕ} {n r : ℕ} {ws : List ℕ} (w : Words xs ns ts rs n r ws) (known : Known xs ns rs n r ws)
    (terms : condition_start ns n ≤ max_terms) (quiet : Quiet ns n) where
  module _ (i : ℕ) (h : i < n) where
    room : condition_start ns i + lists_length ns i ≤ condition_start ns n
    room = omega (arith, sum_part (lists_length ns) n i 0 h, ap (lists_length ns) (zero-add i))

    condition_follows : Follows (condition_start ns i) (condition_length ns i) (construct_word ws i 6) (construct_word ws i 7)
    condition_follows =
        let small = narrow_words (condition_start ns i) (condition_length ns i) (omega (arith, room)) in
        let from : construct_word ws i 6 ≡ start_word (condition_start ns i) (condition_length ns i) = w.construct_numbered i 6 h (omega arith) ∙ ap narrow (condition_words xs ns rs r i 0) ∙ small.0 in
        let to : construct_word ws i 7 ≡ end_word (condition_start ns i) (condition_length ns i) = w.construct_numbered i 7 h (omega arith) ∙ ap narrow (condition_words xs ns rs r i 1) ∙ small.1 in
        rw (from, to) (worded (condition_start ns i) (condition_length ns i))

    -- its own list, by the kind: other kinds than counted repetitions and uints have none
    nothing_own : (kind_of ns i ≡ 8 → ⊥) → ((kind_of ns i ≡ 3) × (node_mark ns i ≡ 4) → ⊥) → Follows (own_start ns i) (own_length ns i) 0 0
    nothing_own f g = absent (own_start ns i) (own_length ns i) (quiet i h f g)

    of_kind : (k : ℕ) → (k ≡ 8 → ⊥) → (k ≡ 3 → ⊥) → eqb (kind_of ns i) k ≡ true → Follows (own_start ns i) (own_length ns i) 0 0
    of_kind k f g e = let z : kind_of ns i ≡ k = eqb-true (kind_of ns i) k e in nothing_own (omega arith) (λ p. g (sym z ∙ p.0))

    of_mark : (k : ℕ) → (k ≡ 4 → ⊥) → (kind_of ns i ≡ 8 → ⊥) → eqb (node_mark ns i) k ≡ true → Follows (own_start ns i) (own_length ns i) 0 0
    of_mark k f g e = let z : node_mark ns i ≡ k = eqb-true (node_mark ns i) k e in nothing_own g (λ p. f (sym z ∙ p.1))

    abbrev Counts : Passes → Type 0
    Counts c = Follows (own_start ns i) (own_length ns i) (Counts-start (counts_list c)) (counts_end (counts_list c))

    counts_follow : (kind_of ns i ≡ 8 → ⊥) → Counts (passes_meant (node_mark ns i) (own_start ns i) (own_start ns i + own_length ns i))
    counts_follow g =
        picked Counts (eqb (node_mark ns i) 1) (of_mark 1 (omega arith) g) (λ n1.
        picked Counts (eqb (node_mark ns i) 2) (of_mark 2 (omega arith) g) (λ n2.
        picked Counts (eqb (node_mark ns i) 3) (of_mark 3 (omega arith) g) (λ n3. present (own_start ns i) (own_length ns i))))

    abbrev Own : Construct → Type 0
    Own c = Follows (own_start ns i) (own_length ns i) (list_start c) (list_end c)

    own_follows : Own (meant xs ns rs r i)
    unfolding meant
    own_follows =
        picked Own (eqb (kind_of ns i) 1) (of_kind 1 (omega arith) (omega arith)) (λ n1.
        picked Own (eqb (kind_of ns i) 2) (of_kind 2 (omega arith) (omega arith)) (λ n2.
        picked Own (eqb (kind_of ns i) 3) (λ e. counts_follow (let z : kind_of ns i ≡ 3 = eqb-true (kind_of ns i) 3 e in omega arith)) (λ n3.
        picked Own (eqb (kind_of ns i) 4) (of_kind 4 (omega arith) (omega arith)) (λ n4.
        picked Own (eqb (kind_of ns i) 5) (of_kind 5 (omega arith) (omega arith)) (λ n5.
        picked Own (eqb (kind_of ns i) 6) (of_kind 6 (omega arith) (omega arith)) (λ n6.
        picked Own (eqb (kind_of ns i) 7) (of_kind 7 (omega arith) (omega arith)) (λ n7.
        picked Own (eqb (kind_of ns i) 8) (λ e. present (own_start ns i) (own_length ns i)) (λ n8.
        nothing_own (eqb-false (kind_of ns i) 8 n8) (λ p. eqb-false (kind_of ns i) 3 n3 p.0)))))))))

    both_begin : lists_begin ws i (condition_start ns i) ≡ true
    both_begin =
        both_pass condition_follows.begin
        (subst (λ (z : ℕ). begins z (list_start (construct_at ws i)) (list_end (construct_at ws i)) ≡ true) (sym condition_follows.next) (rw (known i h) own_follows.begin))

    both_end : after_lists ws i (condition_start ns i) ≡ condition_start ns (i + 1)
    both_end =
        subst (λ (z : ℕ). after z (list_start (construct_at ws i)) (list_end (construct_at ws i)) ≡ own_start ns i + own_length ns i) (sym condition_follows.next) (rw (known i h) own_follows.next)
        ∙ omega (arith, sum_next (lists_length ns) i 0, ap (lists_length ns) (zero-add i))

  lists_on : (m i : ℕ) → i + m ≡ n → lists_from m ws i (condition_start ns i) ≡ true
  unfolding lists_from
  lists_on zero i e = let z : i ≡ n = omega arith in eq-eqb (condition_start ns i) (term_count ws) (ap (condition_start ns) z ∙ sym w.terms_are)
  lists_on (suc m) i e = rw (both_begin i (omega arith), lists_from, both_end i (omega arith)) (lists_on m (i + 1) (omega arith))

  pub lists_stand : lists_laid ws ≡ true
  unfolding sum
  lists_stand = rw w.constructs_are (lists_on n 0 (omega arith))
