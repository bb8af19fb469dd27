-- Every term of a sound table stands in a list, so its words are those of the term.
-- Assumes nothing.
use Prim.Native.Nat.{ℕ, zero, suc, ◌+◌, ◌*◌, ◌/◌, ◌^◌, ◌≤◌, ◌<◌}
use mathlib.Core.Path.{◌≡◌, refl, subst, ap, ◌∙◌}
use mathlib.Core.Logic.{◌⊎◌, inl, inr}
use mathlib.Core.Bool.{Bool, true, false, ◌||◌}
use mathlib.Core.List.{List}
use native.Mathlib.Omega.{arith}
use native.Mathlib.Decide.{dec_lt}
use borrow.Author.Tests.{eqb-true, lt-ltb}
use lib.Dec.{ltb, eqb}
use lib.ListN.{length, get_or, drop, length-take, length-drop}
use lib.Seq.{get_or-take, get_or-drop}
use Rattle.basis.specs.Limits.{max_terms}
use Rattle.basis.proofs.Booleans.{which, both_first, both_second}
use Rattle.term_words.specs.Words.{term_of, term_at}
use Rattle.table_layout.specs.Places.{word, terms_at, construct_count, term_count, construct_word}
use Rattle.table_layout.specs.Constructs.{construct_at}
use Rattle.table_layout.specs.Held.{term_words}
use Rattle.table_layout.specs.declared.Construct.{Construct}
use Rattle.table_layout.specs.declared.OwnList.{OwnList}
use Rattle.table_layout.proofs.Views.{Operands, operands}
use Rattle.table_wellformed.specs.Lists.{list_end, own_start, own_end, begins, after, after_condition, lists_begin, after_lists, lists_from, has_low, has_high}
use Rattle.table_weights.proofs.Heights.{weight_at}
use Rattle.table_weights.proofs.Rooms.{rooms}
use Rattle.table_sizes.specs.Measures.{widest}
use Rattle.run_refinement.proofs.Reliable.{Reliable, condition_answers, counts_answer, set_answers}
use Rattle.table_judge.specs.Sound.{Sound}
use Rattle.table_hypotheses.proofs.Hypothesis.{laid_of_sound}
use Rattle.table_hypotheses.proofs.Reliability.{reliable}
use Rattle.table_hypotheses.proofs.TermCodes.{tag_of, low_of, high_of, term_says}
use Rattle.table_hypotheses.proofs.KnownTerms.{list_known, counts_known}
use Rattle.term_words.proofs.KnownTerms.{KnownTerm}

-- a place from p on is in the list that begins at p, or behind it
in_list : (p start end j : ℕ) → begins p start end ≡ true → p ≤ j → ((start ≤ j) × (j < end)) ⊎ (after p start end ≤ j)
in_list p start end j b low =
    elim (which (ltb start end)) [
      | inl t ↦
          let e : start ≡ p = eqb-true start p (rw t at b) in
          elim (dec_lt j end) [ yes h ↦ inl (omega arith, h) | no h ↦ inr (rw t (let z : end ≤ j = omega arith in z)) ]
      | inr t ↦ inr (rw t low)
    ]

module _ (ws : List ℕ) (P : ℕ → Type 0)
    (condition : (i : ℕ) → i < construct_count ws → (j : ℕ) → construct_word ws i 6 ≤ j → j < construct_word ws i 7 → P j)
    (own : (i : ℕ) → i < construct_count ws → (j : ℕ) → own_start (construct_at ws i) ≤ j → j < own_end (construct_at ws i) → P j) where
  module _ (i p j : ℕ) (h : i < construct_count ws) (on : after_lists ws i p ≤ j → P j) where
    second : ((own_start (construct_at ws i) ≤ j) × (j < own_end (construct_at ws i))) ⊎ (after_lists ws i p ≤ j) → P j
    second (inl (l, m)) = own i h j l m
    second (inr l) = on l

    first : ((construct_word ws i 6 ≤ j) × (j < construct_word ws i 7)) ⊎ (after_condition ws i p ≤ j) → begins (after_condition ws i p) (own_start (construct_at ws i)) (own_end (construct_at ws i)) ≡ true → P j
    first (inl (l, m)) b = condition i h j l m
    first (inr l) b = second (in_list (after_condition ws i p) (own_start (construct_at ws i)) (own_end (construct_at ws i)) j b l)

  -- what holds of the places of each list holds of all up to the number of terms
  listed : (n i p j : ℕ) → i + n ≡ construct_count ws → lists_from n ws i p ≡ true → p ≤ j → j < term_count ws → P j
  unfolding lists_from
  listed zero i p j e h low high = let q : p ≡ term_count ws = eqb-true p (term_count ws) h in absurd (omega arith)
  listed (suc n) i p j e h low high =
      let B : Bool = begins p (construct_word ws i 6) (construct_word ws i 7) in
      let C : Bool = begins (after_condition ws i p) (own_start (construct_at ws i)) (own_end (construct_at ws i)) in
      elim (which (lists_begin ws i p)) [
        | inl t ↦
            first i p j (omega arith) (λ l. listed n (i + 1) (after_lists ws i p) j (omega arith) (rw (t, lists_from) at h) l high)
            (in_list p (construct_word ws i 6) (construct_word ws i 7) j (both_first B C t) low) (both_second B C t)
        | inr t ↦ let z : false ≡ true = rw (t, lists_from) at h in let w : ◌≡◌ {A = ℕ} 0 1 = cc in absurd (omega arith)
      ]

module _ {ws : List ℕ} (s : Sound ws) where
  sure : Reliable ws (widest ws) (λ c i. weight_at ws i) (rooms ws)
  sure = reliable s

  condition_known : (i : ℕ) → i < construct_count ws → (j : ℕ) → construct_word ws i 6 ≤ j → j < construct_word ws i 7 → KnownTerm (term_at (term_words ws) j)
  condition_known i h j low high =
      list_known _ (widest ws) (term_words ws) (construct_word ws i 6) (construct_word ws i 7) (condition_answers sure i h (omega arith)) j low high

  own_known : (i : ℕ) → i < construct_count ws → {c : Construct} → Operands c → construct_at ws i ≡ c → (j : ℕ) → own_start c ≤ j → j < own_end c → KnownTerm (term_at (term_words ws) j)
  own_known i h (Operands.counts size start end) e j low high =
      counts_known (widest ws) (term_words ws) start end (omega arith) (counts_answer sure i size start end h e) j low high
  own_known i h (Operands.characters n) e j low high = absurd (omega arith)
  own_known i h (Operands.set signed width start end binder) e j low high =
      list_known _ (widest ws) (term_words ws) start end (set_answers sure i signed width start end binder h e) j low high
  own_known i h (Operands.plain p) e j low high =
      let l : j < 0 = subst (λ (o : OwnList). j < list_end o) p.own high in absurd (omega arith)

  term_known : (j : ℕ) → j < term_count ws → KnownTerm (term_at (term_words ws) j)
  term_known j h =
      listed ws (λ k. KnownTerm (term_at (term_words ws) k)) condition_known (λ i l. own_known i l (operands (construct_at ws i)) refl) (construct_count ws) 0 0 j (omega arith) (laid_of_sound s).lists (omega arith) h

  -- ---- the three words of a term

  module _ (fits : (k : ℕ) → word ws k < 2 ^ 32) (j : ℕ) (h : j < term_count ws) where
    abbrev tag : ℕ
    tag = word ws (terms_at + 3 * j)

    abbrev low : ℕ
    low = word ws (terms_at + 3 * j + 1)

    abbrev high : ℕ
    high = word ws (terms_at + 3 * j + 2)

    read : (k n : ℕ) → k < (3 * max_terms) → terms_at + k ≡ n → get_or (term_words ws) k 0 ≡ word ws n
    read k n l e = get_or-take (3 * max_terms) (drop terms_at ws) k 0 l ∙ get_or-drop terms_at ws k 0 ∙ ap (word ws) e

    few : j < max_terms
    few = omega (arith, (laid_of_sound s).counts.terms)

    decoded : term_at (term_words ws) j ≡ term_of tag low high
    unfolding term_at
    decoded =
        let n : length (term_words ws) ≡ (3 * max_terms) = length-take (3 * max_terms) (drop terms_at ws) ∙ omega (arith, length-drop terms_at ws, (laid_of_sound s).long) in
        let t : ltb j (length (term_words ws) / 3) ≡ true = lt-ltb j (length (term_words ws) / 3) (omega (arith, few)) in
        rw (t, read (j * 3) (terms_at + 3 * j) (omega (arith, few)) (omega arith), read (j * 3 + 1) (terms_at + 3 * j + 1) (omega (arith, few)) (omega arith), read (j * 3 + 2) (terms_at + 3 * j + 2) (omega (arith, few)) (omega arith))

    said : (tag ≡ tag_of (term_at (term_words ws) j)) × (low ≡ low_of (term_at (term_words ws) j)) × (high ≡ high_of (term_at (term_words ws) j))
    said =
        let L : Bool = has_low tag || eqb low 0 in
        let H : Bool = has_high tag || eqb high 0 in
        rw decoded
        (term_says tag low high (fits (terms_at + 3 * j + 1)) (both_first L H ((laid_of_sound s).term j h)) (both_second L H ((laid_of_sound s).term j h)) (subst KnownTerm decoded (term_known j h)))

    pub tag_said : word ws (terms_at + 3 * j) ≡ tag_of (term_at (term_words ws) j)
    tag_said = said.0

    pub low_said : word ws (terms_at + 3 * j + 1) ≡ low_of (term_at (term_words ws) j)
    low_said = said.1

    pub high_said : word ws (terms_at + 3 * j + 2) ≡ high_of (term_at (term_words ws) j)
    high_said = said.2
