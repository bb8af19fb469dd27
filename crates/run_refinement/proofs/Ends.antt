-- Over reliable words every list of terms ends within the table's count of terms.
-- Assumes nothing.
use Prim.Native.Nat.{ℕ, zero, suc, ◌+◌, ◌-◌, ◌≤◌, ◌<◌}
use native.Mathlib.Omega.{arith}
use native.Mathlib.Decide.{dec_lt, ℕ_discrete}
use borrow.Author.Tests.{lt-ltb, le-ltb, ltb-true, eqb-true}
use mathlib.Core.Path.{◌≡◌, refl, subst}
use mathlib.Core.Logic.{inl, inr}
use mathlib.Core.Bool.{Bool, true, false}
use mathlib.Core.List.{List}
use lib.Dec.{ltb}
use lib.IntN.{ℤ}
use Rattle.basis.proofs.Booleans.{which, both_first, both_second}
use Rattle.term_words.specs.Words.{terms_from}
use Rattle.term_words.specs.declared.Kind.{Kind}
use Rattle.term_evaluation.specs.Meaning.{run}
use Rattle.term_evaluation.specs.Counts.{tallied}
use Rattle.term_sizes.specs.Sizes.{sizes, count_sizes}
use Rattle.table_layout.specs.Places.{construct_word, construct_count, term_count}
use Rattle.table_layout.specs.Constructs.{construct_at}
use Rattle.table_layout.specs.Held.{Context, term_words, terms_of}
use Rattle.table_layout.specs.declared.Construct.{Construct}
use Rattle.table_layout.specs.declared.Passes.{Passes}
use Rattle.table_wellformed.specs.Lists.{own_start, own_end, begins, after, after_condition, lists_begin, after_lists, lists_from}
use Rattle.run_refinement.proofs.Reliable.{Reliable, counts_answer, set_answers}
use Rattle.std.specs.Prelude.{Ok, Err, Result, ⊤}
use Rattle.term_sizes.specs.declared.SizeError.{SizeError}

-- the next list begins no earlier, and where there is a list it begins at that list's end
after_more : (p start end : ℕ) → begins p start end ≡ true → p ≤ after p start end
after_more p start end b =
    elim (which (ltb start end)) [
      | inl t ↦
          let e : start ≡ p = eqb-true start p (rw t at b) in
          let l : start < end = ltb-true start end t in
          rw t (let z : p ≤ end = omega arith in z)
      | inr t ↦ rw t (let z : p ≤ p = omega arith in z)
    ]

after_end : (p start end : ℕ) → start < end → after p start end ≡ end
after_end p start end l = rw (lt-ltb start end l) refl

module _ (ws : List ℕ) where
  -- the lists of construct i end within the terms
  pub record Ending (i : ℕ) : Type 0 where
    pub condition : construct_word ws i 6 < construct_word ws i 7 → construct_word ws i 7 ≤ term_count ws
    pub own : own_start (construct_at ws i) < own_end (construct_at ws i) → own_end (construct_at ws i) ≤ term_count ws

  -- where the lists of constructs from i on begin
  begin_within : (n i p : ℕ) → lists_from n ws i p ≡ true → p ≤ term_count ws
  unfolding lists_from
  begin_within zero i p h = let e : p ≡ term_count ws = eqb-true p (term_count ws) h in omega arith
  begin_within (suc n) i p h =
      let s : ℕ = own_start (construct_at ws i) in
      let e : ℕ = own_end (construct_at ws i) in
      let B : Bool = begins p (construct_word ws i 6) (construct_word ws i 7) in
      let C : Bool = begins (after_condition ws i p) s e in
      elim (which (lists_begin ws i p)) [
        | inl t ↦
            let a : p ≤ after_condition ws i p = after_more p (construct_word ws i 6) (construct_word ws i 7) (both_first B C t) in
            let b : after_condition ws i p ≤ after_lists ws i p = after_more (after_condition ws i p) s e (both_second B C t) in
            let c : after_lists ws i p ≤ term_count ws = begin_within n (i + 1) (after_lists ws i p) (rw (t, lists_from) at h) in
            omega arith
        | inr t ↦ let z : false ≡ true = rw (t, lists_from) at h in let w : ◌≡◌ {A = ℕ} 0 1 = cc in absurd (omega arith)
      ]

  each_ends : (n i p k : ℕ) → i ≤ k → k < i + n → lists_from n ws i p ≡ true → Ending k
  unfolding lists_from
  each_ends zero i p k low high h = absurd (omega arith)
  each_ends (suc n) i p k low high h =
      let s : ℕ = own_start (construct_at ws i) in
      let e : ℕ = own_end (construct_at ws i) in
      let B : Bool = begins p (construct_word ws i 6) (construct_word ws i 7) in
      let C : Bool = begins (after_condition ws i p) s e in
      elim (which (lists_begin ws i p)) [
        | inl t ↦
            let on : lists_from n ws (i + 1) (after_lists ws i p) ≡ true = rw (t, lists_from) at h in
            let b : after_condition ws i p ≤ after_lists ws i p = after_more (after_condition ws i p) s e (both_second B C t) in
            let c : after_lists ws i p ≤ term_count ws = begin_within n (i + 1) (after_lists ws i p) on in
            elim (ℕ_discrete i k) [
              | yes q ↦ subst Ending q (record {
                condition = λ l. omega (arith, after_end p (construct_word ws i 6) (construct_word ws i 7) l, b, c);
                own = λ l. omega (arith, after_end (after_condition ws i p) s e l, c);
              })
              | no q ↦ each_ends n (i + 1) (after_lists ws i p) k (omega arith) (omega arith) on
            ]
        | inr t ↦ let z : false ≡ true = rw (t, lists_from) at h in let w : ◌≡◌ {A = ℕ} 0 1 = cc in absurd (omega arith)
      ]

-- a list that comes to an answer has a term
some_set : (widest : List ℤ) (ws : List ℕ) (start end : ℕ) → sizes Kind.Set widest start (terms_of ws start end) ≡ Ok tt → start < end
unfolding sizes run terms_from
some_set widest ws start end h =
    elim (dec_lt start end) [
      | yes l ↦ l
      | no l ↦
          let z : end - start ≡ 0 = omega arith in
          let y : ◌≡◌ {A = Result ⊤ SizeError} (Err SizeError.Malformed) (Ok tt) = subst (λ (n : ℕ). sizes Kind.Set widest start (terms_from (term_words ws) start n) ≡ Ok tt) z h in
          let w : ◌≡◌ {A = ℕ} 0 1 = cc in absurd (omega arith)
    ]

some_counts : (widest : List ℤ) (ws : List ℕ) (start end : ℕ) → count_sizes widest (term_words ws) start end ≡ Ok tt → start < end
unfolding count_sizes tallied
some_counts widest ws start end h =
    elim (dec_lt start end) [
      | yes l ↦ l
      | no l ↦
          let y : ◌≡◌ {A = Result ⊤ SizeError} (Err SizeError.Malformed) (Ok tt) = rw (le-ltb start end (omega arith)) at h in
          let w : ◌≡◌ {A = ℕ} 0 1 = cc in absurd (omega arith)
    ]

module _ {ws : List ℕ} {widest : List ℤ} {weight rooms : Context → ℕ → ℕ} (r : Reliable ws widest weight rooms) (i : ℕ) (h : i < construct_count ws) where
  ends : Ending ws i
  ends = each_ends ws (construct_count ws) 0 0 i (omega arith) (omega arith) r.laid.lists

  pub condition_ends : construct_word ws i 6 < construct_word ws i 7 → construct_word ws i 7 ≤ term_count ws
  condition_ends l = ends.condition l

  pub counts_end : (n start end : ℕ) → construct_at ws i ≡ Construct.Repetition n (Passes.Counted start end) → end ≤ term_count ws
  counts_end n start end e = (rw e at ends.own) (some_counts widest ws start end (counts_answer r i n start end h e))

  pub set_ends : (signed : Bool) (width start end binder : ℕ) → construct_at ws i ≡ Construct.Uint signed width start end binder → end ≤ term_count ws
  set_ends signed width start end binder e = (rw e at ends.own) (some_set widest ws start end (set_answers r i signed width start end binder h e))
