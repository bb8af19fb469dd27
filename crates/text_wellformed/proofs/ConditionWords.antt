-- A construct's words 6 and 7: its condition's terms, from and up to.
-- Assumes nothing.
use Prim.Native.Nat.{ℕ, ◌+◌, ◌≤◌, ◌<◌}
use mathlib.Core.Path.{◌≡◌, refl, ◌∙◌}
use mathlib.Core.Bool.{true}
use mathlib.Core.List.{List, [], ◌∷◌, ◌++◌}
use native.Mathlib.Omega.{arith}
use borrow.Author.Tests.{lt-ltb, le-leb}
use lib.Dec.{leb, ltb, eqb}
use lib.ListN.{get_or}
use Rattle.basis.specs.Limits.{max_terms}
use Rattle.basis.proofs.Booleans.{picked}
use Rattle.table_layout.specs.Places.{construct_word}
use Rattle.table_wellformed.specs.Parts.{conditioned, unconditioned}
use Rattle.text_shapes.specs.NodeShapes.{Unconditioned, Conditioned}
use Rattle.text_store.specs.Words.{kind_of}
use Rattle.text_encoding.specs.Numbers.{condition_length, lists_length, condition_start}
use Rattle.text_encoding.specs.Encoded.{start_word, end_word, operands}
use Rattle.text_wellformed.specs.Context.{Readable, Words, Quiet}
use Rattle.text_wellformed.proofs.Sums.{total_last, sum_below}
use Rattle.text_wellformed.proofs.Totals.{terms_total}
use Rattle.text_wellformed.proofs.Coding.{construct_is}

-- there are four operands
module _ (xs ns rs : List ℕ) (r i kind a b : ℕ) where
  behind : (P : List ℕ → Type 0) → ((p q s u : ℕ) → P (p ∷ q ∷ s ∷ u ∷ [])) → P (operands xs ns rs r i kind)
  behind P f =
      picked P (eqb kind 3) (λ e. f _ _ _ _)
      (λ e. picked P (eqb kind 5) (λ e. f _ _ _ _)
      (λ e. picked P (eqb kind 6) (λ e. f _ _ _ _)
      (λ e. picked P (eqb kind 7) (λ e. f _ _ _ _)
      (λ e. picked P (eqb kind 8) (λ e. f _ _ _ _) (λ e. f _ _ _ _)))))

  word_6 : get_or (operands xs ns rs r i kind ++ (a ∷ b ∷ [])) 4 0 ≡ a
  word_6 = behind (λ (l : List ℕ). get_or (l ++ (a ∷ b ∷ [])) 4 0 ≡ a) (λ p q s u. refl)

  word_7 : get_or (operands xs ns rs r i kind ++ (a ∷ b ∷ [])) 5 0 ≡ b
  word_7 = behind (λ (l : List ℕ). get_or (l ++ (a ∷ b ∷ [])) 5 0 ≡ b) (λ p q s u. refl)

module _ {xs ns ts rs ws : List ℕ} {n t b r : ℕ} (known : Readable xs ns ts rs n t b r) (words : Words xs ns ts rs n r ws) (quiet : Quiet ns n) (i : ℕ) (h : i < n) where
  -- a condition's terms are among those of all nodes
  pub condition_end : condition_start ns i + condition_length ns i ≤ condition_start ns n
  condition_end = omega (arith, total_last (lists_length ns) i, sum_below (lists_length ns) (i + 1) n (omega arith))

  condition_small : condition_start ns i + condition_length ns i ≤ max_terms
  condition_small = omega (arith, condition_end, terms_total known quiet, known.terms_limit)

  pub condition_from : (v : ℕ) → start_word (condition_start ns i) (condition_length ns i) ≡ v → v ≤ max_terms → construct_word ws i 6 ≡ v
  condition_from v e l =
      construct_is words i h 6 v (omega arith)
      (word_6 xs ns rs r i (kind_of ns i) (start_word (condition_start ns i) (condition_length ns i)) (end_word (condition_start ns i) (condition_length ns i)) ∙ e) (omega arith)

  pub condition_to : (v : ℕ) → end_word (condition_start ns i) (condition_length ns i) ≡ v → v ≤ max_terms → construct_word ws i 7 ≡ v
  condition_to v e l =
      construct_is words i h 7 v (omega arith)
      (word_7 xs ns rs r i (kind_of ns i) (start_word (condition_start ns i) (condition_length ns i)) (end_word (condition_start ns i) (condition_length ns i)) ∙ e) (omega arith)

  pub is_unconditioned : Unconditioned ns i → unconditioned ws i ≡ true
  is_unconditioned u =
      let z : condition_length ns i ≡ 0 = omega (arith, u.from_is, u.end_is) in
      let a : construct_word ws i 6 ≡ 0 = condition_from 0 (rw z) (omega arith) in
      let c : construct_word ws i 7 ≡ 0 = condition_to 0 (rw z) (omega arith) in
      rw (a, c)

  pub is_conditioned : {f g : ℕ} → Conditioned ns ts i f g → conditioned ws i ≡ true
  is_conditioned c =
      let z : 0 < condition_length ns i = omega (arith, c.from_is, c.end_is, c.shape.some) in
      let e : ltb 0 (condition_length ns i) ≡ true = lt-ltb 0 (condition_length ns i) z in
      let a : construct_word ws i 6 ≡ condition_start ns i = condition_from (condition_start ns i) (rw e) (omega (arith, condition_small)) in
      let d : construct_word ws i 7 ≡ condition_start ns i + condition_length ns i = condition_to (condition_start ns i + condition_length ns i) (rw e) condition_small in
      let k : ltb (condition_start ns i) (condition_start ns i + condition_length ns i) ≡ true = lt-ltb (condition_start ns i) (condition_start ns i + condition_length ns i) (omega arith) in
      let l : leb (condition_start ns i + condition_length ns i) (condition_start ns n) ≡ true = le-leb (condition_start ns i + condition_length ns i) (condition_start ns n) condition_end in
      rw (a, d, words.terms_are, k, l)
