-- Items of whole numbers as items of natural numbers, each `o` above the whole number that it stands for.
-- Assumes nothing.
use Prim.Native.Nat.{ℕ, suc, ◌+◌, ◌-◌, ◌^◌, ◌≤◌, ◌<◌}
use mathlib.Core.Path.{◌≡◌, refl, sym, ap, ap₂, ◌∙◌}
use mathlib.Core.Bool.{Bool, true, false, cond, not}
use native.Mathlib.Omega.{arith}
use borrow.Author.Tests.{ltb-true, ltb-false, le-leb, lt-leb, leb-true}
use lib.Dec.{leb, ltb}
use lib.IntN.{ℤ, pos, negsuc, nat_abs, sub_ℕ, ◌+ℤ◌}
use lib.Signed.{mag, non_neg, le_z}
use Rattle.basis.proofs.PatternLaws.{difference_not_below, difference_below, difference_up, difference_down, difference_order}
use Rattle.term_integers.proofs.Laws.{differ}
use Rattle.term_membership.specs.Effects.{clip, end_of, low_of, item_of}
use Rattle.term_membership.specs.declared.Effect.{Effect}

-- ---- ends counted from −o on

below_difference : (o n : ℕ) → ltb o (suc n) ≡ not (non_neg (sub_ℕ o (suc n)))
below_difference o n = go (ltb o (suc n))
  where
    go : (t : Bool) → t ≡ not (non_neg (cond t (negsuc (suc n - suc o)) (pos (o - suc n))))
    go true = refl
    go false = refl

pub below_negative : (a : ℤ) (o m : ℕ) → not (non_neg a) ≡ true → m ≡ nat_abs a → ltb o m ≡ not (non_neg (a +ℤ pos o))
below_negative (pos n) o m e q = differ (sym e)
below_negative (negsuc n) o m e q = ap (ltb o) q ∙ below_difference o n

pub below_natural : (a : ℤ) (o : ℕ) → not (non_neg a) ≡ false → false ≡ not (non_neg (a +ℤ pos o))
below_natural (pos n) o e = refl
below_natural (negsuc n) o e = differ e

pub raised_up : (a : ℤ) (o m : ℕ) → not (non_neg a) ≡ true → m ≡ nat_abs a → m < o → o - m ≡ low_of o a
raised_up (pos n) o m e q h = differ (sym e)
raised_up (negsuc n) o m e q h = ap (o -◌) q ∙ sym (ap clip (difference_not_below o (suc n) (omega arith)))

pub raised_least : (a : ℤ) (o m : ℕ) → not (non_neg a) ≡ true → m ≡ nat_abs a → o ≤ m → 0 ≡ low_of o a
raised_least (pos n) o m e q h = differ (sym e)
raised_least (negsuc n) o m e q h = go (ltb o (suc n)) refl
  where
    go : (t : Bool) → ltb o (suc n) ≡ t → 0 ≡ clip (cond t (negsuc (suc n - suc o)) (pos (o - suc n)))
    go true k = refl
    go false k = let l : suc n ≤ o = ltb-false o (suc n) k in omega arith

pub raised_natural : (a : ℤ) (o m : ℕ) → not (non_neg a) ≡ false → m ≡ nat_abs a → m + o ≡ low_of o a
raised_natural (pos n) o m e q = ap (◌+ o) q
raised_natural (negsuc n) o m e q = differ e

pub raised_fits : (a : ℤ) (o m : ℕ) → not (non_neg a) ≡ false → m ≡ nat_abs a → mag a < 2 ^ 63 → o ≤ 2 ^ 63 → m + o < 2 ^ 64
raised_fits (pos n) o m e q h k = omega arith
raised_fits (negsuc n) o m e q h k = differ e

pub end_below : (low : ℕ) (z : ℤ) → not (non_neg z) ≡ true → Effect.Within 1 0 ≡ end_of low z
end_below low (pos n) e = differ (sym e)
end_below low (negsuc n) e = refl

pub end_self : (low : ℕ) (z : ℤ) (n : ℕ) → not (non_neg z) ≡ false → n ≡ clip z → Effect.Within low n ≡ end_of low z
end_self low (pos m) n e q = ap (Effect.Within low) q
end_self low (negsuc m) n e q = differ e

-- ---- the tests

-- the natural numbers of an item
abbrev pub inside : ℕ → Effect → Bool
inside v Effect.None = false
inside v (Effect.Within a b) = cond (leb a v) (leb v b) false
inside v (Effect.From a) = leb a v
inside v Effect.Or = false
inside v Effect.Except = false

module _ (o u : ℕ) where
  -- a negative number below −o is below all
  past_least : (n : ℕ) → o ≤ n → le_z (negsuc n) (sub_ℕ u o) ≡ true
  past_least n h = go (ltb u o) refl
    where
      go : (t : Bool) → ltb u o ≡ t → le_z (negsuc n) (cond t (negsuc (o - suc u)) (pos (u - o))) ≡ true
      go true e = le-leb (o - suc u) n (omega arith)
      go false e = refl

  not_past_least : (n : ℕ) → o ≤ n → le_z (sub_ℕ u o) (negsuc n) ≡ false
  not_past_least n h = go (ltb u o) refl
    where
      go : (t : Bool) → ltb u o ≡ t → le_z (cond t (negsuc (o - suc u)) (pos (u - o))) (negsuc n) ≡ false
      go true e = let k : u < o = ltb-true u o e in lt-leb n (o - suc u) (omega arith)
      go false e = refl

  pub from_test : (a : ℤ) → le_z a (sub_ℕ u o) ≡ leb (low_of o a) u
  from_test (pos n) = ap (λ (z : ℤ). le_z z (sub_ℕ u o)) (sym (difference_up n o)) ∙ difference_order (n + o) u o
  from_test (negsuc n) = go (ltb n o) refl
    where
      go : (t : Bool) → ltb n o ≡ t → le_z (negsuc n) (sub_ℕ u o) ≡ leb (clip (sub_ℕ o (suc n))) u
      go true e =
          let h : n < o = ltb-true n o e in
          ap (λ (z : ℤ). le_z z (sub_ℕ u o)) (sym (difference_down n o h)) ∙ difference_order (o - suc n) u o ∙ ap (λ (z : ℤ). leb (clip z) u) (sym (difference_not_below o (suc n) (omega arith)))
      go false e =
          let h : o ≤ n = ltb-false n o e in
          past_least n h ∙ sym (ap (λ (z : ℤ). leb (clip z) u) (difference_below o (suc n) (omega arith)) ∙ le-leb 0 u (omega arith))

  pub up_to_test : (b : ℤ) → le_z (sub_ℕ u o) b ≡ le_z (pos u) (b +ℤ pos o)
  up_to_test (pos n) = ap (le_z (sub_ℕ u o)) (sym (difference_up n o)) ∙ difference_order u (n + o) o
  up_to_test (negsuc n) = go (ltb n o) refl
    where
      go : (t : Bool) → ltb n o ≡ t → le_z (sub_ℕ u o) (negsuc n) ≡ le_z (pos u) (sub_ℕ o (suc n))
      go true e =
          let h : n < o = ltb-true n o e in
          ap (le_z (sub_ℕ u o)) (sym (difference_down n o h)) ∙ difference_order u (o - suc n) o ∙ ap (le_z (pos u)) (sym (difference_not_below o (suc n) (omega arith)))
      go false e =
          let h : o ≤ n = ltb-false n o e in
          not_past_least n h ∙ sym (ap (le_z (pos u)) (difference_below o (suc n) (omega arith)))

pick_false : (b : Bool) → cond b false false ≡ false
pick_false true = refl
pick_false false = refl

-- no number is from 1 up to 0
none : (u : ℕ) → cond (leb 1 u) (leb u 0) false ≡ false
none u = go (leb 1 u) refl
  where
    go : (t : Bool) → leb 1 u ≡ t → cond t (leb u 0) false ≡ false
    go true e = let h : 1 ≤ u = leb-true 1 u e in lt-leb u 0 (omega arith)
    go false e = refl

pub end_test : (low : ℕ) (z : ℤ) (u : ℕ) → cond (leb low u) (le_z (pos u) z) false ≡ inside u (end_of low z)
end_test low (pos n) u = refl
end_test low (negsuc n) u = pick_false (leb low u) ∙ sym (none u)

pub item_test : (o : ℕ) (a b : ℤ) (u : ℕ) → cond (le_z a (sub_ℕ u o)) (le_z (sub_ℕ u o) b) false ≡ inside u (item_of o a b)
item_test o a b u = ap₂ (λ (s t : Bool). cond s t false) (from_test o u a) (up_to_test o u b) ∙ end_test (low_of o a) (b +ℤ pos o) u
