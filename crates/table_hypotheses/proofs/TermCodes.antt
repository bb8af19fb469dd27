-- A term's words, of well laid out words, are those of the term.
-- Assumes nothing.
use Prim.Native.Nat.{ℕ, ◌+◌, ◌-◌, ◌/◌, ◌%◌, ◌^◌, ◌≤◌, ◌<◌}
use mathlib.Core.Path.{◌≡◌, refl}
use mathlib.Core.Bool.{true, false, ◌||◌}
use native.Mathlib.Omega.{arith}
use borrow.Author.Tests.{ltb-false, eqb-true, ne_eqb, le-leb, lt-leb}
use lib.Dec.{ltb, eqb}
use Rattle.basis.proofs.Booleans.{picked}
use Rattle.term_words.specs.Words.{operation_of, sign_of, term_of}
use Rattle.term_words.specs.declared.Operation.{Operation}
use Rattle.term_words.specs.declared.Comparison.{Comparison}
use Rattle.term_words.specs.declared.Term.{Term}
use Rattle.table_wellformed.specs.Lists.{has_low, has_high}
use Rattle.term_words.proofs.KnownTerms.{KnownOperation, KnownTerm}

-- ---- the words of a term

abbrev operation_tag : Operation → ℕ
operation_tag (Operation.Number n) = 1
operation_tag (Operation.Variable k) = 2
operation_tag Operation.Add = 3
operation_tag Operation.Subtract = 4
operation_tag Operation.Multiply = 5
operation_tag Operation.Negate = 6
operation_tag Operation.Unknown = 0

abbrev operation_low : Operation → ℕ
operation_low (Operation.Number n) = n % 2 ^ 32
operation_low (Operation.Variable k) = k
operation_low Operation.Add = 0
operation_low Operation.Subtract = 0
operation_low Operation.Multiply = 0
operation_low Operation.Negate = 0
operation_low Operation.Unknown = 0

abbrev operation_high : Operation → ℕ
operation_high (Operation.Number n) = n / 2 ^ 32
operation_high (Operation.Variable k) = 0
operation_high Operation.Add = 0
operation_high Operation.Subtract = 0
operation_high Operation.Multiply = 0
operation_high Operation.Negate = 0
operation_high Operation.Unknown = 0

abbrev comparison_tag : Comparison → ℕ
comparison_tag Comparison.Equal = 14
comparison_tag Comparison.Unequal = 15
comparison_tag Comparison.Less = 16
comparison_tag Comparison.AtMost = 17
comparison_tag Comparison.Greater = 18
comparison_tag Comparison.AtLeast = 19

abbrev pub tag_of : Term → ℕ
tag_of (Term.Part o) = operation_tag o
tag_of (Term.Single o) = 32 + operation_tag o
tag_of Term.All = 7
tag_of Term.Range = 8
tag_of Term.From = 9
tag_of Term.UpTo = 10
tag_of Term.Or = 11
tag_of Term.Except = 12
tag_of Term.And = 13
tag_of (Term.Compare k) = comparison_tag k
tag_of Term.Bad = 0

abbrev pub low_of : Term → ℕ
low_of (Term.Part o) = operation_low o
low_of (Term.Single o) = operation_low o
low_of Term.All = 0
low_of Term.Range = 0
low_of Term.From = 0
low_of Term.UpTo = 0
low_of Term.Or = 0
low_of Term.Except = 0
low_of Term.And = 0
low_of (Term.Compare k) = 0
low_of Term.Bad = 0

abbrev pub high_of : Term → ℕ
high_of (Term.Part o) = operation_high o
high_of (Term.Single o) = operation_high o
high_of Term.All = 0
high_of Term.Range = 0
high_of Term.From = 0
high_of Term.UpTo = 0
high_of Term.Or = 0
high_of Term.Except = 0
high_of Term.And = 0
high_of (Term.Compare k) = 0
high_of Term.Bad = 0

-- ---- what words say

-- only a number and a variable's use have a low word
low_between : (n : ℕ) → 2 < n → n < 33 → has_low n ≡ false
low_between n l m = rw (le-leb 1 n (omega arith), lt-leb n 2 l, lt-leb 33 n m) refl

low_past : (n : ℕ) → 34 < n → has_low n ≡ false
low_past n l = rw (le-leb 1 n (omega arith), lt-leb n 2 (omega arith), le-leb 33 n (omega arith), lt-leb n 34 l) refl

-- only a number has a high one
high_between : (n : ℕ) → 1 < n → n < 33 → has_high n ≡ false
high_between n l m = rw (ne_eqb n 1 (λ e. omega arith), ne_eqb n 33 (λ e. omega arith)) refl

high_past : (n : ℕ) → 33 < n → has_high n ≡ false
high_past n l = rw (ne_eqb n 1 (λ e. omega arith), ne_eqb n 33 (λ e. omega arith)) refl

-- an operation, by a tag of its own
module _ (own low high : ℕ) (small : low < 2 ^ 32) (no-low : 2 < own → own < 7 → low ≡ 0) (no-high : 1 < own → own < 7 → high ≡ 0) where
  abbrev OperationSays : Operation → Type 0
  OperationSays o = KnownOperation o → (own ≡ operation_tag o) × (low ≡ operation_low o) × (high ≡ operation_high o)

  sign : (n : ℕ) → 2 < n → n < 7 → eqb own n ≡ true → (own ≡ n) × (low ≡ 0) × (high ≡ 0)
  sign n l m t = let e : own ≡ n = eqb-true own n t in (e, no-low (omega arith) (omega arith), no-high (omega arith) (omega arith))

  operation_says : OperationSays (operation_of own low high)
  operation_says =
      picked OperationSays (eqb own 1) (λ t k. (eqb-true own 1 t, omega arith, omega arith)) (λ t.
      picked OperationSays (eqb own 2) (λ t k. let e : own ≡ 2 = eqb-true own 2 t in (e, refl, no-high (omega arith) (omega arith))) (λ t.
      picked OperationSays (eqb own 3) (λ t k. sign 3 (omega arith) (omega arith) t) (λ t.
      picked OperationSays (eqb own 4) (λ t k. sign 4 (omega arith) (omega arith) t) (λ t.
      picked OperationSays (eqb own 5) (λ t k. sign 5 (omega arith) (omega arith) t) (λ t.
      picked OperationSays (eqb own 6) (λ t k. sign 6 (omega arith) (omega arith) t) (λ t k. absurd k))))))

module _ (tag low high : ℕ) (small : low < 2 ^ 32) (laid : (has_low tag || eqb low 0) ≡ true) (laid-high : (has_high tag || eqb high 0) ≡ true) where
  abbrev Says : Term → Type 0
  Says x = KnownTerm x → (tag ≡ tag_of x) × (low ≡ low_of x) × (high ≡ high_of x)

  zero_low : has_low tag ≡ false → low ≡ 0
  zero_low f = eqb-true low 0 (rw f at laid)

  zero_high : has_high tag ≡ false → high ≡ 0
  zero_high f = eqb-true high 0 (rw f at laid-high)

  -- a sign
  alone : (n : ℕ) → 2 < n → n < 33 → eqb tag n ≡ true → (tag ≡ n) × (low ≡ 0) × (high ≡ 0)
  alone n l m t = let e : tag ≡ n = eqb-true tag n t in (e, zero_low (low_between tag (omega arith) (omega arith)), zero_high (high_between tag (omega arith) (omega arith)))

  sign_says : Says (sign_of tag)
  sign_says =
      picked Says (eqb tag 7) (λ t k. alone 7 (omega arith) (omega arith) t) (λ t.
      picked Says (eqb tag 8) (λ t k. alone 8 (omega arith) (omega arith) t) (λ t.
      picked Says (eqb tag 9) (λ t k. alone 9 (omega arith) (omega arith) t) (λ t.
      picked Says (eqb tag 10) (λ t k. alone 10 (omega arith) (omega arith) t) (λ t.
      picked Says (eqb tag 11) (λ t k. alone 11 (omega arith) (omega arith) t) (λ t.
      picked Says (eqb tag 12) (λ t k. alone 12 (omega arith) (omega arith) t) (λ t.
      picked Says (eqb tag 13) (λ t k. alone 13 (omega arith) (omega arith) t) (λ t.
      picked Says (eqb tag 14) (λ t k. alone 14 (omega arith) (omega arith) t) (λ t.
      picked Says (eqb tag 15) (λ t k. alone 15 (omega arith) (omega arith) t) (λ t.
      picked Says (eqb tag 16) (λ t k. alone 16 (omega arith) (omega arith) t) (λ t.
      picked Says (eqb tag 17) (λ t k. alone 17 (omega arith) (omega arith) t) (λ t.
      picked Says (eqb tag 18) (λ t k. alone 18 (omega arith) (omega arith) t) (λ t.
      picked Says (eqb tag 19) (λ t k. alone 19 (omega arith) (omega arith) t) (λ t k. absurd k)))))))))))))

  single_says : 32 ≤ tag → Says (Term.Single (operation_of (tag - 32) low high))
  single_says h k =
      let o = operation_says (tag - 32) low high small (λ l m. zero_low (low_past tag (omega arith))) (λ l m. zero_high (high_past tag (omega arith))) k in
      (omega (arith, o.0), o.1, o.2)

  pub term_says : Says (term_of tag low high)
  unfolding term_of
  term_says =
      picked Says (ltb tag 7) (λ t. operation_says tag low high small (λ l m. zero_low (low_between tag l (omega arith))) (λ l m. zero_high (high_between tag l (omega arith))))
      (λ t. picked Says (ltb tag 32) (λ s. sign_says) (λ s. single_says (ltb-false tag 32 s)))
