-- A construct's words, of well laid out words, are those of what they say.
-- Assumes nothing.
use Prim.Native.Nat.{ℕ, zero, suc, ◌+◌, ◌*◌, ◌≤◌, ◌<◌}
use mathlib.Core.Path.{◌≡◌, refl, sym, ◌∙◌}
use mathlib.Core.Bool.{Bool, true, false, ◌&&◌}
use mathlib.Core.List.{List, [], ◌∷◌}
use native.Mathlib.Omega.{arith}
use native.Mathlib.Decide.{dec_lt}
use borrow.Author.Tests.{leb-true, eqb-true, eqb-false}
use lib.Dec.{leb, ltb, eqb}
use lib.ListN.{length, get_or, get_or-eq_default}
use Rattle.basis.specs.Limits.{max_rules, max_constructs, max_variables, max_literal_bytes}
use Rattle.basis.proofs.Booleans.{both_first, both_second, picked}
use Rattle.table_layout.specs.Places.{word, constructs_at, rule_count, construct_word}
use Rattle.table_layout.specs.Constructs.{branches, listed, repetition_of, inner_of, widest_for, uint_of, leaf_of, construct_of, construct_at}
use Rattle.table_layout.specs.declared.Construct.{Construct}
use Rattle.table_layout.specs.declared.Passes.{Passes}
use Rattle.table_wellformed.specs.Lists.{counts_formed}
use Rattle.table_wellformed.specs.Laid.{operands_zero, kind_laid}
use Rattle.table_structure.proofs.Facts.{each, lt_of_ne}

-- the first six words of a construct that are not 0
abbrev pub code : Construct → List ℕ
code Construct.Missing = []
code (Construct.Alternative size) = 1 ∷ size ∷ []
code (Construct.Concatenation size) = 2 ∷ size ∷ []
code (Construct.Repetition size Passes.Optional) = 3 ∷ size ∷ 1 ∷ []
code (Construct.Repetition size Passes.Any) = 3 ∷ size ∷ 2 ∷ []
code (Construct.Repetition size Passes.Some) = 3 ∷ size ∷ 3 ∷ []
code (Construct.Repetition size (Passes.Counted start end)) = 3 ∷ size ∷ 4 ∷ start ∷ end ∷ []
code (Construct.Switch size) = 4 ∷ size ∷ []
code (Construct.Use rule) = 5 ∷ 1 ∷ rule ∷ []
code (Construct.Literal length) = 6 ∷ 1 ∷ length ∷ []
code (Construct.Range low high) = 7 ∷ 1 ∷ low ∷ high ∷ []
code (Construct.Uint false width start end binder) = 8 ∷ 1 ∷ width ∷ start ∷ end ∷ binder ∷ []
code (Construct.Uint true width start end binder) = 12 ∷ 1 ∷ width ∷ start ∷ end ∷ binder ∷ []
code Construct.Eod = 9 ∷ 1 ∷ []

-- the kind of a uint, and of a sint
abbrev uint_kind : Bool → ℕ
uint_kind false = 8
uint_kind true = 12

-- what holds of 0 to 5
pub one_of_six : (P : ℕ → Type 0) → P 0 → P 1 → P 2 → P 3 → P 4 → P 5 → (k : ℕ) → k < 6 → P k
one_of_six P a b c d e f zero h = a
one_of_six P a b c d e f (suc zero) h = b
one_of_six P a b c d e f (suc (suc zero)) h = c
one_of_six P a b c d e f (suc (suc (suc zero))) h = d
one_of_six P a b c d e f (suc (suc (suc (suc zero)))) h = e
one_of_six P a b c d e f (suc (suc (suc (suc (suc zero))))) h = f
one_of_six P a b c d e f (suc (suc (suc (suc (suc (suc k)))))) h = absurd (omega arith)

-- ---- the words that a construct is read from

abbrev Starts : List ℕ → List ℕ → Type 0
Starts [] ws = Unit {0}
Starts (c ∷ cs) [] = ⊥
Starts (c ∷ cs) (w ∷ ws) = (w ≡ c) × Starts cs ws

starts_each : (cs ws : List ℕ) → Starts cs ws → (k : ℕ) → k < length cs → get_or ws k 0 ≡ get_or cs k 0
starts_each [] ws s k h = absurd (omega arith)
starts_each (c ∷ cs) [] s k h = absurd s
starts_each (c ∷ cs) (w ∷ ws) s zero h = s.0
starts_each (c ∷ cs) (w ∷ ws) s (suc k) h = starts_each cs ws s.1 k (omega arith)

module _ (i kind size a b c d : ℕ) where
  abbrev Says : Construct → Type 0
  Says x = Starts (code x) (kind ∷ size ∷ a ∷ b ∷ c ∷ d ∷ [])

  repetition_says : kind ≡ 3 → Says (repetition_of size a b c)
  repetition_says k =
      picked Says (eqb a 1) (λ e. (k, (refl, (eqb-true a 1 e, tt)))) (λ e.
      picked Says (eqb a 2) (λ e. (k, (refl, (eqb-true a 2 e, tt)))) (λ e.
      picked Says (eqb a 3) (λ e. (k, (refl, (eqb-true a 3 e, tt)))) (λ e.
      picked Says (eqb a 4 && listed b c) (λ e. (k, (refl, (eqb-true a 4 (both_first (eqb a 4) (listed b c) e), (refl, (refl, tt)))))) (λ e. tt))))

  inner_says : 1 ≤ kind → kind ≤ 4 → Says (inner_of kind size a b c)
  inner_says low high =
      picked Says (eqb kind 1) (λ e. (eqb-true kind 1 e, (refl, tt))) (λ one.
      picked Says (eqb kind 2) (λ e. (eqb-true kind 2 e, (refl, tt))) (λ two.
      picked Says (eqb kind 3) (λ e. repetition_says (eqb-true kind 3 e)) (λ three.
      let past : (n : ℕ) → n ≤ kind → eqb kind n ≡ false → n + 1 ≤ kind = λ n l e. lt_of_ne n kind l (λ s. eqb-false kind n e (sym s)) in
      (omega (arith, past 3 (past 2 (past 1 low one) two) three), (refl, tt)))))

  uint_says : (signed : Bool) → kind ≡ uint_kind signed → size ≡ 1 → Says (uint_of signed a b c d)
  uint_says false k s = picked Says ((leb 1 a && leb a (widest_for d)) && (listed b c && leb d max_variables)) (λ t. (k, (s, (refl, (refl, (refl, (refl, tt))))))) (λ t. tt)
  uint_says true k s = picked Says ((leb 1 a && leb a (widest_for d)) && (listed b c && leb d max_variables)) (λ t. (k, (s, (refl, (refl, (refl, (refl, tt))))))) (λ t. tt)

  leaf_says : size ≡ 1 → Says (leaf_of kind a b c d)
  leaf_says s =
      picked Says (eqb kind 5) (λ e. picked Says (ltb a max_rules) (λ t. (eqb-true kind 5 e, (s, (refl, tt)))) (λ t. tt)) (λ e.
      picked Says (eqb kind 6) (λ e. picked Says (leb 1 a && leb a max_literal_bytes) (λ t. (eqb-true kind 6 e, (s, (refl, tt)))) (λ t. tt)) (λ e.
      picked Says (eqb kind 7) (λ e. picked Says (ltb a 128 && ltb b 128) (λ t. (eqb-true kind 7 e, (s, (refl, (refl, tt))))) (λ t. tt)) (λ e.
      picked Says (eqb kind 8) (λ e. uint_says false (eqb-true kind 8 e) s) (λ e.
      picked Says (eqb kind 9) (λ e. (eqb-true kind 9 e, (s, tt))) (λ e.
      picked Says (eqb kind 12) (λ e. uint_says true (eqb-true kind 12 e) s) (λ t. tt))))))

  says : Says (construct_of i kind size a b c d)
  unfolding construct_of
  says =
      picked Says (leb 1 kind && leb kind 4)
      (λ e. picked Says (branches i size) (λ t. inner_says (leb-true 1 kind (both_first (leb 1 kind) (leb kind 4) e)) (leb-true kind 4 (both_second (leb 1 kind) (leb kind 4) e))) (λ t. tt))
      (λ e. picked Says (eqb size 1) (λ t. leaf_says (eqb-true size 1 t)) (λ t. tt))

-- ---- and the others

module _ (ws : List ℕ) (i : ℕ) where
  abbrev six : List ℕ
  six = construct_word ws i 0 ∷ construct_word ws i 1 ∷ construct_word ws i 2 ∷ construct_word ws i 3 ∷ construct_word ws i 4 ∷ construct_word ws i 5 ∷ []

  read_says : Starts (code (construct_at ws i)) six
  unfolding construct_at
  read_says =
      picked (λ x. Starts (code x) six) (ltb i max_constructs)
      (λ t. says i (construct_word ws i 0) (construct_word ws i 1) (construct_word ws i 2) (construct_word ws i 3) (construct_word ws i 4) (construct_word ws i 5)) (λ t. tt)

  -- what was read is read from the first words, and the others are 0
  read_or_zero : (cs : List ℕ) → Starts cs six → ((k : ℕ) → length cs ≤ k → k < 6 → construct_word ws i k ≡ 0) → (k : ℕ) → k < 6 → construct_word ws i k ≡ get_or cs k 0
  read_or_zero cs s z k h =
      elim (dec_lt k (length cs)) [
        | yes l ↦ one_of_six (λ n. construct_word ws i n ≡ get_or six n 0) refl refl refl refl refl refl k h ∙ starts_each cs six s k l
        | no l ↦ z k (omega arith) h ∙ sym (get_or-eq_default cs 0 (omega arith))
      ]

  zeros_from : (m : ℕ) → operands_zero ws i m ≡ true → (k : ℕ) → m ≤ k → k < 6 → construct_word ws i k ≡ 0
  zeros_from m z k low high =
      eqb-true (construct_word ws i k) 0 (each (λ u. eqb (word ws u) 0) (constructs_at + 8 * i + 6) (constructs_at + 8 * i + m) (constructs_at + 8 * i + k) z (omega arith) (omega arith))

  zero_past : (x : Construct) → kind_laid ws i x ≡ true → (k : ℕ) → length (code x) ≤ k → k < 6 → construct_word ws i k ≡ 0
  zero_past Construct.Missing h k = let z : ◌≡◌ {A = ℕ} 0 1 = cc in absurd (omega arith)
  zero_past (Construct.Alternative size) h k = zeros_from 2 (both_first (operands_zero ws i 2) _ h) k
  zero_past (Construct.Concatenation size) h k = zeros_from 2 (both_first (operands_zero ws i 2) _ h) k
  zero_past (Construct.Repetition size Passes.Optional) h k = zeros_from 3 (both_first (operands_zero ws i 3) _ h) k
  zero_past (Construct.Repetition size Passes.Any) h k = zeros_from 3 (both_first (operands_zero ws i 3) _ h) k
  zero_past (Construct.Repetition size Passes.Some) h k = zeros_from 3 (both_first (operands_zero ws i 3) _ h) k
  zero_past (Construct.Repetition size (Passes.Counted start end)) h k =
      zeros_from 5 (both_first (operands_zero ws i 5) (counts_formed ws start end) (both_first (operands_zero ws i 5 && counts_formed ws start end) _ h)) k
  zero_past (Construct.Switch size) h k = zeros_from 2 (both_first (operands_zero ws i 2) _ h) k
  zero_past (Construct.Use rule) h k = zeros_from 3 (both_second (ltb rule (rule_count ws)) (operands_zero ws i 3) h) k
  zero_past (Construct.Literal n) h k = zeros_from 3 h k
  zero_past (Construct.Range low high) h k = zeros_from 4 h k
  zero_past (Construct.Uint false width start end binder) h k = λ low high. absurd (omega arith)
  zero_past (Construct.Uint true width start end binder) h k = λ low high. absurd (omega arith)
  zero_past Construct.Eod h k = zeros_from 2 h k

  pub coded : kind_laid ws i (construct_at ws i) ≡ true → (k : ℕ) → k < 6 → construct_word ws i k ≡ get_or (code (construct_at ws i)) k 0
  coded h = read_or_zero (code (construct_at ws i)) read_says (zero_past (construct_at ws i) h)
