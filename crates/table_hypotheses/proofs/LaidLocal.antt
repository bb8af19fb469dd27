-- Whether constructs are well laid out is read from the words below the sets, and not from the weight.
-- Assumes nothing.
use Prim.Native.Nat.{ℕ, zero, suc, ◌+◌, ◌*◌, ◌-◌, ◌/◌, ◌%◌, ◌^◌, ◌≤◌, ◌<◌}
use mathlib.Core.Path.{◌≡◌, refl, ap, ◌∙◌}
use mathlib.Core.Bool.{Bool, true, false, cond, ◌&&◌, ◌||◌}
use mathlib.Core.List.{List}
use native.Mathlib.Omega.{arith}
use native.Mathlib.Decide.{dec_lt}
use lib.Dec.{leb, ltb, eqb}
use Rattle.basis.specs.Limits.{max_constructs, max_variables, max_literal_bytes}
use Rattle.term_words.specs.Words.{terms}
use Rattle.term_words.specs.declared.Kind.{Kind}
use Rattle.term_sizes.specs.Sizes.{sizes, count_sizes}
use Rattle.table_layout.specs.Places.{word, constructs_at, literals_at, sets_at}
use Rattle.table_layout.specs.Constructs.{construct_at}
use Rattle.table_layout.specs.Held.{size_of}
use Rattle.table_layout.specs.declared.Construct.{Construct}
use Rattle.table_layout.specs.declared.Passes.{Passes}
use Rattle.table_wellformed.specs.Checks.{every, from_to, all_zero, size_at, walk}
use Rattle.table_wellformed.specs.Parts.{unconditioned, part_laid, parts_laid}
use Rattle.table_wellformed.specs.Lists.{formed, zero_values, list_formed, condition_formed}
use Rattle.table_wellformed.specs.Rules.{named_back}
use Rattle.table_wellformed.specs.Laid.{operands_zero, chain_laid, passes_laid, kind_laid, literal_length, byte_laid, construct_laid}
use Rattle.table_layout.proofs.Bounds.{Fine, fine, missing_past}
use Rattle.table_hypotheses.specs.OneTable.{Alike}
use Rattle.table_hypotheses.proofs.HeldLocal.{construct_words, variable_words, constructs_same, terms_same}

-- ---- tests of many numbers

every_same : (f g : ℕ → Bool) (n i : ℕ) → ((k : ℕ) → i ≤ k → k < i + n → f k ≡ g k) → every n i f ≡ every n i g
unfolding every
every_same f g zero i h = refl
every_same f g (suc n) i h =
    let here : f i ≡ g i = h i (omega arith) (omega arith) in
    let rest : every n (i + 1) f ≡ every n (i + 1) g = every_same f g n (i + 1) (λ k l m. h k (omega arith) (omega arith)) in
    λ t. elim (here t) [ true ↦ rest t | false ↦ false ]

pub from_to_same : (f g : ℕ → Bool) (start end : ℕ) → ((k : ℕ) → start ≤ k → k < end → f k ≡ g k) → from_to start end f ≡ from_to start end g
from_to_same f g start end h = every_same f g (end - start) start (λ k l m. h k l (omega arith))

module _ {ws ws' : List ℕ} (a : Alike ws ws') where
  pub header_same : (k : ℕ) → k < 5 → word ws k ≡ word ws' k
  header_same k h = a.same k (omega arith) (λ e. omega arith)

  pub zeros_same : (start end : ℕ) → 6 ≤ start → end ≤ sets_at → all_zero ws start end ≡ all_zero ws' start end
  zeros_same start end low high =
      from_to_same (λ k. eqb (word ws k) 0) (λ k. eqb (word ws' k) 0) start end (λ k l m. ap (λ (w : ℕ). eqb w 0) (a.same k (omega arith) (λ e. omega arith)))

  pub size_same : (i : ℕ) → size_at ws i ≡ size_at ws' i
  size_same i = ap size_of (constructs_same a i)

  -- ---- walks

  pub walk_same : (check check' : ℕ → ℕ → Bool) (next next' : ℕ → ℕ → ℕ) (finish : ℕ → ℕ → Bool) (end : ℕ)
      → ((j x : ℕ) → (ltb 0 (size_at ws j) && check j x) ≡ (ltb 0 (size_at ws' j) && check' j x)) → ((j x : ℕ) → next j x ≡ next' j x)
      → (n j x : ℕ) → walk n ws check next finish end j x ≡ walk n ws' check' next' finish end j x
  unfolding walk
  walk_same check check' next next' finish end c m zero j x = refl
  walk_same check check' next next' finish end c m (suc n) j x =
      λ t. elim (ltb j end) [
        | true ↦ elim (c j x t) [ true ↦ walk_same check check' next next' finish end c m n (j + size_same j t) (m j x t) t | false ↦ false ]
        | false ↦ finish j x
      ]

  -- past the constructs a walk ends, whatever else is asked
  pub guarded : (j : ℕ) (c c' : Bool) → (j < max_constructs → c ≡ c') → (ltb 0 (size_at ws j) && c) ≡ (ltb 0 (size_at ws' j) && c')
  guarded j c c' h =
      elim (dec_lt j max_constructs) [
        | yes l ↦ λ t. ltb 0 (size_same j t) && h l t
        | no l ↦ rw (missing_past ws j (omega arith), missing_past ws' j (omega arith)) refl
      ]

  -- ---- parts

  pub unconditioned_same : (i : ℕ) → i < max_constructs → unconditioned ws i ≡ unconditioned ws' i
  unconditioned_same i h = λ t. eqb (construct_words a i 6 h (omega arith) t) 0 && eqb (construct_words a i 7 h (omega arith) t) 0

  part_same : (switch : Bool) (first j end : ℕ) → j < max_constructs → part_laid ws switch first j end ≡ part_laid ws' switch first j end
  part_same switch first j end h =
      let from = construct_words a j 6 h (omega arith) in
      let upto = construct_words a j 7 h (omega arith) in
      λ t.
      cond switch
      ((ltb (from t) (upto t) && leb (upto t) (header_same 4 (omega arith) t)) || ((ltb first j && eqb (j + size_same j t) end) && unconditioned_same j h t))
      (unconditioned_same j h t)

  parts_laid_same : (switch : Bool) (first end : ℕ) → parts_laid ws switch first end ≡ parts_laid ws' switch first end
  parts_laid_same switch first end =
      walk_same (λ j x. part_laid ws switch first j end) (λ j x. part_laid ws' switch first j end) (λ j x. x) (λ j x. x) (λ j x. eqb j end) end
      (λ j x. guarded j (part_laid ws switch first j end) (part_laid ws' switch first j end) (part_same switch first j end)) (λ j x. refl) (end - first) first 0

  -- ---- constructs

  operands_same : (i k : ℕ) → i < max_constructs → operands_zero ws i k ≡ operands_zero ws' i k
  operands_same i k h = zeros_same (constructs_at + 8 * i + k) (constructs_at + 8 * i + 6) (omega arith) (omega arith)

  chain_same : (i : ℕ) → i < max_constructs → chain_laid ws i ≡ chain_laid ws' i
  chain_same i h = λ t. operands_same i 2 h t && (ltb (i + 1 + size_same (i + 1) t) (i + size_same i t) && parts_laid_same false (i + 1) (i + size_same i t) t)

  passes_same : (i : ℕ) (p : Passes) → i < max_constructs → passes_laid ws i p ≡ passes_laid ws' i p
  passes_same i Passes.Optional h = operands_same i 3 h
  passes_same i Passes.Any h = operands_same i 3 h
  passes_same i Passes.Some h = operands_same i 3 h
  passes_same i (Passes.Counted start end) h = λ t. operands_same i 5 h t && formed (count_sizes zero_values (terms_same a t) start end)

  list_same : (kind : Kind) (start end : ℕ) → list_formed kind ws start end ≡ list_formed kind ws' start end
  list_same kind start end = λ t. formed (sizes kind zero_values start (terms (terms_same a t) start end))

  named_same : (i binder : ℕ) → binder ≤ max_variables → named_back ws i binder ≡ named_back ws' i binder
  named_same i binder h = λ t. cond (eqb binder 0) true (leb binder (header_same 3 (omega arith) t) && eqb (variable_words a (binder - 1) 0 (omega arith) (omega arith) t) i)

  kind_same : (i : ℕ) (c : Construct) → i < max_constructs → Fine i c → kind_laid ws i c ≡ kind_laid ws' i c
  kind_same i Construct.Missing h f = refl
  kind_same i (Construct.Alternative size) h f = chain_same i h
  kind_same i (Construct.Concatenation size) h f = chain_same i h
  kind_same i (Construct.Repetition size p) h f =
      λ t. passes_same i p h t && (eqb (i + 1 + size_same (i + 1) t) (i + size_same i t) && parts_laid_same false (i + 1) (i + size_same i t) t)
  kind_same i (Construct.Switch size) h f = λ t. operands_same i 2 h t && parts_laid_same true (i + 1) (i + size_same i t) t
  kind_same i (Construct.Use rule) h f = λ t. ltb rule (header_same 1 (omega arith) t) && operands_same i 3 h t
  kind_same i (Construct.Literal n) h f = operands_same i 3 h
  kind_same i (Construct.Range low high) h f = operands_same i 4 h
  kind_same i (Construct.Uint signed width start end binder) h f = λ t. named_same i binder f.5 t && list_same Kind.Set start end t
  kind_same i Construct.Eod h f = operands_same i 2 h

  byte_same : (i k : ℕ) → i < max_constructs → k < max_literal_bytes → byte_laid ws i (literal_length (construct_at ws i)) k ≡ byte_laid ws' i (literal_length (construct_at ws' i)) k
  byte_same i k h l =
      let w : word ws (literals_at + 8 * i + k / 4) ≡ word ws' (literals_at + 8 * i + k / 4) = a.same (literals_at + 8 * i + k / 4) (omega arith) (λ e. omega arith) in
      λ t. ltb (w t / 256 ^ (k % 4) % 256) (cond (ltb k (literal_length (constructs_same a i t))) 128 1)

  condition_same : (i : ℕ) → i < max_constructs → condition_formed ws i ≡ condition_formed ws' i
  condition_same i h =
      let from = construct_words a i 6 h (omega arith) in
      let upto = construct_words a i 7 h (omega arith) in
      λ t. cond (ltb (from t) (upto t)) (list_same Kind.Condition (from t) (upto t) t) true

  pub construct_laid_same : (i : ℕ) → i < max_constructs → construct_laid ws i ≡ construct_laid ws' i
  construct_laid_same i h =
      let kind : kind_laid ws i (construct_at ws i) ≡ kind_laid ws' i (construct_at ws' i) = kind_same i (construct_at ws i) h (fine ws i) ∙ ap (kind_laid ws' i) (constructs_same a i) in
      let bytes = from_to_same (byte_laid ws i (literal_length (construct_at ws i))) (byte_laid ws' i (literal_length (construct_at ws' i))) 0 max_literal_bytes (λ k l m. byte_same i k h m) in
      λ t. kind t && (bytes t && condition_same i h t)
