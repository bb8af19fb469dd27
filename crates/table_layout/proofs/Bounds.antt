-- What holds of a construct whatever its words: its size leaves it within the limit, and its operands are within their limits.
-- Assumes nothing.
use Prim.Native.Nat.{ℕ, ◌+◌, ◌-◌, ◌≤◌, ◌<◌}
use mathlib.Core.Path.{◌≡◌, refl, sym, subst, ◌∙◌}
use mathlib.Core.Bool.{Bool, true, false, ◌&&◌}
use mathlib.Core.List.{List}
use native.Mathlib.Omega.{arith}
use borrow.Author.Tests.{ltb-true, leb-true, le-ltb, lt-ltb}
use lib.Dec.{leb, ltb, eqb}
use Rattle.basis.specs.Limits.{max_rules, max_constructs, max_variables, max_terms, max_literal_bytes, max_width, max_bound_width}
use Rattle.basis.proofs.Booleans.{both_first, both_second, picked}
use Rattle.table_layout.specs.Places.{construct_word}
use Rattle.table_layout.specs.Constructs.{branches, listed, inner_of, widest_for, uint_of, leaf_of, construct_of, construct_at}
use Rattle.table_layout.specs.Attributes.{attributes_of}
use Rattle.table_layout.specs.Held.{size_of}
use Rattle.table_layout.specs.declared.Construct.{Construct}
use Rattle.table_layout.specs.declared.Attributes.{Attributes}

-- what the words of construct i are where they say something
abbrev pub Fine : ℕ → Construct → Type 0
Fine i Construct.Missing = Unit {0}
Fine i (Construct.Alternative size) = (2 ≤ size) × (i + size ≤ max_constructs)
Fine i (Construct.Concatenation size) = (2 ≤ size) × (i + size ≤ max_constructs)
Fine i (Construct.Repetition size passes) = (2 ≤ size) × (i + size ≤ max_constructs)
Fine i (Construct.Switch size) = (2 ≤ size) × (i + size ≤ max_constructs)
Fine i (Construct.Use rule) = (i < max_constructs) × (rule < max_rules)
Fine i (Construct.Literal length) = (i < max_constructs) × (1 ≤ length) × (length ≤ max_literal_bytes)
Fine i (Construct.Range low high) = (i < max_constructs) × (low < 128) × (high < 128)
Fine i (Construct.Uint signed width start end binder) =
    (i < max_constructs) × (1 ≤ width) × (width ≤ max_width) × (start ≤ end) × (end ≤ max_terms) × (binder ≤ max_variables) × (0 < binder → width ≤ max_bound_width)
Fine i Construct.Eod = i < max_constructs

inner_fine : (i kind size a b c : ℕ) → (2 ≤ size) × (i + size ≤ max_constructs) → Fine i (inner_of kind size a b c)
inner_fine i kind size a b c h =
    picked (Fine i) (eqb kind 1) (λ e. h) (λ e.
    picked (Fine i) (eqb kind 2) (λ e. h) (λ e.
    picked (Fine i) (eqb kind 3)
    (λ e.
    picked (Fine i) (eqb a 1) (λ e. h) (λ e.
    picked (Fine i) (eqb a 2) (λ e. h) (λ e.
    picked (Fine i) (eqb a 3) (λ e. h) (λ e.
    picked (Fine i) (eqb a 4 && listed b c) (λ e. h) (λ e. tt)))))
    (λ e. h)))

for_most : (d : ℕ) → widest_for d ≤ max_width
for_most d = picked (λ (n : ℕ). n ≤ max_width) (ltb 0 d) (λ e. omega arith) (λ e. omega arith)

for_bound : (d : ℕ) → 0 < d → widest_for d ≡ max_bound_width
for_bound d h = rw (lt-ltb 0 d h)

pub uint_fine : (signed : Bool) (i a b c d : ℕ) → i < max_constructs → Fine i (uint_of signed a b c d)
uint_fine signed i a b c d h =
    let W : Bool = leb 1 a && leb a (widest_for d)
    in let L : Bool = listed b c
    in picked (Fine i) (W && (L && leb d max_variables))
    (λ e.
    let w : W ≡ true = both_first W (L && leb d max_variables) e
    in let l : L ≡ true = both_first L (leb d max_variables) (both_second W (L && leb d max_variables) e)
    in let k : a ≤ widest_for d = leb-true a (widest_for d) (both_second (leb 1 a) (leb a (widest_for d)) w)
    in (h, leb-true 1 a (both_first (leb 1 a) (leb a (widest_for d)) w), omega (arith, for_most d), leb-true b c (both_first (leb b c) (leb c max_terms) l), leb-true c max_terms (both_second (leb b c) (leb c max_terms) l), leb-true d max_variables (both_second L (leb d max_variables) (both_second W (L && leb d max_variables) e)), (λ q. omega (arith, for_bound d q))))
    (λ e. tt)

leaf_fine : (i kind a b c d : ℕ) → i < max_constructs → Fine i (leaf_of kind a b c d)
leaf_fine i kind a b c d h =
    picked (Fine i) (eqb kind 5) (λ e. picked (Fine i) (ltb a max_rules) (λ e. (h, ltb-true a max_rules e)) (λ e. tt)) (λ e.
    picked (Fine i) (eqb kind 6)
    (λ e. picked (Fine i) (leb 1 a && leb a max_literal_bytes) (λ e. (h, leb-true 1 a (both_first (leb 1 a) (leb a max_literal_bytes) e), leb-true a max_literal_bytes (both_second (leb 1 a) (leb a max_literal_bytes) e))) (λ e. tt))
    (λ e.
    picked (Fine i) (eqb kind 7)
    (λ e. picked (Fine i) (ltb a 128 && ltb b 128) (λ e. (h, ltb-true a 128 (both_first (ltb a 128) (ltb b 128) e), ltb-true b 128 (both_second (ltb a 128) (ltb b 128) e))) (λ e. tt))
    (λ e.
    picked (Fine i) (eqb kind 8) (λ e. uint_fine false i a b c d h) (λ e.
    picked (Fine i) (eqb kind 9) (λ e. h) (λ e.
    picked (Fine i) (eqb kind 12) (λ e. uint_fine true i a b c d h) (λ e. tt))))))

pub fine : (ws : List ℕ) (i : ℕ) → Fine i (construct_at ws i)
unfolding construct_at construct_of
fine ws i =
    picked (Fine i) (ltb i max_constructs)
    (λ h.
    picked (Fine i) (leb 1 kind && leb kind 4)
    (λ e.
    picked (Fine i) (branches i size)
    (λ e. inner_fine i kind size a b c (leb-true 2 size (both_first (leb 2 size) (leb (i + size) max_constructs) e), leb-true (i + size) max_constructs (both_second (leb 2 size) (leb (i + size) max_constructs) e)))
    (λ e. tt))
    (λ e. picked (Fine i) (eqb size 1) (λ e. leaf_fine i kind a b c d (ltb-true i max_constructs h)) (λ e. tt)))
    (λ h. tt)
  where
    kind : ℕ
    kind = construct_word ws i 0

    size : ℕ
    size = construct_word ws i 1

    a : ℕ
    a = construct_word ws i 2

    b : ℕ
    b = construct_word ws i 3

    c : ℕ
    c = construct_word ws i 4

    d : ℕ
    d = construct_word ws i 5

-- the same of what was read
pub fine_as : (ws : List ℕ) (i : ℕ) (r : Construct) → r ≡ construct_at ws i → (c : Construct) → r ≡ c → Fine i c
fine_as ws i r e c p = subst (Fine i) (sym e ∙ p) (fine ws i)

-- ---- the same by attributes

pub record Bounds (i : ℕ) (a : Attributes) : Type 0 where
  -- "256 constructs"
  pub whole : a.size ≤ 256 - i
  -- "32 characters"
  pub length : a.length ≤ 32
  -- what uses a rule, and what binds one of 64 variables, is one of the constructs
  pub used : a.rule < 64 → i < 256
  pub binder : a.binder ≤ 64
  pub bound : 0 < a.binder → i < 256

unused : (i : ℕ) (a : Attributes) → a.size ≤ 256 - i → a.length ≡ 0 → a.rule ≡ 64 → a.binder ≡ 0 → Bounds i a
unused i a h l r b = record { whole = h; length = omega arith; used = λ k. absurd (omega arith); binder = omega arith; bound = λ k. absurd (omega arith) }

bounds_of : (i : ℕ) (c : Construct) → Fine i c → Bounds i (attributes_of c)
bounds_of i Construct.Missing f = unused i _ (omega arith) refl refl refl
bounds_of i (Construct.Alternative size) f = unused i _ (omega (arith, f.1)) refl refl refl
bounds_of i (Construct.Concatenation size) f = unused i _ (omega (arith, f.1)) refl refl refl
bounds_of i (Construct.Repetition size passes) f = unused i _ (omega (arith, f.1)) refl refl refl
bounds_of i (Construct.Switch size) f = unused i _ (omega (arith, f.1)) refl refl refl
bounds_of i (Construct.Use rule) f = record { whole = omega (arith, f.0); length = omega arith; used = λ k. f.0; binder = omega arith; bound = λ k. f.0 }
bounds_of i (Construct.Literal length) f = record { whole = omega (arith, f.0); length = f.2; used = λ k. f.0; binder = omega arith; bound = λ k. f.0 }
bounds_of i (Construct.Range low high) f = unused i _ (omega (arith, f.0)) refl refl refl
bounds_of i (Construct.Uint signed width start end binder) f = record { whole = omega (arith, f.0); length = omega arith; used = λ k. f.0; binder = f.5; bound = λ k. f.0 }
bounds_of i Construct.Eod f = unused i _ (omega arith) refl refl refl

pub bounds : (ws : List ℕ) (i : ℕ) → Bounds i (attributes_of (construct_at ws i))
bounds ws i = bounds_of i (construct_at ws i) (fine ws i)

pub size_fits : (ws : List ℕ) (i : ℕ) → size_of (construct_at ws i) ≤ 256 - i
size_fits ws i = (bounds ws i).whole

pub size_small : (ws : List ℕ) (i : ℕ) → size_of (construct_at ws i) ≤ 256
size_small ws i = omega (arith, size_fits ws i)

-- past 256 there is none
pub missing_past : (ws : List ℕ) (i : ℕ) → 256 ≤ i → construct_at ws i ≡ Construct.Missing
unfolding construct_at
missing_past ws i h = rw (le-ltb i 256 h)
