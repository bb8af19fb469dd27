-- A variable's width and sign are those of its binder, so the values that a binder gives are within the variable's size.
-- Assumes nothing.
use Prim.Native.Nat.{ℕ, suc, ◌+◌, ◌*◌, ◌-◌, ◌^◌, ◌≤◌, ◌<◌}
use native.Mathlib.Nat.{pow-succ'}
use native.Mathlib.Omega.{arith}
use borrow.Author.Tests.{leb-true, ltb-true, ltb-false, eqb-true, ne_eqb}
use mathlib.Core.Logic.{inl, inr}
use mathlib.Core.Path.{◌≡◌, refl, sym, ◌∙◌, ap, subst}
use mathlib.Core.Bool.{Bool, true, false, cond, ◌&&◌}
use mathlib.Core.List.{List, [], ◌∷◌}
use lib.Dec.{leb, ltb, eqb}
use lib.IntN.{ℤ, nat_abs, sub_ℕ}
use lib.ListN.{length, take, length-take}
use lib.Pow.{pow_mono}
use Rattle.basis.specs.Limits.{max_constructs, max_variables}
use Rattle.basis.specs.Bits.{Bits}
use Rattle.basis.specs.Patterns.{pattern_value, greatest_size, place}
use Rattle.basis.proofs.Booleans.{which, both_first, both_second, either_way}
use Rattle.basis.proofs.PatternLaws.{difference_below, difference_not_below, place_less, value_place}
use Rattle.basis.proofs.Values.{value_less}
use Rattle.term_words.specs.declared.Kind.{Kind}
use Rattle.table_layout.specs.Places.{construct_word, variable_word, construct_count, variable_count}
use Rattle.table_layout.specs.Constructs.{branches, listed, repetition_of, inner_of, widest_for, uint_of, leaf_of, construct_of, construct_at}
use Rattle.table_layout.specs.Attributes.{attributes_of}
use Rattle.table_layout.specs.declared.Construct.{Construct}
use Rattle.table_layout.specs.declared.Passes.{Passes}
use Rattle.table_wellformed.specs.Lists.{list_formed}
use Rattle.table_wellformed.specs.Rules.{named_back, sign_word}
use Rattle.table_structure.proofs.Facts.{Laid}
use Rattle.table_structure.proofs.Binding.{bound_in, variable_of}

-- what binds has its width as its first operand
abbrev HasWidth : ℕ → Construct → Type 0
HasWidth a c = 0 < (attributes_of c).binder → a ≡ (attributes_of c).width

-- nothing binds
none : {A : Type 0} → 0 < 0 → A
none h = absurd (omega arith)

inner_width : (x kind size a b c : ℕ) → HasWidth x (inner_of kind size a b c)
inner_width x kind size a b c =
    either_way (HasWidth x) (eqb kind 1) none (either_way (HasWidth x) (eqb kind 2) none (either_way (HasWidth x) (eqb kind 3) repeated none))
  where
    counted : HasWidth x (cond (eqb a 4 && listed b c) (Construct.Repetition size (Passes.Counted b c)) Construct.Missing)
    counted = either_way (HasWidth x) (eqb a 4 && listed b c) none none

    repeated : HasWidth x (repetition_of size a b c)
    repeated = either_way (HasWidth x) (eqb a 1) none (either_way (HasWidth x) (eqb a 2) none (either_way (HasWidth x) (eqb a 3) none counted))

uint_width : (signed : Bool) (a b c d : ℕ) → HasWidth a (uint_of signed a b c d)
uint_width signed a b c d = either_way (HasWidth a) ((leb 1 a && leb a (widest_for d)) && (listed b c && leb d max_variables)) (λ h. refl) none

leaf_width : (kind a b c d : ℕ) → HasWidth a (leaf_of kind a b c d)
leaf_width kind a b c d =
    either_way (HasWidth a) (eqb kind 5) (either_way (HasWidth a) (ltb a 64) none none)
    (either_way (HasWidth a) (eqb kind 6) (either_way (HasWidth a) (leb 1 a && leb a 32) none none)
    (either_way (HasWidth a) (eqb kind 7) (either_way (HasWidth a) (ltb a 128 && ltb b 128) none none)
    (either_way (HasWidth a) (eqb kind 8) (uint_width false a b c d)
    (either_way (HasWidth a) (eqb kind 9) none
    (either_way (HasWidth a) (eqb kind 12) (uint_width true a b c d) none)))))

construct_width : (ws : List ℕ) (i : ℕ) → HasWidth (construct_word ws i 2) (construct_at ws i)
unfolding construct_at construct_of
construct_width ws i =
    let x : ℕ = construct_word ws i 2 in
    let kind : ℕ = construct_word ws i 0 in
    let size : ℕ = construct_word ws i 1 in
    either_way (HasWidth x) (ltb i max_constructs)
    (either_way (HasWidth x) (leb 1 kind && leb kind 4)
    (either_way (HasWidth x) (branches i size) (inner_width x kind size x (construct_word ws i 3) (construct_word ws i 4)) none)
    (either_way (HasWidth x) (eqb size 1) (leaf_width kind x (construct_word ws i 3) (construct_word ws i 4) (construct_word ws i 5)) none))
    none

-- a binder's variable, its width and its sign
pub record Binder (ws : List ℕ) (x : ℕ) (signed : Bool) (width : ℕ) : Type 0 where
  pub known : x < max_variables
  pub counted : suc x ≤ variable_count ws
  pub width_is : variable_word ws x 1 ≡ width
  pub sign_is : ltb 0 (variable_word ws x 2) ≡ signed

-- the word for a sign says it
said : (signed : Bool) → ltb 0 (cond signed 1 0) ≡ signed
said true = refl
said false = refl

pub binder_width : {ws : List ℕ} → Laid ws → (i : ℕ) (signed : Bool) (width start end x : ℕ) → i < construct_count ws → construct_at ws i ≡ Construct.Uint signed width start end (suc x) → Binder ws x signed width
binder_width {ws} l i signed width start end x h e =
    let N : Bool = named_back ws i (suc x) in
    let both_laid : (N && list_formed Kind.Set ws start end) ≡ true = rw e at (l.kind i h) in
    let named : (leb (suc x) (variable_count ws) && eqb (variable_word ws (suc x - 1) 0) i) ≡ true = rw (ne_eqb (suc x) 0 (λ z. omega arith)) at (both_first N (list_formed Kind.Set ws start end) both_laid) in
    let few : suc x ≤ variable_count ws = leb-true (suc x) (variable_count ws) (both_first (leb (suc x) (variable_count ws)) (eqb (variable_word ws (suc x - 1) 0) i) named) in
    let z : suc x - 1 ≡ x = omega arith in
    let place : variable_word ws x 0 ≡ i = sym (ap (λ (y : ℕ). variable_word ws y 0) z) ∙ eqb-true (variable_word ws (suc x - 1) 0) i (both_second (leb (suc x) (variable_count ws)) (eqb (variable_word ws (suc x - 1) 0) i) named) in
    let o = variable_of l x (omega arith) in
    let b = bound_in l o.rule x o.exists o.begins o.ends in
    let w : construct_word ws i 2 ≡ width = (rw e at (construct_width ws i)) (omega arith) in
    record {
      known = omega (arith, l.counts.variables);
      counted = few;
      width_is = b.width ∙ (ap (λ (y : ℕ). construct_word ws y 2) place ∙ w);
      sign_is = ap (ltb 0) (b.sign ∙ ap (λ (y : ℕ). sign_word (construct_at ws y)) place ∙ ap sign_word e) ∙ said signed;
    }

-- ---- a value is no larger than the size of its width

apart : (a m : ℕ) → a < m + m → nat_abs (sub_ℕ a m) ≤ m
apart a m h =
    elim (which (ltb a m)) [
      | inl t ↦ subst (λ (z : ℤ). nat_abs z ≤ m) (sym (difference_below a m (ltb-true a m t))) (let l = ltb-true a m t in omega arith)
      | inr t ↦ subst (λ (z : ℤ). nat_abs z ≤ m) (sym (difference_not_below a m (ltb-false a m t))) (omega arith)
    ]

value_within : (signed : Bool) (s : Bits) → nat_abs (pattern_value signed s) ≤ greatest_size signed (length s)
unfolding pattern_value
value_within false s = let l = value_less s in omega arith
value_within true [] = omega arith
value_within true (b ∷ s) =
    let l = place_less true (b ∷ s) in
    let d : 2 ^ suc (length s) ≡ 2 * 2 ^ length s = pow-succ' 2 (length s) in
    let w : suc (length s) - 1 ≡ length s = omega arith in
    subst (λ (k : ℕ). nat_abs (pattern_value true (b ∷ s)) ≤ 2 ^ k) (sym w) (subst (λ (z : ℤ). nat_abs z ≤ 2 ^ length s) (sym (value_place true (b ∷ s))) (apart (place true (b ∷ s)) (2 ^ length s) (omega (arith, l, d))))

wider : (signed : Bool) (a b : ℕ) → a ≤ b → greatest_size signed a ≤ greatest_size signed b
wider false a b h = let z : 2 ^ a ≤ 2 ^ b = pow_mono h in omega arith
wider true a b h = pow_mono (let z : a - 1 ≤ b - 1 = omega arith in z)

-- of bits that are read, at most so many
pub read_within : (signed : Bool) (w : ℕ) (s : Bits) → nat_abs (pattern_value signed (take w s)) ≤ greatest_size signed w
read_within signed w s =
    let l : length (take w s) ≤ w = simp length-take (omega arith) in
    let a = value_within signed (take w s) in
    let b = wider signed (length (take w s)) w l in
    omega arith
