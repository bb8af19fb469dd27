-- What words say of a construct's size, where its operands do not matter.
-- Assumes nothing.
use Prim.Native.Nat.{ℕ}
use mathlib.Core.Path.{◌≡◌, refl, sym, subst}
use mathlib.Core.Logic.{◌⊎◌, inl, inr}
use mathlib.Core.Bool.{Bool, true, false, cond, ◌&&◌}
use lib.Dec.{leb, ltb, eqb}
use borrow.Author.Tests.{eqb-true}
use Rattle.basis.specs.Limits.{max_rules, max_variables, max_literal_bytes}
use Rattle.basis.proofs.Booleans.{picked}
use Rattle.table_layout.specs.Constructs.{branches, listed, inner_of, widest_for, uint_of, leaf_of, without_parts, construct_of}
use Rattle.table_layout.specs.Held.{size_of}
use Rattle.table_layout.specs.declared.Construct.{Construct}

-- a sint's is a uint's
pub sint_size : (width start end binder : ℕ) → size_of (uint_of false width start end binder) ≡ size_of (uint_of true width start end binder)
sint_size width start end binder = alike ((leb 1 width && leb width (widest_for binder)) && (listed start end && leb binder max_variables))
  where
    alike : (b : Bool) → size_of (cond b (Construct.Uint false width start end binder) Construct.Missing) ≡ size_of (cond b (Construct.Uint true width start end binder) Construct.Missing)
    alike true = refl
    alike false = refl

-- all with parts but a repetition are what their words say
pub inner_size : (kind size a b c : ℕ) → eqb kind 3 ≡ false → size_of (inner_of kind size a b c) ≡ size
inner_size kind size a b c e =
    picked (λ (x : Construct). size_of x ≡ size) (eqb kind 1) (λ h. refl) (λ h.
    picked (λ (x : Construct). size_of x ≡ size) (eqb kind 2) (λ h. refl) (λ h. rw e))

-- kind 0 is none
pub none_size : (kind size a b c d : ℕ) → kind ≡ 0 → size_of (without_parts kind size a b c d) ≡ 0
none_size kind size a b c d e = rw e (picked (λ (x : Construct). size_of x ≡ 0) (eqb size 1) (λ h. refl) (λ h. refl))

inner_said : (kind size a b c : ℕ) → (size_of (inner_of kind size a b c) ≡ size) ⊎ (inner_of kind size a b c ≡ Construct.Missing)
inner_said kind size a b c =
    picked P (eqb kind 1) (λ e. inl refl) (λ e.
    picked P (eqb kind 2) (λ e. inl refl) (λ e.
    picked P (eqb kind 3)
    (λ e.
    picked P (eqb a 1) (λ e. inl refl) (λ e.
    picked P (eqb a 2) (λ e. inl refl) (λ e.
    picked P (eqb a 3) (λ e. inl refl) (λ e.
    picked P (eqb a 4 && listed b c) (λ e. inl refl) (λ e. inr refl)))))
    (λ e. inl refl)))
  where
    P : Construct → Type 0
    P x = (size_of x ≡ size) ⊎ (x ≡ Construct.Missing)

leaf_said : (kind a b c d : ℕ) → (size_of (leaf_of kind a b c d) ≡ 1) ⊎ (leaf_of kind a b c d ≡ Construct.Missing)
leaf_said kind a b c d =
    picked P (eqb kind 5) (λ e. picked P (ltb a max_rules) (λ e. inl refl) (λ e. inr refl)) (λ e.
    picked P (eqb kind 6) (λ e. picked P (leb 1 a && leb a max_literal_bytes) (λ e. inl refl) (λ e. inr refl)) (λ e.
    picked P (eqb kind 7) (λ e. picked P (ltb a 128 && ltb b 128) (λ e. inl refl) (λ e. inr refl)) (λ e.
    picked P (eqb kind 8) (λ e. picked P fits (λ e. inl refl) (λ e. inr refl)) (λ e.
    picked P (eqb kind 9) (λ e. inl refl) (λ e.
    picked P (eqb kind 12) (λ e. picked P fits (λ e. inl refl) (λ e. inr refl)) (λ e. inr refl))))))
  where
    P : Construct → Type 0
    P x = (size_of x ≡ 1) ⊎ (x ≡ Construct.Missing)

    fits : Bool
    fits = (leb 1 a && leb a (widest_for d)) && (listed b c && leb d max_variables)

-- a construct that is not missing is as large as its words say
pub size_said : (i kind size a b c d : ℕ) → (size_of (construct_of i kind size a b c d) ≡ size) ⊎ (construct_of i kind size a b c d ≡ Construct.Missing)
unfolding construct_of
size_said i kind size a b c d =
    picked P (leb 1 kind && leb kind 4)
    (λ e. picked P (branches i size) (λ e. inner_said kind size a b c) (λ e. inr refl))
    (λ e. picked P (eqb size 1) (λ t. subst (λ (n : ℕ). (size_of (leaf_of kind a b c d) ≡ n) ⊎ (leaf_of kind a b c d ≡ Construct.Missing)) (sym (eqb-true size 1 t)) (leaf_said kind a b c d)) (λ e. inr refl))
  where
    P : Construct → Type 0
    P x = (size_of x ≡ size) ⊎ (x ≡ Construct.Missing)
