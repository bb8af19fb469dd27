-- A construct of the table is a use exactly where its node is one.
-- Assumes nothing.
use Prim.Native.Nat.{ℕ, ◌<◌}
use mathlib.Core.Path.{◌≡◌, refl, subst}
use mathlib.Core.Bool.{true, ◌&&◌}
use mathlib.Core.List.{List}
use borrow.Author.Tests.{lt-ltb, eqb-true}
use lib.Dec.{leb, ltb, eqb}
use Rattle.basis.proofs.Booleans.{picked}
use Rattle.table_layout.specs.Places.{construct_word}
use Rattle.table_layout.specs.Constructs.{branches, listed, widest_for, construct_of, construct_at}
use Rattle.table_layout.specs.declared.Construct.{Construct}

-- of a use: its kind is 5, and its first operand the rule
abbrev pub UseOf : ℕ → ℕ → Construct → Type 0
UseOf kind a (Construct.Use q) = (kind ≡ 5) × (a ≡ q)
UseOf kind a (Construct.Alternative size) = Unit {0}
UseOf kind a (Construct.Concatenation size) = Unit {0}
UseOf kind a (Construct.Repetition size passes) = Unit {0}
UseOf kind a (Construct.Switch size) = Unit {0}
UseOf kind a (Construct.Literal length) = Unit {0}
UseOf kind a (Construct.Range low high) = Unit {0}
UseOf kind a (Construct.Uint g w s e b) = Unit {0}
UseOf kind a Construct.Eod = Unit {0}
UseOf kind a Construct.Missing = Unit {0}

pub use_of : (i kind size a b c d : ℕ) → UseOf kind a (construct_of i kind size a b c d)
unfolding construct_of
use_of i kind size a b c d =
    picked P (leb 1 kind && leb kind 4)
    (λ z. picked P (branches i size)
    (λ z. picked P (eqb kind 1) (λ z. tt)
    (λ z. picked P (eqb kind 2) (λ z. tt)
    (λ z. picked P (eqb kind 3)
    (λ z. picked P (eqb a 1) (λ z. tt) (λ z. picked P (eqb a 2) (λ z. tt) (λ z. picked P (eqb a 3) (λ z. tt) (λ z. picked P (eqb a 4 && listed b c) (λ z. tt) (λ z. tt)))))
    (λ z. tt)))) (λ z. tt))
    (λ z. picked P (eqb size 1)
    (λ z. picked P (eqb kind 5) (λ (e : eqb kind 5 ≡ true). picked P (ltb a 64) (λ z. (eqb-true kind 5 e, refl)) (λ z. tt))
    (λ z. picked P (eqb kind 6) (λ z. picked P (leb 1 a && leb a 32) (λ z. tt) (λ z. tt))
    (λ z. picked P (eqb kind 7) (λ z. picked P (ltb a 128 && ltb b 128) (λ z. tt) (λ z. tt))
    (λ z. picked P (eqb kind 8) (λ z. picked P ((leb 1 a && leb a (widest_for d)) && (listed b c && leb d 64)) (λ z. tt) (λ z. tt))
    (λ z. picked P (eqb kind 9) (λ z. tt)
    (λ z. picked P (eqb kind 12) (λ z. picked P ((leb 1 a && leb a (widest_for d)) && (listed b c && leb d 64)) (λ z. tt) (λ z. tt)) (λ z. tt))))))) (λ z. tt))
  where
    P : Construct → Type 0
    P x = UseOf kind a x

-- ---- in a table

pub use_back : (ws : List ℕ) (i q : ℕ) → construct_at ws i ≡ Construct.Use q → (construct_word ws i 0 ≡ 5) × (construct_word ws i 2 ≡ q)
unfolding construct_at
use_back ws i q e = subst (UseOf (construct_word ws i 0) (construct_word ws i 2)) e said
  where
    said : UseOf (construct_word ws i 0) (construct_word ws i 2) (construct_at ws i)
    said =
        picked (UseOf (construct_word ws i 0) (construct_word ws i 2)) (ltb i 256)
        (λ z. use_of i (construct_word ws i 0) (construct_word ws i 1) (construct_word ws i 2) (construct_word ws i 3) (construct_word ws i 4) (construct_word ws i 5))
        (λ z. tt)

use_here : (i q b c d : ℕ) → q < 64 → construct_of i 5 1 q b c d ≡ Construct.Use q
unfolding construct_of
use_here i q b c d h = let e : ltb q 64 ≡ true = lt-ltb q 64 h in rw e

pub use_forth : (ws : List ℕ) (i q : ℕ) → i < 256 → construct_word ws i 0 ≡ 5 → construct_word ws i 1 ≡ 1 → construct_word ws i 2 ≡ q → q < 64 → construct_at ws i ≡ Construct.Use q
unfolding construct_at
use_forth ws i q h e f g k = let z : ltb i 256 ≡ true = lt-ltb i 256 h in rw (z, e, f, g) (use_here i q (construct_word ws i 3) (construct_word ws i 4) (construct_word ws i 5) k)
