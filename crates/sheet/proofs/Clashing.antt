-- K8's empty body and K5's clash.
-- Assumes nothing.
use Prim.Native.Nat.{ℕ, ◌≤◌}
use mathlib.Core.Path.{◌≡◌, refl, sym, ap, subst}
use mathlib.Core.Logic.{◌⊎◌, inl, inr}
use mathlib.Core.List.Memᴰ
use mathlib.Core.List.{List, [], ◌∷◌}
use native.Mathlib.Omega.{arith}
use lib.ListN.{length}
use Rattle.basis.specs.Bits.{Bits, bits_of, append_digits, frame_bits}
use Rattle.basis.specs.Counts.{zero_or_one}
use Rattle.basis.specs.Lookahead.{number}
use Rattle.theory.specs.Grammar.{Grammar, ◌∈◌}
use Rattle.theory.specs.Lookahead.{First, Follow, Predicted, Conflict, EmptyBody}
use Rattle.theory.proofs.Sheet.Sets.{of_two, Exactly, literal_first, predicted_full}
use Rattle.tree_meaning.specs.Grammar.{Context, Values, literal_node, construct_numbered, opening, tree_grammar}
use Rattle.tree_meaning.specs.Rows.{EmptyBodies, Clashes}
use Rattle.tree_meaning.proofs.Computing.{placed, marked}
use Rattle.tree_meaning.proofs.Sheet as trees
use Rattle.sheet.proofs.Computing.{grammar}
use Rattle.sheet.proofs.Grammars.{each_node, branches_in, NotEmpty, not_empty, filled_as, field_first}

-- ---- K8: `frame = ("A"?)*;`

abbrev g₈ : Grammar Context Values
g₈ = tree_grammar trees.K8

empty_K8 : EmptyBody g₈ 0
unfolding grammar trees.K8
empty_K8 = EmptyBody.empty_body refl (First.of_repetition {static = zero_or_one} 0 (omega arith, omega arith) First.no_passes)

-- no other body is
marks_K8 : (i : ℕ) → EmptyBody g₈ i → 14 ≤ (construct_numbered trees.K8 i).mark
unfolding grammar marked trees.K8
marks_K8 i e =
    elim (each_node trees.K8 3 refl (λ k n. NotEmpty g₈ n ⊎ (k ≡ 0)) (inl tt) (λ k h z. inl tt) (((tt, inr refl), inl (field_first g₈ 2 7)), inl tt) i) [
      | inl q ↦ absurd (not_empty g₈ i q e)
      | inr z ↦ subst (λ (k : ℕ). 14 ≤ (construct_numbered trees.K8 k).mark) (sym z) (omega arith)
    ]

-- 9, at its mark
pub empty_bodies_K8 : EmptyBodies trees.K8 14
unfolding marked trees.K8
empty_bodies_K8 = (0, empty_K8, refl, marks_K8)

-- ---- K5: `frame = "AB" | "Ac";`

abbrev g₅ : Grammar Context Values
g₅ = tree_grammar trees.K5

abbrev pub letter_A : Bits
letter_A = frame_bits (0x41 ∷ [])

-- a branch of two letters, the first an A: its windows are the A
predicted_A : (i byte : ℕ) → g₅.node i ≡ literal_node (0x41 ∷ byte ∷ []) → i ∈ (1 ∷ 2 ∷ []) → Exactly (Predicted g₅ i) (letter_A ∷ [])
unfolding grammar trees.K5 frame_bits bits_of
predicted_A i byte e m =
    predicted_full g₅ i (letter_A ∷ []) (literal_first g₅ i (0x41 ∷ byte ∷ []) e) (λ x h. ap length (Memᴰ.eq_of_singleton h)) []
    (Follow.of_branch {i = 0} refl m (Follow.of_rule {i = opening} refl (Follow.of_start refl)))

predicted_branch : (i : ℕ) → i ∈ (1 ∷ 2 ∷ []) → Exactly (Predicted g₅ i) (letter_A ∷ [])
unfolding grammar trees.K5
predicted_branch i m = of_two (λ j. j ∈ (1 ∷ 2 ∷ []) → Exactly (Predicted g₅ j) (letter_A ∷ [])) 1 2 (predicted_A 1 0x42 refl) (predicted_A 2 0x43 refl) i m m

-- both branches have it
pub conflict_A : Conflict g₅ 0 letter_A
unfolding grammar trees.K5
conflict_A =
    let first : 1 ∈ (1 ∷ 2 ∷ []) = Memᴰ.head refl in
    let second : 2 ∈ (1 ∷ 2 ∷ []) = Memᴰ.tail (Memᴰ.head refl) in
    Conflict.of_branches {a = 1} {b = 2} refl first second (λ e. omega arith) ((predicted_branch 1 first letter_A).1 (Memᴰ.head refl)) ((predicted_branch 2 second letter_A).1 (Memᴰ.head refl))

-- and no other
clash_A : (x : Bits) → Conflict g₅ 0 x → x ≡ letter_A
unfolding grammar trees.K5
clash_A x (Conflict.of_branches {a = a} e m n d p p') = Memᴰ.eq_of_singleton ((predicted_branch a (subst (λ (l : List ℕ). a ∈ l) (sym (ap branches_in e)) m) x).0 p)
clash_A x (Conflict.of_passes e c s) = let z : ◌≡◌ {A = ℕ} 0 1 = cc in absurd (omega arith)

-- the window of its first construct
pub window_K5 : (x : Bits) → Conflict g₅ 0 x → number x ≡ 321
unfolding frame_bits bits_of append_digits
window_K5 x c = ap number (clash_A x c)

-- 10, at the alternative
pub clashes_K5 : Clashes trees.K5 8
unfolding placed trees.K5
clashes_K5 = (0, (letter_A, conflict_A), (λ j b c. absurd (omega arith)), refl)

-- nothing is repeated
pub filled_K5 : (i : ℕ) → EmptyBody g₅ i → ⊥
unfolding grammar trees.K5
filled_K5 = filled_as trees.K5 3 refl (((tt, tt), tt), tt)
