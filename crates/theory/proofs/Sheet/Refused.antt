-- The sheet's refused grammars break what the theorems ask.
-- Assumes nothing.
use Prim.Native.Nat.{ℕ}
use native.Mathlib.Omega.{arith}
use mathlib.Core.Path.{◌≡◌, refl, subst, ap}
use mathlib.Core.List.Memᴰ
use mathlib.Core.List.{List, [], ◌∷◌, Memᴰ}
use lib.ListN.{length}
use Rattle.basis.specs.Bits.{Bits, bits_of, append_digits, frame_bits}
use Rattle.basis.specs.Lookahead.{number}
use Rattle.theory.specs.Grammar.{◌∈◌}
use Rattle.theory.specs.Lookahead.{First, Follow, Predicted, Conflict, EmptyBody}
use Rattle.theory.specs.Machine.{Tests}
use Rattle.theory.specs.Hypotheses.{Hypotheses}
use Rattle.theory.specs.Weight.{weigh, sum, Weighs}
use Rattle.theory.proofs.Sheet.Samples.{literal, grammar_from, ambiguous, empty_repeated, cyclic}
use Rattle.theory.proofs.Sheet.Sets.{of_two, Exactly, literal_first, predicted_full}
use Rattle.theory.proofs.Sheet.Follows.{end_follows_body}

-- K5: "10 …, window 321"; no other string is common to the branches
abbrev pub common : Bits
common = bits_of 8 0x41

pub common_number : number common ≡ 321
unfolding bits_of append_digits
common_number = refl

predicted_common : (b byte : ℕ) → ambiguous.node b ≡ literal (0x41 ∷ byte ∷ []) → b ∈ (1 ∷ 2 ∷ []) → Exactly (Predicted ambiguous b) (common ∷ [])
unfolding ambiguous grammar_from frame_bits bits_of
predicted_common b byte e m =
    predicted_full ambiguous b (common ∷ []) (literal_first ambiguous b (0x41 ∷ byte ∷ []) e) (λ x h. ap length (Memᴰ.eq_of_singleton h)) []
    (Follow.of_branch {i = 0} refl m (end_follows_body ambiguous refl))

predicted_branch : (b : ℕ) → b ∈ (1 ∷ 2 ∷ []) → Exactly (Predicted ambiguous b) (common ∷ [])
unfolding ambiguous grammar_from
predicted_branch b m =
    of_two (λ j. j ∈ (1 ∷ 2 ∷ []) → Exactly (Predicted ambiguous j) (common ∷ [])) 1 2 (predicted_common 1 0x42 refl) (predicted_common 2 0x43 refl) b m m

pub ambiguous_conflict : Exactly (Conflict ambiguous 0) (common ∷ [])
unfolding ambiguous grammar_from
ambiguous_conflict x = (there, back)
  where
    there : Conflict ambiguous 0 x → Memᴰ x (common ∷ [])
    there (Conflict.of_branches {a = a} {is = is} e ma mb d p q) =
        let z : is ≡ 1 ∷ 2 ∷ [] = cc in (predicted_branch a (subst (λ (js : List ℕ). a ∈ js) z ma) x).0 p
    there (Conflict.of_passes e c q) = let z : ◌≡◌ {A = ℕ} 0 1 = cc in absurd (omega arith)

    back : Memᴰ x (common ∷ []) → Conflict ambiguous 0 x
    back m =
        Conflict.of_branches refl (Memᴰ.head refl) (Memᴰ.tail (Memᴰ.head refl)) (λ e. omega arith)
        ((predicted_branch 1 (Memᴰ.head refl) x).1 m) ((predicted_branch 2 (Memᴰ.tail (Memᴰ.head refl)) x).1 m)

pub ambiguous_refused : (tests : Tests) → Hypotheses ambiguous tests → ⊥
ambiguous_refused tests h = h.no_conflict 0 common ((ambiguous_conflict common).1 (Memᴰ.head refl))

-- K8: "9", "repeated body has the empty first window"
pub empty_repeated_refused : (tests : Tests) → Hypotheses empty_repeated tests → ⊥
unfolding empty_repeated grammar_from
empty_repeated_refused tests h = h.no_empty_body 0 (EmptyBody.empty_body refl (First.of_repetition 0 (omega arith) First.no_passes))

-- K11: "7", "rule reaches itself": it has no weights
pub cyclic_refused : (weight : Unit {0} → ℕ → ℕ) → Weighs cyclic weight → ⊥
unfolding cyclic grammar_from weigh sum
cyclic_refused weight w = omega (arith, w tt 0, w tt 2, w tt 3)
