-- FIRST and FOLLOW of the grammar with letters, and its conflicts: there are none.
-- Assumes nothing.
use Prim.Native.Nat.{ℕ, zero, suc, ◌≤◌}
use native.Mathlib.Omega.{arith}
use mathlib.Core.Path.{◌≡◌, refl, sym, ◌∙◌, ap}
use mathlib.Core.Logic.{◌↔◌, inl, inr}
use mathlib.Core.Bool.{true}
use mathlib.Core.List.Memᴰ
use mathlib.Core.List.{List, [], ◌∷◌, Memᴰ}
use mathlib.Core.Option.{none, some}
use lib.ListN.{length}
use Rattle.basis.specs.Bits.{Bits, bits_of, frame_bits}
use Rattle.basis.specs.Lookahead.{join}
use Rattle.basis.proofs.Joins.{join_empty_right}
use Rattle.theory.specs.Grammar.{alternative, ◌∈◌}
use Rattle.theory.specs.Derivation.{passes}
use Rattle.theory.specs.Lookahead.{First, Follow, Predicted, Continues}
use Rattle.theory.proofs.Sheet.Samples.{SheetGrammar, literal, starred, grammar_of, letter_A, letter_B, lettered_tests, lettered}
use Rattle.theory.proofs.Inversion.{First-of, first_by}
use Rattle.theory.proofs.NodeLaws.{Law}
use Rattle.theory.proofs.Sheet.Numbers.{◌and◌}
use Rattle.theory.proofs.Sheet.Nodes.{starred_law}
use Rattle.theory.proofs.Sheet.Follows.{at_end, Claims, claimed, Claimed, follow_claimed, end_follows_body, last_claimed}
use Rattle.theory.proofs.Sheet.Sets.{of_two, pair_of_two, Exactly, only_one, decides, apart, apart_true, literal_first, branches_first, passes_first, predicted_full, continues_full}

abbrev g : SheetGrammar
g = grammar_of lettered

abbrev pub letters : List Bits
letters = letter_A ∷ letter_B ∷ []

-- FIRST of the branches, and of what `*` repeats
one_letter : (i byte : ℕ) → g.node i ≡ literal (byte ∷ []) → Exactly (First-of g i) (frame_bits (byte ∷ []) ∷ [])
unfolding frame_bits bits_of
one_letter i byte e = literal_first g i (byte ∷ []) e

pub first_letter : Exactly (First-of g 5) letters
unfolding grammar_of lettered
first_letter = branches_first g 5 6 7 (letter_A ∷ []) (letter_B ∷ []) refl (one_letter 6 0x41 refl) (one_letter 7 0x42 refl)

letters_full : (x : Bits) → Memᴰ x letters → length x ≡ 8
unfolding frame_bits bits_of
letters_full x m = elim (Memᴰ.cases_cons m) [ inl e ↦ ap length e | inr k ↦ ap length (Memᴰ.eq_of_singleton k) ]

-- FOLLOW: the frame's end after the whole and after `*`; the end or a letter after a letter
abbrev after_letter : List Bits
after_letter = [] ∷ letters

abbrev claims : Claims
claims = some at_end ∷ none ∷ none ∷ none ∷ some at_end ∷ some after_letter ∷ some after_letter ∷ some after_letter ∷ []

passes_within : (k : ℕ) (x : Bits) → First g (passes 5 k) x → Memᴰ x after_letter
passes_within zero x f = Memᴰ.head (first_by g f)
passes_within (suc k) x f = Memᴰ.tail ((passes_first g 5 letters first_letter letters_full k x).0 f)

after_short : (x : Bits) → Memᴰ x after_letter → length x ≤ 8
after_short x m =
    elim (Memᴰ.cases_cons m) [ inl e ↦ omega (arith, ap length e) | inr k ↦ omega (arith, letters_full x k) ]

before_end : (x y : Bits) → Memᴰ x after_letter → Memᴰ y at_end → Memᴰ (join x y) after_letter
before_end x y m n = Memᴰ.cast (ap (join x) (Memᴰ.eq_of_singleton n) ∙ join_empty_right x (after_short x m)) m

follow_within : (i : ℕ) (x : Bits) → Follow g i x → Claimed claims i x
unfolding grammar_of lettered claimed
follow_within =
    follow_claimed lettered claims refl
    (((λ x y f h. tt) and (λ x y f h. tt) and last_claimed lettered and tt)
    and tt
    and (λ k x y f h. tt)
    and tt
    and (λ k x y f h. before_end x y (passes_within k x f) h)
    and of_two (λ j. (x : Bits) → Memᴰ x after_letter → Claimed claims j x) 6 7 (λ x h. h) (λ x h. h)
    and tt
    and tt
    and tt)

-- the other way
end_follows_star : Follow g 4 []
unfolding grammar_of lettered
end_follows_star = Follow.of_member {i = 0} (1 ∷ 2 ∷ []) [] refl First.no_members (end_follows_body g refl) refl

letter_followed : (x : Bits) → Memᴰ x after_letter → Follow g 5 x
unfolding grammar_of lettered
letter_followed x m =
    elim (Memᴰ.cases_cons m) [
      | inl e ↦ Follow.of_body {i = 4} 0 refl First.no_passes end_follows_star e
      | inr k ↦
          Follow.of_body {i = 4} 1 refl ((passes_first g 5 letters first_letter letters_full 0 x).1 k) end_follows_star (sym (join_empty_right x (after_short x m)))
    ]

branch_followed : (b : ℕ) → b ∈ (6 ∷ 7 ∷ []) → (x : Bits) → Memᴰ x after_letter → Follow g b x
unfolding grammar_of lettered
branch_followed b m x h = Follow.of_branch {i = 5} refl m (letter_followed x h)

-- FOLLOW of `*`, of what it repeats and of the branches
pub follow_star : Exactly (Follow g 4) at_end
unfolding claimed
follow_star x = (follow_within 4 x, only_one (Follow g 4) end_follows_star x)

pub follow_letter : Exactly (Follow g 5) after_letter
unfolding claimed
follow_letter x = (follow_within 5 x, letter_followed x)

pub follow_branch : (b : ℕ) → b ∈ (6 ∷ 7 ∷ []) → Exactly (Follow g b) after_letter
unfolding claimed
follow_branch b m x =
    (of_two (λ j. Follow g j x → Memᴰ x after_letter) 6 7 (follow_within 6 x) (follow_within 7 x) b m, branch_followed b m x)

-- What the machine looks up.
predicted_letter : (i byte : ℕ) → g.node i ≡ literal (byte ∷ []) → i ∈ (6 ∷ 7 ∷ []) → Exactly (Predicted g i) (frame_bits (byte ∷ []) ∷ [])
unfolding frame_bits bits_of
predicted_letter i byte e m =
    predicted_full g i (frame_bits (byte ∷ []) ∷ []) (one_letter i byte e) (λ x h. ap length (Memᴰ.eq_of_singleton h)) [] (branch_followed i m [] (Memᴰ.head refl))

predicted_A : Exactly (Predicted g 6) (letter_A ∷ [])
unfolding grammar_of lettered
predicted_A = predicted_letter 6 0x41 refl (Memᴰ.head refl)

predicted_B : Exactly (Predicted g 7) (letter_B ∷ [])
unfolding grammar_of lettered
predicted_B = predicted_letter 7 0x42 refl (Memᴰ.tail (Memᴰ.head refl))

continues_letters : Exactly (Continues g 4 5) letters
continues_letters = continues_full g 5 letters first_letter letters_full 4 [] end_follows_star

pub star_law : Law g lettered_tests 4 (starred 5)
unfolding lettered_tests apart frame_bits bits_of
star_law = starred_law g lettered_tests 4 5 letters letters at_end first_letter continues_letters follow_star refl refl refl refl

letters_differ : (x : Bits) → Memᴰ x (letter_A ∷ []) → Memᴰ x (letter_B ∷ []) → ⊥
unfolding apart frame_bits bits_of
letters_differ = apart_true (letter_A ∷ []) (letter_B ∷ []) refl

pub branches_law : Law g lettered_tests 5 (alternative (6 ∷ 7 ∷ []))
unfolding lettered_tests
branches_law =
    record {
      predicts_exact =
          λ b m x h. of_two (λ j. (lettered_tests.predicts j x ≡ true) ↔ Predicted g j x) 6 7 (decides (letter_A ∷ []) predicted_A x) (decides (letter_B ∷ []) predicted_B x) b m;
      no_conflict =
          λ a b m n d x.
          pair_of_two (λ i j. Predicted g i x → Predicted g j x → ⊥) 6 7 (λ p q. letters_differ x ((predicted_A x).0 p) ((predicted_B x).0 q))
          (λ q p. letters_differ x ((predicted_A x).0 p) ((predicted_B x).0 q)) a b m n d;
    }
