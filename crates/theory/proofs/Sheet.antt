-- The theory is not vacuous: the bench sheet's grammars meet its hypotheses, and the machine gives the sheet's answers.
-- Assumes nothing.
pub mod Samples
mod Numbers
mod Nodes
pub mod Sets
mod Follows
mod Letters
pub mod Ones
mod Refused
mod Scopes
use Prim.Native.Nat.{ℕ, ◌+◌, ◌*◌}
use native.Mathlib.Omega.{arith}
use mathlib.Core.Path.{◌≡◌, refl, sym, ◌∙◌, ap}
use mathlib.Core.Bool.{Bool}
use mathlib.Core.List.Memᴰ
use mathlib.Core.List.{List, [], ◌∷◌, map}
use lib.ListN.{length}
use lib.IntN.{ℤ, pos, ◌-ℤ◌}
use Rattle.basis.specs.Bits.{append_digits, value, frame_bits}
use Rattle.basis.specs.Counts.{exactly}
use Rattle.theory.specs.Weight.{weigh, sum, largest}
use Rattle.theory.proofs.Sheet.Samples.{Variables, any, only, range, variable, equals, first_true, bodies, Sample, grammar_of, scope_of, weight_in, counted, as_many, ones, one_less, tagged, letter_A, letter_B, lettered, Meets, Answer, answer, Line, line, answered, expected_of, Says, lines, result}
use Rattle.basis.specs.Bits.{same}
use Rattle.theory.specs.Machine.{state, Verdict, undecided, matched, unmatched, Run, run, verdict_of, opened, granted}
use Rattle.theory.specs.Derivation.{Capture}
use Rattle.theory.proofs.Theorems.{exact, bound}
use Rattle.theory.proofs.Weights.{outweighs}
use Rattle.theory.proofs.Sheet.Sets.{of_two}
use Rattle.theory.proofs.Sheet.Numbers.{Listed, ◌and◌}
use Rattle.theory.proofs.Sheet.Nodes.{top_right, field_right, binder_right, repeated_right, starred_right, switch_right, alternative_right, meets}

-- K1 to K4, K6, K7, K9, K10, and frames with letters: the machine's answers, by computation
pub sheet : map expected_of lines ≡ map result lines
unfolding lines result append_digits exactly
sheet = refl

-- where n reads only the variable that is bound before it
pub counted_meets : (member : ℕ → Bool) (n : Variables → ℤ) → ((v v' : Variables) → v 0 ≡ v' 0 → n v ≡ n v') → Meets (counted member n)
unfolding counted grammar_of scope_of weight_in weigh sum largest
counted_meets member n reads =
    let s : Sample = counted member n in
    meets s refl refl refl refl
    (top_right s (1 ∷ 2 ∷ []) refl refl (refl and refl and tt)
    and binder_right s 1 0 8 member (omega arith) refl Memᴰ.not-nil
    and repeated_right s n 2 3 7 any refl refl refl (λ v v' a. reads v v' (a 0 (Memᴰ.head refl)))
    and field_right s 3 8 (λ bits. any (value bits)) (omega arith) refl
    and tt)

pub as_many_meets : Meets as_many
unfolding as_many
as_many_meets = counted_meets (range 1 8) (variable 0) (λ v v' e. ap pos e)

pub one_less_meets : Meets one_less
unfolding one_less
one_less_meets = counted_meets any (λ v. variable 0 v -ℤ pos 1) (λ v v' e. ap (λ (k : ℕ). pos k -ℤ pos 1) e)

pub ones_meets : Meets ones
unfolding ones grammar_of scope_of weight_in weigh sum largest
ones_meets =
    meets ones refl refl refl refl
    (top_right ones (1 ∷ 3 ∷ []) refl refl (refl and refl and tt)
    and starred_right ones 1 2 Ones.star_law refl refl
    and field_right ones 2 4 (λ bits. only 1 (value bits)) (omega arith) refl
    and field_right ones 3 4 (λ bits. only 2 (value bits)) (omega arith) refl
    and tt)

pub tagged_meets : Meets tagged
unfolding tagged grammar_of scope_of weight_in weigh sum largest bodies first_true
tagged_meets =
    meets tagged refl refl refl refl
    (top_right tagged (1 ∷ 2 ∷ []) refl refl (refl and refl and tt)
    and binder_right tagged 1 0 8 any (omega arith) refl Memᴰ.not-nil
    and switch_right tagged 2 0 (equals 1 3 ∷ equals 2 4 ∷ []) refl (of_two (λ b. (scope_of tagged).sees b ≡ 0 ∷ []) 3 4 refl refl) (Memᴰ.head refl)
    and field_right tagged 3 8 (λ bits. same bits (frame_bits (0x41 ∷ []))) (omega arith) refl
    and field_right tagged 4 16 (λ bits. any (value bits)) (omega arith) refl
    and tt)

pub lettered_meets : Meets lettered
unfolding lettered grammar_of scope_of weight_in weigh sum largest
lettered_meets =
    meets lettered refl refl refl refl
    (top_right lettered (1 ∷ 2 ∷ 4 ∷ []) refl refl (refl and refl and refl and tt)
    and binder_right lettered 1 0 8 (range 1 8) (omega arith) refl Memᴰ.not-nil
    and repeated_right lettered (variable 0) 2 3 7 any refl refl refl (λ v v' a. ap pos (a 0 (Memᴰ.head refl)))
    and field_right lettered 3 8 (λ bits. any (value bits)) (omega arith) refl
    and starred_right lettered 4 5 Letters.star_law refl refl
    and alternative_right lettered 5 (6 ∷ 7 ∷ []) Letters.branches_law refl (of_two (λ b. (scope_of lettered).sees b ≡ 0 ∷ []) 6 7 refl refl)
    and field_right lettered 6 8 (λ bits. same bits letter_A) (omega arith) refl
    and field_right lettered 7 8 (λ bits. same bits letter_B) (omega arith) refl
    and tt)

-- The theorems hold of a line whose grammar meets the hypotheses: its verdict is the derivations'.
verdict_in : Answer → Verdict
verdict_in (answer d n v c) = d

same_verdict : (k : ℕ) (r : Run (Unit {0}) Variables) → verdict_in (answered k r) ≡ verdict_of r
unfolding verdict_in answered
same_verdict k (run (state es b p v cs) n d) = refl

module _ (s : Sample) (bytes : List ℕ) (m : Meets s) where
  abbrev enough : ℕ
  enough = s.weight * (length (frame_bits bytes) + 1)

  abbrev granted_all : Run (Unit {0}) Variables
  granted_all = granted (grammar_of s) s.tests enough (opened (grammar_of s) s.tests (frame_bits bytes))

  exactly_so : (d : Verdict) → verdict_of granted_all ≡ d → (n : ℕ) (v : List ℕ) (c : List Capture) → Says (line s bytes (answer d n v c))
  unfolding grammar_of weight_in
  exactly_so undecided e n v c =
      let x = bound (grammar_of s) s.tests (λ u. weight_in s) m.hypotheses (outweighs (grammar_of s) (λ u. weight_in s) m.weighs) (frame_bits bytes) in
      omega (arith, x.within_bound, (x.undecided_iff enough).0 e)
  exactly_so matched e n v c = ((exact (grammar_of s) s.tests (λ u. weight_in s) m.hypotheses (outweighs (grammar_of s) (λ u. weight_in s) m.weighs)).match_iff (frame_bits bytes) enough (omega arith)).0 e
  exactly_so unmatched e n v c = ((exact (grammar_of s) s.tests (λ u. weight_in s) m.hypotheses (outweighs (grammar_of s) (λ u. weight_in s) m.weighs)).mismatch_iff (frame_bits bytes) enough (omega arith)).0 e

abbrev sample_of : Line → Sample
sample_of (line s bytes a) = s

says : (l : Line) → Meets (sample_of l) → expected_of l ≡ result l → Says l
unfolding result verdict_in
says (line s bytes (answer d n v c)) m e = exactly_so s bytes m d (sym (ap verdict_in e ∙ same_verdict s.variables (granted_all s bytes m))) n v c

each_says : (ls : List Line) → Listed (λ i l. Meets (sample_of l)) ls → map expected_of ls ≡ map result ls → Listed (λ i l. Says l) ls
each_says [] m e = tt
each_says (l ∷ ls) m e = says l m.0 (cc) and each_says ls m.1 (cc)

pub sheet_says : Listed (λ i l. Says l) lines
unfolding lines
sheet_says =
    each_says lines
    (as_many_meets
    and as_many_meets
    and as_many_meets
    and as_many_meets
    and ones_meets
    and ones_meets
    and one_less_meets
    and one_less_meets
    and tagged_meets
    and tagged_meets
    and lettered_meets
    and lettered_meets
    and lettered_meets
    and tt)
    sheet
