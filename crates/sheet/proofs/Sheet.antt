-- The sheet: every row is so.
-- Assumes nothing.
use Prim.Native.Nat.{ℕ}
use mathlib.Core.Path.{refl, sym, subst}
use mathlib.Core.List.{List, [], ◌∷◌}
use native.Mathlib.Omega.{arith}
use Rattle.basis.specs.Bits.{bits_of, append_digits, frame_bits, same}
use Rattle.basis.specs.Counts.{exactly}
use Rattle.theory.specs.Derivation.{Capture}
use Rattle.theory.specs.Machine.{Tests, opened, granted}
use Rattle.theory.proofs.Sheet.Samples.{one_of}
use Rattle.run_refinement.specs.Runs.{words_of}
use Rattle.run_matcher.specs.Windows.{Tells}
use Rattle.tree_meaning.specs.Grammar.{tree_grammar}
use Rattle.tree_meaning.proofs.Sheet as trees
use Rattle.sheet.specs.Sheet.{Verdict, Says, Each, rows}
use Rattle.sheet.proofs.Computing.{grammar}
use Rattle.sheet.proofs.Nodes.{passing_G, passing_K9, passing_K10}
use Rattle.sheet.proofs.Choosing.{passing_K6, known, same_tests}
use Rattle.sheet.proofs.Refusing.{says_K5, says_K8, says_K11}
use Rattle.sheet.proofs.Running.{Makes, makes}
use Rattle.sheet.proofs.Meeting.{each_shown}

-- a field of construct i at bit p
abbrev at : ℕ → ℕ → Capture
at i p = record { construct = i; first_bit = p }

-- K6's runs go by the tests of `*`
by_tests : (fs : List ℕ) (d : Verdict) (n : ℕ) (values : List ℕ) (cs : List Capture) → ((tests : Tests) → Makes (tree_grammar trees.K6) (known tests) fs d n values cs)
    → (tests : Tests) → Tells (tree_grammar trees.K6) tests → Makes (tree_grammar trees.K6) tests fs d n values cs
by_tests fs d n values cs m tests h = subst (λ (t : Tests). Makes (tree_grammar trees.K6) t fs d n values cs) (sym (same_tests tests h)) (m tests)

pub sheet : Each Says rows
unfolding grammar trees.G trees.K6 trees.K9 trees.K10 opened granted frame_bits bits_of append_digits same one_of exactly words_of
sheet =
    each_shown rows (
      record { tree = trees.G; passing = passing_G; short = omega arith; captures = at 1 0 ∷ at 3 8 ∷ at 3 16 ∷ []; recorded = refl; makes = λ tests h. makes refl refl refl refl },
      (
        record { tree = trees.G; passing = passing_G; short = omega arith; captures = at 1 0 ∷ at 3 8 ∷ []; recorded = refl; makes = λ tests h. makes refl refl refl refl },
        (
          record { tree = trees.G; passing = passing_G; short = omega arith; captures = at 1 0 ∷ at 3 8 ∷ at 3 16 ∷ []; recorded = refl; makes = λ tests h. makes refl refl refl refl },
          (
            record { tree = trees.G; passing = passing_G; short = omega arith; captures = []; recorded = refl; makes = λ tests h. makes refl refl refl refl },
            (
              (24, 321, says_K5, refl, refl),
              (
                record { tree = trees.K6; passing = passing_K6; short = omega arith; captures = at 2 0 ∷ at 3 4 ∷ []; recorded = refl; makes = by_tests _ _ _ _ _ (λ tests. makes refl refl refl refl) },
                (
                  record { tree = trees.K6; passing = passing_K6; short = omega arith; captures = at 2 0 ∷ []; recorded = refl; makes = by_tests _ _ _ _ _ (λ tests. makes refl refl refl refl) },
                  (
                    (9, 30, says_K8, refl, refl),
                    (
                      record { tree = trees.K9; passing = passing_K9; short = omega arith; captures = at 1 0 ∷ []; recorded = refl; makes = λ tests h. makes refl refl refl refl },
                      (
                        record { tree = trees.K9; passing = passing_K9; short = omega arith; captures = at 1 0 ∷ []; recorded = refl; makes = λ tests h. makes refl refl refl refl },
                        (
                          record { tree = trees.K10; passing = passing_K10; short = omega arith; captures = at 1 0 ∷ at 3 8 ∷ []; recorded = refl; makes = λ tests h. makes refl refl refl refl },
                          (
                            record { tree = trees.K10; passing = passing_K10; short = omega arith; captures = at 1 0 ∷ []; recorded = refl; makes = λ tests h. makes refl refl refl refl },
                            (
                              (7, 16, says_K11, refl, refl),
                              tt,
                            ),
                          ),
                        ),
                      ),
                    ),
                  ),
                ),
              ),
            ),
          ),
        ),
      ),
    )
