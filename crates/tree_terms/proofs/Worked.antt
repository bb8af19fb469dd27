-- The terms of a set or a condition of a tree for which 8 is not given, worked out at values within the variables' sizes, answer what the tree says.
-- Assumes nothing.
use Prim.Native.Nat.{ℕ}
use mathlib.Core.Path.{◌≡◌, refl, ap, ◌∙◌}
use mathlib.Core.List.{List}
use mathlib.Core.Option.{none}
use lib.IntN.{ℤ}
use lib.ListN.{length}
use Rattle.term_words.specs.declared.Kind.{Kind}
use Rattle.term_evaluation.specs.Meaning.{membership, condition}
use Rattle.term_sizes.specs.Sizes.{sizes}
use Rattle.term_sizes.specs.Inside.{Inside}
use Rattle.term_trees.specs.Postfix.{set_terms, condition_terms}
use Rattle.term_trees.proofs.Theorems as Worked
use Rattle.tree.specs.Tree.{ValueSet, Condition}
use Rattle.tree_meaning.specs.Values.{in_set, is_true}
use Rattle.tree_meaning.specs.Pieces.{set_parts, tests_parts, terms_of}
use Rattle.tree_meaning.specs.Grammar.{values_at}
use Rattle.tree_meaning.proofs.Passing.{CalculationsFit}
use Rattle.tree_terms.specs.Terms.{set_tree, tests_tree}
use Rattle.tree_terms.proofs.Meanings.{set_means, condition_means}
use Rattle.tree_terms.proofs.Fitting.{AsWide, set_fits, condition_fits}
use Rattle.tree_terms.proofs.Rooms.{Known, set_room, condition_room}
use Rattle.std.specs.Prelude.{Result, Ok, Err, ⊤}
use Rattle.term_sizes.specs.declared.SizeError.{SizeError}

-- neither of the two others
passes : (s : Result ⊤ SizeError) → (s ≡ Err SizeError.Malformed → ⊥) → ((at : ℕ) → s ≡ Err (SizeError.Exceeds at) → ⊥) → s ≡ Ok tt
passes (Ok u) m e = refl
passes (Err SizeError.Malformed) m e = absurd (m refl)
passes (Err (SizeError.Exceeds at)) m e = absurd (e at refl)

module _ (numbered widest : List ℕ → ℕ) (env w : List ℤ) (inside : Inside env w) where
  pub set_worked : {d : ℕ} (x : ValueSet d) → AsWide numbered widest w (terms_of (set_parts x)) → Known numbered (length w) (terms_of (set_parts x)) → CalculationsFit widest (set_parts x) → (n : ℤ) (i : ℕ)
      → membership env n i (set_terms (set_tree numbered none x)) ≡ Worked.answer (in_set (values_at numbered env) x n)
  set_worked x a k c n i =
      Worked.set_means env w inside (set_tree numbered none x) n i
      (passes (sizes Kind.Set w i (set_terms (set_tree numbered none x))) (Worked.set_formed w i (set_tree numbered none x) (set_room numbered (length w) x k)) (set_fits numbered widest w x a c i))
      ∙ ap Worked.answer (set_means numbered env x n)

  pub condition_worked : {d : ℕ} (x : Condition d) → AsWide numbered widest w (terms_of (tests_parts x)) → Known numbered (length w) (terms_of (tests_parts x)) → CalculationsFit widest (tests_parts x) → (i : ℕ)
      → condition env i (condition_terms (tests_tree numbered tt x)) ≡ Worked.answer (is_true (values_at numbered env) x)
  condition_worked x a k c i =
      Worked.condition_means env w inside (tests_tree numbered tt x) i
      (passes (sizes Kind.Condition w i (condition_terms (tests_tree numbered tt x))) (Worked.condition_formed w i (tests_tree numbered tt x) (condition_room numbered (length w) x k)) (condition_fits numbered widest w x a c i))
      ∙ ap Worked.answer (condition_means numbered env x)
