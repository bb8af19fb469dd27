-- A list that the size rule does not refuse where it stands in a table fits: what is claimed of trees applies to an admitted grammar.
-- Assumes nothing.
use Prim.Native.Nat.{ℕ, ◌<◌}
use mathlib.Core.Path.{◌≡◌, refl, ap, ◌∙◌}
use mathlib.Core.List.{List}
use native.Mathlib.Omega.{arith}
use lib.IntN.{pos}
use lib.ListN.{length}
use Rattle.basis.specs.Limits.{max_variables}
use Rattle.term_words.specs.Words.{terms}
use Rattle.term_words.specs.declared.Kind.{Kind}
use Rattle.term_words.specs.declared.Mode.{Mode}
use Rattle.term_words.specs.declared.Numbers.{Numbers}
use Rattle.term_words.specs.declared.Term.{Term}
use Rattle.term_evaluation.specs.Meaning.{run, number_of, verdict_of}
use Rattle.term_evaluation.specs.Counts.{tallied}
use Rattle.term_sizes.specs.Sizes.{of_calculated, of_tested, of_counted, judged, sizes, count_sizes}
use Rattle.term_sizes.specs.Inside.{Inside}
use Rattle.table_layout.specs.Held.{Values}
use Rattle.text_meaning.specs.Meaning.{counted}
use Rattle.text_meaning.specs.Claims.{ListFits, CountsFit}
use Rattle.text_meaning.proofs.TermLists.{same_run, counts_as}
use Rattle.text_meaning.proofs.TreeLists.{overflow_of}
use Rattle.std.specs.Prelude.{Result, Ok, Err, Bool, ℤ, true, false}
use Rattle.term_words.specs.declared.TermError.{TermError}
use Rattle.term_evaluation.specs.declared.Allowed.{Allowed}
use Rattle.term_sizes.specs.declared.SizeError.{SizeError}

-- ---- a size that passes 2^62 does so whatever the number of the first term is

calculated_any : (c : Result ℤ TermError) (a b at : ℕ) → of_calculated c a ≡ Err (SizeError.Exceeds at) → of_calculated c b ≡ Err (SizeError.Exceeds b)
calculated_any (Ok z) a b at e = let w : ◌≡◌ {A = ℕ} 0 1 = cc in absurd (omega arith)
calculated_any (Err TermError.Malformed) a b at e = let w : ◌≡◌ {A = ℕ} 0 1 = cc in absurd (omega arith)
calculated_any (Err TermError.Overflow) a b at e = refl

tested_any : (c : Result Bool TermError) (a b at : ℕ) → of_tested c a ≡ Err (SizeError.Exceeds at) → of_tested c b ≡ Err (SizeError.Exceeds b)
tested_any (Ok false) a b at e = let w : ◌≡◌ {A = ℕ} 0 1 = cc in absurd (omega arith)
tested_any (Ok true) a b at e = let w : ◌≡◌ {A = ℕ} 0 1 = cc in absurd (omega arith)
tested_any (Err TermError.Malformed) a b at e = let w : ◌≡◌ {A = ℕ} 0 1 = cc in absurd (omega arith)
tested_any (Err TermError.Overflow) a b at e = refl

judged_any : (kind : Kind) (r : Result (Numbers × ℕ) TermError) (a b at : ℕ) → judged kind r a ≡ Err (SizeError.Exceeds at) → judged kind r b ≡ Err (SizeError.Exceeds b)
judged_any Kind.Calculation r a b at e = calculated_any (number_of r) a b at e
judged_any Kind.Set r a b at e = tested_any (verdict_of r) a b at e
judged_any Kind.Condition r a b at e = tested_any (verdict_of r) a b at e

module _ (v widest : Values) (many : length widest ≡ max_variables) (inside : Inside v widest) where
  pub list_fits : (kind : Kind) (list : List Term) (i : ℕ) → ((at : ℕ) → sizes kind widest i list ≡ Err (SizeError.Exceeds at) → ⊥) → ListFits kind list v
  unfolding sizes
  list_fits kind list i small =
      let x = run kind Mode.Sizes widest (pos 0) i list Numbers.Zero 1 in
      let y = run kind Mode.Sizes widest (pos 0) 0 list Numbers.Zero 1 in
      record {
        widest = widest;
        many = many;
        inside = inside;
        small = λ at e. small x.at (judged_any kind x.trial y.at x.at at (ap (λ (r : Result (Numbers × ℕ) TermError). judged kind r y.at) (same_run kind Mode.Sizes widest (pos 0) i 0 list) ∙ e));
      }

  pub counts_fit : (ws : List ℕ) (s e : ℕ) → s < e → (list : List Term) → terms ws s e ≡ list → ((at : ℕ) → count_sizes widest ws s e ≡ Err (SizeError.Exceeds at) → ⊥) → CountsFit list v
  unfolding count_sizes
  counts_fit ws s e some_terms list there small =
      record {
        widest = widest;
        many = many;
        inside = inside;
        small = λ at z.
            small (tallied Mode.Sizes widest ws s e).at
            (ap (λ (c : Result Allowed TermError). of_counted c (tallied Mode.Sizes widest ws s e).at)
            (counts_as ws s e some_terms Mode.Sizes widest list there ∙ overflow_of (counted Mode.Sizes widest list).counted (counted Mode.Sizes widest list).at at z));
      }
