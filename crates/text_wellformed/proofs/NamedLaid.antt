-- The names of a right text are laid: each binder is named back by its variable, and each use names one that its construct may use.
-- Assumes nothing.
use Prim.Native.Nat.{ℕ, ◌<◌, ◌≤◌}
use mathlib.Core.Path.{◌≡◌}
use mathlib.Core.Bool.{true, ◌&&◌}
use mathlib.Core.List.{List}
use native.Mathlib.Omega.{arith}
use Rattle.basis.specs.Limits.{max_variables, max_terms}
use Rattle.table_layout.specs.Places.{rule_count}
use Rattle.table_wellformed.specs.Rules.{binders_laid, uses_laid, names_laid}
use Rattle.text_names.specs.Counting.{nowhere}
use Rattle.text_store.specs.Words.{term_tag, stored_term_at, is_use}
use Rattle.text_encoding.specs.Numbers.{binders_before, condition_start}
use Rattle.text_wellformed.specs.Context.{Readable, Words, Nodes}
use Rattle.text_wellformed.specs.Meant.{Known, NamedBack}
use Rattle.text_wellformed.proofs.Tests.{from_to_all}
use Rattle.text_wellformed.proofs.RuleWords.{named_back_laid}
use Rattle.text_wellformed.proofs.UsesLaid.{uses_laid_in}
use Rattle.text_wellformed.proofs.BindersLaid.{binders_laid_in}

module _ {xs ns ts rs : List ℕ} {n t b r : ℕ} {ws : List ℕ} (W : Words xs ns ts rs n r ws) (K : Known xs ns rs n r ws) (N : Nodes xs ns ts n t) (R : Readable xs ns ts rs n t b r) (few_binders : binders_before ns n ≤ max_variables) where
  pub named_back_in : NamedBack ns n ws
  named_back_in = named_back_laid W R few_binders

  pub names_laid_in : condition_start ns n ≤ max_terms → ((k : ℕ) → k < t → is_use (term_tag ts k) ≡ true → stored_term_at ts k < nowhere) → names_laid ws ≡ true
  names_laid_in few_terms placed =
      from_to_all 0 (rule_count ws) (λ k. binders_laid ws k && uses_laid ws k)
      (λ k l m. let h : k < r = omega (arith, W.rules_are) in rw (binders_laid_in W K N R few_binders k h) (uses_laid_in W K N R few_binders few_terms placed k h))
