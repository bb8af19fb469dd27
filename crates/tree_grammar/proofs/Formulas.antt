-- The sets and conditions of a rule, in node i: the lists of terms that are stored are those of the tree, and answer what the tree says.
-- Assumes nothing.
use Prim.Native.Nat.{ℕ, ◌+◌, ◌≤◌, ◌<◌}
use mathlib.Core.Path.{◌≡◌, ap, ◌∙◌}
use mathlib.Core.Bool.{true, false, cond}
use mathlib.Core.List.{List, [], ◌∷◌}
use mathlib.Core.Option.{none}
use native.Mathlib.Omega.{arith}
use lib.IntN.{ℤ, pos}
use lib.ListN.{length, get_or}
use Rattle.text_tokens.specs.Numbers.{capped}
use Rattle.text_names.specs.Names.{bound_between, binds}
use Rattle.text_encoding.specs.Numbers.{rule_of, first_at, variable_of, binders_before}
use Rattle.text_store.specs.Words.{own_from, own_end, condition_from, condition_end, first_node}
use Rattle.term_words.specs.declared.Term.{Term as WordTerm}
use Rattle.term_evaluation.specs.Meaning.{condition}
use Rattle.term_sizes.specs.Inside.{Inside}
use Rattle.table_layout.specs.Held.{is_yes}
use Rattle.term_trees.specs.Postfix.{set_terms, repeat_terms}
use Rattle.text_meaning.specs.Meaning.{own_list, in_set as in_list, in_static_set, is_true as list-true}
use Rattle.tree.specs.Lexemes.{Name}
use Rattle.tree.specs.Tree.{ValueSet, Condition, Counts}
use Rattle.tree_meaning.specs.Pieces.{Term, a_number, a_use, a_sign, Component, set_parts, counts_parts, tests_parts, terms_of, uses_in, formula}
use Rattle.tree_meaning.specs.Names.{is_among}
use Rattle.tree_meaning.specs.Values.{in_set, is_true}
use Rattle.tree_meaning.specs.Grammar.{Values, values_at, mentions_variable}
use Rattle.tree_meaning.proofs.Passing.{NumbersFit, CalculationsFit, numbers_fit, UsesRight}
use Rattle.tree_terms.specs.Terms.{set_tree, counts_tree}
use Rattle.tree_store.proofs.Rows.{TermRow, set_rows, counts_rows, tests_rows}
use Rattle.tree_store.proofs.Uses.{Here, UsesAre, no_more, used, other}
use Rattle.tree_store.proofs.Binding.{Before}
use Rattle.tree_grammar.proofs.Terms.{Resolved, set_listed, counts_listed, condition_listed}
use Rattle.tree_grammar.proofs.Lists.{RowsAt, number_here, own_is, condition_is}
use Rattle.tree_grammar.proofs.Widths.{all_wide, all_known, set_answers, set_static, condition_answers}

-- names that stand in the text
unfoldable pub AllHere : List ℕ → List Name → Type 0
AllHere xs [] = Unit {0}
AllHere xs (x ∷ more) = Here xs x × AllHere xs more

pub uses_here : {xs : List ℕ} {A : List TermRow} {us : List Name} → UsesAre xs A us → AllHere xs us
unfolding AllHere
uses_here no_more = tt
uses_here (used t p h a) = (h, uses_here a)
uses_here (other t a) = uses_here a

-- sizes of the variables at which these values are
pub record Measured (numbered widest : List ℕ → ℕ) (whole : List Name) (v : Values) : Type 0 where
  pub sizes : List ℤ
  pub inside : Inside v sizes
  pub wide : (y : Name) → is_among whole y ≡ true → get_or sizes (numbered y.letters) (pos 0) ≡ pos (widest y.letters)
  pub known : (y : Name) → is_among whole y ≡ true → numbered y.letters < length sizes

-- a formula where 6 and 8 are not given, after variables of these names
pub record FormulaRight (widest : List ℕ → ℕ) (whole names : List Name) (f : List Component) : Type 0 where
  pub small : CalculationsFit widest f
  pub bound : UsesRight names (uses_in (terms_of f))
  pub owned : UsesRight whole (uses_in (terms_of f))

-- what is known of a rule: its nodes go from a up to `end`, its variables are `whole`
pub record InRule (P : Values → Type 0) (xs ns rs : List ℕ) (r : ℕ) (body numbered widest : List ℕ → ℕ) (rules whole : List Name) (a end : ℕ) : Type 0 where
  pub bodies : (y : Name) → Here xs y → is_among rules y ≡ true → first_node rs (rule_of xs rs r y.start) ≡ body y.letters
  pub variables : (i : ℕ) (y : Name) → Here xs y → a ≤ i → i < end → bound_between xs ns a i y.start ≡ true → variable_of xs ns (first_at rs r i) i y.start ≡ numbered y.letters
  pub binders : (i : ℕ) (x : Name) → Here xs x → a ≤ i → i < end → bound_between xs ns a i x.start ≡ false → binds xs ns x.start i ≡ true → binders_before ns i ≡ numbered x.letters
  pub measured : (v : Values) → P v → Measured numbered widest whole v

module _ {P : Values → Type 0} {xs ns rs : List ℕ} {r : ℕ} {body numbered widest : List ℕ → ℕ} {rules whole : List Name} {a end : ℕ} (rule : InRule P xs ns rs r body numbered widest rules whole a end) (ts : List ℕ) where
  module _ (i : ℕ) (names : List Name) (b : Before xs ns a i names) (below : i < end) where
    resolved : (l : List Term) → NumbersFit l → UsesRight names (uses_in l) → AllHere xs (uses_in l) → Resolved (number_here xs ns ts rs r i numbered) numbered l
    unfolding Resolved NumbersFit UsesRight AllHere uses_in
    resolved [] n u h = tt
    resolved (a_number k ∷ l) n u h = (let z : capped k.value ≡ k.value = omega (arith, n.0) in z, resolved l n.1 u h)
    resolved (a_use y ∷ l) n u h = (rule.variables i y h.0 b.begins below (b.before y h.0 ∙ u.0), resolved l n u.1 h.1)
    resolved (a_sign s ∷ l) n u h = resolved l n u h

    -- ---- a set

    module _ {d : ℕ} (x : ValueSet d) (t : ℕ) (from : own_from ns i ≡ t) (upto : own_end ns i ≡ t + length (set_rows x [])) (rows : RowsAt ts t (set_rows x [])) (right : FormulaRight widest whole names (set_parts x)) (uses : UsesAre xs (set_rows x []) (uses_in (terms_of (set_parts x)))) where
      set_list : own_list xs ns ts rs r i ≡ set_terms (set_tree numbered none x)
      set_list =
          own_is xs ns ts rs r i numbered t (set_rows x []) from upto rows
          ∙ set_listed (number_here xs ns ts rs r i numbered) numbered x (resolved (terms_of (set_parts x)) (numbers_fit widest (set_parts x) right.small) right.bound (uses_here uses))

      pub set_same : (v : Values) → P v → (k : ℤ) → in_list (own_list xs ns ts rs r i) v k ≡ in_set (values_at numbered v) x k
      set_same v p k =
          let m = rule.measured v p
          in ap (λ (l : List WordTerm). in_list l v k) set_list
          ∙ set_answers numbered widest x v m.sizes m.inside (all_wide numbered widest m.sizes whole m.wide m.known (terms_of (set_parts x)) right.owned) (all_known numbered widest m.sizes whole m.wide m.known (terms_of (set_parts x)) right.owned) right.small k

      pub set_first : (k : ℤ) → in_static_set (own_list xs ns ts rs r i) k ≡ cond (mentions_variable (set_parts x)) true (in_set (values_at numbered []) x k)
      set_first k = ap (λ (l : List WordTerm). in_static_set l k) set_list ∙ set_static numbered widest x right.small k

    -- ---- counts

    pub counts_list : (x : Counts) (t : ℕ) → own_from ns i ≡ t → own_end ns i ≡ t + length (counts_rows x) → RowsAt ts t (counts_rows x) → FormulaRight widest whole names (counts_parts x) → UsesAre xs (counts_rows x) (uses_in (terms_of (counts_parts x)))
        → own_list xs ns ts rs r i ≡ repeat_terms (counts_tree numbered x)
    counts_list x t from upto rows right uses =
        own_is xs ns ts rs r i numbered t (counts_rows x) from upto rows
        ∙ counts_listed (number_here xs ns ts rs r i numbered) numbered x (resolved (terms_of (counts_parts x)) (numbers_fit widest (counts_parts x) right.small) right.bound (uses_here uses))

    -- ---- a condition

    pub condition_same : {d : ℕ} (x : Condition d) (t : ℕ) → condition_from ns i ≡ t → condition_end ns i ≡ t + length (tests_rows x []) → RowsAt ts t (tests_rows x []) → FormulaRight widest whole names (tests_parts x)
        → UsesAre xs (tests_rows x []) (uses_in (terms_of (tests_parts x))) → (v : Values) → P v → list-true xs ns ts rs r v i ≡ is_true (values_at numbered v) x
    condition_same x t from upto rows right uses v p =
        let m = rule.measured v p
        in ap (λ (l : List WordTerm). is_yes (condition v 0 l)) (condition_is xs ns ts rs r i numbered t (tests_rows x []) from upto rows ∙ condition_listed (number_here xs ns ts rs r i numbered) numbered x (resolved (terms_of (tests_parts x)) (numbers_fit widest (tests_parts x) right.small) right.bound (uses_here uses)))
        ∙ condition_answers numbered widest x v m.sizes m.inside (all_wide numbered widest m.sizes whole m.wide m.known (terms_of (tests_parts x)) right.owned) (all_known numbered widest m.sizes whole m.wide m.known (terms_of (tests_parts x)) right.owned) right.small
