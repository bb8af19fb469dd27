-- A text whose tree is known: a row that does not hold of the tree does not fit the text.
-- Assumes nothing.
use Prim.Native.Nat.{ℕ, ◌≤◌}
use mathlib.Core.Path.{◌≡◌, subst}
use mathlib.Core.List.{List}
use mathlib.Core.Option.{none}
use native.Mathlib.Omega.{arith}
use lib.ListN.{length, drop}
use Rattle.basis.specs.Limits.{max_text_bytes, table_words, max_weight}
use Rattle.basis.specs.Bits.{Bits}
use Rattle.theory.specs.Lookahead.{Conflict, EmptyBody}
use Rattle.theory.specs.Weight.{Weighs}
use Rattle.text_store.specs.Store.{blank}
use Rattle.text_syntax.specs.Rules.{form_of}
use Rattle.text_admission.specs.Admitted.{Right, Headed}
use Rattle.tree.specs.Tree.{Rules}
use Rattle.tree_form.specs.Stored.{stored}
use Rattle.tree_form.proofs.Formed.{formed}
use Rattle.tree_meaning.specs.Counted.{refusal_5}
use Rattle.tree_meaning.specs.Names.{refusal_6}
use Rattle.tree_meaning.specs.Reaching.{Acyclic, UnreachedAt}
use Rattle.tree_meaning.specs.Sizes.{refusal_8}
use Rattle.tree_meaning.specs.Grammar.{Context, first_context, opening, tree_grammar}
use Rattle.tree_meaning.specs.Rows.{PastLimit, WrongName, Recursive, TooLarge, EmptyBodies, Clashes, TooHeavy, IsEmpty, Unreached, NoValues}
use Rattle.admission.specs.Texts.{TreeOf, AtPlace}
use Rattle.admission.specs.Refusals.{past_limit, wrong_name, recursive, too_large, empty_body, clashing, too_heavy, unreached, no_value, NoneBelow}
use Rattle.admission.proofs.Rows.{one_tree, below_next}
use Rattle.admission.proofs.Stages.{none_not_some, below_5}

-- a text of a right size with the tree `x`, and a table that is long enough
module _ {text : List ℕ} (table : List ℕ) (fits : table_words ≤ length table) (some : 1 ≤ length text) (short : length text ≤ max_text_bytes) (x : TreeOf text) where
  headed : Headed text table x.base
  headed = record { table_fits = fits; some = some; short = short; header = x.header }

  read : Right (drop x.base text) (stored x.tree blank)
  unfolding form_of
  read = record { formed = (formed (drop x.base text) blank).spelled_right x.tree x.end x.spells }

  -- a row that holds of this tree at no place fits the text at none
  nowhere_fits : (P : Rules → ℕ → Type 0) → ((p : ℕ) → P x.tree p → ⊥) → (q : ℕ) → AtPlace text P q → ⊥
  nowhere_fits P not q (y, p, e, z) = not p (subst (λ (t : Rules). P t p) (one_tree y x).1 e)

  module _ (five : refusal_5 x.tree ≡ none) (six : refusal_6 x.tree ≡ none) where
    tree_below_6 : NoneBelow text table 6
    tree_below_6 =
        below_next text table past_limit (below_5 text table x.base headed (stored x.tree blank) read) (nowhere_fits PastLimit (λ p e. none_not_some (refusal_5 x.tree) p five e))

    -- 5 and 6 not given
    pub tree_below_7 : NoneBelow text table 7
    tree_below_7 = below_next text table wrong_name tree_below_6 (nowhere_fits WrongName (λ p e. none_not_some (refusal_6 x.tree) p six e))

    -- nor 7 and 8
    pub tree_below_9 : Acyclic x.tree → refusal_8 x.tree ≡ none → NoneBelow text table 9
    tree_below_9 seven eight =
        below_next text table too_large (below_next text table recursive tree_below_7 (nowhere_fits Recursive (λ p e. seven p e.recursive)))
        (nowhere_fits TooLarge (λ p e. none_not_some (refusal_8 x.tree) p eight e))

  -- nor 9
  pub tree_below_10 : NoneBelow text table 9 → ((i : ℕ) → EmptyBody (tree_grammar x.tree) i → ⊥) → NoneBelow text table 10
  tree_below_10 before filled = below_next text table empty_body before (nowhere_fits EmptyBodies (λ p e. filled e.0 e.1))

  -- nor 10
  pub tree_below_11 : NoneBelow text table 10 → ((i : ℕ) (s : Bits) → Conflict (tree_grammar x.tree) i s → ⊥) → NoneBelow text table 11
  tree_below_11 before quiet = below_next text table clashing before (nowhere_fits Clashes (λ p e. quiet e.0 e.1.0 e.1.1))

  -- nor 11
  pub tree_below_12 : NoneBelow text table 11 → ((w : Context → ℕ → ℕ) → Weighs (tree_grammar x.tree) w → w first_context opening ≤ max_weight) → NoneBelow text table 12
  tree_below_12 before light = below_next text table too_heavy before (nowhere_fits TooHeavy (λ p e. omega (arith, light e.0 e.1, e.2)))

  -- nor 12
  pub tree_below_13 : NoneBelow text table 12 → ((p : ℕ) → UnreachedAt x.tree p → ⊥) → NoneBelow text table 13
  tree_below_13 before reached = below_next text table unreached before (nowhere_fits Unreached (λ p e. reached p e.unreached))

  -- nor 13
  pub tree_below_14 : NoneBelow text table 13 → ((i : ℕ) → IsEmpty x.tree i → ⊥) → NoneBelow text table 14
  tree_below_14 before valued = below_next text table no_value before (nowhere_fits NoValues (λ p e. valued e.0 e.1))
