-- The lists of terms in the words that are encoded from a right text are those of the text.
-- Assumes nothing.
use Prim.Native.Nat.{ℕ, ◌+◌, ◌-◌, ◌≤◌, ◌<◌}
use mathlib.Core.Path.{◌≡◌, refl}
use mathlib.Core.List.{List, map}
use mathlib.Core.Option.{some}
use native.Mathlib.Omega.{arith}
use lib.ListN.{length}
use Rattle.basis.specs.Limits.{max_variables}
use Rattle.term_words.specs.Words.{terms}
use Rattle.table_layout.specs.Held.{term_words}
use Rattle.term_words.proofs.KnownTerms.{AllKnown}
use Rattle.text_shapes.specs.TermShapes.{read_terms, rename_term, SetShape, ConditionShape, CountsShape}
use Rattle.text_shapes.specs.NodeShapes.{Conditioned}
use Rattle.text_shapes.specs.Stored.{Stored}
use Rattle.text_shapes.specs.Placed.{Placed}
use Rattle.text_store.specs.Words.{kind_of, node_mark, own_from, own_end, condition_from, condition_end}
use Rattle.text_encoding.specs.Numbers.{first_at, variable_of, condition_length, own_length, condition_start, own_start}
use Rattle.text_encoding.specs.Encoded.{encoded}
use Rattle.text_wellformed.specs.Context.{Readable, TreeAt}
use Rattle.text_wellformed.proofs.LaidOut.{words_by_place, few_binders, few_terms, term_placed}
use Rattle.text_wellformed.proofs.NodeFacts.{nodes}
use Rattle.text_wellformed.proofs.TermsKnown.{known_set, known_condition, known_repeats}
use Rattle.text_wellformed.proofs.TermsListed.{terms_named}
use Rattle.text_wellformed.proofs.ListsFormed.{field_list, counts_list, own_listed, condition_listed}
use Rattle.text_meaning.specs.Meaning.{own_list, condition_list}

-- ---- a list of its own: a uint's, or that of counts

pub record OwnShape (ns ts : List ℕ) (t i : ℕ) : Type 0 where
  pub some : own_from ns i < own_end ns i
  pub within : own_end ns i ≤ t
  pub known : AllKnown (read_terms ts (own_from ns i) (own_end ns i - own_from ns i))

module _ {xs ns ts rs : List ℕ} {n t b r : ℕ} (text : Readable xs ns ts rs n t b r) (i : ℕ) (h : i < n) where
  tree_at : TreeAt xs ns ts n t i
  tree_at = (nodes text).trees i h

  pub set_shape : kind_of ns i ≡ 8 → SetShape ts (own_from ns i) (own_end ns i)
  set_shape k = (field_list tree_at.holds k).0

  pub counts_shape : kind_of ns i ≡ 3 → node_mark ns i ≡ 4 → CountsShape ts (own_from ns i) (own_end ns i)
  counts_shape k w = (counts_list tree_at.holds k w).0

  pub own_of_set : kind_of ns i ≡ 8 → OwnShape ns ts t i
  own_of_set k =
      let x : SetShape ts (own_from ns i) (own_end ns i) = set_shape k in
      record { some = x.some; within = omega (arith, (field_list tree_at.holds k).1, tree_at.terms_within); known = rw x.is (known_set x.tree) }

  pub own_of_counts : kind_of ns i ≡ 3 → node_mark ns i ≡ 4 → OwnShape ns ts t i
  own_of_counts k w =
      let x : CountsShape ts (own_from ns i) (own_end ns i) = counts_shape k w in
      record { some = x.some; within = omega (arith, (counts_list tree_at.holds k w).1, tree_at.terms_within); known = rw x.is (known_repeats x.tree) }

-- ---- in the words

module _ {xs ns ts rs : List ℕ} {n t b r : ℕ} (text : Readable xs ns ts rs n t b r) (stored : Stored xs ns ts) (places : Placed (length xs) ns ts rs) where
  abbrev ws : List ℕ
  ws = encoded xs ns ts rs n r

  module _ (i : ℕ) (h : i < n) where
    -- under any numbers that are the variables' own below 64
    module _ (g : ℕ → ℕ) (same : (p : ℕ) → variable_of xs ns (first_at rs r i) i p < max_variables → variable_of xs ns (first_at rs r i) i p ≡ g p) where
      pub own_under : OwnShape ns ts t i → terms (term_words ws) (own_start ns i) (own_start ns i + own_length ns i) ≡ map (rename_term g) (read_terms ts (own_from ns i) (own_length ns i))
      own_under o = terms_named (own_listed (words_by_place text stored places) (nodes text) text (few_binders text stored places) (few_terms text stored places) (term_placed text stored places) i h o.within) g same o.known

      pub condition_under : {f e : ℕ} → Conditioned ns ts i f e → e ≤ t → terms (term_words ws) (condition_start ns i) (condition_start ns i + condition_length ns i) ≡ map (rename_term g) (read_terms ts (condition_from ns i) (condition_length ns i))
      condition_under c l =
          let x : ConditionShape ts (condition_from ns i) (condition_end ns i) = rw (c.from_is, c.end_is) c.shape in
          terms_named (condition_listed (words_by_place text stored places) (nodes text) text (few_binders text stored places) (few_terms text stored places) (term_placed text stored places) i h (omega (arith, c.end_is))) g same (rw x.is (known_condition x.tree))

    -- under those of the text
    pub own_held : OwnShape ns ts t i → terms (term_words ws) (own_start ns i) (own_start ns i + own_length ns i) ≡ own_list xs ns ts rs r i
    own_held = own_under (variable_of xs ns (first_at rs r i) i) (λ p l. refl)

    pub condition_held : {f e : ℕ} → Conditioned ns ts i f e → e ≤ t → terms (term_words ws) (condition_start ns i) (condition_start ns i + condition_length ns i) ≡ condition_list xs ns ts rs r i
    condition_held c l = condition_under (variable_of xs ns (first_at rs r i) i) (λ p l. refl) c l
