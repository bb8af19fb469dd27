-- Every place that is stored lies in the text.
-- Assumes nothing.
use Rattle.std.specs.Prelude.{ℕ, ◌≤◌, ◌<◌, List}
use Rattle.basis.specs.Limits.{max_constructs, max_terms}
use Rattle.text_store.specs.Words.{place_of, second_place, stored_term_at, term_origin, named_at, rules_kept}

-- `most` is the text's length
pub record Placed (most : ℕ) (ns ts rs : List ℕ) : Type 0 where
  -- a node's place; the name that it binds, or its repetition mark
  pub nodes : (j : ℕ) → j < max_constructs → (place_of ns j ≤ most) × (second_place ns j ≤ most)
  -- a term's place, and the first byte of its calculation
  pub terms : (t : ℕ) → t < max_terms → (stored_term_at ts t ≤ most) × (term_origin ts t ≤ most)
  -- a rule's name
  pub rules : (k : ℕ) → k < rules_kept → named_at rs k ≤ most
