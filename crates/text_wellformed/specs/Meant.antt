-- The construct that a node is in the table.
-- Assumes nothing.
use Rattle.std.specs.Prelude.{ℕ, ◌+◌, ◌<◌, ◌≡◌, cond, true, List, eqb, length, get_or}
use Rattle.basis.specs.Limits.{max_literal_bytes}
use Rattle.term_words.specs.declared.Kind.{Kind}
use Rattle.table_layout.specs.Constructs.{construct_at}
use Rattle.table_layout.specs.declared.Construct.{Construct}
use Rattle.table_layout.specs.declared.Passes.{Passes}
use Rattle.table_wellformed.specs.Checks.{from_to}
use Rattle.table_wellformed.specs.Lists.{list_formed, counts_formed, condition_formed}
use Rattle.table_wellformed.specs.Rules.{named_back}
use Rattle.table_wellformed.specs.Laid.{byte_laid, literal_length}
use Rattle.text_literals.specs.Literals.{characters_at}
use Rattle.text_store.specs.Words.{kind_of, node_size, place_of, node_mark, last_place, is_binder}
use Rattle.text_encoding.specs.Numbers.{rule_of, binders_before, width_of, is_signed, own_length, own_start}

-- `?`, `*`, `+`, or counts in braces: the terms from `start` up to `end`
abbrev pub passes_meant : ℕ → ℕ → ℕ → Passes
passes_meant how start end = cond (eqb how 1) Passes.Optional (cond (eqb how 2) Passes.Any (cond (eqb how 3) Passes.Some (Passes.Counted start end)))

-- by its kind, with names and lists as numbers
unfoldable pub meant : (xs ns rs : List ℕ) → (r i : ℕ) → Construct
meant xs ns rs r i =
    cond (eqb (kind_of ns i) 1) (Construct.Alternative (node_size ns i))
    (cond (eqb (kind_of ns i) 2) (Construct.Concatenation (node_size ns i))
    (cond (eqb (kind_of ns i) 3) (Construct.Repetition (node_size ns i) (passes_meant (node_mark ns i) (own_start ns i) (own_start ns i + own_length ns i)))
    (cond (eqb (kind_of ns i) 4) (Construct.Switch (node_size ns i))
    (cond (eqb (kind_of ns i) 5) (Construct.Use (rule_of xs rs r (place_of ns i)))
    (cond (eqb (kind_of ns i) 6) (Construct.Literal (length (characters_at xs (place_of ns i))))
    (cond (eqb (kind_of ns i) 7) (Construct.Range (get_or (characters_at xs (place_of ns i)) 0 0) (get_or (characters_at xs (last_place ns i)) 0 0))
    (cond (eqb (kind_of ns i) 8) (Construct.Uint (is_signed xs ns i) (width_of xs ns i) (own_start ns i) (own_start ns i + own_length ns i) (cond (is_binder ns i) (binders_before ns i + 1) 0))
    Construct.Eod)))))))

-- the words say so
abbrev pub Known : (xs ns rs : List ℕ) → (n r : ℕ) → List ℕ → Type 0
Known xs ns rs n r ws = (i : ℕ) → i < n → construct_at ws i ≡ meant xs ns rs r i

-- each list of terms is well formed for its kind
pub record Formed (ns : List ℕ) (n : ℕ) (ws : List ℕ) : Type 0 where
  pub set : (i : ℕ) → i < n → kind_of ns i ≡ 8 → list_formed Kind.Set ws (own_start ns i) (own_start ns i + own_length ns i) ≡ true
  pub counts : (i : ℕ) → i < n → kind_of ns i ≡ 3 → node_mark ns i ≡ 4 → counts_formed ws (own_start ns i) (own_start ns i + own_length ns i) ≡ true
  pub condition : (i : ℕ) → i < n → condition_formed ws i ≡ true

-- each binder's variable names it back
abbrev pub NamedBack : (ns : List ℕ) → (n : ℕ) → List ℕ → Type 0
NamedBack ns n ws = (i : ℕ) → i < n → is_binder ns i ≡ true → named_back ws i (binders_before ns i + 1) ≡ true

-- the bytes of literals are laid
abbrev pub BytesLaid : ℕ → List ℕ → Type 0
BytesLaid n ws = (i : ℕ) → i < n → from_to 0 max_literal_bytes (byte_laid ws i (literal_length (construct_at ws i))) ≡ true
