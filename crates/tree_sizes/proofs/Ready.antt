-- What is known of a rule's pieces while its calculations are looked at: 6 is not given, and the widths up to p are right.
-- Assumes nothing.
use Prim.Native.Nat.{ℕ, ◌≤◌, ◌<◌}
use mathlib.Core.Path.{◌≡◌, refl, sym, ap, subst, ◌∙◌}
use mathlib.Core.Logic.{⊎_elim}
use mathlib.Core.Bool.{Bool, true, false, ◌||◌}
use mathlib.Core.List.{List, [], ◌∷◌, ◌++◌}
use native.Mathlib.Omega.{arith}
use lib.IntN.{pos}
use lib.ListN.{get_or}
use Rattle.basis.specs.Limits.{max_bound_width}
use Rattle.basis.proofs.Booleans.{which}
use Rattle.text_header.proofs.Runs.{word_equal}
use Rattle.text_tokens.specs.Names.{is_same}
use Rattle.table_sizes.specs.Measures.{widest as table-widest}
use Rattle.tree.specs.Lexemes.{Name, Number}
use Rattle.tree.specs.Tree.{Mark, optional, any_number, one_or_more, counted}
use Rattle.tree_meaning.specs.Pieces.{terms_of, uses_in, Piece, use_of_rule, width, formula, binding, mark_pieces}
use Rattle.tree_meaning.specs.Names.{is_among}
use Rattle.tree_meaning.proofs.Passing.{UsesRight}
use Rattle.tree_store.proofs.Binding.{after_bound}
use Rattle.tree_sizes.proofs.NodeLists.{cut, Settled}

-- a variable of this width: its number and its size in the table, which is its own where the width is right
pub record Bound (ws : List ℕ) (numbered widest : List ℕ → ℕ) (x : Name) (n : Number) : Type 0 where
  pub few : numbered x.letters < 64
  pub sized : get_or (table-widest ws) (numbered x.letters) (pos 0) ≡ pos (cut ws numbered x.letters)
  pub own : n.value ≤ max_bound_width → cut ws numbered x.letters ≡ widest x.letters

module _ (p : ℕ) (ws : List ℕ) (numbered widest : List ℕ → ℕ) where
  -- of pieces after variables of these names
  unfoldable pub Ready : List Name → List Piece → Type 0
  Ready names [] = Unit {0}
  Ready names (use_of_rule x ∷ more) = Ready names more
  Ready names (width most n ∷ more) = (n.start ≤ p → (1 ≤ n.value) × (n.value ≤ most)) × Ready names more
  Ready names (formula f ∷ more) = UsesRight names (uses_in (terms_of f)) × Ready names more
  Ready names (binding x signed n placed ∷ more) = Bound ws numbered widest x n × Ready (x ∷ names) more

  -- of the first pieces
  pub ready_one : (names : List Name) (l m : List Piece) → Ready names (l ++ m) → Ready names l
  unfolding Ready
  ready_one names [] m h = tt
  ready_one names (use_of_rule x ∷ l) m h = ready_one names l m h
  ready_one names (width most n ∷ l) m h = (h.0, ready_one names l m h.1)
  ready_one names (formula f ∷ l) m h = (h.0, ready_one names l m h.1)
  ready_one names (binding x signed n placed ∷ l) m h = (h.0, ready_one (x ∷ names) l m h.1)

  -- of those after them
  pub ready_two : (names : List Name) (l m : List Piece) → Ready names (l ++ m) → Ready (after_bound l names) m
  unfolding Ready after_bound
  ready_two names [] m h = h
  ready_two names (use_of_rule x ∷ l) m h = ready_two names l m h
  ready_two names (width most n ∷ l) m h = ready_two names l m h.1
  ready_two names (formula f ∷ l) m h = ready_two names l m h.1
  ready_two names (binding x signed n placed ∷ l) m h = ready_two (x ∷ names) l m h.1

  -- of those after a mark
  pub ready_marked : (names : List Name) (m : Mark) (l : List Piece) → Ready names (mark_pieces m ++ l) → Ready names l
  unfolding Ready
  ready_marked names (optional s) l h = h
  ready_marked names (any_number s) l h = h
  ready_marked names (one_or_more s) l h = h
  ready_marked names (counted opens n closes) l h = h.1

  -- ---- names that are settled

  -- before any binder
  pub settled_none : (q : ℕ) → Settled p ws numbered widest q []
  unfolding is_among
  settled_none q y e = let z : ◌≡◌ {A = ℕ} 0 1 = cc in absurd (omega arith)

  -- from further on
  pub settled_on : (q m : ℕ) (names : List Name) → q ≤ m → Settled p ws numbered widest q names → Settled p ws numbered widest m names
  settled_on q m names l s y e = let h = s y e in (h.0, h.1, λ z. h.2 (omega arith))

  -- one more, whose width stands before q and is right if it stands up to p
  pub settled_more : (q : ℕ) (names : List Name) (x : Name) (n : Number) → Bound ws numbered widest x n → n.start ≤ q → (n.start ≤ p → (1 ≤ n.value) × (n.value ≤ max_bound_width)) → Settled p ws numbered widest q names → Settled p ws numbered widest q (x ∷ names)
  unfolding is_among
  settled_more q names x n b l right s y e =
      ⊎_elim
      (λ (c : is_same x.letters y.letters ≡ true).
      subst (λ (k : List ℕ). (numbered k < 64) × (get_or (table-widest ws) (numbered k) (pos 0) ≡ pos (cut ws numbered k)) × (q ≤ p → cut ws numbered k ≡ widest k)) (word_equal x.letters y.letters c) (b.few, b.sized, small))
      (λ (c : is_same x.letters y.letters ≡ false). s y (sym (ap (λ (o : Bool). o || is_among names y) c) ∙ e)) (which (is_same x.letters y.letters))
    where
      small : q ≤ p → cut ws numbered x.letters ≡ widest x.letters
      small z = b.own (right (omega (arith, l, z))).1

-- ---- names that pieces bind

-- by some pieces and then others
pub after_append : (l m : List Piece) (names : List Name) → after_bound (l ++ m) names ≡ after_bound m (after_bound l names)
unfolding after_bound
after_append [] m names = refl
after_append (use_of_rule x ∷ l) m names = after_append l m names
after_append (width most n ∷ l) m names = after_append l m names
after_append (formula f ∷ l) m names = after_append l m names
after_append (binding x signed n placed ∷ l) m names = after_append l m (x ∷ names)

-- a mark binds none
pub after_mark : (m : Mark) (l : List Piece) (names : List Name) → after_bound (mark_pieces m ++ l) names ≡ after_bound l names
unfolding after_bound
after_mark (optional s) l names = refl
after_mark (any_number s) l names = refl
after_mark (one_or_more s) l names = refl
after_mark (counted opens n closes) l names = refl
