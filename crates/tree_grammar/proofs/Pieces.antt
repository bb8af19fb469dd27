-- What 6 and 8 leave of a rule's pieces, put together.
-- Assumes nothing.
use Prim.Native.Nat.{ℕ}
use mathlib.Core.Path.{◌≡◌, sym, ap, ◌∙◌}
use mathlib.Core.Logic.{⊎_elim}
use mathlib.Core.Bool.{Bool, true, false, ◌||◌}
use mathlib.Core.List.{List, [], ◌∷◌}
use native.Mathlib.Omega.{arith}
use Rattle.basis.proofs.Booleans.{which, either_second}
use Rattle.text_tokens.specs.Names.{is_same}
use Rattle.tree.specs.Lexemes.{Name}
use Rattle.tree_meaning.specs.Pieces.{terms_of, uses_in, Piece, use_of_rule, width, formula, binding, bound_in}
use Rattle.tree_meaning.specs.Names.{is_among}
use Rattle.tree_meaning.specs.Grammar.{Values}
use Rattle.tree_meaning.proofs.Every.{AllPieces}
use Rattle.tree_meaning.proofs.Passing.{PiecesFit, UsesRight, NamesRight}
use Rattle.tree_meaning.proofs.Keeping.{BindingKeeps}
use Rattle.tree_grammar.proofs.Walk.{Right}

uses_more : (names whole us : List Name) → ((y : Name) → is_among names y ≡ true → is_among whole y ≡ true) → UsesRight names us → UsesRight whole us
unfolding UsesRight
uses_more names whole [] f h = tt
uses_more names whole (y ∷ us) f h = (f y h.0, uses_more names whole us f h.1)

module _ (P : Values → Type 0) (numbered widest : List ℕ → ℕ) (rules variables whole : List Name) where
  -- the names before are the rule's, and so are those that these pieces bind
  right_from : (names : List Name) (ps : List Piece) → ((y : Name) → is_among names y ≡ true → is_among whole y ≡ true) → ((y : Name) → is_among (bound_in ps) y ≡ true → is_among whole y ≡ true)
      → NamesRight rules variables names ps → PiecesFit widest ps → AllPieces (BindingKeeps P numbered) ps → Right P numbered widest rules whole names ps
  unfolding Right NamesRight PiecesFit AllPieces bound_in is_among
  right_from names [] f g h k l = tt
  right_from names (use_of_rule x ∷ ps) f g h k l = (h.0, right_from names ps f g h.2 k l.1)
  right_from names (width most n ∷ ps) f g h k l = (k.1, right_from names ps f g h k.2 l.1)
  right_from names (formula c ∷ ps) f g h k l = (record { small = k.0; bound = h.0; owned = uses_more names whole (uses_in (terms_of c)) f h.0 }, right_from names ps f g h.1 k.1 l.1)
  right_from names (binding x signed n placed ∷ ps) f g h k l = (
    h.0,
    l.0,
    right_from (x ∷ names) ps
        (λ y e. ⊎_elim (λ (c : is_same x.letters y.letters ≡ true). g y (ap (λ (b : Bool). b || is_among (bound_in ps) y) c)) (λ (c : is_same x.letters y.letters ≡ false). f y (sym (ap (λ (b : Bool). b || is_among names y) c) ∙ e)) (which (is_same x.letters y.letters)))
        (λ y e. g y (either_second (is_same x.letters y.letters) (is_among (bound_in ps) y) e)) h.2 k l.1,
  )

  pub pieces_right : (ps : List Piece) → bound_in ps ≡ whole → NamesRight rules variables [] ps → PiecesFit widest ps → AllPieces (BindingKeeps P numbered) ps → Right P numbered widest rules whole [] ps
  unfolding is_among
  pieces_right ps e h k l =
      right_from [] ps (λ y z. let u : ◌≡◌ {A = ℕ} 0 1 = cc in absurd (omega arith)) (λ y z. sym (ap (λ (n : List Name). is_among n y) e) ∙ z) h k l
