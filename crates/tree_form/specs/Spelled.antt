-- Right exactly when spelled: what is said of the form of rules (refusal 4), of tokens and of trees alone.
-- Assumes nothing.
use Rattle.std.specs.Prelude.{ℕ, ◌≡◌, false, List, [], ◌∷◌}
use Rattle.text_parsing.specs.Terminals.{terminals_from}
use Rattle.text_store.specs.Store.{State}
use Rattle.text_parsing.specs.Symbols.{rules}
use Rattle.text_parsing.specs.Form.{Outcome, right, refused, run}
use Rattle.tree.specs.Lexemes.{Lexeme, lexemes}
use Rattle.tree.specs.Tree.{Rules}
use Rattle.tree.specs.Spelling.{spelled}
use Rattle.tree_form.specs.Form.{FirstFault}
use Rattle.tree_form.specs.Stored.{stored}

-- what the reader answers for the text after its header, from what is stored before: `form_of` of crate `text_syntax`
abbrev pub answer : List ℕ → State → Outcome
answer xs st = run (terminals_from xs 0) st (rules false ∷ [])

-- tokens spell a tree, and it is stored so
pub record SpellsStored (ls : List Lexeme) (st f : State) : Type 0 where
  pub tree : Rules
  pub end : ℕ
  pub spells : ls ≡ spelled tree end
  pub stores : f ≡ stored tree st

-- The rules part is of the right form exactly when its tokens spell a tree, whose depth is at most 16, and then exactly one tree; what the reader stores is that
-- tree's encoding. It is refused at p exactly when p is the place of the first fault.
pub record Formed (xs : List ℕ) (st : State) : Type 0 where
  pub spelled_right : (t : Rules) (end : ℕ) → lexemes xs ≡ spelled t end → answer xs st ≡ right (stored t st)
  pub right_spelled : (f : State) → answer xs st ≡ right f → SpellsStored (lexemes xs) st f
  pub one_tree : (t t' : Rules) (end end' : ℕ) → lexemes xs ≡ spelled t end → lexemes xs ≡ spelled t' end' → (t ≡ t') × (end ≡ end')
  pub refused_first : (p : ℕ) → answer xs st ≡ refused p → FirstFault (lexemes xs) p
  pub first_refused : (p : ℕ) → FirstFault (lexemes xs) p → answer xs st ≡ refused p
