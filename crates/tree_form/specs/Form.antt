-- Refusal 4: "rules not of the form above", at the "first token that cannot stand there (text's end if none)". The end counts as a token.
-- Assumes nothing.
use Rattle.std.specs.Prelude.{ℕ, ◌≡◌, List, [], ◌∷◌, ◌++◌}
use Rattle.tree.specs.Lexemes.{Lexeme, place_of}
use Rattle.tree.specs.Tree.{Rules}
use Rattle.tree.specs.Spelling.{spelled}

-- some tree's spelling begins with these tokens
pub record Begins (ls : List Lexeme) : Type 0 where
  pub tree : Rules
  pub end : ℕ
  pub rest : List Lexeme
  pub begins : spelled tree end ≡ ls ++ rest

-- the tokens before it begin a spelling, and with it none begins
pub record FirstFault (ls : List Lexeme) (p : ℕ) : Type 0 where
  pub before : List Lexeme
  pub there : Lexeme
  pub rest : List Lexeme
  pub are : ls ≡ before ++ there ∷ rest
  pub place : place_of there ≡ p
  pub begun : Begins before
  pub unfit : Begins (before ++ there ∷ []) → ⊥
