-- The syntax tree of a text: a right header, and rules whose tokens spell a tree.
-- Assumes nothing.
use Rattle.std.specs.Prelude.{ℕ, ◌+◌, ◌≡◌, List, drop}
use Rattle.text_header.specs.Header.{header_of}
use Rattle.text_header.specs.declared.Heading.{Heading}
use Rattle.tree.specs.Lexemes.{lexemes}
use Rattle.tree.specs.Tree.{Rules}
use Rattle.tree.specs.Spelling.{spelled}

-- `base`: where its rules begin. A text has at most one (`OneTree`).
pub record TreeOf (text : List ℕ) : Type 0 where
  pub base : ℕ
  pub tree : Rules
  pub end : ℕ
  pub header : header_of text ≡ Heading.Rules base
  pub spells : lexemes (drop base text) ≡ spelled tree end

-- it has one base and one tree
abbrev pub OneTree : Type 0
OneTree = (text : List ℕ) (x y : TreeOf text) → (x.base ≡ y.base) × (x.tree ≡ y.tree)

-- something holds of the text's tree
abbrev pub OfTree : List ℕ → (Rules → Type 0) → Type 0
OfTree text P = (x : TreeOf text) × P x.tree

-- something holds of the text's tree at a place, which counts "from the first byte of the whole text"
abbrev pub AtPlace : List ℕ → (Rules → ℕ → Type 0) → ℕ → Type 0
AtPlace text P place = (x : TreeOf text) × (p : ℕ) × P x.tree p × (place ≡ x.base + p)
