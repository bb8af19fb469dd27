-- Each text of the sheet has a right size and header, and its rules spell the tree that `tree_meaning` (`proofs/Sheet.antt`) has written out.
-- Assumes nothing.
use Prim.Native.Nat.{ℕ, ◌≤◌}
use Prim.Native.String.{String}
use mathlib.Core.Path.{◌≡◌, refl}
use native.Mathlib.Omega.{arith}
use lib.ListN.{length, drop}
use Rattle.basis.specs.Limits.{max_text_bytes}
use Rattle.text_header.specs.Header.{header_of}
use Rattle.text_header.specs.declared.Heading.{Heading}
use Rattle.tree.specs.Lexemes.{lexemes}
use Rattle.tree.specs.Tree.{Rules}
use Rattle.tree.specs.Spelling.{spelled}
use Rattle.tree_meaning.proofs.Computing.{written}
use Rattle.tree_meaning.proofs.Sheet as trees
use Rattle.sheet.specs.Sheet.{text_of, G, K5, K6, K8, K9, K10, K11}
use Rattle.sheet.proofs.Computing.{heading, lexed}

-- the text of these rules has a right size and header, and its tokens from byte 16 on spell the tree; `end`: where they end
pub record Formed (rules : String) (t : Rules) : Type 0 where
  pub some : 1 ≤ length (text_of rules)
  pub short : length (text_of rules) ≤ max_text_bytes
  pub header : header_of (text_of rules) ≡ Heading.Rules 16
  pub end : ℕ
  pub spells : lexemes (drop 16 (text_of rules)) ≡ spelled t end

pub formed_G : Formed G trees.G
unfolding heading lexed written trees.G
formed_G = record { some = omega arith; short = omega arith; header = refl; end = 49; spells = refl }

pub formed_K5 : Formed K5 trees.K5
unfolding heading lexed written trees.K5
formed_K5 = record { some = omega arith; short = omega arith; header = refl; end = 20; spells = refl }

pub formed_K6 : Formed K6 trees.K6
unfolding heading lexed written trees.K6
formed_K6 = record { some = omega arith; short = omega arith; header = refl; end = 31; spells = refl }

pub formed_K8 : Formed K8 trees.K8
unfolding heading lexed written trees.K8
formed_K8 = record { some = omega arith; short = omega arith; header = refl; end = 16; spells = refl }

pub formed_K9 : Formed K9 trees.K9
unfolding heading lexed written trees.K9
formed_K9 = record { some = omega arith; short = omega arith; header = refl; end = 47; spells = refl }

pub formed_K10 : Formed K10 trees.K10
unfolding heading lexed written trees.K10
formed_K10 = record { some = omega arith; short = omega arith; header = refl; end = 63; spells = refl }

pub formed_K11 : Formed K11 trees.K11
unfolding heading lexed written trees.K11
formed_K11 = record { some = omega arith; short = omega arith; header = refl; end = 19; spells = refl }
