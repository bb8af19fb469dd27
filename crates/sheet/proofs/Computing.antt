-- What is computed of a text and of its tree, in definitions that open all that they are made of: a proof that unfolds one of them computes.
-- Assumes nothing.
use Prim.Native.String.{String}
use mathlib.Core.List.{List}
use lib.ListN.{drop}
use Rattle.theory.specs.Grammar.{Grammar}
use Rattle.text_header.specs.Header.{header_of, content, header_lines_of, is_first_line, is_header_line, lines}
use Rattle.text_header.specs.Spans.{span_end, starts}
use Rattle.text_header.specs.declared.Heading.{Heading}
use Rattle.tree.specs.Lexemes.{Lexeme, lexemes}
use Rattle.tree.specs.Tree.{Rules}
use Rattle.tree_meaning.specs.Grammar.{Context, Values, tree_grammar}
use Rattle.tree_meaning.proofs.Computing.{tokens, seen}
use Rattle.sheet.specs.Sheet.{text_of}

unfoldable pub heading : String → Heading
unfolding text_of content header_lines_of is_first_line is_header_line lines span_end starts
heading rules = header_of (text_of rules)

-- the tokens of the rules, which begin at byte 16
unfoldable pub lexed : String → List Lexeme
unfolding text_of tokens
lexed rules = lexemes (drop 16 (text_of rules))

-- all constructs, at any values
unfoldable pub grammar : Rules → Grammar Context Values
unfolding seen tree_grammar
grammar t = tree_grammar t
