-- The lines of a header by their parts, as document 01 has them. The laws `FirstLaws` and `HeaderLaws` say that `Header.is_first_line` and
-- `Header.is_header_line` tell whether a line has these parts.
-- Assumes nothing.
use Rattle.std.specs.Prelude.{ℕ, ◌<◌, ◌≡◌, Bool, true, ◌&&◌, List, [], ◌∷◌, ◌++◌, map, length}
use Rattle.text_header.specs.Bytes.{in_class, lower_case}
use Rattle.text_header.specs.Header.{dogma_v1, utf_8}
use Rattle.text_header.specs.declared.Class.{Class}

-- each byte is of a class
unfoldable pub every : Class → List ℕ → Bool
every class [] = true
every class (b ∷ bs) = in_class class b && every class bs

-- "`dogma_v1`, one or more spaces or tabs, `utf-8` in any letter case"
pub record FirstLine (line : List ℕ) : Type 0 where
  pub blanks : List ℕ
  pub word : List ℕ
  pub parts : line ≡ dogma_v1 ++ (blanks ++ word)
  pub some_blanks : 0 < length blanks
  pub blank : every Class.Blank blanks ≡ true
  pub spelled : map lower_case word ≡ utf_8

-- "`-`, spaces or tabs, a name, `=`, a value; each one or more bytes 20 to 7e or tabs, the name without `=`"
pub record HeaderLine (line : List ℕ) : Type 0 where
  pub blanks : List ℕ
  pub name : List ℕ
  pub value : List ℕ
  pub parts : line ≡ 45 ∷ (blanks ++ (name ++ (61 ∷ value)))
  pub some_blanks : 0 < length blanks
  pub blank : every Class.Blank blanks ≡ true
  pub some_name : 0 < length name
  pub name_bytes : every Class.Header name ≡ true
  pub without_equals : every (Class.Except 61) name ≡ true
  pub some_value : 0 < length value
  pub value_bytes : every Class.Header value ≡ true
