-- What is located, by how the text qs read.
-- Assumes nothing.
use Prim.Native.Nat.{ℕ, ◌≤◌, ◌<◌}
use mathlib.Core.Path.{◌≡◌, refl, sym, ap, ◌∙◌}
use mathlib.Core.Bool.{true, false}
use mathlib.Core.List.{List}
use borrow.Author.Tests.{lt-ltb, le-ltb}
use lib.Dec.{ltb}
use lib.ListN.{length}
use Rattle.basis.specs.Limits.{max_text_bytes}
use Rattle.text_header.specs.Header.{header_of}
use Rattle.text_header.specs.declared.Heading.{Heading}
use Rattle.report_places.specs.Located.{located_after, located}
use Rattle.report_places.specs.declared.Located.{Located}
use Rattle.report_places.specs.declared.Query.{Query}

pub too_long : (text : List ℕ) (q : Query) → max_text_bytes < length text → Located.Nothing ≡ located text q
too_long text q l = let t : ltb max_text_bytes (length text) ≡ true = lt-ltb max_text_bytes (length text) l in rw t refl

pub short : (text : List ℕ) (q : Query) (h g : Heading) (r : Located) → h ≡ header_of text → h ≡ g → length text ≤ max_text_bytes → r ≡ located_after text q g → r ≡ located text q
short text q h g r e z l w =
    let t : ltb max_text_bytes (length text) ≡ false = le-ltb max_text_bytes (length text) l
    in w ∙ ap (located_after text q) (sym z ∙ e) ∙ rw t refl
