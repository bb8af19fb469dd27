-- Laws of the token at a place.
-- Assumes nothing.
use Prim.Native.Nat.{ℕ, ◌≤◌, ◌<◌}
use mathlib.Core.Path.{◌≡◌}
use mathlib.Core.List.{List}
use borrow.Author.Tests.{lt-ltb, le-ltb}
use lib.ListN.{length}
use Rattle.text_tokens.specs.Tokens.{token, token_begun, token_from}
use Rattle.text_tokens.specs.declared.Kind.{Kind}

module _ (xs : List ℕ) (i : ℕ) where
  pub from_some : i < length xs → token_from xs i ≡ token_begun xs i
  from_some h = rw (lt-ltb i (length xs) h, token_from)

  pub from_none : length xs ≤ i → token_from xs i ≡ token i i Kind.End
  from_none h = rw (le-ltb i (length xs) h, token_from)
