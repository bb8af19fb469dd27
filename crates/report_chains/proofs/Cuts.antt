-- Numbers that begin with others.
-- Assumes nothing.
use Prim.Native.Nat.{ℕ, ◌/◌, ◌^◌}
use mathlib.Core.Path.{◌≡◌, ap, ◌∙◌}
use mathlib.Core.List.{List}
use Rattle.basis.specs.Bits.{Bits}
use Rattle.basis.specs.Lookahead.{number}
use Rattle.lookahead.specs.Sets.{Has}
use Rattle.report_chains.specs.Strings.{Begun, SomeBegins}

-- a string of the set, by its number
pub begun_by : (words : List ℕ) (n with : ℕ) → (s : Bits) × (number s ≡ n) × Has words s → Begun n with → SomeBegins words with
begun_by words n with (s, e, h) (k, d) = (s, h, (k, ap (λ (x : ℕ). x / 2 ^ k) e ∙ d))
