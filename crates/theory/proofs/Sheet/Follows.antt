-- FOLLOW of a grammar of the sheet, from sets claimed for some of its numbers.
-- Assumes nothing.
use Prim.Native.Nat.{ℕ}
use mathlib.Core.Path.{◌≡◌, refl, sym, subst, ap₂}
use mathlib.Core.List.Memᴰ
use mathlib.Core.List.{List, [], ◌∷◌, Memᴰ}
use mathlib.Core.Option.{Option, none, some}
use Rattle.basis.specs.Bits.{Bits}
use Rattle.basis.specs.Lookahead.{join}
use Rattle.theory.specs.Derivation.{members}
use Rattle.theory.specs.Lookahead.{First, Follow}
use Rattle.theory.proofs.Sheet.Samples.{SheetGrammar, numbered, nothing, opening_use, Sample, grammar_of}
use Rattle.theory.proofs.Inversion.{first_by, Keeps, follow_least}
use Rattle.theory.proofs.Sheet.Numbers.{Listed, each}

-- the frame's end
abbrev pub at_end : List Bits
at_end = [] ∷ []

-- the set claimed for a number: strings, or nothing is claimed; of the opening use, the frame's end
abbrev pub Claims : Type 0
Claims = List (Option (List Bits))

unfoldable pub claimed : Claims → ℕ → Option (List Bits)
unfolding numbered
claimed claims = numbered (some at_end) none claims

abbrev pub Within : Option (List Bits) → Bits → Type 0
Within none x = Unit {0}
Within (some ys) x = Memᴰ x ys

abbrev pub Claimed : Claims → ℕ → Bits → Type 0
Claimed claims i = Within (claimed claims i)

-- the frame's end follows the start rule's body
pub end_follows_body : (g : SheetGrammar) → g.node g.start ≡ opening_use → Follow g 0 []
end_follows_body g e = Follow.of_rule e (Follow.of_start refl)

module _ (s : Sample) where
  -- no more than claimed, where the claim for the start rule's body is the frame's end and each construct keeps to the claims
  pub follow_claimed : (claims : Claims) → claimed claims 0 ≡ some at_end → Listed (Keeps (grammar_of s) (Claimed claims)) s.constructs
      → (i : ℕ) (x : Bits) → Follow (grammar_of s) i x → Claimed claims i x
  unfolding grammar_of claimed
  follow_claimed claims z p i x f =
      follow_least (grammar_of s) (Claimed claims) (Memᴰ.head refl)
      (each opening_use nothing s.constructs (Keeps (grammar_of s) (Claimed claims)) (λ y h. subst (λ (o : _). Within o y) (sym z) h) (λ j h b m. absurd (Memᴰ.not-nil m)) p)
      f

  -- of a last member
  pub last_claimed : (x y : Bits) → First (grammar_of s) (members []) x → Memᴰ y at_end → Memᴰ (join x y) at_end
  last_claimed x y f n = Memᴰ.head (ap₂ join (first_by (grammar_of s) f) (Memᴰ.eq_of_singleton n))
