-- The first windows of a field (document 01): "the leading 8 bits (or all, if fewer) of each bit pattern it admits, a set with a variable
-- counting as `~`". Windows are named by their numbers.
-- Assumes nothing.
use Rattle.std.specs.Prelude.{ℕ, ◌+◌, ◌*◌, ◌-◌, ◌^◌, ◌≤◌, ◌<◌, ◌≡◌, Bool, true, cond, List, [], ltb, ℤ, get_or}
use Rattle.std.proofs.Math.IntN.{sub_ℕ}
use Rattle.basis.specs.Bits.{bits_of}
use Rattle.basis.specs.Patterns.{pattern_value, offset}
use Rattle.basis.specs.Lookahead.{lookahead, number}
use Rattle.term_evaluation.specs.Variables.{has_variable}
use Rattle.term_words.specs.declared.Term.{Term}
use Rattle.term_membership.specs.Members.{holds}

-- the values that a set admits whatever the variables are; the list's first term has number i
unfoldable pub admits : ℕ → List Term → ℤ → Bool
admits i xs v = cond (has_variable xs) true (holds [] i xs v)

-- v is between two natural numbers and in the set that f tests
pub record Within (f : ℕ → Bool) (lo hi v : ℕ) : Type 0 where
  pub least : lo ≤ v
  pub most : v ≤ hi
  pub member : f v ≡ true

pub record Spans (f : ℕ → Bool) (lo hi : ℕ) (r : Bool) : Type 0 where
  pub found : r ≡ true → (v : ℕ) × Within f lo hi v
  pub all : (v : ℕ) → Within f lo hi v → r ≡ true

-- v is a pattern of the width, "values below 0 or above the width drop out", whose value is in the set, signed or not, and it has the window of number k
pub record Leads (width : ℕ) (signed : Bool) (i : ℕ) (xs : List Term) (k v : ℕ) : Type 0 where
  pub less : v < 2 ^ width
  pub member : admits i xs (pattern_value signed (bits_of width v)) ≡ true
  pub leading : number (lookahead (bits_of width v)) ≡ k

-- r says whether k is the number of a first window
pub record Tells (width : ℕ) (signed : Bool) (i : ℕ) (xs : List Term) (k : ℕ) (r : Bool) : Type 0 where
  pub found : r ≡ true → (v : ℕ) × Leads width signed i xs k v
  pub all : (v : ℕ) → Leads width signed i xs k v → r ≡ true

-- ---- marks, at the leading bits of the natural number that a value is, counted from the least of the width on (`basis` `Patterns`)

-- a set that f tests has a value in each window of the width that is marked, and in no other
abbrev pub ToldBy : ℕ → (ℕ → Bool) → List ℕ → Type 0
ToldBy width f marks = (k : ℕ) → k < 2 ^ (width - (width - 8)) → Spans f (k * 2 ^ (width - 8)) (k * 2 ^ (width - 8) + (2 ^ (width - 8) - 1)) (ltb 0 (get_or marks k 0))

-- the same of the values that the set of a list admits
abbrev pub Told : ℕ → Bool → ℕ → List Term → List ℕ → Type 0
Told width signed i xs marks = ToldBy width (λ (u : ℕ). admits i xs (sub_ℕ u (offset signed width))) marks
