-- Values of a set that are tried, and the marks of their windows. A value is the natural number that it is, counted from the least of its width on. Only the
-- private functions of the crate speak of this.
-- Assumes nothing.
use Rattle.std.specs.Prelude.{ℕ, suc, ◌+◌, ◌*◌, ◌-◌, ◌/◌, ◌^◌, ◌<◌, ◌≡◌, Bool, true, ◌⊎◌, List, [], ◌∷◌, ℤ, length, get_or, Option, Some, None}
use Rattle.term_words.specs.declared.Numbers.{Numbers}
use Rattle.term_words.specs.declared.Term.{Term}
use Rattle.term_membership.specs.Effects.{turn_of}
use Rattle.term_membership.specs.declared.Effect.{Effect}
use Rattle.term_prefixes.specs.declared.Tried.{Tried}

-- v is a value of the width in the set that f tests, and its leading bits are k
pub record Hits (f : ℕ → Bool) (width k v : ℕ) : Type 0 where
  pub less : v < 2 ^ width
  pub member : f v ≡ true
  pub block : v / 2 ^ (width - 8) ≡ k

abbrev pub Marked : List ℕ → ℕ → Type 0
Marked marks k = 0 < get_or marks k 0

-- each mark stands for a value
abbrev pub Sound : (ℕ → Bool) → ℕ → List ℕ → Type 0
Sound f width marks = (k : ℕ) → Marked marks k → (v : ℕ) × Hits f width k v

-- the windows of the values of P have got their marks
pub record Sought (f : ℕ → Bool) (width : ℕ) (P : ℕ → Type 0) (old new : List ℕ) : Type 0 where
  pub all : length new ≡ 256
  pub sound : Sound f width old → Sound f width new
  pub kept : (k : ℕ) → Marked old k → Marked new k
  pub hit : (k v : ℕ) → P v → Hits f width k v → Marked new k

-- v is one of the first n values
abbrev pub Among : List ℕ → ℕ → ℕ → Type 0
Among values n v = (j : ℕ) × (j < n) × (get_or values j 0 ≡ v)

-- v is the least value of one of the first n windows
abbrev pub Least : ℕ → ℕ → ℕ → Type 0
Least width n v = (k : ℕ) × (k < n) × (k * 2 ^ (width - 8) ≡ v)

-- the first n of 64 values are multiples of a number, one after the other
pub record Filled (first block n : ℕ) (values : List ℕ) : Type 0 where
  pub all : length values ≡ 64
  pub at : (j : ℕ) → j < n → get_or values j 0 ≡ (first + j) * block

-- ---- values that wait

pub record Ready (t : Tried) : Type 0 where
  pub values : length t.values ≡ 64
  pub marks : length t.marks ≡ 256
  pub room : t.waiting < 64

-- the window k is marked, or will be once the values that wait are tried
abbrev pub Found : (ℕ → Bool) → ℕ → ℕ → Tried → Type 0
Found f width k t = Marked t.marks k ⊎ ((j : ℕ) × (j < t.waiting) × Hits f width k (get_or t.values j 0))

-- the values of P have been handed over
pub record Offered (f : ℕ → Bool) (width : ℕ) (P : ℕ → Type 0) (old new : Tried) : Type 0 where
  pub ready : Ready new
  pub sound : Sound f width old.marks → Sound f width new.marks
  pub kept : (k : ℕ) → Found f width k old → Found f width k new
  pub hit : (k v : ℕ) → P v → Hits f width k v → Found f width k new

-- ---- where a set changes: at the first value of an item, and at the first after it

abbrev pub ChangesAt : Effect → ℕ → Type 0
ChangesAt Effect.None v = ⊥
ChangesAt (Effect.Within a b) v = (a ≡ v) ⊎ (suc b ≡ v)
ChangesAt (Effect.From a) v = a ≡ v
ChangesAt Effect.Or v = ⊥
ChangesAt Effect.Except v = ⊥

abbrev pub HereOrOn : (Numbers → Type 0) → ℕ → Option (Numbers × Effect) → Type 0
HereOrOn go v (Some (s, e)) = ChangesAt e v ⊎ go s
HereOrOn go v None = ⊥

-- a term of the list changes the set at v, where numbers s wait before the list; o the offset
unfoldable pub Changes : ℕ → List ℤ → ℕ → List Term → Numbers → Type 0
Changes o env v [] s = ⊥
Changes o env v (x ∷ xs) s = HereOrOn (λ s'. Changes o env v xs s') v (turn_of o env x s)
