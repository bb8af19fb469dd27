-- How the rules that a rule reaches are worked out, each answer a number 0 or 1. The laws under `proofs/` say that this is `Reaches`.
-- Assumes nothing.
use Rattle.std.specs.Prelude.{Option, Some, None, ℕ, zero, suc, ◌+◌, ◌-◌, ◌<◌, ◌≤◌, max, min, ◌≡◌, Bool, true, false, cond, ◌&&◌, List, ltb, eqb, length, get_or}
use Rattle.basis.specs.Limits.{max_rules, max_constructs}
use Rattle.table_layout.specs.Places.{rule_count}
use Rattle.table_layout.specs.Constructs.{construct_at}
use Rattle.table_layout.specs.Attributes.{attributes_of}
use Rattle.table_layout.specs.declared.Construct.{Construct}
use Rattle.lookahead.specs.Sets.{bit}
use Rattle.table_reach.specs.Reaching.{body_of, rule_end}

-- whether f is 1 at one of n numbers from i on
unfoldable pub some_of : ℕ → (ℕ → ℕ) → ℕ → ℕ
some_of zero f i = 0
some_of (suc n) f i = max (f i) (some_of n f (i + 1))

-- the rule that a construct uses; the first number past all rules, where it uses none
abbrev pub used_rule : Construct → ℕ
used_rule c = (attributes_of c).rule

-- whether construct i is a use of rule q
abbrev pub calls : List ℕ → ℕ → ℕ → ℕ
calls ws q i = cond (eqb (used_rule (construct_at ws i)) q) 1 0

-- whether one of the constructs from `first` up to `end` is a use of rule q
abbrev pub uses_between : List ℕ → ℕ → ℕ → ℕ → ℕ
uses_between ws first end q = some_of (end - first) (calls ws q) first

-- whether rule r uses rule q
abbrev pub uses : List ℕ → ℕ → ℕ → ℕ
uses ws r q = cond (ltb r (rule_count ws)) (uses_between ws (body_of ws r) (min max_constructs (rule_end ws r)) q) 0

-- Warshall's closure of a relation: whether r reaches q by way of numbers below k alone
unfoldable pub closure : (ℕ → ℕ → ℕ) → ℕ → ℕ → ℕ → ℕ
closure u zero r q = u r q
closure u (suc k) r q = max (closure u k r q) (min (closure u k r k) (closure u k k q))

-- words that hold a relation, the row of each rule's number as a word's bits
pub record Matrix (rows : List ℕ) (u : ℕ → ℕ → ℕ) : Type 0 where
  pub many : length rows ≡ max_rules
  pub entry : (r q : ℕ) → r < max_rules → q < max_rules → bit (get_or rows r 0) q ≡ u r q

-- rows below n that reach k have all that `via` has; the others are as they were
pub record Mended (before after : List ℕ) (via k n : ℕ) : Type 0 where
  pub many : length after ≡ max_rules
  pub changed : (i q : ℕ) → i < n → bit (get_or after i 0) q ≡ max (bit (get_or before i 0) q) (min (bit (get_or before i 0) k) (bit via q))
  pub kept : (i : ℕ) → n ≤ i → get_or after i 0 ≡ get_or before i 0

-- the first row that has its own bit
abbrev pub Diagonal : List ℕ → Option ℕ → Type 0
Diagonal rows None = (q : ℕ) → q < max_rules → bit (get_or rows q 0) q ≡ 0
Diagonal rows (Some r) = (r < max_rules) × (bit (get_or rows r 0) r ≡ 1) × ((q : ℕ) → q < r → bit (get_or rows q 0) q ≡ 0)

-- q is one of 64 rules, and row 0 has its bit
abbrev pub from_start : List ℕ → ℕ → Bool
from_start rows q = ltb q max_rules && eqb (bit (get_or rows 0 0) q) 1

-- the first of the rules from 1 up to `count` that row 0 does not have
abbrev pub StartRow : List ℕ → ℕ → Option ℕ → Type 0
StartRow rows count None = (q : ℕ) → 1 ≤ q → q < count → from_start rows q ≡ true
StartRow rows count (Some r) = (1 ≤ r) × (r < count) × (from_start rows r ≡ false) × ((q : ℕ) → 1 ≤ q → q < r → from_start rows q ≡ true)
