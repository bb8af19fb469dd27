-- How weights are worked out: sweeps over the constructs, each from the last to the first, by the weights that are there.
-- Assumes nothing.
use Rattle.std.specs.Prelude.{ℕ, zero, suc, ◌+◌, max, min, Bool, true, false, List, get_or, set}
use Rattle.basis.specs.Limits.{max_weight}
use Rattle.theory.specs.Weight.{sum, largest, weigh}
use Rattle.table_layout.specs.Constructs.{construct_at}
use Rattle.table_layout.specs.Held.{first_context, node_of}

-- weights are kept up to one past the limit, which stands for all that are over it
abbrev pub capped : ℕ → ℕ
capped n = min (max_weight + 1) n

-- the weight of construct i, given those in the list; past the list's end they are 0
abbrev pub weighed : List ℕ → List ℕ → ℕ → ℕ
weighed ws xs i = capped (weigh (λ c j. get_or xs j 0) first_context (node_of ws i (construct_at ws i)))

-- two weights, added or the larger of them
abbrev pub joined : Bool → ℕ → ℕ → ℕ
joined true a b = a + b
joined false a b = max a b

-- the parts' weights, added or the largest of them
unfoldable pub gathered : Bool → (ℕ → ℕ) → List ℕ → ℕ
unfolding sum largest
gathered true f is = sum f is
gathered false f is = largest f is

-- the constructs below n, from the last to the first
unfoldable pub swept : List ℕ → ℕ → List ℕ → List ℕ
unfolding weigh node_of construct_at
swept ws zero xs = xs
swept ws (suc i) xs = swept ws i (set xs i (weighed ws xs i))

-- `rounds` sweeps
unfoldable pub settled : List ℕ → ℕ → ℕ → List ℕ → List ℕ
unfolding swept
settled ws n zero xs = xs
settled ws n (suc rounds) xs = settled ws n rounds (swept ws n xs)
