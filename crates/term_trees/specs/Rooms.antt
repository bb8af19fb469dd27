-- Trees that a list of terms can hold: four numbers and 62 tests may wait, and a variable's use is one of the variables. Each calculation
-- of document 01 has room, and each set and condition whose parentheses go at most 16 deep.
-- Assumes nothing.
use Rattle.std.specs.Prelude.{ℕ, suc, ◌<◌}
use Rattle.term_trees.specs.Trees.{Calculation, literal, use_of, plus, minus, times, opposite, ValueSet, everything, only, between, from, up_to, either, without, Condition, compare, both, any}

-- a calculation with n numbers waiting before it, over a number of variables
abbrev pub Room : ℕ → Calculation → ℕ → Type 0
Room vars (literal l) n = n < 4
Room vars (use_of k) n = (n < 4) × (k < vars)
Room vars (plus a b) n = Room vars a n × Room vars b (suc n)
Room vars (minus a b) n = Room vars a n × Room vars b (suc n)
Room vars (times a b) n = Room vars a n × Room vars b (suc n)
Room vars (opposite a) n = Room vars a n

-- a set with d tests waiting before it
abbrev pub SetRoom : ℕ → ValueSet → ℕ → Type 0
SetRoom vars everything d = d < 62
SetRoom vars (only a) d = Room vars a 0 × (d < 62)
SetRoom vars (between a b) d = Room vars a 0 × Room vars b 1 × (d < 62)
SetRoom vars (from a) d = Room vars a 0 × (d < 62)
SetRoom vars (up_to b) d = Room vars b 0 × (d < 62)
SetRoom vars (either x y) d = SetRoom vars x d × SetRoom vars y (suc d)
SetRoom vars (without x y) d = SetRoom vars x d × SetRoom vars y (suc d)

-- a condition with d tests waiting before it
abbrev pub ConditionRoom : ℕ → Condition → ℕ → Type 0
ConditionRoom vars (compare k a b) d = Room vars a 0 × Room vars b 1 × (d < 62)
ConditionRoom vars (both x y) d = ConditionRoom vars x d × ConditionRoom vars y (suc d)
ConditionRoom vars (any x y) d = ConditionRoom vars x d × ConditionRoom vars y (suc d)
