-- Kinds of constructs in the report, and the bound on a run's steps.
-- Assumes nothing.
use Rattle.std.specs.Prelude.{ℕ, ◌+◌, ◌*◌, Bool, cond, ◌||◌, leb, eqb}
use Rattle.basis.specs.Limits.{max_weight, max_frame_bits}

-- a literal, a range, a uint or a sint (which has a uint's kind in the text)
abbrev pub is_field : ℕ → Bool
is_field kind = eqb kind 6 || (eqb kind 7 || eqb kind 8)

-- "weight × (bits + 1)" for the longest frame; no weight that is admitted is over its limit
unfoldable pub bound_of : ℕ → ℕ
bound_of weight = cond (leb weight max_weight) (weight * (max_frame_bits + 1)) 0
