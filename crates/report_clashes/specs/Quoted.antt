-- How much of the text is quoted for a branch.
-- Assumes nothing.
use Rattle.std.specs.Prelude.{ℕ, cond, eqb}
use Rattle.report_quoting.specs.declared.quoting.Part.{Part}

-- an alternative that is a branch stands in parentheses, so all of it is quoted
unfoldable pub part_of : ℕ → Part
part_of kind = cond (eqb kind 1) Part.Whole Part.Branch
