-- Whether a conflict was found. Only the crate's own helpers promise this.
-- Assumes nothing.
use Rattle.std.specs.Prelude.{Bool, true, false}
use Rattle.table_conflicts.specs.declared.Clash.{Clash}

abbrev pub is_clash : Clash → Bool
is_clash Clash.None = false
is_clash (Clash.Branches window first second) = true
is_clash (Clash.Passes window) = true
