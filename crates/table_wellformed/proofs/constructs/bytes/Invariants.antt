use mathlib.Core.Path.{◌≡◌}
use Rattle.basis.specs.Limits.{max_literal_bytes}
use Rattle.table_wellformed.specs.Checks.{from_to}
use Rattle.table_wellformed.specs.Laid.{byte_laid}
use Rattle.table_wellformed.proofs.constructs.bytes.Given as goal

abbrev pub invariant-loop-k : goal.invariant-loop-k
invariant-loop-k l = from_to l.k max_literal_bytes (byte_laid l.table l.i l.n) ≡ from_to 0 max_literal_bytes (byte_laid l.table l.i l.n)
