-- A field has at most 256 bits, whatever the words.
-- Assumes nothing.
use Prim.Native.Nat.{ℕ, ◌≤◌}
use native.Mathlib.Omega.{arith}
use mathlib.Core.List.{List}
use Rattle.table_layout.specs.Constructs.{construct_at}
use Rattle.table_layout.specs.declared.Construct.{Construct}
use Rattle.table_layout.proofs.Bounds.{Fine, fine}
use Rattle.run_fields.specs.Fields.{field_width}

-- by what holds of a construct's operands
small : (i : ℕ) (c : Construct) → Fine i c → field_width c ≤ 256
small i Construct.Missing h = omega arith
small i (Construct.Alternative size) h = omega arith
small i (Construct.Concatenation size) h = omega arith
small i (Construct.Repetition size passes) h = omega arith
small i (Construct.Switch size) h = omega arith
small i (Construct.Use rule) h = omega arith
small i (Construct.Literal n) h = omega (arith, h.2)
small i (Construct.Range low high) h = omega arith
small i (Construct.Uint signed width start end binder) h = omega (arith, h.2)
small i Construct.Eod h = omega arith

-- construct i of any words
pub width_small : (ws : List ℕ) (i : ℕ) → field_width (construct_at ws i) ≤ 256
width_small ws i = small i (construct_at ws i) (fine ws i)
