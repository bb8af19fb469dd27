use Prim.Native.Nat.{ℕ, ◌≤◌}
use mathlib.Core.Path.{sym, ap, subst, ◌∙◌}
use Rattle.table_layout.specs.declared.Construct.{Construct}
use Rattle.run_fields.specs.Fields.{field_width}
use Rattle.run_fields.proofs.Widths.{width_small}
use Rattle.run_fields.proofs.width_at.Goals as goal

-- src/lib.rt:60:5
pub width_of-requires : goal.width_of-requires
width_of-requires c = subst (λ (x : Construct). field_width x ≤ 256) (sym c.construct_at.ensures) (width_small c.args.table.now c.args.i)

-- src/lib.rt:57:1
pub returns : goal.returns
returns c = let e = c.width_of.ensures ∙ ap field_width c.construct_at.ensures in (e, subst (λ (n : ℕ). n ≤ 256) (sym e) (width_small c.args.table.now c.args.i))
