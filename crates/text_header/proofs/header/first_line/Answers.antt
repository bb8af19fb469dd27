use Prim.Native.Nat.{◌≤◌}
use mathlib.Core.Path.{sym, ◌∙◌}
use mathlib.Core.Bool.{false}
use native.Mathlib.Omega.{arith}
use lib.ListN.{length}
use Rattle.text_header.specs.Header.{dogma_v1}
use Rattle.text_header.specs.declared.Class.{Class}
use Rattle.text_header.proofs.Runs.{span_within, starts_length}
use Rattle.text_header.proofs.header.first_line.Goals as goal

pub slice_bounds-spells-count : goal.slice_bounds-spells-count
slice_bounds-spells-count c =
    let long : 8 ≤ length c.args.line.now = starts_length false dogma_v1 c.args.line.now (sym c.begins.ensures ∙ c.if-begins.true) in
    omega (arith, long, span_within Class.Blank c.args.line.now 8, c.span-end.ensures)

pub slice_bounds-spells-start : goal.slice_bounds-spells-start
slice_bounds-spells-start c =
    let long : 8 ≤ length c.args.line.now = starts_length false dogma_v1 c.args.line.now (sym c.begins.ensures ∙ c.if-begins.true) in
    omega (arith, long, span_within Class.Blank c.args.line.now 8, c.span-end.ensures)
