use Prim.Native.Nat.{ℕ}
use mathlib.Core.Path.{ap}
use Rattle.text_tokens.specs.Names.{name_of}
use Rattle.text_names.proofs.Ends.{end_after, end_within, name_past}
use Rattle.text_names.proofs.names.name_at.Goals as goal

pub returns-then-text-p : goal.returns-then-text-p
returns-then-text-p c = name_past c.args.text.now c.args.p c.if-text-p.true

pub slice_bounds-result-count-2 : goal.slice_bounds-result-count-2
slice_bounds-result-count-2 c = end_after c.args.text.now c.args.p c.span-end.result c.span-end.ensures

pub slice_bounds-result-start-2 : goal.slice_bounds-result-start-2
slice_bounds-result-start-2 c = end_after c.args.text.now c.args.p c.span-end.result c.span-end.ensures

pub slice_bounds-result-end-2 : goal.slice_bounds-result-end-2
slice_bounds-result-end-2 c = end_within c.args.text.now c.args.p c.span-end.result c.span-end.ensures c.if-text-p.false

pub returns : goal.returns
returns c = ap (λ (end : ℕ). name_of c.args.text.now c.args.p end) c.span-end.ensures
