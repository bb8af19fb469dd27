use Prim.Native.Nat.{◌+◌}
use mathlib.Core.Path.{◌≡◌, ap, ◌∙◌}
use native.Mathlib.Omega.{arith}
use lib.ListN.{length, get_or, drop}
use Rattle.text_literals.specs.Literals.{characters_at}
use Rattle.text_literals.specs.declared.Part.{Part}
use Rattle.text_literals.specs.declared.Extent.{Extent}
use Rattle.text_literals.proofs.Reaches.{reach_count}
use Rattle.text_literals.proofs.count_at.Goals as goal

pub returns : goal.returns
returns c =
    let none : 0 + length (characters_at c.args.text.now c.args.at) ≡ length (characters_at c.args.text.now c.args.at) = omega arith in
    ap (λ (r : Extent). r.count) c.reach.ensures ∙ reach_count (get_or c.args.text.now c.args.at 0) Part.Start 0 (c.args.at + 1) (drop (c.args.at + 1) c.args.text.now) ∙ none
