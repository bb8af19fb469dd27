use mathlib.Core.Path.{◌≡◌}
use native.Mathlib.Omega.{arith}
use Rattle.table_layout.specs.Held.{opening}
use Rattle.table_first_follow.proofs.AppliedLaws.{of_opening}
use Rattle.table_first_follow.proofs.rules.applied.Goals as goal

pub returns : goal.returns
returns c =
    let a = c.args in
    let p : a.i ≡ opening = omega (arith, c.requires.1, c.if-i-lt-MAX_CONSTRUCTS.false) in
    of_opening a.table.now a.family.now a.i c.set_of.result.words c.body_of.result p c.body_of.ensures c.set_of.ensures
