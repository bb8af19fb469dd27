use borrow.Author.Rules.{rules}
use Rattle.lookahead_slices.proofs.FamilyLaws.{growth_none, adding_written, adding_kept, added}
use Rattle.lookahead_slices.proofs.WriteLaws.{written_none}
use mathlib.Core.Path.{refl}
use lib.ListN.{get_or}
use Prim.Native.Nat.{◌+◌, ◌*◌}
use Rattle.std.proofs.lemmas.Nat.{or_lt}
use Rattle.lookahead_slices.proofs.family.add.Goals.{else-old-new, then-old-new}
use Rattle.lookahead_slices.proofs.family.add.Goals as goal

pub loop-k-init : goal.loop-k-init
loop-k-init c = (written_none _ _ _, growth_none _, search rules)

pub loop-k-preserved : goal.loop-k-preserved
loop-k-preserved c =
    let s = c in
    let t = c.loop-k in
    elim c.if-old-new.branch [ then-old-new w ↦ adding_written s.args.set.words s.args.family.now s.args.i t.k t.family t.grew _ c.if-old-new.family c.if-old-new.grew s.requires c.loop-k-test.true t.invariant refl w.if-old-new.true (or_lt 64 (get_or t.family (8 * s.args.i + t.k) 0) (get_or s.args.set.words t.k 0) (search rules) (search rules)) w.family-is w.grew-is | else-old-new w ↦ adding_kept s.args.set.words s.args.family.now s.args.i t.k t.family t.grew _ c.if-old-new.family c.if-old-new.grew s.requires c.loop-k-test.true t.invariant refl w.if-old-new.false w.family-is w.grew-is ]

pub shape_of-family : goal.shape_of-family
shape_of-family c = c.loop-k.invariant.0.same_length

pub returns : goal.returns
returns c =
    let a = c in
    added a.args.set.words a.args.family.now c.loop-k.family a.args.i c.loop-k.k a.requires c.loop-k-test.false c.loop-k.invariant.2 c.loop-k.invariant.0
    c.loop-k.grew c.loop-k.invariant.1
