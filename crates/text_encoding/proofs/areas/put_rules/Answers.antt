use Prim.Native.Nat.{◌+◌, ◌*◌, ◌≤◌}
use mathlib.Core.Path.{◌≡◌, refl}
use native.Mathlib.Omega.{arith}
use Rattle.table_layout.specs.Places.{rules_at}
use Rattle.text_encoding.specs.Lists.{written}
use Rattle.text_encoding.specs.Encoded.{rule_words}
use Rattle.text_encoding.proofs.Writing.{writing_start, writing_turn, writing_end, one_less}
use Rattle.text_encoding.proofs.areas.put_rules.Goals as goal

pub loop-k-init : goal.loop-k-init
loop-k-init c = ((let z : 0 ≤ c.args.r = omega arith in z), writing_start refl (omega arith) refl)

pub binders_before-before-requires : goal.binders_before-before-requires
binders_before-before-requires c = c.requires.0

pub binders_before-after-requires : goal.binders_before-after-requires
binders_before-after-requires c = c.requires.0

pub loop-k-preserved : goal.loop-k-preserved
loop-k-preserved c = let e : c.put_four.new.table ≡ written c.loop-k.table (rules_at + 4 * c.loop-k.k) (rule_words c.args.nodes.now c.args.rules.now c.loop-k.k) = simp (c.put_four.ensures, c.saturating_sub.ensures, c.binders_before-after.ensures.0, c.rule_word.ensures, c.binders_before-before.ensures.0, c.rule_word-first.ensures) in (omega arith, writing_turn c.loop-k.invariant.1 (one_less _ _ c.loop-k-test.true) refl (omega arith) e)

pub shape_of-table : goal.shape_of-table
shape_of-table c = c.loop-k.invariant.1.same

pub returns : goal.returns
returns c = writing_end c.loop-k.invariant.1 (omega arith)
