use mathlib.Core.Path.{sym, subst, ap, ◌∙◌}
use native.Mathlib.Omega.{arith}
use lib.ListN.{get_or}
use Rattle.text_literals.specs.Literals.{part_after, stops, characters_at}
use Rattle.text_literals.proofs.Reaches.{characters_turn, characters_stop, characters_out}
use Rattle.text_literals.proofs.Spelling.{Spelling, spelling_start, spelling_turn, spelling_end}
use Rattle.text_literals.proofs.spell.Goals as goal

pub loop-i-init : goal.loop-i-init
loop-i-init c = (omega arith, spelling_start c.requires.1 c.requires.2)

pub shape_of-bytes-then-stops : goal.shape_of-bytes-then-stops
shape_of-bytes-then-stops c = c.loop-i.invariant.1.room ∙ sym c.requires.1

pub returns-then-stops : goal.returns-then-stops
returns-then-stops c = let xs = c.args.text.now in let at = c.args.at in let l = c.loop-i in spelling_end (subst (Spelling (characters_at xs at) l.bytes l.n) (characters_stop xs (get_or xs at 0) l.part l.i c.loop-i-test.true (ap stops (sym c.after-part.ensures) ∙ sym c.stops.ensures ∙ c.if-stops.true)) l.invariant.1)

pub loop-i-preserved : goal.loop-i-preserved
loop-i-preserved c = let xs = c.args.text.now in let at = c.args.at in let l = c.loop-i in (omega (arith, c.counted-n.ensures.1, l.invariant.0), rw (c.counted-n.ensures.0, c.keep.ensures, c.value.ensures, c.after-part.ensures) (spelling_turn (part_after l.part (get_or xs at 0) (get_or xs l.i 0)) (subst (Spelling (characters_at xs at) l.bytes l.n) (characters_turn xs (get_or xs at 0) l.part l.i c.loop-i-test.true (ap stops (sym c.after-part.ensures) ∙ sym c.stops.ensures ∙ c.if-stops.false)) l.invariant.1)))

pub shape_of-bytes : goal.shape_of-bytes
shape_of-bytes c = c.loop-i.invariant.1.room ∙ sym c.requires.1

pub returns : goal.returns
returns c = let xs = c.args.text.now in let at = c.args.at in let l = c.loop-i in spelling_end (subst (Spelling (characters_at xs at) l.bytes l.n) (characters_out xs (get_or xs at 0) l.part l.i c.loop-i-test.false) l.invariant.1)
