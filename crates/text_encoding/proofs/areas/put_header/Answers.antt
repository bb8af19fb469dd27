use mathlib.Core.Path.{refl}
use mathlib.Core.List.{[], ◌∷◌}
use Rattle.text_encoding.specs.Numbers.{binders_before, condition_start}
use Rattle.text_encoding.proofs.Writing.{written_next}
use Rattle.text_encoding.proofs.areas.put_header.Goals as goal

pub returns : goal.returns
returns c = written_next c.args.table.now c.put_three.new.table c.put_three-2.new.table 0 3 (1399811687 ∷ c.args.r ∷ c.args.n ∷ []) (binders_before c.args.nodes.now c.args.n ∷ condition_start c.args.nodes.now c.args.n ∷ 1 ∷ []) c.put_three.ensures refl (simp (c.put_three-2.ensures, c.terms_before.ensures, c.binders_before.ensures.0))
