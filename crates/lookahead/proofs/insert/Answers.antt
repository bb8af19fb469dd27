use Rattle.lookahead.proofs.SetLaws.{insert_none, insert_is}
use native.Mathlib.Omega.{arith}
use mathlib.Core.Path.{refl}
use Rattle.std.proofs.lemmas.Nat.{or_lt}
use Rattle.basis.proofs.Numbers.{number_pos, number_small}
use borrow.Author.Rules.{rules}
use Rattle.lookahead.proofs.insert.Goals as goal

pub returns-then-n-lt512 : goal.returns-then-n-lt512
returns-then-n-lt512 c =
    let s = c.args in
    insert_is s.set.words s.n c.requires _ (search rules) (search rules) refl (or_lt 64 _ _ c.if-n-lt512.element_fits.fits (omega arith))

pub returns-else-n-gt0 : goal.returns-else-n-gt0
returns-else-n-gt0 c = insert_none c.args.set.words c.args.n c.requires (λ x a. omega (arith, number_small x a.0, number_pos x, a.1, c.else-n-gt0.either))
