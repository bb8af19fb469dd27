use Rattle.lookahead.proofs.PieceLaws.{first_small, narrow_piece}
use Prim.Native.Nat.{ℕ, ◌+◌, ◌-◌}
use mathlib.Core.Path.{◌≡◌, subst}
use native.Mathlib.Omega.{arith}
use Rattle.lookahead.specs.Inner.{Piece}
use borrow.Author.Rules.{rules}
use Rattle.lookahead.proofs.pieces.piece.Goals as goal

pub returns-then-j-gt6 : goal.returns-then-j-gt6
returns-then-j-gt6 c =
    let a = c.args in
    subst (λ (j : ℕ). Piece a.a.now a.b.now a.r j c.wide.result) (let e : 6 + (a.j - 6) ≡ a.j = omega arith in e) c.wide.ensures

pub run-requires : goal.run-requires
run-requires c = (search rules, first_small c.args.r (6 - c.args.j) (search rules) (search rules))

pub run-requires-2 : goal.run-requires-2
run-requires-2 c = (search rules, first_small 1 c.args.j (search rules) (search rules))

pub returns : goal.returns
returns c =
    let a = c.args in
    narrow_piece a.a.now a.b.now a.r a.j c.run.result c.run-2.result c.product.result (search rules)
    c.run.ensures c.run-2.ensures c.product.ensures
