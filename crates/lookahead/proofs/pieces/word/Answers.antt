use borrow.Author.Rules.{rules}
use Rattle.lookahead.proofs.PieceLaws.{Word-to, word_none, word_more}
use Prim.Native.Nat.{ℕ}
use mathlib.Core.Path.{◌≡◌, subst}
use native.Mathlib.Omega.{arith}
use Rattle.lookahead.proofs.pieces.word.Goals as goal

pub loop-j-init : goal.loop-j-init
loop-j-init c = (word_none _ _ _, search rules)

pub loop-j-preserved : goal.loop-j-preserved
loop-j-preserved c =
    let a = c.args in
    (word_more a.a.now a.b.now a.r c.loop-j.j c.loop-j.out c.piece-out.result c.loop-j.invariant.0 c.piece-out.ensures, search rules)

pub returns : goal.returns
returns c =
    let e : c.loop-j.j ≡ 9 = omega arith in
    subst (λ (j : ℕ). Word-to c.args.a.now c.args.b.now c.args.r j c.loop-j.out) e c.loop-j.invariant.0
