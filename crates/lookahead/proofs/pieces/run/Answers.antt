use Rattle.lookahead.proofs.PieceLaws.{whole_index, run_whole, run_part, mask_of}
use Prim.Native.Nat.{ℕ, ◌*◌, ◌%◌, ◌^◌, ◌<◌}
use mathlib.Core.Path.{refl, ap, ◌∙◌}
use native.Mathlib.Omega.{arith}
use lib.Pow.{pow_pos}
use native.Mathlib.Nat.{mod-eq_of_lt}
use borrow.Author.Rules.{rules}
use Rattle.lookahead.proofs.pieces.run.Goals as goal

pub offset_bounds-set-x : goal.offset_bounds-set-x
offset_bounds-set-x c =
    let a = c.args in
    let h : a.x < 8 = whole_index a.x a.e c.if-e-eq6.true c.requires.1 in
    omega arith

pub bounds-set-x : goal.bounds-set-x
bounds-set-x c = whole_index c.args.x c.args.e c.if-e-eq6.true c.requires.1

pub returns-then-e-eq6 : goal.returns-then-e-eq6
returns-then-e-eq6 c =
    let a = c.args in
    run_whole a.set.now a.x a.e _ c.if-e-eq6.true (search rules) refl

pub overflow_shl-result-2 : goal.overflow_shl-result-2
overflow_shl-result-2 c = let m = mask_of c.args.e (search rules) in rw m.0 m.2

pub overflow_sub-result : goal.overflow_sub-result
overflow_sub-result c =
    let e = c.args.e in
    let m = mask_of e (search rules) in
    rw (m.0, m.1) (pow_pos (2 ^ e))

pub returns : goal.returns
returns c =
    let a = c.args in
    let m = mask_of a.e (search rules) in
    run_part a.set.now a.x a.e _ _ _ (search rules) (mod-eq_of_lt (search rules)) (ap (λ (y : ℕ). 1 * 2 ^ y % 2 ^ 64) m.0 ∙ m.1) refl
