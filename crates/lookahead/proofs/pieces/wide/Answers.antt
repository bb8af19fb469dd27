use Rattle.lookahead.proofs.PieceLaws.{size_of, wide_piece, wide_none}
use Prim.Native.Nat.{ℕ, ◌+◌, ◌/◌, ◌%◌, ◌^◌, ◌<◌, ◌≤◌}
use mathlib.Core.Path.{sym, ap, subst}
use native.Mathlib.Omega.{arith}
use lib.Pow.{shr_le}
use native.Mathlib.Nat.{mod-lt}
use lib.ListN.{get_or}
use borrow.Author.Rules.{rules}
use Rattle.lookahead.proofs.pieces.wide.Goals as goal

pub run-requires : goal.run-requires
run-requires c = (search rules, let h : c.args.r / 2 ^ c.args.e ≤ c.args.r = shr_le c.args.r c.args.e in omega arith)

pub nonzero_rem-result : goal.nonzero_rem-result
nonzero_rem-result c = let m = size_of c.args.e (search rules) in rw m.0 m.2

pub overflow_add-result : goal.overflow_add-result
overflow_add-result c =
    let a = c.args in
    let m = size_of a.e (search rules) in
    rw m.0 (let d : a.r % 2 ^ a.e < 2 ^ a.e = mod-lt a.r m.2 in omega (arith, m.1))

pub offset_bounds-b-size : goal.offset_bounds-b-size
offset_bounds-b-size c =
    let a = c.args in
    let m = size_of a.e (search rules) in
    rw m.0 (let d : a.r % 2 ^ a.e < 2 ^ a.e = mod-lt a.r m.2 in omega (arith, m.1))

pub bounds-b-size : goal.bounds-b-size
bounds-b-size c =
    let a = c.args in
    let m = size_of a.e (search rules) in
    let d : a.r % 2 ^ a.e < 2 ^ a.e = mod-lt a.r m.2 in
    let t : 2 ^ a.e + a.r % 2 ^ a.e < 8 = omega (arith, m.1) in
    subst (λ (y : ℕ). y + a.r % y < 8) (sym m.0) t

pub returns-then-run-gt0 : goal.returns-then-run-gt0
returns-then-run-gt0 c =
    let a = c.args in
    let m = size_of a.e (search rules) in
    wide_piece a.a.now a.b.now a.r a.e c.run.result c.run.ensures _ c.if-run-gt0.true
    (ap (λ (y : ℕ). get_or a.b.now (y + a.r % y) 0) m.0)

pub returns : goal.returns
returns c =
    let a = c.args in
    wide_none a.a.now a.b.now a.r a.e c.run.result c.run.ensures (search rules)
