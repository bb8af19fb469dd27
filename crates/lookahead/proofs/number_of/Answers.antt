use Rattle.lookahead.proofs.BitLaws.{shifted_one}
use Rattle.basis.proofs.Numbers.{field_short, field_long, field_wide}
use Prim.Native.Nat.{◌*◌, ◌%◌, ◌^◌, ◌≤◌}
use mathlib.Core.Path.{◌≡◌, sym}
use lib.Pow.{pow_pos, pow_mono}
use native.Mathlib.Nat.{mod-le}
use native.Mathlib.Omega.{arith}
use borrow.Author.Rules.{rules}
use Rattle.lookahead.proofs.number_of.Goals as goal

pub nonzero_rem-result : goal.nonzero_rem-result
nonzero_rem-result c =
    let e : 1 * 2 ^ c.args.width % 2 ^ 32 ≡ 2 ^ c.args.width = shifted_one c.args.width 32 (omega arith) in
    rw e (pow_pos c.args.width)

pub overflow_cast-result-then-width-le8 : goal.overflow_cast-result-then-width-le8
overflow_cast-result-then-width-le8 c =
    let e : 1 * 2 ^ c.args.width % 2 ^ 32 ≡ 2 ^ c.args.width = shifted_one c.args.width 32 (omega arith) in
    let l : c.args.value % 2 ^ c.args.width ≤ c.args.value = mod-le c.args.value (2 ^ c.args.width) in
    rw e (omega arith)

pub overflow_add-result : goal.overflow_add-result
overflow_add-result c =
    let e : 1 * 2 ^ c.args.width % 2 ^ 32 ≡ 2 ^ c.args.width = shifted_one c.args.width 32 (omega arith) in
    let f : 1 * 2 ^ c.args.width % 2 ^ 64 ≡ 2 ^ c.args.width = shifted_one c.args.width 64 (omega arith) in
    let l : c.args.value % 2 ^ c.args.width ≤ c.args.value = mod-le c.args.value (2 ^ c.args.width) in
    let m : 2 ^ c.args.width ≤ 2 ^ 8 = pow_mono {j = 8} c.if-width-le8.true in
    rw (f, e) (omega arith)

pub returns-then-width-le8 : goal.returns-then-width-le8
returns-then-width-le8 c =
    let e : 1 * 2 ^ c.args.width % 2 ^ 32 ≡ 2 ^ c.args.width = shifted_one c.args.width 32 (omega arith) in
    let f : 1 * 2 ^ c.args.width % 2 ^ 64 ≡ 2 ^ c.args.width = shifted_one c.args.width 64 (omega arith) in
    rw (f, e) (sym (field_short c.args.width c.args.value c.if-width-le8.true))

pub returns-then-width-lt40 : goal.returns-then-width-lt40
returns-then-width-lt40 c = sym (field_long c.args.width c.args.value c.if-width-le8.false)

pub returns : goal.returns
returns c = sym (field_wide c.args.width c.args.value c.if-width-lt40.false (search rules))
