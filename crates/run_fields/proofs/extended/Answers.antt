use Prim.Native.Nat.{ℕ, suc, ◌-◌, ◌^◌, ◌≤◌, ◌<◌}
use mathlib.Core.Path.{◌≡◌, sym, ap, ◌∙◌}
use mathlib.Core.Logic.{inl, inr}
use native.Mathlib.Omega.{arith}
use lib.Pow.{pow_mono}
use Rattle.basis.specs.Patterns.{offset}
use Rattle.basis.proofs.PatternLaws.{value_low, value_high, offset_double}
use Rattle.run_fields.specs.Fields.{in_64_bits}
use Rattle.run_fields.proofs.extended.Goals as goal

pub returns-then-pattern-half : goal.returns-then-pattern-half
returns-then-pattern-half c =
    let a = c.args in
    let h : a.pattern < offset a.signed a.w = omega arith in
    ap in_64_bits (sym (value_low a.signed a.w a.pattern c.requires.1 (inl h)))

pub overflow_sub-result-then-half-gt0-2 : goal.overflow_sub-result-then-half-gt0-2
overflow_sub-result-then-half-gt0-2 c =
    let a = c.args in
    let d : a.pattern - offset a.signed a.w < offset a.signed a.w = offset_double a.signed a.w a.pattern c.requires.1 (omega arith) in
    omega arith

pub overflow_sub-result-then-half-gt0-3 : goal.overflow_sub-result-then-half-gt0-3
overflow_sub-result-then-half-gt0-3 c =
    let a = c.args in
    let d : a.pattern - offset a.signed a.w < offset a.signed a.w = offset_double a.signed a.w a.pattern c.requires.1 (omega arith) in
    let p : a.pattern < 2 ^ a.w = c.requires.1 in
    let q : 2 ^ a.w ≤ 2 ^ 64 = pow_mono {j = 64} c.requires.0 in
    omega arith

pub returns-then-half-gt0 : goal.returns-then-half-gt0
returns-then-half-gt0 c =
    let a = c.args in
    let o : ℕ = offset a.signed a.w in
    let e : c.offset_of-half.result ≡ o = c.offset_of-half.ensures in
    let l : o ≤ a.pattern = omega arith in
    let k : a.pattern - o < o = offset_double a.signed a.w a.pattern c.requires.1 (omega arith) in
    let same : (x : ℕ) → 18446744073709551615 - x ≡ 2 ^ 64 - suc x = (λ x. omega arith) in
    let one : (n d : ℕ) → n - 1 - d ≡ n - suc d = (λ n d. omega arith) in
    let q = ap (λ (n : ℕ). 18446744073709551615 - (n - 1 - (a.pattern - n))) e ∙ ap (18446744073709551615 -◌) (one o (a.pattern - o)) ∙ same (o - suc (a.pattern - o)) in
    q ∙ ap in_64_bits (sym (value_high a.signed a.w a.pattern c.requires.1 l k))

pub returns : goal.returns
returns c =
    let a = c.args in
    let h : offset a.signed a.w ≡ 0 = omega arith in
    ap in_64_bits (sym (value_low a.signed a.w a.pattern c.requires.1 (inr h)))
