use Prim.Native.Nat.{ℕ, ◌+◌, ◌*◌, ◌^◌, ◌≤◌, ◌<◌}
use native.Mathlib.Omega.{arith}
use native.Mathlib.Numerals.{add-one}
use mathlib.Core.Path.{◌≡◌, sym, ◌∙◌, ap, ap₂, subst}
use lib.ListN.{length, get_or}
use lib.Pow.{pow_mono, pow-add}
use Rattle.basis.proofs.Frames.{bytes_value, bytes_none, bytes_more}
use Rattle.run_frame.proofs.bytes.Goals as goal

-- four bytes or fewer are below 2^32
small : (i x : ℕ) → i < 5 → x < 2 ^ (8 * i) → x < 4294967296
small i x l h = let z : 2 ^ (8 * i) ≤ 2 ^ 32 = pow_mono {j = 32} (omega arith) in omega arith

-- one byte more
more : (i x b : ℕ) → x < 2 ^ (8 * i) → b < 256 → x * 256 + b < 2 ^ (8 * (i + 1))
more i x b h l =
    let e : 8 * (i + 1) ≡ 8 * i + 8 = omega arith in
    let z : 2 ^ (8 * i + 8) ≡ 2 ^ (8 * i) * 256 = pow-add 2 (8 * i) 8 in
    rw (e, z) (omega arith)

-- src/lib.rt:22:5
pub loop-i-init : goal.loop-i-init
loop-i-init c = (omega arith, sym (bytes_none c.args.frame.now c.args.q), omega arith)

-- src/lib.rt:23:15
pub overflow_mul-sum : goal.overflow_mul-sum
overflow_mul-sum c = record { fits = (let z = small c.loop-i.i c.loop-i.sum (omega arith) c.loop-i.invariant.2 in omega arith) }

-- src/lib.rt:23:15
pub overflow_add-sum : goal.overflow_add-sum
overflow_add-sum c = record { fits = (let z = small c.loop-i.i c.loop-i.sum (omega arith) c.loop-i.invariant.2 in omega arith) }

-- src/lib.rt:22:5
pub loop-i-preserved : goal.loop-i-preserved
loop-i-preserved c =
    let fs = c.args.frame.now in
    let q = c.args.q in
    let i = c.loop-i.i in
    let l : q + i < length fs = omega arith in
    let e : c.wide.result ≡ get_or fs (q + i) 0 = c.wide.ensures.0 in
    let b : get_or fs (q + i) 0 < 256 = omega arith in (
      omega arith,
      ap₂ (λ (x y : ℕ). x * 256 + y) c.loop-i.invariant.1 e ∙ (sym (bytes_more fs q i l b) ∙ ap (bytes_value fs q) (sym (add-one i))),
      more i c.loop-i.sum c.wide.result c.loop-i.invariant.2 c.wide.ensures.1,
    )

-- src/lib.rt:16:1
pub returns : goal.returns
returns c =
    let e : c.loop-i.i ≡ c.args.n = omega arith in (
      c.loop-i.invariant.1 ∙ ap (bytes_value c.args.frame.now c.args.q) e,
      subst (λ (i : ℕ). c.loop-i.sum < 2 ^ (8 * i)) e c.loop-i.invariant.2,
    )
