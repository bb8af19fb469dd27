use Prim.Native.Nat.{ℕ, ◌-◌, ◌*◌, ◌/◌, ◌%◌, ◌^◌, ◌<◌}
use native.Mathlib.Omega.{arith}
use mathlib.Core.Path.{◌≡◌, sym, subst}
use lib.ListN.{take, drop}
use Rattle.basis.specs.Bits.{value, frame_bits}
use Rattle.basis.proofs.Frames.{value_take_less}
use Rattle.run_frame.proofs.Reading.{bits_in_eight}
use Rattle.run_frame.proofs.bits.Goals as goal

pub returns-then-q-frame : goal.returns-then-q-frame
returns-then-q-frame c =
    let fs = c.args.frame.now in
    let p = c.args.p in
    let w = c.args.w in
    let e : c.eight.result * 2 ^ (p % 8) % 2 ^ 64 / 2 ^ (64 - w) ≡ value (take w (drop p (frame_bits fs))) = bits_in_eight fs p c.eight.result w (omega arith) (omega arith) c.eight.ensures in
    (e, subst (λ (x : ℕ). x < 2 ^ w) (sym e) (value_take_less w (drop p (frame_bits fs))))
