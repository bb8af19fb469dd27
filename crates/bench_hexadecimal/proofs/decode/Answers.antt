use Prim.Native.Nat.{ℕ, ◌+◌, ◌*◌}
use mathlib.Core.Path.{refl, sym, ap, ◌∙◌}
use lib.ListN.{set, drop, length-set}
use lib.Seq.{sets}
use Rattle.bench_hexadecimal.specs.Lines.{bytes_of}
use Rattle.bench_hexadecimal.proofs.Decoding.{bytes_turn, bytes_end}
use Rattle.bench_hexadecimal.proofs.decode.Goals as goal

pub loop-k-init : goal.loop-k-init
loop-k-init c = (refl, refl)

pub loop-k-preserved : goal.loop-k-preserved
loop-k-preserved c = (length-set c.loop-k.bytes c.loop-k.k c.byte.result ∙ c.loop-k.invariant.0, c.loop-k.invariant.1 ∙ bytes_turn c.args.line.now c.loop-k.k c.loop-k.bytes c.loop-k-test.true ∙ ap (λ (x : ℕ). sets (set c.loop-k.bytes c.loop-k.k x) (c.loop-k.k + 1) (bytes_of (drop (2 * (c.loop-k.k + 1)) c.args.line.now))) (sym c.byte.ensures))

pub shape_of-bytes : goal.shape_of-bytes
shape_of-bytes c = c.loop-k.invariant.0

pub returns : goal.returns
returns c = sym (c.loop-k.invariant.1 ∙ bytes_end c.args.line.now c.loop-k.k c.loop-k.bytes c.loop-k-test.false)
