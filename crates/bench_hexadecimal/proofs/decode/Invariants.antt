use Prim.Native.Nat.{◌*◌}
use mathlib.Core.Path.{◌≡◌}
use lib.ListN.{length, drop}
use lib.Seq.{sets}
use Rattle.bench_hexadecimal.specs.Lines.{bytes_of}
use Rattle.bench_hexadecimal.proofs.decode.Given as goal

abbrev pub invariant-loop-k : goal.invariant-loop-k
invariant-loop-k l = (length l.bytes ≡ length l.initial.bytes) × (sets l.initial.bytes 0 (bytes_of l.line) ≡ sets l.bytes l.k (bytes_of (drop (2 * l.k) l.line)))
