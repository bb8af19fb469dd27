-- The bytes read so far are a number.
use Rattle.std.proofs.Common.{◌≡◌, ◌*◌, ◌^◌, ◌≤◌, ◌<◌}
use Rattle.basis.proofs.Frames.{bytes_value}
use Rattle.run_frame.proofs.bytes.Given as goal

abbrev pub invariant-loop-i : goal.invariant-loop-i
invariant-loop-i l = (l.i ≤ l.n) × (l.sum ≡ bytes_value l.frame l.q l.i) × (l.sum < 2 ^ (8 * l.i))
