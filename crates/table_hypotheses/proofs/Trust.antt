-- From soundness follows all that the theory asks.
-- Assumes nothing.
use Prim.Native.Nat.{ℕ}
use mathlib.Core.List.{List}
use native.Mathlib.Omega.{arith}
use Rattle.table_structure.proofs.StaticLaw.{static, width_positive}
use Rattle.table_weights.proofs.Heights.{weight_at}
use Rattle.table_weights.proofs.Rooms.{rooms}
use Rattle.table_judge.specs.Sound.{Sound}
use Rattle.table_hypotheses.specs.Soundness.{Trusted}
use Rattle.table_hypotheses.proofs.Hypothesis.{lexical_of_sound, hypotheses_of}
use Rattle.table_hypotheses.proofs.Reliability.{outweighs, weight_stored, housed, room_most}

pub trusted : (ws : List ℕ) → Sound ws → Trusted ws
trusted ws s =
    record {
      static = static ws;
      hypotheses = hypotheses_of s;
      lexical = lexical_of_sound s;
      weight = λ c i. weight_at ws i;
      outweighs = outweighs s;
      weight_stored = weight_stored s;
      rooms = rooms ws;
      has_room = housed s;
      room_most = omega (arith, room_most s);
      one_capture_a_bit = λ i e. width_positive ws i e;
    }
