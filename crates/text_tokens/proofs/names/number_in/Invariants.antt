use Prim.Native.Nat.{◌+◌, ◌-◌, ◌≤◌}
use mathlib.Core.Path.{◌≡◌}
use lib.ListN.{length, drop}
use Rattle.text_header.specs.Header.{lines}
use Rattle.text_tokens.specs.Names.{word_number}
use Rattle.text_tokens.proofs.names.number_in.Given as goal

abbrev pub invariant-loop-at : goal.invariant-loop-at
invariant-loop-at l = (l.at ≤ length l.words) × (l.k ≤ l.at + 1) × (word_number l.k (lines (drop l.at l.words)) l.name ≡ word_number 1 (lines l.words) l.name)

abbrev pub decreases-loop-at : goal.decreases-loop-at
decreases-loop-at l = length l.words - l.at
