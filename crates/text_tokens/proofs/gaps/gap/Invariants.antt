use mathlib.Core.Path.{◌≡◌}
use mathlib.Core.Bool.{false}
use lib.ListN.{drop}
use Rattle.text_tokens.specs.Tokens.{gap_end}
use Rattle.text_tokens.proofs.gaps.gap.Given as goal

abbrev pub invariant-loop-i : goal.invariant-loop-i
invariant-loop-i l = gap_end l.comment l.i (drop l.i l.text) ≡ gap_end false l.at (drop l.at l.text)
