use Prim.Native.Nat.{◌-◌, ◌≤◌}
use mathlib.Core.Path.{◌≡◌, ◌∙◌}
use lib.ListN.{length}
use lib.Seq.{paste}
use Rattle.basis.specs.Limits.{table_words}
use Rattle.text_admission.proofs.copying.copy.Given as goal

abbrev pub invariant-loop-k : goal.invariant-loop-k
invariant-loop-k l = (l.k ≤ table_words) × (l.table ≡ paste l.initial.table 0 l.words l.k) × (length l.table ≡ length l.initial.table)
