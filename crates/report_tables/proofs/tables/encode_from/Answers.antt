use Prim.Native.Nat.{ℕ}
use mathlib.Core.Path.{subst}
use mathlib.Core.List.{List}
use Rattle.text_admission.proofs.HeaderPlaces.{rest}
use Rattle.report_tables.specs.Tables.{Encoding}
use Rattle.report_tables.proofs.tables.encode_from.Goals as goal

pub returns : goal.returns
returns c = let s = c in subst (λ (xs : List ℕ). Encoding xs c.encode_rules.new.words c.encode_rules.result) (rest s.args.text.now s.args.base) c.encode_rules.ensures
