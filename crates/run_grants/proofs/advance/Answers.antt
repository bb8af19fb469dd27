use Prim.Native.Nat.{ℕ}
use native.Mathlib.Omega.{arith}
use mathlib.Core.Path.{sym, ap, ◌∙◌}
use mathlib.Core.List.{List}
use lib.Seq.{take_all}
use Rattle.basis.specs.Limits.{table_words}
use Rattle.run_grants.specs.Runs.{grant_of}
use Rattle.run_grants.proofs.advance.Goals as goal

-- src/lib.rt:241:9
pub returns-then-table-lt-TABLE_WORDS : goal.returns-then-table-lt-TABLE_WORDS
returns-then-table-lt-TABLE_WORDS c =
    let a = c.args in
    c.advance_words.ensures ∙ ap (λ (l : List ℕ). grant_of l a.frame.now a.reading.now a.run a.steps) (sym (take_all table_words a.table.now (omega (arith, c.if-table-lt-TABLE_WORDS.true))))
