use Prim.Native.Nat.{ℕ}
use lib.ListN.{replicate}
use Rattle.term_words.specs.Words.{terms}
use mathlib.Core.Path.{refl}
use Rattle.term_prefixes.proofs.ToldLaws.{told_window}
use Rattle.term_prefixes.proofs.windows_of.Goals as goal

pub returns : goal.returns
returns c =
    let a = c.args in
    let l = c.least_values in
    let t = c.try_changes-last in
    λ k h.
    told_window a.offset a.variables.now a.start (terms a.words.now a.start a.end) a.width l.new.marks l.ensures
    (record { values = replicate {A = ℕ} 64 0; waiting = 0; marks = l.new.marks }) t.result refl t.ensures c.settle.new.marks c.settle.ensures k h
