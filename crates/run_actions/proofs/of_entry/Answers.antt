use borrow.Author.Tests.{le-leb, lt-leb}
use native.Mathlib.Omega.{arith}
use Prim.Native.Nat.{ℕ, ◌+◌}
use native.Mathlib.Nat.{add-zero}
use mathlib.Core.Path.{◌≡◌, sym, ap, ap₂, ◌∙◌}
use mathlib.Core.Bool.{Bool, true, false, cond}
use mathlib.Core.List.{List}
use lib.Dec.{leb}
use lib.IntN.{ℤ}
use lib.ListN.{take}
use Rattle.table_layout.specs.Places.{word, construct_word, construct_count}
use Rattle.table_layout.specs.Constructs.{construct_of, construct_at}
use Rattle.table_layout.specs.declared.Construct.{Construct}
use Rattle.run_actions.specs.Acts.{construct_act, known_values}
use Rattle.run_actions.specs.declared.Act.{Act}
use Rattle.run_actions.proofs.Told.{told_at, by_word}
use Rattle.run_actions.proofs.of_entry.Goals as goal

pub returns-then-word_within-end : goal.returns-then-word_within-end
returns-then-word_within-end c =
    let a = c.args in
    let ws = a.table.now in
    let vs = known_values ws a.values.now in
    let e : leb (a.i + construct_word ws a.i 1) (construct_count ws) ≡ false =
    ap₂ (λ (x y : ℕ). leb (a.i + x) y) (sym c.word_within-size.ensures.0) (sym c.word_within.ensures.0) ∙ lt-leb _ _ c.if-word_within-end.true in
    ap (λ (t : Bool). cond t (construct_act ws a.frame.now vs a.p a.i a.k (construct_at ws a.i)) Act.Broken) (sym e)
    ∙ by_word ws a.frame.now vs a.p a.i a.k (omega arith)

pub returns : goal.returns
returns c =
    let a = c.args in
    let ws = a.table.now in
    let fs = a.frame.now in
    let vs = known_values ws a.values.now in
    let size = c.word_within-size in
    let e : leb (a.i + construct_word ws a.i 1) (construct_count ws) ≡ true =
    ap₂ (λ (x y : ℕ). leb (a.i + x) y) (sym size.ensures.0) (sym c.word_within.ensures.0) ∙ le-leb _ _ c.if-word_within-end.false in
    let w3 = c.word_within-kind in
    let w4 = c.word_within-a in
    let w5 = c.word_within-b in
    let w6 = c.word_within-c in
    let w7 = c.word_within-d in
    let w8 = c.word_within-count in
    let x : construct_of a.i w3.result size.result w4.result w5.result w6.result w7.result ≡ construct_at ws a.i =
    told_at ws a.i _ _ _ _ _ _ (omega arith) (w3.ensures.0 ∙ ap (word ws) (sym (add-zero _))) size.ensures.0 w4.ensures.0 w5.ensures.0 w6.ensures.0 w7.ensures.0 in
    c.of_words.ensures
    ∙ (ap₂ (λ (l : List ℤ) (y : Construct). construct_act ws fs l a.p a.i a.k y) (c.known.ensures ∙ ap (λ (n : ℕ). take n a.values.now) w8.ensures.0) x
    ∙ (ap (λ (t : Bool). cond t (construct_act ws fs vs a.p a.i a.k (construct_at ws a.i)) Act.Broken) (sym e) ∙ by_word ws fs vs a.p a.i a.k (omega arith)))
