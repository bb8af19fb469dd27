use Prim.Native.Nat.{ℕ, ◌/◌, ◌≤◌, ◌<◌}
use native.Mathlib.Omega.{arith}
use borrow.Author.Tests.{ltb-true, ltb-false}
use mathlib.Core.Path.{sym, subst}
use mathlib.Core.List.{List}
use lib.Dec.{ltb}
use lib.ListN.{length}
use Rattle.basis.specs.Limits.{max_frame_bytes}
use Rattle.run_matcher.specs.Opening.{Answered}
use Rattle.run_matcher.proofs.Answers.{answered}
use Rattle.run_matcher.proofs.first_refusal.Reads as first-refusal-reads
use Rattle.table_judge.proofs.sound.sound.Reads as sound-reads
use Rattle.run_matcher.proofs.tried.Goals as goal

-- src/lib.rt:39:1
pub returns : goal.returns
returns c =
    let ws : List ℕ = c.args.table.now in
    let fs : List ℕ = c.args.frame.now in
    let rs : List ℕ = c.args.reading.now in
    let n : ℕ = length rs / 16 in
    subst (Answered ws fs rs) (sym c.first_refusal.ensures)
    (answered ws fs rs c.sound-unsound.result (ltb max_frame_bytes (length fs)) (ltb n (length fs)) c.sound-unsound.ensures
    (ltb-true max_frame_bytes (length fs)) (ltb-false max_frame_bytes (length fs))
    (λ e. (let l : n < length fs = ltb-true n (length fs) e in omega arith)) (λ e. (let l : length fs ≤ n = ltb-false n (length fs) e in omega arith)))
