use Prim.Native.Nat.{ℕ, ◌-◌}
use native.Mathlib.Omega.{arith}
use mathlib.Core.Path.{◌≡◌, sym, ap}
use lib.ListN.{take}
use lib.Seq.{take_all}
use Rattle.run_actions.proofs.known.Goals as goal

pub returns-then-count-values : goal.returns-then-count-values
returns-then-count-values c =
    let a = c.args in
    ap (λ (n : ℕ). take n a.values.now) (let z : a.count - 0 ≡ a.count = omega arith in z)

pub returns : goal.returns
returns c =
    let a = c.args in
    sym (take_all a.count a.values.now (omega arith))
