-- What the bound of condition 3 leaves of a count of steps.
-- Assumes nothing.
use Prim.Native.Nat.{ℕ, ◌+◌, ◌*◌, ◌≤◌, ◌<◌}
use native.Mathlib.Nat.{mul-le-mul}
use native.Mathlib.Omega.{arith}
use borrow.Author.Tests.{leb-true, ltb-true}
use mathlib.Core.Path.{◌≡◌, refl}
use mathlib.Core.Bool.{Bool, true, false, cond, false≢true}
use mathlib.Core.List.{List}
use lib.Dec.{leb, ltb}
use lib.ListN.{length}
use Rattle.basis.specs.Limits.{max_weight, max_frame_bytes, max_frame_bits}
use Rattle.table_layout.specs.Places.{weight_of}
use Rattle.run_actions.specs.Acts.{bits_of}
use Rattle.run_steps.specs.Steps.{in_bound}

-- a count of steps within the bound may be raised
pub bound_small : (ws fs : List ℕ) (n : ℕ) → in_bound ws fs n ≡ true → length fs ≤ max_frame_bytes → n < 18446744073709551615
bound_small ws fs n h l = within (leb (weight_of ws) max_weight) refl h
  where
    within : (t : Bool) → leb (weight_of ws) max_weight ≡ t → cond t (ltb n (weight_of ws * (bits_of fs + 1))) false ≡ true → n < 18446744073709551615
    within true e k =
        let w : weight_of ws * (bits_of fs + 1) ≤ max_weight * (max_frame_bits + 1) = mul-le-mul {m₂ = max_frame_bits + 1} (leb-true (weight_of ws) max_weight e) (omega arith) in
        let m : n < weight_of ws * (bits_of fs + 1) = ltb-true n (weight_of ws * (bits_of fs + 1)) k in
        omega arith
    within false e k = absurd (false≢true k)
