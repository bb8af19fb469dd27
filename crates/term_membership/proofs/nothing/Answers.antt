use Prim.Native.Nat.{ℕ}
use mathlib.Core.Path.{sym, ap}
use lib.Dec.{eqb}
use lib.ListN.{get_or-replicate}
use Rattle.term_membership.proofs.nothing.Goals as goal

pub returns : goal.returns
returns c = λ j h. sym (ap (λ (x : ℕ). eqb x 3) (get_or-replicate {A = ℕ} 64 j 0 0 h))
