-- The nodes of the grammar that a table's words hold.
-- Assumes nothing.
use Prim.Native.Nat.{ℕ, ◌≤◌, ◌<◌}
use mathlib.Core.Path.{◌≡◌}
use mathlib.Core.List.{List, []}
use native.Mathlib.Omega.{arith}
use borrow.Author.Tests.{ne_eqb, eq-eqb}
use Rattle.table_layout.specs.Constructs.{construct_at}
use Rattle.table_layout.specs.Held.{held, node_of, use_node, opening}
use Rattle.table_first_follow.specs.Sets.{sets_held}
use Rattle.table_layout.proofs.Bounds.{missing_past}
use Rattle.theory.specs.Grammar.{alternative}

-- ---- which node a number has

pub node_inside : (ws : List ℕ) (i : ℕ) → i < 256 → (held ws).node i ≡ node_of ws i (construct_at ws i)
unfolding held
node_inside ws i h = simp (ne_eqb i opening (λ e. omega arith))

pub node_opening : (ws : List ℕ) (i : ℕ) → i ≡ opening → (held ws).node i ≡ use_node ws 0
unfolding held
node_opening ws i e = simp (eq-eqb i opening e)

pub node_past : (ws : List ℕ) (i : ℕ) → sets_held ≤ i → (held ws).node i ≡ alternative []
unfolding held node_of
node_past ws i h = simp (ne_eqb i 256 (λ e. omega arith), missing_past ws i (omega arith))
