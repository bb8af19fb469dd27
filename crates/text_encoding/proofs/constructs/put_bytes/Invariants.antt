use Prim.Native.Nat.{ℕ, ◌+◌, ◌*◌, ◌-◌, ◌≤◌}
use mathlib.Core.List.{[], ◌∷◌}
use Rattle.text_encoding.specs.Encoded.{packed}
use Rattle.text_encoding.proofs.Writing.{Writing}
use Rattle.text_encoding.proofs.constructs.put_bytes.Given as goal

abbrev pub invariant-loop-j : goal.invariant-loop-j
invariant-loop-j l = (l.j ≤ 8) × Writing l.initial.table l.k 8 0 (λ (m : ℕ). packed l.bytes (4 * m) ∷ []) l.table (l.k + l.j) (8 - l.j) l.j
