use Prim.Native.Nat.{ℕ, ◌≤◌}
use mathlib.Core.Path.{◌≡◌, ap, subst, sym, ◌∙◌}
use Rattle.basis.specs.Limits.{max_constructs}
use Rattle.table_layout.specs.Constructs.{construct_at}
use Rattle.table_layout.specs.Held.{size_of}
use Rattle.table_layout.proofs.Bounds.{size_small}
use Rattle.table_first_follow.proofs.parts.size_at.Goals as goal

pub returns : goal.returns
returns c =
    let a = c.args in
    let e : c.size_of.result ≡ size_of (construct_at a.table.now a.i) = c.size_of.ensures ∙ ap size_of c.construct_at.ensures in
    (e, subst (λ (n : ℕ). n ≤ max_constructs) (sym e) (size_small a.table.now a.i))
