use mathlib.Core.Path.{◌≡◌, sym, ap, subst, ◌∙◌}
use Prim.Native.Nat.{ℕ, ◌-◌, ◌≤◌}
use native.Mathlib.Omega.{arith}
use Rattle.basis.specs.Patterns.{offset}
use Rattle.term_prefixes.proofs.Windows.{offset_few}
use Rattle.term_prefixes.proofs.first_bit.Goals as goal

pub returns : goal.returns
returns c =
    let a = c.args in
    let e : c.offset_of.result ≡ offset a.signed (a.width - (a.width - 8)) = c.offset_of.ensures ∙ ap (λ (x : ℕ). offset a.signed (a.width - x)) c.hidden-shift.ensures in
    (e, subst (λ (n : ℕ). n ≤ 128) (sym e) (offset_few a.signed (a.width - (a.width - 8)) (omega arith)))
