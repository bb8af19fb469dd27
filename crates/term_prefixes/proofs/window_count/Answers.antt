use mathlib.Core.Path.{◌≡◌, sym, ap, subst, ◌∙◌}
use Prim.Native.Nat.{ℕ, ◌-◌, ◌^◌, ◌≤◌}
use Rattle.term_prefixes.proofs.Windows.{strings}
use Rattle.term_prefixes.proofs.MarkLaws.{few}
use Rattle.term_prefixes.proofs.window_count.Goals as goal

pub returns : goal.returns
returns c =
    let a = c.args in
    let e : c.power.result ≡ strings a.width = c.power.ensures ∙ ap (λ (x : ℕ). 2 ^ (a.width - x)) c.hidden-shift.ensures in
    (e, subst (λ (n : ℕ). n ≤ 256) (sym e) (few a.width))
