use Prim.Native.Nat.{ℕ, ◌-◌, ◌<◌}
use mathlib.Core.Path.{◌≡◌, sym, ap, subst, ◌∙◌}
use native.Mathlib.Omega.{arith}
use lib.Dec.{ltb}
use lib.ListN.{get_or}
use Rattle.basis.specs.Patterns.{offset, halves_swapped}
use Rattle.term_prefixes.proofs.Windows.{strings, swapped_less, tells_below, tells_above, tells_block}
use Rattle.term_prefixes.proofs.leads.Goals as goal

pub returns-then-number-strings : goal.returns-then-number-strings
returns-then-number-strings c = let a = c.args in λ w s i xs q p t. tells_below w s i xs a.number a.strings q c.if-number-strings.true

pub returns-then-strings-leading : goal.returns-then-strings-leading
returns-then-strings-leading c = let a = c.args in λ w s i xs q p t. tells_above w s i xs a.number a.strings q c.if-number-strings.false c.if-strings-leading.true

pub returns : goal.returns
returns c =
    let a = c.args in
    let n : ℕ = a.number - a.strings in
    let r : ℕ = c.swapped-turned.result in
    λ w s i xs q p t.
    let l : n < strings w = omega (arith, q, c.if-strings-leading.false) in
    let z : r ≡ halves_swapped (offset s (w - (w - 8))) n = c.swapped-turned.ensures.0 ∙ ap (λ (x : ℕ). halves_swapped x n) p in
    let y : r < strings w = subst (λ (x : ℕ). x < strings w) (sym z) (swapped_less s (w - (w - 8)) n l) in
    tells_block w s i xs a.number a.strings r (ltb 0 (get_or a.marks.now r 0)) q c.if-number-strings.false c.if-strings-leading.false z (t r y)
