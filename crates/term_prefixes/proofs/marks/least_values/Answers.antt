use Rattle.term_membership.specs.Members.{holds_from}
use Rattle.term_words.specs.Words.{terms}
use Prim.Native.Nat.{ℕ, ◌*◌, ◌-◌, ◌^◌, ◌≤◌}
use mathlib.Core.Path.{◌≡◌, refl, ap, subst, ◌∙◌}
use native.Mathlib.Omega.{arith}
use borrow.Author.Rules.{rules}
use lib.Pow.{pow_mono}
use Rattle.term_prefixes.specs.Marks.{Sought, Least}
use Rattle.term_prefixes.proofs.MarkLaws.{least_none, least_more}
use Rattle.term_prefixes.proofs.marks.least_values.Goals as goal

pub loop-i-init : goal.loop-i-init
loop-i-init c = let a = c.args in (least_none (holds_from a.offset a.variables.now a.start (terms a.words.now a.start a.end)) a.width a.marks.now c.requires.2, refl, search rules)

pub fill-requires : goal.fill-requires
fill-requires c =
    let e : c.power-block.result ≡ 2 ^ (c.args.width - 8) = (c.power-block.ensures ∙ ap (λ (x : ℕ). 2 ^ x) c.hidden-shift.ensures) in
    let h : 2 ^ (c.args.width - 8) ≤ 2 ^ 56 = pow_mono {i = c.args.width - 8} {j = 56} (omega arith) in
    (c.loop-i.invariant.1, omega arith, omega arith)

pub settle-requires : goal.settle-requires
settle-requires c = (c.requires.0, c.requires.1, c.loop-i.invariant.0.all)

pub loop-i-preserved : goal.loop-i-preserved
loop-i-preserved c =
    let a = c.args in
    let l = c.loop-i in
    let g = c.fill in (
      least_more (holds_from a.offset a.variables.now a.start (terms a.words.now a.start a.end)) a.width g.new.values a.marks.now l.marks c.settle.new.marks l.i c.power-block.result (c.power-block.ensures ∙ ap (λ (x : ℕ). 2 ^ x) c.hidden-shift.ensures) g.ensures l.invariant.0 c.settle.ensures,
      g.ensures.all,
      search rules,
    )

pub returns : goal.returns
returns c =
    let a = c.args in
    let l = c.loop-i in
    let e : l.i ≡ 4 = omega (arith, l.invariant.2) in
    subst (λ (n : ℕ). Sought (holds_from a.offset a.variables.now a.start (terms a.words.now a.start a.end)) a.width (Least a.width (64 * n)) a.marks.now l.marks) e l.invariant.0
