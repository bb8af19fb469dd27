use mathlib.Core.Path.{◌≡◌, refl, subst}
use native.Mathlib.Omega.{arith}
use Prim.Native.Nat.{ℕ}
use borrow.Author.Rules.{rules}
use lib.Dec.{eqb}
use lib.ListN.{get_or}
use Rattle.term_prefixes.specs.Marks.{Sought, Among}
use Rattle.term_prefixes.proofs.MarkLaws.{among_none, among_more}
use Rattle.term_prefixes.proofs.marks.mark_all.Goals as goal

pub loop-j-init : goal.loop-j-init
loop-j-init c = let a = c.args in ((λ f h. among_none f a.width a.values.now a.marks.now c.requires.1), c.requires.1, search rules)

pub loop-j-preserved : goal.loop-j-preserved
loop-j-preserved c =
    let a = c.args in
    let l = c.loop-j in
    let t = c.loop-j-test.true in (
      (λ f h. among_more f a.width a.values.now a.marks.now l.marks c.mark.new.marks l.j (l.invariant.0 f h) (c.mark.ensures f (h l.j t))),
      (c.mark.ensures (λ z. eqb (get_or a.truths.now l.j 0) 3) refl).all,
      search rules,
    )

pub returns : goal.returns
returns c =
    let a = c.args in
    let l = c.loop-j in
    let e : l.j ≡ 64 = omega (arith, l.invariant.2) in
    λ f h. subst (λ (n : ℕ). Sought f a.width (Among a.values.now n) a.marks.now l.marks) e (l.invariant.0 f h)
