use Prim.Native.Nat.{ℕ, ◌-◌, ◌<◌}
use borrow.Author.Rules.{rules}
use lib.ListN.{drop}
use mathlib.Core.List.{List}
use mathlib.Core.Path.{◌≡◌, refl, sym, ap, subst, ◌∙◌}
use native.Mathlib.Omega.{arith}
use Rattle.lookahead.specs.Sets.{Has}
use Rattle.table_first_follow.specs.Follows.{Handed}
use Rattle.table_first_follow.specs.Parts.{siblings}
use Rattle.table_first_follow.specs.Rounds.{first_of, within, FollowStep}
use Rattle.table_first_follow.proofs.FollowLaws.{hand_start, hand_more, placed_at, placed_length}
use Rattle.table_first_follow.proofs.follow.hand.Goals as goal

pub places-count-requires : goal.places-count-requires
places-count-requires c = (search rules, c.requires.2)

pub loop-k-init : goal.loop-k-init
loop-k-init c =
    let a = c.args in
    let p = c.places-count.ensures in
    let l = c.places-count.auto.out in (
      hand_start a.table.now a.joined a.set.words (siblings a.table.now a.start a.end) c.places-count.result a.family.now
          (placed_length c.places-count.result c.places-count.new.out (siblings a.table.now a.start a.end) l p.1 p.0) c.requires.0 c.requires.4,
      p.0,
      omega arith,
      p.1,
      l,
    )

pub bounds-places-k : goal.bounds-places-k
bounds-places-k c = omega (arith, c.loop-k.invariant.2, c.loop-k.invariant.3, c.loop-k.invariant.4, c.loop-k-test.true)

pub give-grew-requires : goal.give-grew-requires
give-grew-requires c = c.loop-k.invariant.0.size

pub before-tail-requires : goal.before-tail-requires
before-tail-requires c = (c.requires.1, c.loop-k.invariant.0.tails.proper)

pub loop-k-preserved : goal.loop-k-preserved
loop-k-preserved c =
    let a = c.args in
    let l = c.loop-k in
    let i = l.invariant in
    let is = siblings a.table.now a.start a.end in
    let n = c.places-count.result in
    let h : l.k - 1 < n = omega (arith, i.2, c.loop-k-test.true) in (
      hand_more a.table.now a.joined a.set.words is a.first.now c.requires.1 c.requires.3 c.requires.5 l.k _ l.tail.words c.before-tail.result.words a.family.now l.family c.give-grew.new.family l.grew c.give-grew.result _
          c.loop-k-test.true (placed_at n (l.k - 1) c.places-count.new.out is i.1 h) refl i.0 c.give-grew.ensures c.give-grew.auto.family c.before-tail.ensures,
      i.1,
      omega (arith, i.2),
      i.3,
      i.4,
    )

pub shape_of-family : goal.shape_of-family
shape_of-family c = c.loop-k.invariant.0.size ∙ sym c.requires.0

pub returns : goal.returns
returns c =
    let a = c.args in
    let l = c.loop-k in
    let is = siblings a.table.now a.start a.end in
    subst (λ (s : List ℕ). FollowStep a.table.now (λ words. Handed a.joined (first_of a.table.now) (Has a.set.words) (within words) s) a.family.now l.family l.grew)
    (let z : l.k ≡ 0 = omega (arith, c.loop-k-test.false) in ap (λ (n : ℕ). drop n is) z) l.invariant.0.step
