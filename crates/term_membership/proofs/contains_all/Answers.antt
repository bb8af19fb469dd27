use mathlib.Core.Path.{sym, ap, ◌∙◌}
use native.Mathlib.Omega.{arith}
use Rattle.term_words.specs.declared.Term.{Term}
use Rattle.term_membership.specs.Effects.{turn_of}
use Rattle.term_membership.proofs.Members.{begins, goes_on, goes_off, goes_out}
use Rattle.term_membership.proofs.contains_all.Goals as goal

pub loop-at-init : goal.loop-at-init
loop-at-init c = begins c.args.offset c.args.variables.now c.args.words.now c.args.start c.args.end c.args.values.now

pub apply_all-count-requires : goal.apply_all-count-requires
apply_all-count-requires c = c.loop-at.invariant.all

pub returns-in_default : goal.returns-in_default
returns-in_default c =
    let a = c.args in
    let l = c.loop-at in
    λ j h.
    goes_off a.offset a.variables.now a.words.now a.start a.end a.values.now l.at l.numbers l.masks l.count l.invariant c.loop-at-test.true
    (c.in_default.ensures ∙ ap (λ (x : Term). turn_of a.offset a.variables.now x l.numbers) c.term_at.ensures) j h
    ∙ c.nothing.ensures j h

pub loop-at-preserved : goal.loop-at-preserved
loop-at-preserved c =
    let a = c.args in
    let l = c.loop-at in
    goes_on a.offset a.variables.now a.words.now a.start a.end a.values.now l.at l.numbers l.masks l.count l.invariant c.loop-at-test.true
    c.in-Some.next c.in-Some.effect
    (c.in-Some.ensures ∙ ap (λ (x : Term). turn_of a.offset a.variables.now x l.numbers) c.term_at.ensures)
    c.apply_all-count.new.masks c.apply_all-count.result c.apply_all-count.ensures

pub bounds-masks-0 : goal.bounds-masks-0
bounds-masks-0 c = omega (arith, c.loop-at.invariant.all)

pub returns : goal.returns
returns c =
    let a = c.args in
    let l = c.loop-at in
    λ j h.
    goes_out a.offset a.variables.now a.words.now a.start a.end a.values.now l.at l.numbers l.masks l.count l.invariant c.loop-at-test.false j h
    ∙ c.ended.ensures l.masks (sym c.same.ensures) j h
