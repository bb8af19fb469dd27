use Rattle.term_membership.specs.Members.{holds_from}
use Rattle.term_words.specs.Words.{terms}
use mathlib.Core.Path.{ap, ◌∙◌}
use Rattle.term_words.specs.declared.Term.{Term}
use Rattle.term_membership.specs.Effects.{turn_of}
use Rattle.term_prefixes.proofs.TryLaws.{walk_begins, walk_on, walk_off, walk_out}
use Rattle.term_prefixes.proofs.tries.try_changes.Goals as goal

pub loop-at-init : goal.loop-at-init
loop-at-init c =
    let a = c.args in
    walk_begins (holds_from a.offset a.variables.now a.start (terms a.words.now a.start a.end)) a.width a.offset a.variables.now a.words.now a.start a.end a.old c.requires.2

pub offer_changes-tried-requires : goal.offer_changes-tried-requires
offer_changes-tried-requires c = (c.requires.0, c.requires.1, c.loop-at.invariant.ready)

pub returns-in_default : goal.returns-in_default
returns-in_default c =
    let a = c.args in
    let l = c.loop-at in
    walk_off (holds_from a.offset a.variables.now a.start (terms a.words.now a.start a.end)) a.width a.offset a.variables.now a.words.now a.start a.end a.old l.tried l.at l.numbers l.invariant c.loop-at-test.true (c.in_default.ensures ∙ ap (λ (x : Term). turn_of a.offset a.variables.now x l.numbers) c.term_at.ensures)

pub loop-at-preserved : goal.loop-at-preserved
loop-at-preserved c =
    let a = c.args in
    let l = c.loop-at in
    walk_on (holds_from a.offset a.variables.now a.start (terms a.words.now a.start a.end)) a.width a.offset a.variables.now a.words.now a.start a.end a.old l.tried l.at l.numbers l.invariant c.loop-at-test.true
    c.in-Some.next c.in-Some.effect
    (c.in-Some.ensures ∙ ap (λ (x : Term). turn_of a.offset a.variables.now x l.numbers) c.term_at.ensures)
    c.offer_changes-tried.result c.offer_changes-tried.ensures

pub returns : goal.returns
returns c =
    let a = c.args in
    let l = c.loop-at in
    walk_out (holds_from a.offset a.variables.now a.start (terms a.words.now a.start a.end)) a.width a.offset a.variables.now a.words.now a.start a.end a.old l.tried l.at l.numbers l.invariant c.loop-at-test.false
