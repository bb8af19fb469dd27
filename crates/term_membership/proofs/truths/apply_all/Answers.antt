use mathlib.Core.Path.{sym, ap, ◌∙◌}
use lib.ListN.{get_or}
use Rattle.term_membership.specs.Truths.{applied, passes, waiting}
use Rattle.term_membership.specs.declared.Effect.{Effect}
use Rattle.term_membership.proofs.Rounds.{within_applied, from_applied, tested_first}
use Rattle.term_membership.proofs.truths.apply_all.Goals as goal

pub returns-in-None : goal.returns-in-None
returns-in-None c =
    let s = c in
    (s.requires, λ j h. ap (λ (e : Effect). applied e (waiting s.args.masks.now s.args.count j) (get_or s.args.values.now j 0)) (sym c.in-None.is))

pub returns-in-Within : goal.returns-in-Within
returns-in-Within c =
    let s = c in
    let n = c.note.ensures (λ j. passes s.args.effect (get_or s.args.values.now j 0)) (tested_first s.args.effect s.args.values.now c.tested.result c.tested.ensures) in
    (n.0, λ j h. n.1 j h ∙ within_applied s.args.effect _ _ c.in-Within.is (waiting s.args.masks.now s.args.count j) (get_or s.args.values.now j 0))

pub returns-in-From : goal.returns-in-From
returns-in-From c =
    let s = c in
    let n = c.note-in-From.ensures (λ j. passes s.args.effect (get_or s.args.values.now j 0)) (tested_first s.args.effect s.args.values.now c.tested-in-From.result c.tested-in-From.ensures) in
    (n.0, λ j h. n.1 j h ∙ from_applied s.args.effect _ c.in-From.is (waiting s.args.masks.now s.args.count j) (get_or s.args.values.now j 0))

pub returns-in-Or : goal.returns-in-Or
returns-in-Or c =
    let s = c in
    let n = c.join.ensures in
    (n.0, λ j h. n.1 j h ∙ ap (λ (e : Effect). applied e (waiting s.args.masks.now s.args.count j) (get_or s.args.values.now j 0)) (sym c.in-Or.is))

pub returns-in-Except : goal.returns-in-Except
returns-in-Except c =
    let s = c in
    let n = c.join-in-Except.ensures in
    (n.0, λ j h. n.1 j h ∙ ap (λ (e : Effect). applied e (waiting s.args.masks.now s.args.count j) (get_or s.args.values.now j 0)) (sym c.in-Except.is))
