use Prim.Native.Nat.{ℕ, suc}
use mathlib.Core.Path.{◌≡◌, sym, subst, ◌∙◌}
use native.Mathlib.Omega.{arith}
use Rattle.term_words.specs.Words.{terms}
use Rattle.term_membership.specs.Members.{holds_from}
use Rattle.term_membership.specs.declared.Effect.{Effect}
use Rattle.term_prefixes.specs.Marks.{Offered, ChangesAt}
use Rattle.term_prefixes.proofs.TryLaws.{offered_none, offered_more, offered_as, hits_fit}
use Rattle.term_prefixes.proofs.tries.offer_changes.Goals as goal

pub returns-in-None : goal.returns-in-None
returns-in-None c =
    let a = c.args in
    subst (λ (e : Effect). Offered (holds_from a.offset a.variables.now a.start (terms a.words.now a.start a.end)) a.width (ChangesAt e) a.old a.old) (sym c.in-None.is)
    (offered_none (holds_from a.offset a.variables.now a.start (terms a.words.now a.start a.end)) a.width a.old c.requires.2)

pub returns-in-Within : goal.returns-in-Within
returns-in-Within c =
    let a = c.args in
    let f = (holds_from a.offset a.variables.now a.start (terms a.words.now a.start a.end)) in
    let x : ℕ = c.in-Within.low in
    let y : ℕ = c.in-Within.last in
    let z : ℕ = c.after.result in
    subst (λ (e : Effect). Offered (holds_from a.offset a.variables.now a.start (terms a.words.now a.start a.end)) a.width (ChangesAt e) a.old c.offer.result) (sym c.in-Within.is)
    (offered_more f a.width (λ (v : ℕ). x ≡ v) (λ (v : ℕ). suc y ≡ v) a.old c.offer-next.result c.offer.result c.offer-next.ensures
    (offered_as f a.width (λ (v : ℕ). z ≡ v) (λ (v : ℕ). suc y ≡ v) (λ k v q h. c.after.ensures (let l = hits_fit f a.width k v c.requires.0 h in omega arith) ∙ q) c.offer-next.result c.offer.result c.offer.ensures))

pub returns-in-From : goal.returns-in-From
returns-in-From c =
    let a = c.args in
    subst (λ (e : Effect). Offered (holds_from a.offset a.variables.now a.start (terms a.words.now a.start a.end)) a.width (ChangesAt e) a.old c.offer-in-From.result) (sym c.in-From.is)
    c.offer-in-From.ensures

pub returns-in-Or : goal.returns-in-Or
returns-in-Or c =
    let a = c.args in
    subst (λ (e : Effect). Offered (holds_from a.offset a.variables.now a.start (terms a.words.now a.start a.end)) a.width (ChangesAt e) a.old a.old) (sym c.in-Or.is)
    (offered_none (holds_from a.offset a.variables.now a.start (terms a.words.now a.start a.end)) a.width a.old c.requires.2)

pub returns-in-Except : goal.returns-in-Except
returns-in-Except c =
    let a = c.args in
    subst (λ (e : Effect). Offered (holds_from a.offset a.variables.now a.start (terms a.words.now a.start a.end)) a.width (ChangesAt e) a.old a.old) (sym c.in-Except.is)
    (offered_none (holds_from a.offset a.variables.now a.start (terms a.words.now a.start a.end)) a.width a.old c.requires.2)
