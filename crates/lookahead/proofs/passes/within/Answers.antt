use Rattle.lookahead.proofs.PassLaws.{is_within, is_none, is_map}
use Rattle.lookahead.specs.Sets.{Has}
use Rattle.basis.specs.Bits.{Bits}
use Rattle.lookahead.proofs.passes.within.Goals as goal

pub returns-then-low-high : goal.returns-then-low-high
returns-then-low-high c =
    let a = c.args in
    is_within (Has a.body.words) c.few.result.words a.low a.high c.capped.result c.capped-then-low-high.result c.if-low-high.true
    c.capped.ensures c.capped-then-low-high.ensures c.few.ensures

pub returns : goal.returns
returns c =
    let a = c.args in
    is_map c.empty.result.words (λ (s : Bits). ⊥) _ (λ s. ((λ e. absurd e), is_none (Has a.body.words) a.low a.high c.if-low-high.false s)) c.empty.ensures
