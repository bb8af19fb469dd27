use Rattle.lookahead.proofs.SetLaws.{empty_is}
use Rattle.basis.specs.Bits.{Bits}
use Rattle.lookahead.proofs.empty.Goals as goal

pub returns : goal.returns
returns c = empty_is (λ (s : Bits). ⊥) (λ s a. a)
