use mathlib.Core.Path.{ap, ◌∙◌}
use Rattle.basis.specs.Bits.{Bits, bits_of}
use Rattle.basis.specs.Patterns.{pattern_value}
use Rattle.term_integers.proofs.Laws.{back}
use Rattle.term_evaluation.specs.Patterns.{clamped}
use Rattle.run_actions.proofs.Wholes.{read_pattern}
use Rattle.run_actions.proofs.number_at.Goals as goal

pub returns : goal.returns
returns c =
    let a = c.args in
    let e = ap (bits_of a.width) c.bits-pattern.ensures.0 ∙ read_pattern a.frame.now a.p a.width c.requires.0 in
    back c.value_of.result c.value_of.type_inv ∙ c.value_of.ensures ∙ ap (λ (s : Bits). clamped (pattern_value a.signed s)) e
