use mathlib.Core.Path.{refl}
use Rattle.report_chain_steps.proofs.Tails.{tail_nothing}
use Rattle.report_chain_checks.proofs.starts.at_nothing.Goals as goal

pub returns : goal.returns
returns c = λ ws items. tail_nothing ws items _ refl refl refl refl
