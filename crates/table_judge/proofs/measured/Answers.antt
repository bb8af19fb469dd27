use mathlib.Core.Path.{subst}
use Rattle.table_reach.specs.Reaching.{Found}
use Rattle.table_structure.proofs.Facts.{facts}
use Rattle.table_judge.proofs.Judging.{cyclic, sized}
use Rattle.table_judge.proofs.measured.Goals as goal

pub first_oversized-requires : goal.first_oversized-requires
first_oversized-requires c = let s = c in (facts s.args.table.now s.requires).long

pub returns-in-None : goal.returns-in-None
returns-in-None c = let s = c in let ws = s.args.table.now in sized ws (record { laid_out = s.requires; acyclic = subst (Found ws) c.in-None.is c.recursive_rule.ensures }) c.word.result c.first_oversized.result c.word.ensures.0 c.first_oversized.ensures

pub returns-in-Some : goal.returns-in-Some
returns-in-Some c = let ws = c.args.table.now in cyclic ws _ (subst (Found ws) c.in-Some.is c.recursive_rule.ensures).0
