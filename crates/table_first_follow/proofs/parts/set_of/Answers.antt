use Rattle.table_first_follow.proofs.RoundLaws.{set_loaded, set_past}
use Rattle.table_first_follow.proofs.parts.set_of.Goals as goal

pub returns-then-i-lt-SETS_HELD : goal.returns-then-i-lt-SETS_HELD
returns-then-i-lt-SETS_HELD c = set_loaded c.args.family.now c.args.i c.empty.result.words c.load.result.words c.union.result.words c.empty.ensures c.load.ensures c.union.ensures

pub returns : goal.returns
returns c = set_past c.args.family.now c.args.i c.empty-2.result.words c.requires c.if-i-lt-SETS_HELD.false c.empty-2.ensures
