use mathlib.Core.Path.{◌∙◌}
use Rattle.text_store.proofs.Rooms.{room_copied}
use Rattle.text_store.proofs.stores.make_room.Goals as goal

pub returns : goal.returns
returns c = c.copy_within.ensures.after ∙ room_copied c.args.nodes.now c.args.i c.told-nodes c.requires
