use Rattle.basis.specs.Limits.{max_constructs}
use Rattle.text_store.proofs.Putting.{node_put}
use Rattle.text_store.specs.Store.{put_node}
use borrow.Author.Tests.{le-ltb}
use Rattle.text_store.proofs.stores.put_node.Goals as goal

-- src/words.rt:165:9
pub returns-then-i-ge-MAX_CONSTRUCTS : goal.returns-then-i-ge-MAX_CONSTRUCTS
unfolding put_node
returns-then-i-ge-MAX_CONSTRUCTS c = rw (le-ltb c.args.i max_constructs c.if-i-ge-MAX_CONSTRUCTS.true)

-- src/words.rt:150:1
pub returns : goal.returns
returns c = node_put c.args.nodes.now c.make_room.new.nodes c.put_words.new.nodes c.args.i c.args.kind c.args.size c.args.place c.args.a c.args.b c.args.f c.args.e c.args.how c.if-i-ge-MAX_CONSTRUCTS.false c.make_room.ensures c.put_words.ensures
