use Prim.Native.Nat.{◌≤◌}
use native.Mathlib.Omega.{arith}
use lib.ListN.{length}
use mathlib.Core.Path.{◌≡◌}
use Rattle.text_tokens.specs.Numbers.{number_value, capped}
use Rattle.text_store.specs.Words.{width_place}
use Rattle.text_encoding.proofs.Past.{number_past}
use Rattle.text_encoding.proofs.numbers.width.Goals as goal

pub returns-then-p-text : goal.returns-then-p-text
returns-then-p-text c =
    let e : c.number_at.result ≡ capped (number_value c.args.text.now (width_place c.args.nodes.now c.args.i)) = simp (c.number_at.ensures, c.node_word-p.ensures) in omega (arith, c.min.ensures, e)

pub returns-else-p-text : goal.returns-else-p-text
returns-else-p-text c = let h : length c.args.text.now ≤ width_place c.args.nodes.now c.args.i = omega arith in simp (number_past c.args.text.now (width_place c.args.nodes.now c.args.i) h)
