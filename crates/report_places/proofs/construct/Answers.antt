use Prim.Native.Nat.{ℕ, ◌+◌}
use mathlib.Core.Path.{ap, ◌∙◌}
use native.Mathlib.Omega.{arith}
use Rattle.text_store.specs.Words.{place_of}
use Rattle.report_places.specs.declared.Located.{Located}
use Rattle.report_places.proofs.construct.Goals as goal

pub overflow_add-result : goal.overflow_add-result
overflow_add-result c = omega (arith, c.node_word-place.ensures, c.requires.2 c.args.i, c.requires.1)

pub returns : goal.returns
returns c = ap (λ (p : ℕ). Located.Construct (c.args.base + p) c.node_word-kind.result c.args.count) c.node_word-place.ensures ∙ ap (λ (k : ℕ). Located.Construct (c.args.base + place_of c.args.nodes.now c.args.i) k c.args.count) c.node_word-kind.ensures
