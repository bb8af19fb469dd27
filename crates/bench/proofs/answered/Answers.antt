use mathlib.Core.Path.{sym, subst, ◌∙◌}
use Rattle.bench_hexadecimal.proofs.Decoding.{Short, short}
use borrow.Author.Rules.{rules}
use Rattle.bench.proofs.answered.Goals as goal

pub decoded-requires : goal.decoded-requires
decoded-requires c = let h = subst (Short c.args.line.now) (sym c.classify-kind.ensures ∙ c.in-Frame.is) (short c.args.line.now) in (search rules, h.0, h.1)
