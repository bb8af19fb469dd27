use native.Mathlib.Omega.{arith}
use Rattle.report_chain_checks.proofs.starts.goes_on.Goals as goal

pub ready-requires : goal.ready-requires
ready-requires c = (c.requires.0, c.if-depth-le1024.true)

pub returns-then-ready : goal.returns-then-ready
returns-then-ready c = λ e ws s w. let q = c.has_some.ensures e in (c.ready.ensures c.if-ready.true ws s, (q.0, ((w c.args.j (omega (arith, c.if-j-lt256.true))).strings q.0).0 q.1))
