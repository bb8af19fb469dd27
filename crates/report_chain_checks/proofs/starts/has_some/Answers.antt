use Rattle.report_chain_checks.proofs.starts.has_some.Goals as goal

pub returns : goal.returns
returns c = λ e. let q = c.some_begins.ensures e in (q.0, (c.set_of.ensures.strings q.0).0 q.1)
